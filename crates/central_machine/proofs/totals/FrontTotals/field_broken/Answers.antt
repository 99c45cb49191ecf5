use Rattle.std.proofs.Common.{◌≡◌, ◌<◌, Bool, true, false, cond, List, [], ◌∷◌, refl, sym, ◌∙◌, ap, arith, None}
use Rattle.std.proofs.lemmas.Bool.{lt-ltb}
use Rattle.std.proofs.lemmas.Option.{slice_get_within}
use Rattle.field_bounds.specs.declared.entry.Entry.{Entry}
use Rattle.field_bounds.specs.Schema.{SchemaValue}
use Rattle.central_rules.specs.declared.verdict.Rule.TheVariants.{Grant, Shortage, Interval}
use Rattle.central_rules.specs.Verdict.{first_broken, test_of}
use Rattle.central_machine.specs.Parts.{field_broken, field_tests}
use Rattle.central_machine.proofs.Row.{found_at}
use Rattle.central_machine.proofs.totals.FrontTotals.field_broken.Goals as goal

-- the first rule on fields of an entry of a site of the schema
tested : (schema : SchemaValue) (t : List Entry) (e : Entry) → e.site.0 < schema.sites → (g s i : Bool)
    → g ≡ test_of schema t e Grant → s ≡ test_of schema t e Shortage → i ≡ test_of schema t e Interval
    → first_broken ((g, Grant) ∷ (s, Shortage) ∷ (i, Interval) ∷ []) ≡ field_broken schema t e
tested schema t e inside g s i grant shortage interval =
    ap (λ (b : Bool). first_broken ((b, Grant) ∷ (s, Shortage) ∷ (i, Interval) ∷ [])) grant
    ∙ ap (λ (b : Bool). first_broken ((test_of schema t e Grant, Grant) ∷ (b, Shortage) ∷ (i, Interval) ∷ [])) shortage
    ∙ ap (λ (b : Bool). first_broken ((test_of schema t e Grant, Grant) ∷ (test_of schema t e Shortage, Shortage)
    ∷ (b, Interval) ∷ [])) interval
    ∙ sym (ap (λ (b : Bool). cond b (first_broken (field_tests schema t e)) None) (lt-ltb e.site.0 schema.sites inside))

pub returns-then-not-shortage_holds : goal.returns-then-not-shortage_holds
returns-then-not-shortage_holds c = λ t are.
    let schema = c.args.schema.now in
    let e = c.args.entry.now in
    let sites = c.args.self.now.sites.items in
    let look = c.in-Some.ensures.lookup in
    let at = found_at c.deref.result.now sites c.from.result e.site.0 c.in-Some.site.now c.deref.ensures.value c.from.ensures look.0 look.1 in
    let here = are.sites e.site.0 c.in-Some.site.now at in
    let inside : e.site.0 < schema.sites = omega (arith, are.count, slice_get_within sites e.site.0 c.in-Some.site.now at) in
    tested schema t e inside true false (test_of schema t e Interval)
    (sym c.if-not-grant_holds.false ∙ c.grant_holds.ensures t are.sums)
    (sym c.if-not-shortage_holds.true ∙ c.shortage_holds.ensures t (λ f k below. here.numbers.free f k below))
    refl

pub returns : goal.returns
returns c = λ t are.
    let schema = c.args.schema.now in
    let e = c.args.entry.now in
    let sites = c.args.self.now.sites.items in
    let look = c.in-Some.ensures.lookup in
    let at = found_at c.deref.result.now sites c.from.result e.site.0 c.in-Some.site.now c.deref.ensures.value c.from.ensures look.0 look.1 in
    let here = are.sites e.site.0 c.in-Some.site.now at in
    let inside : e.site.0 < schema.sites = omega (arith, are.count, slice_get_within sites e.site.0 c.in-Some.site.now at) in
    tested schema t e inside true true true
    (sym c.if-not-grant_holds.false ∙ c.grant_holds.ensures t are.sums)
    (sym c.if-not-shortage_holds.false ∙ c.shortage_holds.ensures t (λ f k below. here.numbers.free f k below))
    (sym c.if-not-interval_holds.false ∙ c.interval_holds.ensures t are.sums)

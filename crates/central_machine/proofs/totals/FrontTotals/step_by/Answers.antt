use Rattle.std.proofs.Common.{◌<◌, ◌≤◌, ℕ, Option, ap, set, subst, refl, rules, arith}
use Rattle.std.proofs.lemmas.Bool.{ltb-true}
use Rattle.field_bounds.specs.declared.effect.Effect.{Effect}
use Rattle.central_rules.specs.Verdict.{rules as all_rules}
use Rattle.central_rules.proofs.Verdicts.{all_hold}
use Rattle.central_machine.specs.Sums.{SumsAfter}
use Rattle.central_machine.proofs.Sites.{ok_then}
use Rattle.central_machine.proofs.Totals_more.{totals_more}
use Rattle.central_machine.proofs.Row.{found_at}
use Rattle.central_machine.proofs.totals.FrontTotals.step_by.Goals as goal

pub returns-in-Some : goal.returns-in-Some
returns-in-Some c =
    let item = c.in-Some.ensures.item in
    let at = found_at c.args.self.now.sites.items c.args.self.now.sites.items c.from.result c.args.entry.now.site.0 c.in-Some.site.now refl
    c.from.ensures item.0 item.1 in
    let summed =
    subst
    (λ (e : Option Effect). SumsAfter e c.args.entry.now.reply c.in-Some.site.now.doubt c.in-Some.site.now.numbers.journal.rows.items
    c.args.self.now.sums c.after.new.self)
    c.effect_by-effect.ensures c.after.ensures in
    let put = rw (c.effect_by-effect.ensures) at c.put_in.ensures in
    ok_then c.put_in.result (λ took t few is legal good.
    totals_more c.args.schema.now c.sites-sites.ensures.limits c.args.entry.now t few legal good c.args.self.now _ c.in-Some.site.now
    c.put_in.new.self at (ap (λ (i : ℕ). set c.args.self.now.sites.items i c.put_in.new.self) c.from.ensures) summed is took) put

pub returns-in-None : goal.returns-in-None
returns-in-None c = λ t few is legal good.
    let below : c.args.entry.now.site.0 < c.args.schema.now.sites =
    ltb-true c.args.entry.now.site.0 c.args.schema.now.sites (all_hold (all_rules c.args.schema.now t c.args.entry.now) good).0 in
    absurd (let long : c.args.schema.now.sites ≤ c.args.entry.now.site.0 = search rules in omega (arith, long, below))

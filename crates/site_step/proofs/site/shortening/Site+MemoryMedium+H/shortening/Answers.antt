use Rattle.std.proofs.Common.{◌≤◌, List, ℕ, length, refl, sym, ap, subst, ◌∙◌}
use Rattle.std.specs.List.{flat_map}
use Rattle.kept_records.specs.declared.record.Record.{Record}
use Rattle.kept_records.specs.Text.{text}
use Rattle.site_step.specs.Resuming.{all_bytes}
use Rattle.site_step.specs.Site.{SiteValue}
use Rattle.site_step.specs.Shortening.{ShorteningValue, held_of, IsShortening, CanGo}
use Rattle.site_step.proofs.FrontEnds.{slice_rest}
use Rattle.site_step.proofs.Shortens.{front_kept, is_shortening, goes, keeps_enough, goes_most, none_goes}
use Rattle.site_step.proofs.site.shortening.Site+MemoryMedium+H.shortening.Goals as goal

pub returns-in_default-clause-none : goal.returns-in_default-clause-none
returns-in_default-clause-none g c = λ up.
    let whole = ap (λ (b : List ℕ). all_bytes c.self.inside.gone.items b) (sym c.bytes-bytes.ensures.bytes) in
    subst (λ (x : SiteValue). (gone : List Record) → CanGo (held_of x) c.args.keep gone → ⊥) c.self.view_is
    (none_goes _ _ _ _ c.self.invariant c.bytes-bytes.result.now whole c.args.keep (c.in_default.ensures.none refl))

pub read_front-requires : goal.read_front-requires
read_front-requires g c =
    let whole = ap (λ (b : List ℕ). all_bytes c.self.inside.gone.items b) (sym c.bytes-bytes.ensures.bytes) in
    record {
      log = front_kept _ _ _ _ c.self.invariant c.bytes-bytes.result.now whole c.if-not-self.false c.args.keep c.in-Some.end
          c.in-Some.ensures.some;
    }

pub returns-clause-some : goal.returns-clause-some
returns-clause-some g c =
    let whole = ap (λ (b : List ℕ). all_bytes c.self.inside.gone.items b) (sym c.bytes-bytes.ensures.bytes) in
    let front = c.in_ok-gone.field-0 in
    let plan : ShorteningValue = record {
      held = c.in_ok-held.held.items;
      gone = front.gone.items;
      records = front.records;
      latest = front.latest;
    } in
    let told = c.in_ok-gone.ensures in
    let held = c.in_ok-held.ensures.items ∙ slice_rest c.in-Some.end c.bytes-bytes.result.now in
    subst (λ (x : SiteValue). IsShortening x plan) c.self.view_is
    (is_shortening _ _ _ _ c.self.invariant c.bytes-bytes.result.now whole c.if-not-self.false c.args.keep c.in-Some.end c.in-Some.ensures.some
    plan held told.gone told.records told.latest)

pub returns-clause-keep : goal.returns-clause-keep
returns-clause-keep g c =
    let whole = ap (λ (b : List ℕ). all_bytes c.self.inside.gone.items b) (sym c.bytes-bytes.ensures.bytes) in
    let front = c.in_ok-gone.field-0 in
    let plan : ShorteningValue = record {
      held = c.in_ok-held.held.items;
      gone = front.gone.items;
      records = front.records;
      latest = front.latest;
    } in
    let told = c.in_ok-gone.ensures in
    let held = c.in_ok-held.ensures.items ∙ slice_rest c.in-Some.end c.bytes-bytes.result.now in
    keeps_enough _ _ _ _ c.self.invariant c.bytes-bytes.result.now whole c.if-not-self.false c.args.keep c.in-Some.end c.in-Some.ensures.some
    plan held told.gone told.records told.latest

pub returns-clause-can : goal.returns-clause-can
returns-clause-can g c =
    let whole = ap (λ (b : List ℕ). all_bytes c.self.inside.gone.items b) (sym c.bytes-bytes.ensures.bytes) in
    let front = c.in_ok-gone.field-0 in
    let plan : ShorteningValue = record {
      held = c.in_ok-held.held.items;
      gone = front.gone.items;
      records = front.records;
      latest = front.latest;
    } in
    let told = c.in_ok-gone.ensures in
    let held = c.in_ok-held.ensures.items ∙ slice_rest c.in-Some.end c.bytes-bytes.result.now in
    subst (λ (x : SiteValue). CanGo (held_of x) c.args.keep plan.gone) c.self.view_is
    (goes _ _ _ _ c.self.invariant c.bytes-bytes.result.now whole c.if-not-self.false c.args.keep c.in-Some.end c.in-Some.ensures.some
    plan held told.gone told.records told.latest)

pub returns-clause-most : goal.returns-clause-most
returns-clause-most g c =
    let whole = ap (λ (b : List ℕ). all_bytes c.self.inside.gone.items b) (sym c.bytes-bytes.ensures.bytes) in
    let front = c.in_ok-gone.field-0 in
    let plan : ShorteningValue = record {
      held = c.in_ok-held.held.items;
      gone = front.gone.items;
      records = front.records;
      latest = front.latest;
    } in
    let told = c.in_ok-gone.ensures in
    let held = c.in_ok-held.ensures.items ∙ slice_rest c.in-Some.end c.bytes-bytes.result.now in
    subst (λ (x : SiteValue). (gone : List Record) → CanGo (held_of x) c.args.keep gone
    → length (flat_map text gone) ≤ length (flat_map text plan.gone)) c.self.view_is
    (goes_most _ _ _ _ c.self.invariant c.bytes-bytes.result.now whole c.if-not-self.false c.args.keep c.in-Some.end c.in-Some.ensures.some
    plan held told.gone told.records told.latest c.in-Some.ensures.last)

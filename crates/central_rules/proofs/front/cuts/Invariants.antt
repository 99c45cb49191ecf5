use Rattle.std.proofs.Common.{◌≡◌, ◌≤◌, ◌*◌, reverse}
use Rattle.field_bounds.specs.Effects.{cut, fresh}
use Rattle.field_bounds.specs.Central.{at_site}
use Rattle.field_bounds.specs.Parts.{sum_below}
use Rattle.central_rules.proofs.front.cuts.Given as goal

abbrev pub invariant-loop-site : goal.invariant-loop-site
invariant-loop-site l = record {
  value : l.sum ≡ sum_below l.site (λ s. cut (fresh l.schema s) l.field.0 l.kind (at_site l.schema (reverse l.front) s));
  small : l.sum ≤ l.site * 4253529586511730789602833778155192320;
}

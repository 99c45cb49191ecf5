use Rattle.std.proofs.Common.{◌≡◌, ◌≤◌, ◌*◌, reverse}
use Rattle.field_bounds.specs.Effects.{granted_sizes}
use Rattle.field_bounds.specs.Central.{at_site}
use Rattle.field_bounds.specs.Parts.{sum_below}
use Rattle.central_rules.specs.Fates.{passes}
use Rattle.central_rules.proofs.front.total.Given as goal

abbrev pub invariant-loop-site : goal.invariant-loop-site
invariant-loop-site l = record {
  value : l.sum ≡ sum_below l.site (λ s. granted_sizes (passes l.which (at_site l.schema (reverse l.front) s)) l.field.0 l.kind
      (at_site l.schema (reverse l.front) s));
  small : l.sum ≤ l.site * 2126764793255865394801416889077596160;
}

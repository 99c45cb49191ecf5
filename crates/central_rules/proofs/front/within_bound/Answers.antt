use Rattle.std.proofs.Common.{◌≡◌, subst, sym, ◌∙◌, reverse}
use Rattle.field_bounds.specs.declared.kind.Kind.{Kind}
use Rattle.field_bounds.specs.declared.kind.Kind.TheVariants.{Lower, Raise}
use Rattle.field_bounds.specs.Central.{open_sizes, cuts}
use Rattle.central_rules.specs.Verdict.{within_bound}
use Rattle.central_rules.proofs.Across.{low_rule, high_rule}
use Rattle.central_rules.proofs.front.within_bound.Goals as goal

pub returns-in-Lower : goal.returns-in-Lower
returns-in-Lower c =
    let schema = c.args.schema.now in
    let t = reverse c.args.front.now in
    let f = c.args.field.0 in
    let held : c.in_ok-held.held ≡ open_sizes schema t f Lower =
    subst (λ (k : Kind). c.in_ok-held.held ≡ open_sizes schema t f k) c.in-Lower.is c.in_ok-held.ensures.value in
    let cut : c.in_ok-cut.cut ≡ cuts schema t f Lower =
    subst (λ (k : Kind). c.in_ok-cut.cut ≡ cuts schema t f k) c.in-Lower.is c.in_ok-cut.ensures in
    let rule = c.may_lower.ensures ∙ low_rule schema t f c.bounds_of-bounds.result c.in_ok-raised.raised c.in_ok-lowered.lowered
    c.in_ok-held.held c.args.by c.in_ok-cut.cut c.in_ok-raised.ensures.value c.in_ok-lowered.ensures.value
    c.bounds_of-bounds.ensures.value c.bounds_of-bounds.ensures.floor held cut in
    subst (λ (k : Kind). c.may_lower.result ≡ within_bound schema t f c.args.by k) (sym c.in-Lower.is) rule

pub returns-in-Raise : goal.returns-in-Raise
returns-in-Raise c =
    let schema = c.args.schema.now in
    let t = reverse c.args.front.now in
    let f = c.args.field.0 in
    let held : c.in_ok-held.held ≡ open_sizes schema t f Raise =
    subst (λ (k : Kind). c.in_ok-held.held ≡ open_sizes schema t f k) c.in-Raise.is c.in_ok-held.ensures.value in
    let cut : c.in_ok-cut.cut ≡ cuts schema t f Raise =
    subst (λ (k : Kind). c.in_ok-cut.cut ≡ cuts schema t f k) c.in-Raise.is c.in_ok-cut.ensures in
    let rule = c.may_raise.ensures ∙ high_rule schema t f c.bounds_of-bounds.result c.in_ok-raised.raised c.in_ok-lowered.lowered
    c.in_ok-held.held c.args.by c.in_ok-cut.cut c.in_ok-raised.ensures.value c.in_ok-lowered.ensures.value
    c.bounds_of-bounds.ensures.value c.bounds_of-bounds.ensures.ceiling held cut in
    subst (λ (k : Kind). c.may_raise.result ≡ within_bound schema t f c.args.by k) (sym c.in-Raise.is) rule

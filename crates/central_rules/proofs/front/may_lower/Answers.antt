use Rattle.std.proofs.Common.{◌≡◌, ◌∙◌, rules}
use Rattle.central_rules.proofs.Across.{above, low_test}
use Rattle.central_rules.proofs.front.may_lower.Goals as goal

pub returns : goal.returns
returns c =
    let b = c.args.bounds.now in
    let far : c.from.result ≡ above b.floor b.value = search rules in
    c.covers.ensures ∙ rw (c.from-2.ensures, far) (low_test b.floor b.value c.args.raised c.args.lowered c.args.held c.args.by c.args.cut
    c.requires.ordered)

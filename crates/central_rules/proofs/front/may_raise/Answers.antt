use Rattle.std.proofs.Common.{◌≡◌, ◌∙◌, rules}
use Rattle.central_rules.proofs.Across.{above, high_test}
use Rattle.central_rules.proofs.front.may_raise.Goals as goal

pub returns : goal.returns
returns c =
    let b = c.args.bounds.now in
    let far : c.from.result ≡ above b.value b.ceiling = search rules in
    c.covers.ensures ∙ rw (c.from-2.ensures, far) (high_test b.ceiling b.value c.args.raised c.args.lowered c.args.held c.args.by c.args.cut
    c.requires.ordered)

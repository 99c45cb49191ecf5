use Rattle.std.proofs.Common.{sym, subst}
use Rattle.file_medium.specs.Files.{IsSpared}
use Rattle.file_medium.proofs.medium.FileMediumMedium.cut.Goals as goal

pub returns-then-not-cut_both-clause-least : goal.returns-then-not-cut_both-clause-least
returns-then-not-cut_both-clause-least g c = λ front within spared.
    subst (λ v. IsSpared front v.least) (sym c.fail.ensures) (c.cut_both.ensures.least front within spared)

use Rattle.std.proofs.Common.{codes, eqb}
use Rattle.std.proofs.lemmas.Bool.{eqb-true, eq-eqb}
use Rattle.std.proofs.lemmas.Slice.Eq.{strip_suffix_is}
use Rattle.escrow_run.proofs.line.before_torn.Goals as goal

pub returns : goal.returns
returns c = strip_suffix_is {E = eqb} (λ a b. (eqb-true a b, eq-eqb a b)) c.args.bytes.now
    (codes " torn") c.strip_suffix.result c.strip_suffix.ensures.cases

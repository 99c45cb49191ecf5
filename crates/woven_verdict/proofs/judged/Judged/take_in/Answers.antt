use Rattle.woven_verdict.proofs.Placed.{still_judged}
use Rattle.woven_verdict.proofs.judged.Judged.take_in.Goals as goal

pub returns-in_default : goal.returns-in_default
returns-in_default c = record {
  taken = λ entries are. still_judged c.args.schema.now entries c.args.entry.now c.args.self.now c.in_default.not-Legal are;
}

use Rattle.std.proofs.Common.{arith}
use Rattle.log_replay.proofs.StandingLaws.{restart_taken}
use Rattle.log_replay.proofs.standing.Standing.restart.Goals as goal

pub returns : goal.returns
returns c = record { takes_in = λ schema. restart_taken schema c.args.self.now c.args.epoch (omega (arith, c.if-epoch-self.false)) }

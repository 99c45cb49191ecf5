use Rattle.escrow_c.proofs.Numbers.{numbers_tell}
use Rattle.escrow_c.proofs.laws.numbers_tell_replies.Goals as goal

pub returns : goal.returns
returns c = record { one = numbers_tell }

use Rattle.std.proofs.Common.{arith}
use Rattle.request_lines.proofs.asking.asked.Goals as goal

pub asked_command-requires : goal.asked_command-requires
asked_command-requires c = record { short = omega arith; question = c.in-None.ensures.none }

use Rattle.std.proofs.Common.{rules}
use Rattle.central_machine.proofs.field_tests.is_share.Goals as goal

pub returns-then-told-at : goal.returns-then-told-at
returns-then-told-at c = search rules

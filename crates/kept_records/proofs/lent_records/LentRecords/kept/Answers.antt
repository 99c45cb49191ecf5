use Rattle.std.proofs.Common.{rules}
use Rattle.kept_records.proofs.lent_records.LentRecords.kept.Goals as goal

pub from_slice-requires : goal.from_slice-requires
from_slice-requires c κs = search rules

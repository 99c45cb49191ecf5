use Rattle.std.proofs.Common.{rules}
use Rattle.kept_records.proofs.summary.Summary.into_record.Goals as goal

pub returns : goal.returns
returns c = search rules

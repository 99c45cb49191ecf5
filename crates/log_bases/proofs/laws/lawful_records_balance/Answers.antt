use Rattle.std.proofs.Common.{arith}
use Rattle.field_bounds.specs.declared.kind.Kind.TheVariants.{Lower, Raise}
use Rattle.kept_records.proofs.Covering.{own_whole}
use Rattle.log_bases.proofs.laws.lawful_records_balance.Goals as goal

pub returns : goal.returns
returns c = record { balance = λ schema s rs lawful f. omega (arith, own_whole schema s rs lawful f Lower, own_whole schema s rs lawful f Raise) }

use Rattle.log_archives.proofs.Spares.{spared}
use Rattle.log_archives.proofs.laws.faults_spare_joined_parts.Goals as goal

pub returns : goal.returns
returns c = record { spared = λ schema s gone held told next fault is joins. spared schema s gone held told next joins fault is }

use Rattle.site_service.proofs.Stops.{leaves_front, leaves_lines}
use Rattle.site_service.proofs.laws.stop_leaves_a_front.Goals as goal

pub returns-clause-front : goal.returns-clause-front
returns-clause-front c = λ schema s base bs kept history rs front back. leaves_front schema s base bs kept history rs front back

pub returns-clause-lines : goal.returns-clause-lines
returns-clause-lines c = λ v left back front rest. leaves_lines v left back front rest

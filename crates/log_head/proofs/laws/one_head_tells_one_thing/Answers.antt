use Rattle.log_head.proofs.HeadsRead.{same_head}
use Rattle.log_head.proofs.laws.one_head_tells_one_thing.Goals as goal

pub returns : goal.returns
returns c = λ v gone other rest more own also is. let same = same_head v gone other rest more own also is in (same.gone_is, same.rest_is)

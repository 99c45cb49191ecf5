use Rattle.sealed_text.proofs.Damage.{changed_byte}
use Rattle.sealed_text.proofs.laws.a_changed_byte_is_damage.Goals as goal

pub returns : goal.returns
returns c = changed_byte

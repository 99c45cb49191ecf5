use Rattle.site_folder.proofs.IdentityLemmas.{one_world}
use Rattle.site_folder.proofs.laws.worlds_have_texts_of_their_own.Goals as goal

pub returns : goal.returns
returns c = one_world

use Rattle.std.proofs.Common.{reverse}
use Rattle.central_rules.proofs.laws.verdict_is_exact.Goals as goal
use Rattle.central_rules.proofs.Verdicts.{legal_is_sound, sound_is_legal, illegal_is}
use Rattle.field_bounds.proofs.Headline.{sound_is_central}

pub returns-clause-legal : goal.returns-clause-legal
returns-clause-legal c = λ schema entries. (
  λ h. legal_is_sound schema (reverse entries) h,
  λ h. sound_is_legal schema (reverse entries) h.0 h.1,
)

pub returns-clause-sound : goal.returns-clause-sound
returns-clause-sound c = λ schema entries good sound.
    sound_is_legal schema (reverse entries) sound (sound_is_central schema good (reverse entries) sound)

pub returns-clause-illegal : goal.returns-clause-illegal
returns-clause-illegal c = λ schema entries at rule h. illegal_is schema (reverse entries) at rule h

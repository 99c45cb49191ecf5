-- What is told of a log that may be in doubt (this project).
use Rattle.std.proofs.Common.{◌≡◌, ℕ, Bool, true, false, List, Option, None, Some, Result, Ok, Err, OnOk, OnErr, refl, sym, ap, ◌∙◌}
use Rattle.file_medium.specs.Files.{CutsTo, KeepsFront}
use Rattle.sealed_log.specs.Sealed.{SealedBatches}
use Rattle.short_files.specs.Short.{IsSound, known_unless}

-- what isn't in doubt is known
pub known_false : (doubt : Bool) (known : Option (List ℕ)) → doubt ≡ false → known_unless doubt known ≡ known
known_false true known sure = absurd cc
known_false false known sure = refl

-- a log that isn't lost isn't in doubt
pub known_sound : (doubt : Bool) (log : SealedBatches) (known : Option (List ℕ)) → IsSound doubt log → log.is_lost ≡ false
    → known_unless doubt known ≡ known
known_sound true log known sound there = let lost = sound refl in absurd cc
known_sound false log known sound there = refl

-- a cut of it is one of what is known
pub cuts_unless : {T E : Type 0} (doubt : Bool) (kept : ℕ) (old new : Option (List ℕ)) (result : Result T E) → CutsTo kept old new result
    → CutsTo kept (known_unless doubt old) (known_unless doubt new) result
cuts_unless true kept old new (Ok t) cuts = refl
cuts_unless true kept old new (Err e) cuts = refl
cuts_unless false kept old new result cuts = cuts

-- what was safe still is
pub keeps_unless : (doubt : Bool) (old new : Option (List ℕ)) → KeepsFront old new → KeepsFront (known_unless doubt old) (known_unless doubt new)
keeps_unless true old new keeps = tt
keeps_unless false old new keeps = keeps

pub stays_unless : {T E : Type 0} (doubt : Bool) (old new : Option (List ℕ)) (result : Result T E) → OnErr result (new ≡ old)
    → OnErr result (known_unless doubt new ≡ known_unless doubt old)
stays_unless doubt old new (Ok t) stays = tt
stays_unless doubt old new (Err e) stays = ap (known_unless doubt) stays

pub synced_known : {T E : Type 0} (doubt : Bool) (old : SealedBatches) (safe bytes new : Option (List ℕ)) (result : Result T E) → IsSound doubt old
    → OnOk result (old.is_lost ≡ false) → OnOk result (safe ≡ bytes) → OnOk result (new ≡ bytes) → OnOk result (known_unless doubt safe ≡ new)
synced_known doubt old safe bytes new (Ok t) sound there same still = known_sound doubt old safe sound there ∙ same ∙ sym still
synced_known doubt old safe bytes new (Err e) sound there same still = tt

-- What a service answers whose log lets go of its front while it is served (this project).
use Rattle.std.specs.Prelude.{◌≡◌, ℕ, List, [], ◌∷◌, ◌++◌, Option, None, Some}
use Rattle.std.specs.List.{flat_map}
use Rattle.site_service.specs.declared.fault.ServeFault.{ServeFault}
use Rattle.site_service.specs.declared.fault.ServeFault.TheVariants as faults
use Rattle.site_service.specs.Answers.{Served, held_in, AnswersLines}
use Rattle.site_service.specs.Service.{HoldsText}
use Rattle.site_service.specs.Shortening.{MayLetGo, SparesOpen, LeavesEither}

-- Nothing has changed, or more of the log was let go, and so many bytes stay; of no transaction that is open, and hasn't committed, was
-- anything more forgotten.
pub record Shortens (keep : ℕ) (old new : Served) : Type 0 where
  pub let_go : MayLetGo keep old new
  pub spares : SparesOpen old new

-- The answers to batches of lines, one after the other: behind each batch more of the log may be let go, of which so many bytes stay.
abbrev pub AnswersBatches : ℕ → Served → List (List (List ℕ)) → Served → List ℕ → Type 0
AnswersBatches keep old [] new text = (new ≡ old) × (text ≡ [])
AnswersBatches keep old (lines ∷ batches) new text =
    (next : Served) × (later : Served) × (first : List ℕ) × (rest : List ℕ) × AnswersLines old lines next first × Shortens keep next later
    × AnswersBatches keep later batches new rest × (text ≡ first ++ rest)

-- The lines of some batches, one after the other.
abbrev pub lines_of : List (List (List ℕ)) → List (List ℕ)
lines_of = flat_map (λ batch. batch)

-- The answers to lines, one after the other, and between them, as behind the last, more of the log may be let go.
pub record AnswersKeeping (keep : ℕ) (old : Served) (lines : List (List ℕ)) (new : Served) (text : List ℕ) : Type 0 where
  pub batches : List (List (List ℕ))
  pub parts : lines ≡ lines_of batches
  pub answers : AnswersBatches keep old batches new text

-- The answers to lines, of a service that never shortens its log, or of one that does, and keeps so many bytes.
abbrev pub AnswersBy : Option ℕ → Served → List (List ℕ) → Served → List ℕ → Type 0
AnswersBy None old lines new text = AnswersLines old lines new text
AnswersBy (Some keep) old lines new text = AnswersKeeping keep old lines new text

-- What is safe of the log at a fault: a text of exactly the bytes that are held by the site that answered last, with notes that tell the
-- keys that it knew. Where the log is shortened, and its file failed, it may be that of a shorter one, in which so many bytes stay.
abbrev pub IsSafeAt : Option ℕ → ServeFault → Served → Option (List ℕ) → Type 0
IsSafeAt None fault last safe = HoldsText safe last.last (held_in last)
IsSafeAt (Some keep) faults.Device last safe = LeavesEither keep last safe
IsSafeAt (Some keep) faults.Read last safe = HoldsText safe last.last (held_in last)
IsSafeAt (Some keep) faults.Write last safe = HoldsText safe last.last (held_in last)
IsSafeAt (Some keep) faults.TooLong last safe = HoldsText safe last.last (held_in last)
IsSafeAt (Some keep) faults.NoMemory last safe = HoldsText safe last.last (held_in last)

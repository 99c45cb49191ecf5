-- Answers between which a log lets go of its front.
use Rattle.std.proofs.Common.{◌≡◌, ℕ, Result, Ok, Err, OnOk, List, [], ◌∷◌, ◌++◌, Option, None, Some, refl, sym, ap, ◌∙◌, subst, inl, append_assoc, append-nil}
use Rattle.std.proofs.lemmas.Grind.{flat_map-append}
use Rattle.site_service.specs.declared.fault.ServeFault.{ServeFault}
use Rattle.site_service.specs.declared.fault.ServeFault.TheVariants as faults
use Rattle.site_service.specs.Answers.{Served, held_in, AnswersLines}
use Rattle.line_serving.specs.Keeping.{Shortens, AnswersBatches, AnswersKeeping, AnswersBy, IsSafeAt, lines_of}
use Rattle.site_service.specs.Service.{HoldsText}
use Rattle.site_service.specs.Shortening.{MayLetGo, SparesOpen}
use Rattle.line_serving.proofs.Lines.{answers_after}

-- nothing is let go
pub shortens_none : (keep : ℕ) (v : Served) → Shortens keep v v
shortens_none keep v = record { let_go = inl refl; spares = λ n txn is held before. before }

-- something may be
pub shortens_so : {T E : Type 0} (keep : ℕ) (r : Result T E) (old new : Served) → OnOk r (MayLetGo keep old new)
    → OnOk r (SparesOpen old new) → OnOk r (Shortens keep old new)
shortens_so keep (Ok x) old new goes spares = record { let_go = goes; spares = spares }
shortens_so keep (Err e) old new goes spares = tt

-- no line is answered
pub answers_none : (keep : Option ℕ) (v : Served) → AnswersBy keep v [] v []
answers_none None v = (refl, refl)
answers_none (Some keep) v = record { batches = []; parts = refl; answers = (refl, refl) }

-- one batch more
batches_more : (keep : ℕ) (old mid next new : Served) (batches : List (List (List ℕ))) (lines : List (List ℕ)) (text more : List ℕ)
    → AnswersBatches keep old batches mid text → AnswersLines mid lines next more → Shortens keep next new
    → AnswersBatches keep old (batches ++ lines ∷ []) new (text ++ more)
batches_more keep old mid next new [] lines text more first second goes =
    subst (λ (t : List ℕ). AnswersBatches keep old (lines ∷ []) new (t ++ more)) (sym first.1)
    (subst (λ (s : Served). AnswersBatches keep s (lines ∷ []) new more) first.0
    (next, new, more, [], second, goes, (refl, refl), sym (append-nil more)))
batches_more keep old mid next new (batch ∷ batches) lines text more first second goes = (
  first.0,
  first.1,
  first.2,
  first.3 ++ more,
  first.4,
  first.5,
  batches_more keep first.1 mid next new batches lines first.3 more first.6 second goes,
  ap (λ (t : List ℕ). t ++ more) first.7 ∙ append_assoc first.2 first.3 more,
)

lines_more : (batches : List (List (List ℕ))) (lines : List (List ℕ)) → lines_of batches ++ lines ≡ lines_of (batches ++ lines ∷ [])
lines_more batches lines =
    ap (λ (ls : List (List ℕ)). lines_of batches ++ ls) (sym (append-nil lines))
    ∙ sym (flat_map-append (λ (batch : List (List ℕ)). batch) batches (lines ∷ []))

-- lines more are answered
pub answers_more : (keep : Option ℕ) (old mid new : Served) (xs ys : List (List ℕ)) (text more : List ℕ)
    → AnswersBy keep old xs mid text → AnswersLines mid ys new more → AnswersBy keep old (xs ++ ys) new (text ++ more)
answers_more None old mid new xs ys text more first second = answers_after old mid new xs ys text more first second
answers_more (Some keep) old mid new xs ys text more first second = record {
  batches = first.batches ++ ys ∷ [];
  parts = ap (λ (ls : List (List ℕ)). ls ++ ys) first.parts ∙ lines_more first.batches ys;
  answers = batches_more keep old mid new new first.batches ys text more first.answers second (shortens_none keep new);
}

-- more is let go
pub answers_shorter : (keep : ℕ) (old mid new : Served) (xs : List (List ℕ)) (text : List ℕ) → AnswersKeeping keep old xs mid text
    → Shortens keep mid new → AnswersKeeping keep old xs new text
answers_shorter keep old mid new xs text first goes = record {
  batches = first.batches ++ [] ∷ [];
  parts = first.parts ∙ sym (append-nil (lines_of first.batches)) ∙ lines_more first.batches [];
  answers = subst (AnswersBatches keep old (first.batches ++ [] ∷ []) new) (append-nil text)
      (batches_more keep old mid mid new first.batches [] text [] first.answers (refl, refl) goes);
}

-- what is safe of a log that wasn't shortened
pub safe_at : (keep : Option ℕ) (fault : ServeFault) (last : Served) (safe : Option (List ℕ)) → HoldsText safe last.last (held_in last)
    → IsSafeAt keep fault last safe
safe_at None fault last safe is = is
safe_at (Some keep) faults.Device last safe is = inl is
safe_at (Some keep) faults.Read last safe is = is
safe_at (Some keep) faults.Write last safe is = is
safe_at (Some keep) faults.TooLong last safe is = is
safe_at (Some keep) faults.NoMemory last safe is = is

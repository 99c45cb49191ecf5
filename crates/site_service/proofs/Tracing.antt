-- What a trace is told, bit by bit.
use Rattle.std.proofs.Common.{◌≡◌, ℕ, List, [], ◌++◌, Option, None, Some, refl, sym, ap, ◌∙◌, append-nil}
use Rattle.std.specs.Io.KnownBytes.{append_known}
use Rattle.file_medium.proofs.Known.{append_known-append}
use Rattle.site_service.specs.Traces.{TraceValue, HasTold, HasKept}

nothing_added : (known : Option (List ℕ)) → known ≡ append_known known []
nothing_added None = refl
nothing_added (Some xs) = ap Some (sym (append-nil xs))

-- nothing is told
pub told_none : (was : TraceValue) → HasTold was was []
told_none was = record { added = nothing_added was.bytes; safe = λ h. h }

-- one text behind another
pub told_more : (was mid now : TraceValue) (xs ys : List ℕ) → HasTold was mid xs → HasTold mid now ys → HasTold was now (xs ++ ys)
told_more was mid now xs ys first second = record {
  added = second.added ∙ ap (λ (k : Option (List ℕ)). append_known k ys) first.added ∙ append_known-append was.bytes xs ys;
  safe = λ h. second.safe (first.safe h);
}

-- what was told is kept
pub kept_of : (was now : TraceValue) (text : List ℕ) → HasTold was now text → HasKept was now text
kept_of was now text told = record {
  safe = λ h. ([], told.safe h ∙ told.added ∙ ap (append_known was.bytes) (sym (append-nil text)));
}

-- and so is a front of it
pub kept_front : (was now : TraceValue) (text more : List ℕ) → HasTold was now (text ++ more) → HasKept was now text
kept_front was now text more told = record { safe = λ h. (more, told.safe h ∙ told.added) }

-- what is safe stayed
pub kept_still : (was mid now : TraceValue) (text : List ℕ) → HasTold was mid text → now.safe ≡ mid.safe → HasKept was now text
kept_still was mid now text told same = record {
  safe = λ h. ([], same ∙ told.safe h ∙ told.added ∙ ap (append_known was.bytes) (sym (append-nil text)));
}

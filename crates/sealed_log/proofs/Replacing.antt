-- What becomes of a log when another file with one batch takes the place of its file (this project).
use Rattle.std.proofs.Common.{◌≡◌, ℕ, Bool, true, false, List, [], ◌∷◌, length, take, Option, None, Some, inl, sym, ap, subst, ◌∙◌, arith}
use Rattle.std.specs.Io.KnownBytes.{append_known}
use Rattle.std.proofs.lemmas.List.{append-nil}
use Rattle.std.proofs.lemmas.List.Elements.{All-cons, All-nil}
use Rattle.file_medium.specs.Copies.{IsCopyOf, IsFrontOf}
use Rattle.sealed_text.specs.Seals.{sealed_batch, IsRecords}
use Rattle.sealed_log.specs.Sealed.{closed_of, leaving_out, IsClosed, AreClosed, IsSealed}
use Rattle.sealed_log.proofs.Leaving.{closed-records}
use Rattle.sealed_log.proofs.Closing.{append_known-nil}
use Rattle.sealed_log.proofs.Readings.{front-none}

-- the text of one batch is closed
abbrev pub one-closed : (text held : List ℕ) → text ≡ sealed_batch held → IsRecords held → IsClosed (length held) false text
one-closed text held copy one = record {
  batches = held ∷ [];
  records = All-cons IsRecords held [] one (All-nil IsRecords);
  text_is = copy ∙ sym (append-nil (sealed_batch held));
  closed_is = ap length (sym (append-nil held));
}

are-one-closed : (known : Option (List ℕ)) (held : List ℕ) → IsCopyOf known (sealed_batch held) → IsRecords held
    → AreClosed (length held) false known
are-one-closed None held copy one = tt
are-one-closed (Some text) held copy one = one-closed text held copy one

-- and its records are those of the batch
pub one-records : (known : Option (List ℕ)) (held : List ℕ) (closed : ℕ) → IsCopyOf known (sealed_batch held) → IsRecords held
    → closed ≡ length held → IsCopyOf (closed_of closed known) held
one-records None held closed copy one count = tt
one-records (Some text) held closed copy one count =
    ap (λ n. take n (leaving_out 0 text)) count
    ∙ closed-records (length held) false text (one-closed text held copy one)
    ∙ append-nil held

pub one-bytes : (known : Option (List ℕ)) (held batch : List ℕ) (closed : ℕ) → IsCopyOf known (sealed_batch held) → IsRecords held
    → closed ≡ length held → batch ≡ [] → IsCopyOf (append_known (closed_of closed known) batch) held
one-bytes known held batch closed copy one count none =
    subst (λ k. IsCopyOf k held)
    (sym (ap (append_known (closed_of closed known)) none ∙ append_known-nil (closed_of closed known)))
    (one-records known held closed copy one count)

-- what holds of the log then
pub sealed-one : (closed opened : ℕ) (lost is_ended : Bool) (file safe : Option (List ℕ)) (held records batch : List ℕ) (room : ℕ)
    → IsCopyOf file (sealed_batch held) → safe ≡ file → IsRecords held → is_ended ≡ false → closed ≡ length held → opened ≡ closed
    → records ≡ [] → batch ≡ [] → IsSealed closed lost is_ended file safe records batch room opened
sealed-one closed opened lost is_ended file safe held records batch room copy synced one going count first given none = record {
  is_closed = λ _. subst (λ n. AreClosed n is_ended safe) (sym count)
      (subst (λ e. AreClosed (length held) e safe) (sym going)
      (subst (AreClosed (length held) false) (sym synced) (are-one-closed file held copy one)));
  is_safe = λ _. sym synced;
  few = omega (arith, ap (length {A = ℕ}) given);
  front = subst (IsFrontOf (closed_of closed safe)) (sym given) (front-none (closed_of closed safe));
  whole = inl none;
  has_room = λ some. absurd (omega (arith, some, ap (length {A = ℕ}) none));
  opened_is = omega (arith, first);
}

-- it isn't known which file is there
pub sealed-in-doubt : (closed opened : ℕ) (lost is_ended : Bool) (file safe new new_safe : Option (List ℕ)) (records given batch : List ℕ) (room : ℕ)
    → IsSealed closed lost is_ended file safe records batch room opened → given ≡ []
    → IsSealed closed true is_ended new new_safe given batch room opened
sealed-in-doubt closed opened lost is_ended file safe new new_safe records given batch room is none = record {
  is_closed = λ sound. absurd cc;
  is_safe = λ sound. absurd cc;
  few = omega (arith, ap (length {A = ℕ}) none);
  front = subst (IsFrontOf (closed_of closed new_safe)) (sym none) (front-none (closed_of closed new_safe));
  whole = is.whole;
  has_room = is.has_room;
  opened_is = is.opened_is;
}

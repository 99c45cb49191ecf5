-- What becomes of a log when a batch is added to, cut and closed, and when a file is opened (this project).
use Rattle.std.proofs.Common.{append_assoc, ◌≡◌, ◌≢◌, ◌≤◌, ◌<◌, ◌+◌, ◌-◌, ◌==◌, bytes_eq, inl, inr, ℕ, zero, suc, Bool, true, false, List, [], ◌∷◌, ◌++◌, length, take, Option, None, Some, refl, sym, ap, subst, ◌∙◌, arith}
use Rattle.std.specs.List.{concat}
use Rattle.std.specs.Io.KnownBytes.{append_known}
use Rattle.std.proofs.lemmas.List.{append-nil, length-append, length-take, take-append-le, take_at, take_all}
use Rattle.std.proofs.lemmas.Slice.Eq.{bytes_eq-Decides}
use Rattle.std.proofs.lemmas.List.Elements.{All-append, All-take}
use Rattle.std.proofs.Math.Dec.{eqb-suc-zero}
use Rattle.std.proofs.Math.Seq.{take-append-add}
use Rattle.file_medium.specs.Files.{cut_known, KeepsFront}
use Rattle.file_medium.specs.Copies.{IsFrontOf, IsCopyOf}
use Rattle.sealed_text.specs.Seals.{sealed_batch, sealed_text, closed_text, end_batch, is_batch_byte, EndsInLineFeed, IsBatch, IsRecords, IsEnd, IsDamagedAt, Unseals}
use Rattle.sealed_text.specs.declared.reading.Unsealed.{Unsealed}
use Rattle.sealed_log.specs.declared.fault.SealFault.TheVariants.{Damaged, Ended}
use Rattle.sealed_log.specs.Sealed.{closed_of, leaving_out, IsClosed, AreClosed, IsOpen, IsSealed, CutsTorn, Closes, Opens, Refuses, IsLengthOf, SealedBatches, log_of, sealed_open}
use Rattle.sealed_log.proofs.Leaving.{records-of, closed-records, closed-push, closed-end, concat-push}

-- nothing is added
pub append_known-nil : (known : Option (List ℕ)) → append_known known [] ≡ known
append_known-nil None = refl
append_known-nil (Some xs) = ap Some (append-nil xs)

-- what is there is a front of itself, and of what is added to it
pub keeps-all : (known : Option (List ℕ)) → KeepsFront known known
keeps-all None = tt
keeps-all (Some xs) = sym (take_all (length xs) xs (omega arith))

pub keeps-added : (known : Option (List ℕ)) (more : List ℕ) → KeepsFront known (append_known known more)
keeps-added None more = tt
keeps-added (Some xs) more = sym (take_at xs more (length xs) refl)

-- ---- a batch is closed

pub are_closed-push : (closed : ℕ) (known : Option (List ℕ)) (b : List ℕ) → AreClosed closed false known → IsRecords b
    → AreClosed (closed + length b) false (append_known known (sealed_batch b))
are_closed-push closed None b are one = tt
are_closed-push closed (Some text) b is one = closed-push closed text b is one

pub closed_of-push : (closed : ℕ) (known : Option (List ℕ)) (b : List ℕ) → AreClosed closed false known → IsRecords b
    → closed_of (closed + length b) (append_known known (sealed_batch b)) ≡ append_known (closed_of closed known) b
closed_of-push closed None b are one = refl
closed_of-push closed (Some text) b is one =
    ap Some (closed-records (closed + length b) false (text ++ sealed_batch b) (closed-push closed text b is one)
    ∙ concat-push is.batches b ∙ ap (λ (l : List ℕ). l ++ b) (sym (closed-records closed false text is)))

-- ---- the world is ended

pub are_closed-end : (closed : ℕ) (known : Option (List ℕ)) → AreClosed closed false known
    → AreClosed closed true (append_known known (sealed_batch end_batch))
are_closed-end closed None are = tt
are_closed-end closed (Some text) is = closed-end closed text is

pub closed_of-end : (closed : ℕ) (known : Option (List ℕ)) → AreClosed closed false known
    → closed_of closed (append_known known (sealed_batch end_batch)) ≡ closed_of closed known
closed_of-end closed None are = refl
closed_of-end closed (Some text) is =
    ap Some (closed-records closed true (text ++ sealed_batch end_batch) (closed-end closed text is)
    ∙ sym (closed-records closed false text is))

-- ---- the first records

short-front : (held xs : List ℕ) → held ≡ take (length held) xs → length held ≤ length xs
short-front held xs front =
    omega (arith, ap (length {A = ℕ}) front, length-take (length held) xs)

-- they stay the first ones where more stand behind
pub front-push : (known : Option (List ℕ)) (b held : List ℕ) → IsFrontOf known held → IsFrontOf (append_known known b) held
front-push None b held front = tt
front-push (Some xs) b held front = front ∙ sym (take-append-le (length held) xs b (short-front held xs front))

-- ---- the open batch

pub open-append : (batch piece : List ℕ) → IsOpen batch → IsBatch piece → IsBatch (batch ++ piece)
open-append batch piece (inl none) is = subst (λ (l : List ℕ). IsBatch (l ++ piece)) (sym none) is
open-append batch piece (inr lines) is = record {
  letters = All-append (λ b. is_batch_byte b ≡ true) batch piece lines.letters is.letters;
  last = record {
    before = batch ++ is.last.before;
    ends = ap (λ (l : List ℕ). batch ++ l) is.last.ends ∙ sym (append_assoc batch is.last.before (10 ∷ []));
  };
}

take-none : (n : ℕ) → take {A = ℕ} n [] ≡ []
take-none zero = refl
take-none (suc n) = refl

pub open-take : (n : ℕ) (batch : List ℕ) → IsOpen batch → (0 < n → EndsInLineFeed (take n batch)) → IsOpen (take n batch)
open-take n batch (inl none) ends = inl (ap (take n) none ∙ take-none n)
open-take zero batch (inr lines) ends = inl refl
open-take (suc n) batch (inr lines) ends = inr (record { letters = All-take (λ b. is_batch_byte b ≡ true) (suc n) batch lines.letters; last = ends (omega arith) })

-- ---- cuts

pub length-closed : (closed : ℕ) (is_ended : Bool) (text : List ℕ) → IsClosed closed is_ended text
    → length (take closed (leaving_out 0 text)) ≡ closed
length-closed closed is_ended text is = ap length (closed-records closed is_ended text is) ∙ sym is.closed_is

-- a cut of the records is one of the open batch
pub cut-open : (closed kept : ℕ) (is_ended : Bool) (known : Option (List ℕ)) (batch : List ℕ) → AreClosed closed is_ended known → closed ≤ kept
    → append_known (closed_of closed known) (take (kept - closed) batch) ≡ cut_known kept (append_known (closed_of closed known) batch)
cut-open closed kept is_ended None batch are behind = refl
cut-open closed kept is_ended (Some text) batch is behind =
    let records = take closed (leaving_out 0 text) in
    let at : kept ≡ length records + (kept - closed) = omega (arith, length-closed closed is_ended text is) in
    ap Some (sym (ap (λ (n : ℕ). take n (records ++ batch)) at ∙ take-append-add records batch (kept - closed)))

-- and what is closed stays
pub cut-closed : (closed kept : ℕ) (known : Option (List ℕ)) → closed ≤ kept → closed_of closed known ≡ cut_known kept (closed_of closed known)
cut-closed closed kept None behind = refl
cut-closed closed kept (Some text) behind =
    ap Some (sym (take_all kept (take closed (leaving_out 0 text)) (omega (arith, length-take closed (leaving_out 0 text)))))

-- ---- what holds of every log

-- the file is closed too, where no call of it has failed
pub file-closed : (closed : ℕ) (lost is_ended : Bool) (file safe : Option (List ℕ)) (records batch : List ℕ) (room opened : ℕ)
    → IsSealed closed lost is_ended file safe records batch room opened → lost ≡ false → AreClosed closed is_ended file
file-closed closed lost is_ended file safe records batch room opened is sound = subst (AreClosed closed is_ended) (sym (is.is_safe sound)) (is.is_closed sound)

-- an open batch that is some, and not the one that ends a world, is one of records
pub open-records : (batch : List ℕ) → IsOpen batch → batch ≢ [] → batch ≢ end_batch → IsRecords batch
open-records batch (inl none) some other = absurd (some none)
open-records batch (inr lines) some other = record { batch = lines; other = other }

sealed_open-some : (batch : List ℕ) → IsRecords batch → sealed_open batch ≡ sealed_batch batch
sealed_open-some [] one = let last = one.batch.last in absurd (omega (arith, ap (length {A = ℕ}) last.ends, length-append last.before (10 ∷ [])))
sealed_open-some (b ∷ bs) one = refl

-- a batch was closed, and the file synced
pub sealed-closed : (closed new_closed : ℕ) (lost is_ended : Bool) (file safe new new_safe : Option (List ℕ)) (records batch left : List ℕ)
    (room new_room opened : ℕ) → IsSealed closed lost is_ended file safe records batch room opened → lost ≡ false → is_ended ≡ false → IsRecords batch
    → new ≡ append_known file (sealed_batch batch) → new_safe ≡ new → left ≡ [] → new_closed ≡ closed + length batch
    → IsSealed new_closed lost is_ended new new_safe records left new_room opened
sealed-closed closed new_closed lost is_ended file safe new new_safe records batch left room new_room opened is sound going one added synced none count =
    let to : new_safe ≡ append_known safe (sealed_batch batch) =
    synced ∙ added ∙ ap (λ k. append_known k (sealed_batch batch)) (is.is_safe sound) in
    let before : AreClosed closed false safe = subst (λ e. AreClosed closed e safe) going (is.is_closed sound) in
    let after : AreClosed new_closed false new_safe =
    subst (λ n. AreClosed n false new_safe) (sym count) (subst (AreClosed (closed + length batch) false) (sym to) (are_closed-push closed safe batch before one)) in
    let same : append_known (closed_of closed safe) batch ≡ closed_of new_closed new_safe =
    sym (ap (λ n. closed_of n new_safe) count ∙ ap (closed_of (closed + length batch)) to ∙ closed_of-push closed safe batch before one) in
    record {
      is_closed = λ _. subst (λ e. AreClosed new_closed e new_safe) (sym going) after;
      is_safe = λ _. sym synced;
      few = omega (arith, is.few, count);
      front = subst (λ k. IsFrontOf k records) same (front-push (closed_of closed safe) batch records is.front);
      whole = inl none;
      has_room = λ some. absurd (omega (arith, some, ap (length {A = ℕ}) none));
      opened_is = omega (arith, is.opened_is, count);
    }

-- its records are those of before
pub bytes-closed : (closed new_closed : ℕ) (lost is_ended : Bool) (file safe new : Option (List ℕ)) (records batch left : List ℕ) (room opened : ℕ)
    → IsSealed closed lost is_ended file safe records batch room opened → lost ≡ false → is_ended ≡ false → IsRecords batch
    → new ≡ append_known file (sealed_batch batch) → left ≡ [] → new_closed ≡ closed + length batch
    → append_known (closed_of new_closed new) left ≡ append_known (closed_of closed file) batch
bytes-closed closed new_closed lost is_ended file safe new records batch left room opened is sound going one added none count =
    let before : AreClosed closed false file = subst (λ e. AreClosed closed e file) going (file-closed closed lost is_ended file safe records batch room opened is sound) in
    ap (append_known (closed_of new_closed new)) none ∙ append_known-nil (closed_of new_closed new)
    ∙ ap (λ n. closed_of n new) count ∙ ap (closed_of (closed + length batch)) added
    ∙ closed_of-push closed file batch before one

-- what is seen of it then
pub view-closed : (closed new_closed : ℕ) (lost is_ended : Bool) (file safe new new_safe : Option (List ℕ)) (records batch left : List ℕ) (room opened : ℕ) (least new_least : Option ℕ) (head new_head : Option (List ℕ))
    → IsSealed closed lost is_ended file safe records batch room opened → lost ≡ false → is_ended ≡ false → IsRecords batch
    → new ≡ append_known file (sealed_batch batch) → new_safe ≡ new → left ≡ [] → new_closed ≡ closed + length batch → new_least ≡ least
    → log_of new_closed lost is_ended new new_safe left opened new_least new_head ≡ record (log_of closed lost is_ended file safe batch opened least head) {
      safe = append_known (closed_of closed file) batch;
      closed = closed + length batch;
      batch = [];
      file = append_known file (sealed_open batch);
      file_safe = new;
      head = new_head;
    }
view-closed closed new_closed lost is_ended file safe new new_safe records batch left room opened least new_least head new_head is sound going one added synced none count same_least =
    let all = append_known (closed_of closed file) batch in
    let bytes : append_known (closed_of new_closed new) left ≡ all =
    bytes-closed closed new_closed lost is_ended file safe new records batch left room opened is sound going one added none count in
    let kept : closed_of new_closed new_safe ≡ all =
    ap (closed_of new_closed) synced ∙ sym (append_known-nil (closed_of new_closed new))
    ∙ ap (append_known (closed_of new_closed new)) (sym none) ∙ bytes in
    let more : new ≡ append_known file (sealed_open batch) = added ∙ ap (append_known file) (sym (sealed_open-some batch one)) in
    ap (λ k. record { bytes = k; safe = closed_of new_closed new_safe; closed = new_closed; batch = left; is_lost = lost; is_ended = is_ended; file = new; file_safe = new_safe; opened = opened; file_least = new_least; head = new_head }) bytes
    ∙ ap (λ k. record { bytes = all; safe = k; closed = new_closed; batch = left; is_lost = lost; is_ended = is_ended; file = new; file_safe = new_safe; opened = opened; file_least = new_least; head = new_head }) kept
    ∙ ap (λ n. record { bytes = all; safe = all; closed = n; batch = left; is_lost = lost; is_ended = is_ended; file = new; file_safe = new_safe; opened = opened; file_least = new_least; head = new_head }) count
    ∙ ap (λ l. record { bytes = all; safe = all; closed = closed + length batch; batch = l; is_lost = lost; is_ended = is_ended; file = new; file_safe = new_safe; opened = opened; file_least = new_least; head = new_head }) none
    ∙ ap (λ k. record { bytes = all; safe = all; closed = closed + length batch; batch = []; is_lost = lost; is_ended = is_ended; file = new; file_safe = k; opened = opened; file_least = new_least; head = new_head }) synced
    ∙ ap (λ k. record { bytes = all; safe = all; closed = closed + length batch; batch = []; is_lost = lost; is_ended = is_ended; file = k; file_safe = new; opened = opened; file_least = new_least; head = new_head }) more
    ∙ ap (λ k. record { bytes = all; safe = all; closed = closed + length batch; batch = []; is_lost = lost; is_ended = is_ended; file = append_known file (sealed_open batch); file_safe = new; opened = opened; file_least = k; head = new_head }) same_least

-- what was safe of it still is
pub kept-closed : (closed new_closed : ℕ) (lost is_ended : Bool) (file safe new new_safe : Option (List ℕ)) (records batch left : List ℕ) (room opened : ℕ) (least new_least : Option ℕ) (head new_head : Option (List ℕ))
    → IsSealed closed lost is_ended file safe records batch room opened → lost ≡ false → is_ended ≡ false → IsRecords batch
    → new ≡ append_known file (sealed_batch batch) → new_safe ≡ new → left ≡ [] → new_closed ≡ closed + length batch → new_least ≡ least
    → KeepsFront (closed_of closed safe) (closed_of new_closed new_safe)
kept-closed closed new_closed lost is_ended file safe new new_safe records batch left room opened least new_least head new_head is sound going one added synced none count same_least =
    let view = view-closed closed new_closed lost is_ended file safe new new_safe records batch left room opened least new_least head new_head is sound going one added synced none count same_least in
    let to : closed_of new_closed new_safe ≡ append_known (closed_of closed safe) batch =
    ap (λ (v : SealedBatches). v.safe) view ∙ ap (λ k. append_known (closed_of closed k) batch) (is.is_safe sound) in
    subst (KeepsFront (closed_of closed safe)) (sym to) (keeps-added (closed_of closed safe) batch)

-- the world was ended, and the file synced
pub sealed-ended : (closed : ℕ) (lost is_ended : Bool) (file safe new new_safe : Option (List ℕ)) (records batch left : List ℕ) (room new_room opened : ℕ)
    → IsSealed closed lost is_ended file safe records batch room opened → lost ≡ false → is_ended ≡ false
    → new ≡ append_known file (sealed_batch end_batch) → new_safe ≡ new → left ≡ []
    → IsSealed closed lost true new new_safe records left new_room opened
sealed-ended closed lost is_ended file safe new new_safe records batch left room new_room opened is sound going added synced none =
    let to : new_safe ≡ append_known safe (sealed_batch end_batch) =
    synced ∙ added ∙ ap (λ k. append_known k (sealed_batch end_batch)) (is.is_safe sound) in
    let before : AreClosed closed false safe = subst (λ e. AreClosed closed e safe) going (is.is_closed sound) in
    record {
      is_closed = λ _. subst (AreClosed closed true) (sym to) (are_closed-end closed safe before);
      is_safe = λ _. sym synced;
      few = is.few;
      front = subst (λ k. IsFrontOf k records) (sym (ap (closed_of closed) to ∙ closed_of-end closed safe before)) is.front;
      whole = inl none;
      has_room = λ some. absurd (omega (arith, some, ap (length {A = ℕ}) none));
      opened_is = is.opened_is;
    }

-- what is seen of it then
pub view-ended : (closed : ℕ) (lost is_ended : Bool) (file safe new new_safe : Option (List ℕ)) (records batch left : List ℕ) (room opened : ℕ) (least new_least : Option ℕ) (head new_head : Option (List ℕ))
    → IsSealed closed lost is_ended file safe records batch room opened → lost ≡ false → is_ended ≡ false
    → new ≡ append_known file (sealed_batch end_batch) → new_safe ≡ new → left ≡ [] → batch ≡ [] → new_least ≡ least
    → log_of closed lost true new new_safe left opened new_least new_head ≡ record (log_of closed lost is_ended file safe batch opened least head) {
      is_ended = true;
      file = append_known file (sealed_batch end_batch);
      file_safe = new;
      head = new_head;
    }
view-ended closed lost is_ended file safe new new_safe records batch left room opened least new_least head new_head is sound going added synced none nothing same_least =
    let before : AreClosed closed false file = subst (λ e. AreClosed closed e file) going (file-closed closed lost is_ended file safe records batch room opened is sound) in
    let same : closed_of closed new ≡ closed_of closed file = ap (closed_of closed) added ∙ closed_of-end closed file before in
    let still : closed_of closed new_safe ≡ closed_of closed safe = ap (closed_of closed) synced ∙ same ∙ ap (closed_of closed) (is.is_safe sound) in
    let left_is : left ≡ batch = none ∙ sym nothing in
    ap (λ k. record { bytes = append_known k left; safe = closed_of closed new_safe; closed = closed; batch = left; is_lost = lost; is_ended = true; file = new; file_safe = new_safe; opened = opened; file_least = new_least; head = new_head }) same
    ∙ ap (λ k. record { bytes = append_known (closed_of closed file) left; safe = k; closed = closed; batch = left; is_lost = lost; is_ended = true; file = new; file_safe = new_safe; opened = opened; file_least = new_least; head = new_head }) still
    ∙ ap (λ l. record { bytes = append_known (closed_of closed file) l; safe = closed_of closed safe; closed = closed; batch = l; is_lost = lost; is_ended = true; file = new; file_safe = new_safe; opened = opened; file_least = new_least; head = new_head }) left_is
    ∙ ap (λ k. record { bytes = append_known (closed_of closed file) batch; safe = closed_of closed safe; closed = closed; batch = batch; is_lost = lost; is_ended = true; file = new; file_safe = k; opened = opened; file_least = new_least; head = new_head }) synced
    ∙ ap (λ k. record { bytes = append_known (closed_of closed file) batch; safe = closed_of closed safe; closed = closed; batch = batch; is_lost = lost; is_ended = true; file = k; file_safe = new; opened = opened; file_least = new_least; head = new_head }) added
    ∙ ap (λ k. record { bytes = append_known (closed_of closed file) batch; safe = closed_of closed safe; closed = closed; batch = batch; is_lost = lost; is_ended = true; file = append_known file (sealed_batch end_batch); file_safe = new; opened = opened; file_least = k; head = new_head }) same_least

-- a piece was added to the open batch
pub sealed-written : (closed : ℕ) (lost is_ended : Bool) (file safe : Option (List ℕ)) (records batch piece more : List ℕ) (room new_room opened : ℕ)
    → IsSealed closed lost is_ended file safe records batch room opened → IsBatch piece → more ≡ batch ++ piece → length more + 21 ≤ new_room
    → IsSealed closed lost is_ended file safe records more new_room opened
sealed-written closed lost is_ended file safe records batch piece more room new_room opened is lines added fits = record {
  is_closed = is.is_closed;
  is_safe = is.is_safe;
  few = is.few;
  front = is.front;
  whole = inr (subst IsBatch (sym added) (open-append batch piece is.whole lines));
  has_room = λ some. fits;
  opened_is = is.opened_is;
}

-- the open batch was cut
pub sealed-cut : (closed kept : ℕ) (lost is_ended : Bool) (file safe : Option (List ℕ)) (records batch left : List ℕ) (room opened : ℕ)
    → IsSealed closed lost is_ended file safe records batch room opened → (0 < kept → EndsInLineFeed (take kept batch)) → left ≡ take kept batch
    → IsSealed closed lost is_ended file safe records left room opened
sealed-cut closed kept lost is_ended file safe records batch left room opened is ends cut =
    let fewer : length left ≤ length batch = omega (arith, ap (length {A = ℕ}) cut, length-take kept batch) in
    record {
      is_closed = is.is_closed;
      is_safe = is.is_safe;
      few = is.few;
      front = is.front;
      whole = subst IsOpen (sym cut) (open-take kept batch is.whole ends);
      has_room = λ some. omega (arith, fewer, some, is.has_room (omega (arith, fewer, some)));
      opened_is = is.opened_is;
    }

-- what is seen of it then
pub view-cut : (closed kept : ℕ) (lost is_ended : Bool) (file safe : Option (List ℕ)) (records batch left : List ℕ) (room opened : ℕ) (least : Option ℕ) (head : Option (List ℕ))
    → IsSealed closed lost is_ended file safe records batch room opened → lost ≡ false → closed ≤ kept → left ≡ take (kept - closed) batch
    → log_of closed lost is_ended file safe left opened least head ≡ record (log_of closed lost is_ended file safe batch opened least head) {
      bytes = cut_known kept (append_known (closed_of closed file) batch);
      batch = take (kept - closed) batch;
    }
view-cut closed kept lost is_ended file safe records batch left room opened least head is sound behind cut =
    let lines = take (kept - closed) batch in
    ap (λ l. log_of closed lost is_ended file safe l opened least head) cut
    ∙ ap (λ b. record { bytes = b; safe = closed_of closed safe; closed = closed; batch = lines; is_lost = lost; is_ended = is_ended; file = file; file_safe = safe; opened = opened; file_least = least; head = head })
    (cut-open closed kept is_ended file batch (file-closed closed lost is_ended file safe records batch room opened is sound) behind)

-- a call of the file has failed
pub sealed-lost : (closed : ℕ) (lost is_ended : Bool) (file safe new new_safe : Option (List ℕ)) (records batch : List ℕ) (room new_room opened : ℕ)
    → IsSealed closed lost is_ended file safe records batch room opened → new_safe ≡ safe
    → IsSealed closed true is_ended new new_safe records [] new_room opened
sealed-lost closed lost is_ended file safe new new_safe records batch room new_room opened is kept = record {
  is_closed = λ sound. absurd cc;
  is_safe = λ sound. absurd cc;
  few = is.few;
  front = subst (λ k. IsFrontOf (closed_of closed k) records) (sym kept) is.front;
  whole = inl refl;
  has_room = λ some. absurd (omega (arith, some));
  opened_is = is.opened_is;
}

-- ---- an opening

-- the records that were read are those of the closed batches
same-records : (text held : List ℕ) (file : Option (List ℕ)) (cut : CutsTorn text file (Some held)) → held ≡ concat cut.batches
same-records text held file cut = let are = cut.bytes_are in cc

-- and are found in their text
opened-records : (text held : List ℕ) (file : Option (List ℕ)) (cut : CutsTorn text file (Some held))
    → take (length held) (leaving_out 0 (sealed_text cut.batches)) ≡ concat cut.batches
opened-records text held file cut =
    records-of (length held) false cut.batches cut.begins.records (ap length (same-records text held file cut))

pub sealed-opened : (known file safe : Option (List ℕ)) (held batch : List ℕ) (closed room : ℕ) → Closes known file held → safe ≡ file
    → closed ≡ length held → batch ≡ [] → IsSealed closed false false file safe held batch room closed
sealed-opened None file safe held batch closed room none synced count nothing =
    let unknown : safe ≡ None = synced ∙ none in
    record {
      is_closed = λ _. subst (AreClosed closed false) (sym unknown) tt;
      is_safe = λ _. sym synced;
      few = omega (arith, count);
      front = subst (λ k. IsFrontOf (closed_of closed k) held) (sym unknown) tt;
      whole = inl nothing;
      has_room = λ some. absurd (omega (arith, some, ap (length {A = ℕ}) nothing));
      opened_is = omega arith;
    }
sealed-opened (Some text) file safe held batch closed room cut synced count nothing =
    let same = same-records text held file cut in
    let to : safe ≡ Some (sealed_text cut.batches) = synced ∙ cut.file_is in
    let is : IsClosed closed false (sealed_text cut.batches) =
    record { batches = cut.batches; records = cut.begins.records; text_is = refl; closed_is = count ∙ ap length same } in
    let all : held ≡ take closed (leaving_out 0 (sealed_text cut.batches)) =
    same ∙ sym (opened-records text held file cut) ∙ ap (λ n. take n (leaving_out 0 (sealed_text cut.batches))) (sym count) in
    record {
      is_closed = λ _. subst (AreClosed closed false) (sym to) is;
      is_safe = λ _. sym synced;
      few = omega (arith, count);
      front = subst (λ k. IsFrontOf (closed_of closed k) held) (sym to)
          (all ∙ sym (take_all (length held) (take closed (leaving_out 0 (sealed_text cut.batches))) (omega (arith, ap (length {A = ℕ}) all))));
      whole = inl nothing;
      has_room = λ some. absurd (omega (arith, some, ap (length {A = ℕ}) nothing));
      opened_is = omega arith;
    }

pub opened : (known file safe : Option (List ℕ)) (held batch : List ℕ) (closed first : ℕ) (least : Option ℕ) (head : Option (List ℕ)) → Closes known file held
    → closed ≡ length held → batch ≡ [] → Opens known (log_of closed false false file safe batch first least head)
opened None file safe held batch closed first least head none count nothing =
    (none, ap (λ k. append_known (closed_of closed k) batch) none)
opened (Some text) file safe held batch closed first least head cut count nothing = record {
  batches = cut.batches;
  torn = cut.torn;
  begins = cut.begins;
  is_torn = cut.is_torn;
  file_is = cut.file_is;
  bytes_are = ap (append_known (closed_of closed file)) nothing ∙ append_known-nil (closed_of closed file)
      ∙ ap (closed_of closed) cut.file_is ∙ ap (λ n. Some (take n (leaving_out 0 (sealed_text cut.batches)))) count
      ∙ ap Some (opened-records text held file cut);
}

-- what is closed is there
pub closed-within : (text : List ℕ) (u : Unsealed) → Unseals text u → u.is_ended ≡ false → u.whole ≤ length text
closed-within text u un going =
    let whole : u.whole ≡ length (sealed_text un.batches) = un.whole_is ∙ ap (λ e. length (closed_text e un.batches)) going in
    omega (arith, whole, ap (length {A = ℕ}) un.begins.text_is, length-append (sealed_text un.batches) un.rest)

-- what isn't closed was cut off
pub cuts-torn : (known file : Option (List ℕ)) (text : List ℕ) (u : Unsealed) → IsCopyOf known text → Unseals text u → u.is_ended ≡ false
    → file ≡ cut_known u.whole known → Closes known file u.records.items
cuts-torn None file text u copy un going cut = cut
cuts-torn (Some xs) file text u copy un going cut =
    let whole : u.whole ≡ length (sealed_text un.batches) = un.whole_is ∙ ap (λ e. length (closed_text e un.batches)) going in
    record {
      batches = un.batches;
      torn = un.rest;
      begins = record { records = un.begins.records; text_is = copy ∙ un.begins.text_is };
      is_torn = subst (λ e. IsEnd e un.rest) going un.end;
      file_is = cut ∙ ap (λ l. Some (take u.whole l)) (copy ∙ un.begins.text_is)
          ∙ ap Some (take_at (sealed_text un.batches) un.rest u.whole (sym whole));
      bytes_are = ap Some un.records_are;
    }

-- ---- refusals

pub refuses-ended : (known : Option (List ℕ)) (text : List ℕ) (u : Unsealed) → IsCopyOf known text → Unseals text u → u.is_ended ≡ true
    → Refuses known Ended
refuses-ended None text u copy un ended = tt
refuses-ended (Some xs) text u copy un ended = record { unsealed = u; unseals = subst (λ l. Unseals l u) (sym copy) un; ended = ended }

pub refuses-damaged : (known : Option (List ℕ)) (text : List ℕ) (line : ℕ) → IsCopyOf known text → IsDamagedAt text line
    → Refuses known (Damaged line)
refuses-damaged None text line copy damaged = tt
refuses-damaged (Some xs) text line copy damaged = subst (λ l. IsDamagedAt l line) (sym copy) damaged

-- ---- what tests tell

pub some-bytes : (n : ℕ) (r : Bool) (xs : List ℕ) → n ≡ length xs → r ≡ (n == 0) → r ≡ false → xs ≢ []
some-bytes n r xs size is was none =
    let zero_is : n ≡ 0 = size ∙ ap length none in
    let yes : (n == 0) ≡ true = ap (λ k. k == 0) zero_is in
    cc

pub no-bytes : (n : ℕ) (r : Bool) (xs : List ℕ) → n ≡ length xs → r ≡ (n == 0) → r ≡ true → xs ≡ []
no-bytes n r [] size is was = refl
no-bytes n r (x ∷ xs) size is was =
    let more : n ≡ suc (length xs) = size in
    let no : (n == 0) ≡ false = ap (λ k. k == 0) more ∙ eqb-suc-zero (length xs) in
    absurd cc

pub not-same : (r : Bool) (xs ys : List ℕ) → r ≡ bytes_eq xs ys → r ≡ false → xs ≢ ys
not-same r xs ys is was same =
    let yes : bytes_eq xs ys ≡ true = (bytes_eq-Decides xs ys).1 same in
    cc

pub within-all : (at n l : ℕ) → at < l → (0 < n → at + n ≤ l) → at + n ≤ l
within-all at zero l less within = omega arith
within-all at (suc n) l less within = within (omega arith)

-- the records that were opened are so many
pub opened-length : (known file : Option (List ℕ)) (held batch : List ℕ) (closed : ℕ) → Closes known file held
    → closed ≡ length held → batch ≡ [] → IsLengthOf (append_known (closed_of closed file) batch) closed
opened-length None file held batch closed none count nothing =
    subst (λ k. IsLengthOf (append_known (closed_of closed k) batch) closed) (sym none) tt
opened-length (Some text) file held batch closed cut count nothing =
    let same = same-records text held file cut in
    let bytes : append_known (closed_of closed file) batch ≡ Some held =
    ap (append_known (closed_of closed file)) nothing ∙ append_known-nil (closed_of closed file)
    ∙ ap (closed_of closed) cut.file_is ∙ ap (λ n. Some (take n (leaving_out 0 (sealed_text cut.batches)))) count
    ∙ ap Some (opened-records text held file cut ∙ sym same) in
    subst (λ k. IsLengthOf k closed) (sym bytes) count

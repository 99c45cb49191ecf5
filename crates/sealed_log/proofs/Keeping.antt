-- What an opening leaves of the closed batches of a file: all of them (this project).
use Rattle.std.proofs.Common.{append_assoc, ◌≡◌, ◌≤◌, ◌⊎◌, inl, inr, false, ℕ, List, [], ◌∷◌, ◌++◌, length, take, drop, All, Option, None, Some, Result, Ok, Err, OnOk, OnErr, refl, sym, ap, subst, ◌∙◌, arith}
use Rattle.std.proofs.lemmas.List.{append_cancel_left, length-append, take-append-drop, take_at}
use Rattle.std.proofs.lemmas.List.Elements.{All-head, All-tail}
use Rattle.file_medium.specs.Files.{KeepsFront, SparesFront, cut_known}
use Rattle.file_medium.proofs.Fronts.{spares-same}
use Rattle.file_medium.specs.Copies.{IsCopyOf}
use Rattle.sealed_text.specs.Seals.{sum_line, sealed_batch, sealed_text, closed_text, IsBatch, IsRecords, IsTorn, IsEnd, Unseals}
use Rattle.sealed_text.specs.declared.reading.Unsealed.{Unsealed}
use Rattle.sealed_text.proofs.Cuts.{batch_clear, line_begins, closed_cut, closed_not_torn}
use Rattle.sealed_log.specs.Sealed.{KeepsAll, LosesNothing, SparesClosed}

same_first : (b c x y : List ℕ) → IsBatch b → IsBatch c → sealed_batch b ++ x ≡ sealed_batch c ++ y → (b ≡ c) × (x ≡ y)
same_first b c x y batch other is =
    let cut = closed_cut b (sum_line b ++ x) c y (batch_clear b batch) (line_begins b x) other (sym (append_assoc b (sum_line b) x) ∙ is) in
    (cut.front, append_cancel_left (sum_line b) x y cut.behind)

more_behind : (b : List ℕ) (bs : List (List ℕ)) (r : List ℕ) → sealed_text (b ∷ bs) ++ r ≡ sealed_batch b ++ (sealed_text bs ++ r)
more_behind b bs r = append_assoc (sealed_batch b) (sealed_text bs) r

-- closed batches at the front of a text, behind all of which stands what a stop leaves, are at the front of those
front-of : (bs cs : List (List ℕ)) (r s : List ℕ) → All IsRecords bs → All IsRecords cs → IsTorn r → sealed_text bs ++ r ≡ sealed_text cs ++ s
    → (tail : List ℕ) × (sealed_text bs ≡ sealed_text cs ++ tail)
front-of bs [] r s all every torn is = (sealed_text bs, refl)
front-of [] (c ∷ cs) r s all every torn is =
    absurd (closed_not_torn c (sealed_text cs ++ s) (All-head IsRecords c cs every).batch
    (subst IsTorn (is ∙ more_behind c cs s ∙ append_assoc c (sum_line c) (sealed_text cs ++ s)) torn))
front-of (b ∷ bs) (c ∷ cs) r s all every torn is =
    let first = same_first b c (sealed_text bs ++ r) (sealed_text cs ++ s) (All-head IsRecords b bs all).batch (All-head IsRecords c cs every).batch
    (sym (more_behind b bs r) ∙ is ∙ more_behind c cs s) in
    let rest = front-of bs cs r s (All-tail IsRecords b bs all) (All-tail IsRecords c cs every) torn first.1 in (
      rest.0,
      ap (λ (l : List ℕ). sealed_batch l ++ sealed_text bs) first.0 ∙ ap (λ (l : List ℕ). sealed_batch c ++ l) rest.1
          ∙ sym (append_assoc (sealed_batch c) (sealed_text cs) rest.0),
    )

-- bytes keep what they have
pub keeps-same : (known : Option (List ℕ)) → KeepsAll known known
keeps-same None = tt
keeps-same (Some xs) = record { keeps = λ batches rest begins. (rest, begins) }

-- what is closed stays where what isn't is cut off
pub keeps-cut : (known : Option (List ℕ)) (text : List ℕ) (u : Unsealed) → IsCopyOf known text → Unseals text u → u.is_ended ≡ false
    → KeepsAll known (cut_known u.whole known)
keeps-cut None text u copy un going = tt
keeps-cut (Some xs) text u copy un going =
    let whole : u.whole ≡ length (sealed_text un.batches) = un.whole_is ∙ ap (λ e. length (closed_text e un.batches)) going in
    let torn : IsTorn un.rest = subst (λ e. IsEnd e un.rest) going un.end in
    let all : xs ≡ sealed_text un.batches ++ un.rest = copy ∙ un.begins.text_is in
    let left : take u.whole xs ≡ sealed_text un.batches =
    ap (take u.whole) all ∙ take_at (sealed_text un.batches) un.rest u.whole (sym whole) in
    record {
      keeps = λ batches rest begins.
          let front = front-of un.batches batches un.rest rest un.begins.records begins.records torn (sym all ∙ begins.text_is) in
          (front.0, record { records = begins.records; text_is = left ∙ front.1 });
    }

-- what a sync leaves safe of a file that was cut
pub cut-synced : {T E : Type 0} (result : Result T E) (whole : ℕ) (old cut_bytes cut_safe bytes safe : Option (List ℕ))
    → cut_bytes ≡ cut_known whole old → cut_safe ≡ cut_known whole old → OnOk result (bytes ≡ cut_bytes) → OnOk result (safe ≡ bytes)
    → OnErr result (safe ≡ cut_safe) → safe ≡ cut_known whole old
cut-synced (Ok t) whole old cut_bytes cut_safe bytes safe cut cut_too same ok err = ok ∙ same ∙ cut
cut-synced (Err e) whole old cut_bytes cut_safe bytes safe cut cut_too same ok err = err ∙ cut_too

-- what is safe once a file was synced has all that it held
pub loses-none : (held safe new : Option (List ℕ)) → new ≡ held → LosesNothing held safe new
loses-none held safe new is = inr (subst (KeepsAll held) (sym is) (keeps-same held))

-- and so where what isn't closed was cut off next
pub loses-cut : (held safe synced new : Option (List ℕ)) (text : List ℕ) (u : Unsealed) → synced ≡ held → IsCopyOf held text → Unseals text u
    → u.is_ended ≡ false → (new ≡ synced) ⊎ (new ≡ cut_known u.whole synced) → LosesNothing held safe new
loses-cut held safe synced new text u is copy un going (inl same) = loses-none held safe new (same ∙ is)
loses-cut held safe synced new text u is copy un going (inr cut) =
    inr (subst (KeepsAll held) (sym (cut ∙ ap (cut_known u.whole) is)) (keeps-cut held text u copy un going))

-- what is closed in what was safe stays, where the file was synced
keeps-front : (safe held : Option (List ℕ)) → KeepsFront safe held → KeepsAll safe held
keeps-front None held front = tt
keeps-front (Some xs) None front = front
keeps-front (Some xs) (Some ys) front = record {
  keeps = λ batches rest begins. (
    rest ++ drop (length xs) ys,
    record {
      records = begins.records;
      text_is = sym (take-append-drop (length xs) ys) ∙ ap (λ (l : List ℕ). l ++ drop (length xs) ys) (sym front ∙ begins.text_is)
          ∙ append_assoc (sealed_text batches) rest (drop (length xs) ys);
    },
  );
}

keeps-on : (safe held new : Option (List ℕ)) → KeepsAll safe held → KeepsAll held new → KeepsAll safe new
keeps-on None held new first next = tt
keeps-on (Some xs) None new first next = absurd first
keeps-on (Some xs) (Some ys) None first next = absurd next
keeps-on (Some xs) (Some ys) (Some zs) first next = record {
  keeps = λ batches rest begins. let kept = first.keeps batches rest begins in next.keeps batches kept.0 kept.1;
}

pub keeps-synced : (safe synced held new : Option (List ℕ)) → KeepsFront safe synced → synced ≡ held → LosesNothing held synced new
    → KeepsAll safe new
keeps-synced safe synced held new front is (inl same) = keeps-front safe new (subst (KeepsFront safe) (sym same) front)
keeps-synced safe synced held new front is (inr all) = keeps-on safe held new (keeps-front safe held (subst (KeepsFront safe) is front)) all

pub keeps-read : (safe synced new : Option (List ℕ)) → KeepsFront safe synced → new ≡ synced → KeepsAll safe new
keeps-read safe synced new front is = keeps-front safe new (subst (KeepsFront safe) (sym is) front)

pub keeps-safe : (safe new : Option (List ℕ)) → KeepsFront safe new → KeepsAll safe new
keeps-safe safe new front = keeps-front safe new front

-- no cut went in front of what is closed
pub spares-closed : (held : Option (List ℕ)) (old new : Option ℕ) → new ≡ old → SparesClosed held old new
spares-closed None old new is = tt
spares-closed (Some text) old new is = λ batches rest begins. spares-same (length (sealed_text batches)) old new is

pub spares-torn : (held : Option (List ℕ)) (text : List ℕ) (u : Unsealed) (old new : Option ℕ) → IsCopyOf held text → Unseals text u
    → u.is_ended ≡ false → SparesFront u.whole old new → SparesClosed held old new
spares-torn None text u old new copy un going spares = tt
spares-torn (Some xs) text u old new copy un going spares = λ batches rest begins.
    let whole : u.whole ≡ length (sealed_text un.batches) = un.whole_is ∙ ap (λ e. length (closed_text e un.batches)) going in
    let torn : IsTorn un.rest = subst (λ e. IsEnd e un.rest) going un.end in
    let all : xs ≡ sealed_text un.batches ++ un.rest = copy ∙ un.begins.text_is in
    let front = front-of un.batches batches un.rest rest un.begins.records begins.records torn (sym all ∙ begins.text_is) in
    let less : length (sealed_text batches) ≤ u.whole =
    omega (arith, whole, ap (length {A = ℕ}) front.1, length-append (sealed_text batches) front.0) in
    λ n within spared. spares n (omega (arith, within, less)) spared

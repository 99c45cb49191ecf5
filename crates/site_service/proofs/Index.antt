-- The set of the commits in a log, record by record.
use Rattle.std.proofs.Common.{◌≡◌, ◌↔◌, ◌⊎◌, ℕ, ◌+◌, ◌-◌, Bool, true, false, ◌||◌, eqb, List, [], ◌∷◌, ◌++◌, length, take, drop, Contains, IsTrue, refl, sym, ap, ◌∙◌, subst, inl, inr, arith, append-nil, append_assoc}
use Rattle.std.specs.List.{flat_map}
use Rattle.std.proofs.lemmas.Bool.{eqb-true, eq-eqb, and_parts}
use Rattle.std.proofs.lemmas.List.Folds.{list_any-append}
use Rattle.std.proofs.lemmas.List.{take_at, drop_at, take-append-le, take-append-drop, length-append, length-take-le, length-drop}
use Rattle.field_bounds.specs.declared.id.TxnId.{TxnId}
use Rattle.field_bounds.specs.declared.entry.Escrow.{Escrow}
use Rattle.kept_records.specs.declared.record.Record.{Record}
use Rattle.kept_records.specs.declared.record.Record.TheVariants.{Commit}
use Rattle.kept_records.specs.Text.{text, IsRecord}
use Rattle.kept_records.specs.Logs.{HasNoLf, IsLog}
use Rattle.kept_records.specs.Keeping.{IsKept}
use Rattle.kept_records.proofs.Lines.{same_log}
use Rattle.kept_records.proofs.Appending.{added}
use Rattle.kept_records.proofs.Cursors.{kept_behind}
use Rattle.site_service.specs.declared.kept.KeptCommits.{KeptCommits}
use Rattle.site_step.specs.Shortening.{is_commit_of, has_commit}
use Rattle.site_service.specs.Kept.{TellsCommit}
use Rattle.site_service.specs.Index.{IsIndexOf}

-- ---- the set

-- the commit of a transaction is one of it
abbrev is_txn : ℕ → ℕ → TxnId
is_txn epoch number = record { epoch = epoch; number = number }

of_txn : (txn other : TxnId) (escrows : List Escrow) → other ≡ txn → is_commit_of txn (Commit other escrows) ≡ true
of_txn txn other escrows same =
    let epochs : eqb other.epoch txn.epoch ≡ true = eq-eqb other.epoch txn.epoch (ap (λ (t : TxnId). t.epoch) same) in
    let numbers : eqb other.number txn.number ≡ true = eq-eqb other.number txn.number (ap (λ (t : TxnId). t.number) same) in
    rw epochs numbers

the_txn : (txn other : TxnId) (escrows : List Escrow) → is_commit_of txn (Commit other escrows) ≡ true → other ≡ txn
the_txn txn other escrows is =
    let parts = and_parts (eqb other.epoch txn.epoch) (eqb other.number txn.number) is in
    let epochs : other.epoch ≡ txn.epoch = eqb-true other.epoch txn.epoch parts.0 in
    let numbers : other.number ≡ txn.number = eqb-true other.number txn.number parts.1 in
    ap (λ (e : ℕ). is_txn e other.number) epochs ∙ ap (λ (n : ℕ). is_txn txn.epoch n) numbers

pub put_commit : (old new : List TxnId) (r : Record) (other : TxnId) (escrows : List Escrow) → r ≡ Commit other escrows
    → ((txn : TxnId) → Contains new txn ↔ ((other ≡ txn) ⊎ Contains old txn)) → (txn : TxnId)
    → Contains new txn ↔ ((is_commit_of txn r ≡ true) ⊎ Contains old txn)
put_commit old new r other escrows is put txn =
    let told = put txn in (
      λ has. elim (told.0 has) [
        | inl same ↦ inl (ap (is_commit_of txn) is ∙ of_txn txn other escrows same)
        | inr before ↦ inr before
      ],
      λ either. told.1 (elim either [
        | inl now ↦ inl (the_txn txn other escrows (sym (ap (is_commit_of txn) is) ∙ now))
        | inr before ↦ inr before
      ]),
    )

-- ---- one record more

both_same : (a b : Bool) → (a ≡ true → b ≡ true) → (b ≡ true → a ≡ true) → a ≡ b
both_same true b forth back = sym (forth refl)
both_same false true forth back = back refl
both_same false false forth back = refl

last_or : (a b : Bool) → (a || (b || false)) ≡ true → (b ≡ true) ⊎ (a ≡ true)
last_or true b is = inr refl
last_or false true is = inl refl
last_or false false is = absurd cc

or_last : (a b : Bool) → (b ≡ true) ⊎ (a ≡ true) → (a || (b || false)) ≡ true
or_last true b either = refl
or_last false true either = refl
or_last false false (inl now) = now
or_last false false (inr before) = before

more_exact : (old new : KeptCommits) (r : Record) (records : List Record) (txn : TxnId)
    → Contains old.txns txn ↔ (has_commit txn records ≡ true)
    → Contains new.txns txn ↔ ((is_commit_of txn r ≡ true) ⊎ Contains old.txns txn)
    → Contains new.txns txn ↔ (has_commit txn (records ++ r ∷ []) ≡ true)
more_exact old new r records txn was put =
    let all : has_commit txn (records ++ r ∷ []) ≡ (has_commit txn records || (is_commit_of txn r || false)) =
    list_any-append (is_commit_of txn) records (r ∷ []) in (
      λ has. all ∙ or_last (has_commit txn records) (is_commit_of txn r) (elim (put.0 has) [
        | inl now ↦ inl now
        | inr before ↦ inr (was.0 before)
      ]),
      λ yes. put.1 (elim (last_or (has_commit txn records) (is_commit_of txn r) (sym all ∙ yes)) [
        | inl now ↦ inl now
        | inr before ↦ inr (was.1 before)
      ]),
    )

-- ---- the bytes

-- behind whole lines of a log stands the rest of it
pub rest_kept : (front back : List ℕ) (bytes : List ℕ) (records : List Record) → IsLog front records [] → bytes ≡ front ++ back → IsKept bytes
    → IsKept back
rest_kept front back bytes [] log parts kept =
    subst IsKept (parts ∙ ap (λ (l : List ℕ). l ++ back) log.parts) kept
rest_kept front back bytes (r ∷ records) log parts kept =
    let behind = flat_map text records in
    let whole : bytes ≡ text r ++ (behind ++ back) =
    parts ∙ ap (λ (l : List ℕ). l ++ back) (log.parts ∙ append-nil (text r ++ behind)) ∙ append_assoc (text r) behind back in
    rest_kept behind back (behind ++ back) records (record { parts = sym (append-nil behind); each = log.each.1; no_lf = refl }) refl
    (kept_behind bytes (behind ++ back) r kept whole log.each.0)

pub index_none : (kept : KeptCommits) (bytes : List ℕ) → kept.txns ≡ [] → kept.seen ≡ 0 → IsIndexOf kept bytes
index_none kept bytes none zero = record {
  within = omega (arith, zero);
  records = [];
  lines = record { parts = ap (λ n. take n bytes) zero; each = tt; no_lf = refl };
  exact = λ txn. (λ has. absurd (omega (arith, has.1, ap length none)), λ found. absurd cc);
}

-- the bytes that were looked at, and a record more
pub index_more : (old new : KeptCommits) (bytes left : List ℕ) (r : Record) (index : IsIndexOf old bytes) → drop old.seen bytes ≡ text r ++ left
    → IsRecord r → ((txn : TxnId) → Contains new.txns txn ↔ ((is_commit_of txn r ≡ true) ⊎ Contains old.txns txn))
    → new.seen ≡ length bytes - length left → IsIndexOf new bytes × (left ≡ drop new.seen bytes)
index_more old new bytes left r index parts fits put seen =
    let size : length bytes ≡ old.seen + (length (text r) + length left) =
    omega (arith, length-drop old.seen bytes, index.within, ap length parts, length-append (text r) left) in
    let more : new.seen ≡ old.seen + length (text r) = omega (arith, seen, size) in
    let front = take old.seen bytes in
    let fronts : length front ≡ old.seen = omega (arith, length-take-le old.seen bytes index.within) in
    let whole : bytes ≡ (front ++ text r) ++ left =
    sym (take-append-drop old.seen bytes) ∙ ap (λ (l : List ℕ). front ++ l) parts ∙ sym (append_assoc front (text r) left) in
    let at : length (front ++ text r) ≡ new.seen = omega (arith, more, fronts, length-append front (text r)) in
    let taken : take new.seen bytes ≡ front ++ text r = ap (take new.seen) whole ∙ take_at (front ++ text r) left new.seen at in (
      record {
        within = omega (arith, seen);
        records = index.records ++ r ∷ [];
        lines = subst (λ (l : List ℕ). IsLog l (index.records ++ r ∷ []) []) (sym taken) (added front index.records r index.lines fits);
        exact = λ txn. more_exact old new r index.records txn (index.exact txn) (put txn);
      },
      sym (ap (drop new.seen) whole ∙ drop_at (front ++ text r) left new.seen at),
    )

-- the log has grown
pub index_grows : (kept : KeptCommits) (bytes grown more : List ℕ) → IsIndexOf kept bytes → grown ≡ bytes ++ more → IsIndexOf kept grown
index_grows kept bytes grown more index is =
    let same : take kept.seen grown ≡ take kept.seen bytes = ap (take kept.seen) is ∙ take-append-le kept.seen bytes more index.within in
    record {
      within = omega (arith, index.within, ap length is, length-append bytes more);
      records = index.records;
      lines = subst (λ (l : List ℕ). IsLog l index.records []) (sym same) index.lines;
      exact = index.exact;
    }

-- all was looked at
pub index_tells : (kept : KeptCommits) (bytes : List ℕ) (txn : TxnId) (found : Bool) → IsIndexOf kept bytes → HasNoLf (drop kept.seen bytes)
    → IsTrue found ↔ Contains kept.txns txn → TellsCommit bytes txn found
index_tells kept bytes txn found index none there rs rest log =
    let all : IsLog bytes index.records (drop kept.seen bytes) = record {
      parts = sym (take-append-drop kept.seen bytes)
          ∙ ap (λ (l : List ℕ). l ++ drop kept.seen bytes) (index.lines.parts ∙ append-nil (flat_map text index.records));
      each = index.lines.each;
      no_lf = none;
    } in
    let same : index.records ≡ rs = (same_log bytes index.records rs (drop kept.seen bytes) rest all log).0 in
    let told = index.exact txn in
    both_same found (has_commit txn index.records) (λ yes. told.0 (there.0 yes)) (λ yes. there.1 (told.1 yes)) ∙ ap (has_commit txn) same

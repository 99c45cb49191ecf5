-- What an append of several records' texts leaves, told by how many of its bytes were kept.
use Rattle.std.proofs.Common.{◌≡◌, ℕ, zero, suc, ◌+◌, ◌-◌, ◌<◌, ◌≤◌, List, [], ◌∷◌, ◌++◌, length, take, Some, None, refl, sym, ap, subst, ◌∙◌, inl, inr, arith, append_assoc}
use Rattle.std.specs.List.{flat_map, AllByRecursion}
use Rattle.std.proofs.lemmas.Bool.{cases_lt}
use Rattle.std.proofs.lemmas.List.{take-append-le, append-nil}
use Rattle.std.proofs.Math.Seq.{take-append-add}
use Rattle.kept_records.specs.declared.record.Record.{Record}
use Rattle.kept_records.specs.Summary.{SummaryValue, summary_record}
use Rattle.kept_records.specs.Text.{text, IsRecord}
use Rattle.kept_records.specs.Logs.{IsLog}
use Rattle.kept_records.specs.Keeping.{with_due}
use Rattle.kept_records.specs.Summaries.{LeavesPrefix}
use Rattle.kept_records.proofs.Appending.{kept_torn, added}

-- more than a first part
take_past : (xs ys : List ℕ) (k : ℕ) → length xs ≤ k → take k (xs ++ ys) ≡ xs ++ take (k - length xs) ys
take_past xs ys k le =
    let whole : k ≡ length xs + (k - length xs) = omega arith in
    ap (λ (n : ℕ). take n (xs ++ ys)) whole ∙ take-append-add xs ys (k - length xs)

torn_first : (bytes : List ℕ) (rs : List Record) (r : Record) (ps : List Record) (k : ℕ) → IsLog bytes rs [] → IsRecord r
    → k < length (text r)
    → LeavesPrefix bytes rs (r ∷ ps) k (bytes ++ take k (flat_map text (r ∷ ps)))
torn_first bytes rs r ps k log fits few =
    let cut : take k (flat_map text (r ∷ ps)) ≡ take k (text r) = take-append-le k (text r) (flat_map text ps) (omega arith) in
    let left = kept_torn bytes rs r k log fits few in
    record {
      front = [];
      behind = r ∷ ps;
      rest = take k (text r);
      parts = refl;
      log = subst (λ (x : List ℕ). IsLog (bytes ++ x) (rs ++ []) (take k (text r))) (sym cut)
          (subst (λ (x : List Record). IsLog (bytes ++ take k (text r)) x (take k (text r))) (sym (append-nil rs)) left);
      torn = λ r' rs' is less. refl;
      whole = λ r' rs' is more.
          let same : r ≡ r' = cc in
          absurd (let e : length (text r) ≡ length (text r') = ap (λ (x : Record). length (text x)) same in omega (arith, few, more, e));
    }

whole_first : (bytes : List ℕ) (rs : List Record) (r : Record) (ps : List Record) (k : ℕ) → length (text r) ≤ k
    → LeavesPrefix (bytes ++ text r) (rs ++ r ∷ []) ps (k - length (text r))
    ((bytes ++ text r) ++ take (k - length (text r)) (flat_map text ps))
    → LeavesPrefix bytes rs (r ∷ ps) k (bytes ++ take k (flat_map text (r ∷ ps)))
whole_first bytes rs r ps k all more =
    let m = k - length (text r) in
    let cut : bytes ++ take k (flat_map text (r ∷ ps)) ≡ (bytes ++ text r) ++ take m (flat_map text ps) =
    ap (λ (x : List ℕ). bytes ++ x) (take_past (text r) (flat_map text ps) k all)
    ∙ sym (append_assoc bytes (text r) (take m (flat_map text ps))) in
    record {
      front = r ∷ more.front;
      behind = more.behind;
      rest = more.rest;
      parts = ap (λ (x : List Record). r ∷ x) more.parts;
      log = subst (λ (x : List ℕ). IsLog x (rs ++ r ∷ more.front) more.rest) (sym cut)
          (subst (λ (x : List Record). IsLog ((bytes ++ text r) ++ take m (flat_map text ps)) x more.rest)
          (append_assoc rs (r ∷ []) more.front) more.log);
      torn = λ r' rs' is less.
          let same : r ≡ r' = cc in
          absurd (let e : length (text r) ≡ length (text r') = ap (λ (x : Record). length (text x)) same in omega (arith, all, less, e));
      whole = λ r' rs' is more'. let same : r ≡ r' = cc in (more.front, ap (λ (x : Record). x ∷ more.front) same);
    }

pub leaves_front : (bytes : List ℕ) (rs ps : List Record) (k : ℕ) → IsLog bytes rs [] → AllByRecursion IsRecord ps
    → LeavesPrefix bytes rs ps k (bytes ++ take k (flat_map text ps))
leaves_front bytes rs [] k log fits =
    let none : take k (flat_map text []) ≡ [] = nothing k in
    record {
      front = [];
      behind = [];
      rest = [];
      parts = refl;
      log = subst (λ (x : List ℕ). IsLog (bytes ++ x) (rs ++ []) []) (sym none)
          (subst (λ (x : List ℕ). IsLog x (rs ++ []) []) (sym (append-nil bytes))
          (subst (λ (x : List Record). IsLog bytes x []) (sym (append-nil rs)) log));
      torn = λ r' rs' is less. absurd cc;
      whole = λ r' rs' is more. absurd cc;
    }
  where
    nothing : (k : ℕ) → take k (flat_map text []) ≡ []
    nothing zero = refl
    nothing (suc k) = refl
leaves_front bytes rs (r ∷ ps) k log fits = elim (cases_lt k (length (text r))) [
  | inl few ↦ torn_first bytes rs r ps k log fits.0 few
  | inr all ↦ whole_first bytes rs r ps k all (leaves_front (bytes ++ text r) (rs ++ r ∷ []) ps (k - length (text r))
      (added bytes rs r log fits.0) fits.1)
]

-- the text of a record, and of the summary behind it
pub one_text : (r : Record) → flat_map text (with_due r None) ≡ text r
one_text r = append-nil (text r)

pub two_texts : (r : Record) (v : SummaryValue) → flat_map text (with_due r (Some v)) ≡ text r ++ text (summary_record v)
two_texts r v = ap (λ (x : List ℕ). text r ++ x) (append-nil (text (summary_record v)))

-- What heads tell once more is gone.
use Rattle.std.proofs.Common.{◌≡◌, ℕ, ◌+◌, ◌<◌, ◌≤◌, ◌==◌, Bool, true, false, not, ◌&&◌, ◌||◌, List, [], ◌∷◌, ◌++◌, length, Option, None, Some, refl, sym, ap, subst, ◌∙◌, inl, inr, ◌⊎◌, arith, length-append}
use Rattle.std.specs.Prelude.{nat_lt, nat_le}
use Rattle.std.specs.List.{flat_map}
use Rattle.std.proofs.lemmas.Bool.{and_parts, ltb-true, leb-true, eqb-true, lt-ltb, le-leb, eq-eqb}
use Rattle.std.proofs.lemmas.List.Concat.{flat_map-append}
use Rattle.std.proofs.lemmas.List.Elements.{filter-append}
use Rattle.std.proofs.lemmas.List.Folds.{list_all-append}
use Rattle.field_bounds.specs.declared.id.TxnId.{TxnId}
use Rattle.kept_records.specs.declared.record.Record.{Record}
use Rattle.kept_records.specs.declared.record.Record.TheVariants.{Commit, Gift, Accept, Tighten, Restart, Summary}
use Rattle.kept_records.specs.Text.{text}
use Rattle.kept_records.specs.Stands.{is_summary, plain}
use Rattle.log_head.specs.declared.gone.Gone.{Gone}
use Rattle.field_bounds.specs.Effects.{is_up_to}
use Rattle.log_head.specs.Horizons.{HorizonValue, is_listed, is_passed, last_of}
use Rattle.log_archives.specs.Heads.{AreGone, AreTold, TellsMore, all_may_go, bytes_told, goes_on, may_go, reaches, records_told, txn_of, were_beyond}

-- ---- horizons

either : (a b : Bool) → (a || b) ≡ true → (a ≡ true) ⊎ (b ≡ true)
either true b h = inl refl
either false b h = inr h

abbrev UpTo : ℕ → ℕ → ℕ → ℕ → Type 0
UpTo e n e' n' = (e' < e) ⊎ ((e' ≡ e) × (n' ≤ n))

up_to : (latest txn : TxnId) → is_up_to latest txn ≡ true → UpTo latest.epoch latest.number txn.epoch txn.number
up_to latest txn h =
    elim (either (nat_lt txn.epoch latest.epoch) ((txn.epoch == latest.epoch) && nat_le txn.number latest.number) h) [
      | inl less ↦ inl (ltb-true _ _ less)
      | inr same ↦
          let p = and_parts (txn.epoch == latest.epoch) (nat_le txn.number latest.number) same in
          inr (eqb-true _ _ p.0, leb-true _ _ p.1)
    ]

chain : (a b a' b' x y : ℕ) → UpTo a b a' b' → UpTo a' b' x y → UpTo a b x y
chain a b a' b' x y (inl p) (inl q) = inl (omega (arith, p, q))
chain a b a' b' x y (inl p) (inr q) = inl (omega (arith, p, q.0))
chain a b a' b' x y (inr p) (inl q) = inl (omega (arith, p.0, q))
chain a b a' b' x y (inr p) (inr q) = inr (omega (arith, p.0, q.0), omega (arith, p.1, q.1))

or_true : (a : Bool) → (a || true) ≡ true
or_true true = refl
or_true false = refl

passed_by : (h : HorizonValue) (txn : TxnId) → UpTo h.epoch h.number txn.epoch txn.number
    → (txn.epoch ≡ h.epoch → is_listed txn.number h.open_then ≡ false) → is_passed h txn ≡ true
passed_by h txn (inl less) free = rw (lt-ltb _ _ less) refl
passed_by h txn (inr same) free =
    rw (eq-eqb _ _ same.0, le-leb _ _ same.1, free same.0) (or_true (nat_lt txn.epoch h.epoch))

passed_up : (h : HorizonValue) (txn : TxnId) → is_passed h txn ≡ true → UpTo h.epoch h.number txn.epoch txn.number
passed_up h txn e =
    elim (either (nat_lt txn.epoch h.epoch)
    ((txn.epoch == h.epoch) && nat_le txn.number h.number && not (is_listed txn.number h.open_then)) e) [
      | inl less ↦ inl (ltb-true _ _ less)
      | inr same ↦
          let p = and_parts ((txn.epoch == h.epoch) && nat_le txn.number h.number) (not (is_listed txn.number h.open_then)) same in
          let q = and_parts (txn.epoch == h.epoch) (nat_le txn.number h.number) p.0 in
          inr (eqb-true _ _ q.0, leb-true _ _ q.1)
    ]

-- none of those that are listed was passed before
none_listed : (old : HorizonValue) (epoch n : ℕ) (ns : List ℕ) → were_beyond old epoch ns ≡ true
    → is_passed old (txn_of epoch n) ≡ true → is_listed n ns ≡ false
none_listed old epoch n [] all passed = refl
none_listed old epoch n (m ∷ ns) all passed =
    let p = and_parts (not (is_passed old (txn_of epoch m))) (were_beyond old epoch ns) all in
    by (m == n) refl p.0 (none_listed old epoch n ns p.1 passed)
  where
    wrong : m ≡ n → not (is_passed old (txn_of epoch m)) ≡ true → ⊥
    wrong same isnt =
        let yes : is_passed old (txn_of epoch m) ≡ true = subst (λ (k : ℕ). is_passed old (txn_of epoch k) ≡ true) (sym same) passed in
        absurd (let both : false ≡ true = sym (ap not yes) ∙ isnt in cc)

    by : (b : Bool) → (m == n) ≡ b → not (is_passed old (txn_of epoch m)) ≡ true → is_listed n ns ≡ false → is_listed n (m ∷ ns) ≡ false
    by true e isnt none = absurd (wrong (eqb-true m n e) isnt)
    by false e isnt none = rw (e, none) refl

-- what one has passed a further one has passed
passes_on : (old new : HorizonValue) (txn : TxnId) → reaches old new ≡ true → is_passed old txn ≡ true → is_passed new txn ≡ true
passes_on old new txn further passed =
    let p = and_parts (is_up_to (last_of new) (last_of old)) (were_beyond old new.epoch new.open_then) further in
    passed_by new txn
    (chain new.epoch new.number old.epoch old.number txn.epoch txn.number (up_to (last_of new) (last_of old) p.0) (passed_up old txn passed))
    (λ same. none_listed old new.epoch txn.number new.open_then p.1
    (subst (λ (e : ℕ). is_passed old (txn_of e txn.number) ≡ true) same passed))

goes_by : (old new : HorizonValue) (r : Record) → reaches old new ≡ true → may_go old r ≡ true → may_go new r ≡ true
goes_by old new (Commit txn escrows) further may = passes_on old new txn further may
goes_by old new (Gift to field kind total) further may = refl
goes_by old new (Accept from field kind total) further may = refl
goes_by old new (Tighten field kind total) further may = refl
goes_by old new (Restart epoch) further may = refl
goes_by old new (Summary epoch rights gifts accepts tightenings) further may = refl

go_on : (old new : HorizonValue) (rs : List Record) → reaches old new ≡ true → all_may_go old rs ≡ true → all_may_go new rs ≡ true
go_on old new [] further all = refl
go_on old new (r ∷ rs) further all =
    let p = and_parts (may_go old r) (all_may_go old rs) all in
    rw (goes_by old new r further p.0, go_on old new rs further p.1) refl

-- ---- heads

size_behind : (past rs : List Record) → length (flat_map text (past ++ rs)) ≡ length (flat_map text past) + length (flat_map text rs)
size_behind past rs = ap length (flat_map-append text past rs) ∙ length-append (flat_map text past) (flat_map text rs)

plain_behind : (past rs : List Record) → length (plain (past ++ rs)) ≡ length (plain past) + length (plain rs)
plain_behind past rs =
    ap length (filter-append (λ r. not (is_summary r)) past rs) ∙ length-append (plain past) (plain rs)

-- what is told of records that are gone, so far
record Told (old : Option Gone) (new : HorizonValue) (rs : List Record) : Type 0 where
  bytes : bytes_told old ≡ length (flat_map text rs)
  records : records_told old ≡ length (plain rs)
  commits : all_may_go new rs ≡ true

told_so_far : (old : Option Gone) (new : HorizonValue) (rs : List Record) → AreGone old rs → goes_on old new ≡ true → Told old new rs
told_so_far None new rs gone further =
    subst (λ (l : List Record). Told None new l) (sym gone) (record { bytes = refl; records = refl; commits = refl })
told_so_far (Some head) new rs gone further = record {
  bytes = gone.bytes;
  records = gone.records;
  commits = go_on head.horizon new rs further gone.commits;
}

pub told_on : (old : Option Gone) (new : Gone) (before more : List Record) → AreGone old before → TellsMore old new more
    → AreTold new (before ++ more)
told_on old new before more gone tells =
    let so_far = told_so_far old new.horizon before gone tells.further in
    record {
      bytes = omega (arith, tells.bytes, so_far.bytes, size_behind before more);
      records = omega (arith, tells.records, so_far.records, plain_behind before more);
      commits = list_all-append (may_go new.horizon) before more ∙ rw (so_far.commits, tells.commits) refl;
    }

-- Receipts that were checked so far.
use Rattle.std.proofs.Common.{◌≡◌, ◌≢◌, ℕ, zero, suc, ◌+◌, ◌-◌, ◌<◌, ◌≤◌, ◌⊎◌, Bool, true, false, true≢false, List, [], ◌∷◌, ◌++◌, length, get_or, set, take, sym, ap, subst, ◌∙◌, inl, inr, ⊎_elim, arith, get_or-set_same, get_or-set_other}
use Rattle.std.proofs.lemmas.List.{take_more, take_all, length-set}
use native.Mathlib.Decide.{ℕ_discrete}
use mathlib.Core.Logic.{dite}
use Rattle.field_bounds.specs.declared.id.SiteNo.{SiteNo}
use Rattle.field_bounds.specs.declared.entry.Entry.{Entry}
use Rattle.site_desk.specs.declared.locked.Receipt.{Receipt}
use Rattle.std.proofs.lemmas.Option.{slice_get-get_or}
use Rattle.site_desk.specs.ReceiptFaults.{IsReachedAt, IsLeastWithout}
use Rattle.site_desk.specs.Receipts.{IsAt, AreAllAt, HasNumber, AreDistinct, AreReceiptsOf}

-- these receipts stand, each once, and their places are those that are marked
pub record IsChecked (site : SiteNo) (h : List Entry) (rs : List Receipt) (seen : List Bool) : Type 0 where
  pub stand : AreAllAt site h rs
  pub once : AreDistinct rs
  pub marked : (k : ℕ) → get_or seen k false ≡ true → HasNumber rs (k + 1)
  pub noted : (k : ℕ) → k < length seen → HasNumber rs (k + 1) → get_or seen k false ≡ true

stand_more : (site : SiteNo) (h : List Entry) (rs : List Receipt) (r : Receipt) → AreAllAt site h rs → IsAt site h r
    → AreAllAt site h (rs ++ r ∷ [])
stand_more site h [] r all one = (one, tt)
stand_more site h (q ∷ rs) r all one = (all.0, stand_more site h rs r all.1 one)

pub has_left : (rs qs : List Receipt) (n : ℕ) → HasNumber rs n → HasNumber (rs ++ qs) n
has_left [] qs n has = absurd has
has_left (r ∷ rs) qs n (inl now) = inl now
has_left (r ∷ rs) qs n (inr before) = inr (has_left rs qs n before)

pub has_right : (rs qs : List Receipt) (n : ℕ) → HasNumber qs n → HasNumber (rs ++ qs) n
has_right [] qs n has = has
has_right (r ∷ rs) qs n has = inr (has_right rs qs n has)

pub has_split : (rs qs : List Receipt) (n : ℕ) → HasNumber (rs ++ qs) n → HasNumber rs n ⊎ HasNumber qs n
has_split [] qs n has = inr has
has_split (r ∷ rs) qs n (inl now) = inl (inl now)
has_split (r ∷ rs) qs n (inr more) = ⊎_elim (λ (h : HasNumber rs n). inl (inr h)) (λ (h : HasNumber qs n). inr h) (has_split rs qs n more)

only_last : (r : Receipt) (n : ℕ) → HasNumber (r ∷ []) n → r.number ≡ n
only_last r n (inl now) = now
only_last r n (inr none) = absurd none

once_more : (rs : List Receipt) (r : Receipt) → AreDistinct rs → ¬ HasNumber rs r.number → AreDistinct (rs ++ r ∷ [])
once_more [] r once new = (λ none. none, tt)
once_more (q ∷ rs) r once new = (
  λ has. ⊎_elim (λ (h : HasNumber rs q.number). once.0 h) (λ (h : HasNumber (r ∷ []) q.number). new (inl (sym (only_last r q.number h))))
      (has_split rs (r ∷ []) q.number has),
  once_more rs r once.1 (λ has. new (inr has)),
)

pub starts_checked : (site : SiteNo) (h : List Entry) (seen : List Bool) → ((k : ℕ) → get_or seen k false ≡ false)
    → IsChecked site h [] seen
starts_checked site h seen none = record {
  stand = tt;
  once = tt;
  marked = λ k yes. absurd (true≢false (sym yes ∙ none k));
  noted =
      λ k below has. absurd has;
}

pub not_yet : (site : SiteNo) (h : List Entry) (rs : List Receipt) (seen : List Bool) (r : Receipt) (place : ℕ) → place < length seen
    → r.number ≡ place + 1 → get_or seen place false ≡ false → IsChecked site h rs seen → ¬ HasNumber rs r.number
not_yet site h rs seen r place below number unseen c has =
    true≢false (sym (c.noted place below (subst (λ (n : ℕ). HasNumber rs n) number has)) ∙ unseen)

pub checks_more : (site : SiteNo) (h : List Entry) (rs : List Receipt) (seen : List Bool) (r : Receipt) (place : ℕ) → place < length seen
    → r.number ≡ place + 1 → IsAt site h r → get_or seen place false ≡ false
    → IsChecked site h rs seen → IsChecked site h (rs ++ r ∷ []) (set seen place true)
checks_more site h rs seen r place below number stands unseen c = record {
  stand = stand_more site h rs r c.stand stands;
  once = once_more rs r c.once (not_yet site h rs seen r place below number unseen c);
  marked = λ k yes.
      dite (ℕ_discrete k place)
      (λ (same : k ≡ place). has_right rs (r ∷ []) (k + 1) (inl (number ∙ ap (λ (m : ℕ). m + 1) (sym same))))
      (λ (other : k ≢ place). has_left rs (r ∷ []) (k + 1) (c.marked k (sym (get_or-set_other seen place k true false other) ∙ yes)));
  noted = λ k within has.
      dite (ℕ_discrete k place)
      (λ (same : k ≡ place). subst (λ (m : ℕ). get_or (set seen place true) m false ≡ true) (sym same)
      (get_or-set_same seen place true false below))
      (λ (other : k ≢ place).
      let far : length (set seen place true) ≡ length seen = length-set seen place true in
      ⊎_elim
      (λ (old : HasNumber rs (k + 1)). get_or-set_other seen place k true false other ∙ c.noted k (omega arith) old)
      (λ (new : HasNumber (r ∷ []) (k + 1)). let is : r.number ≡ k + 1 = only_last r (k + 1) new in absurd (other (omega arith)))
      (has_split rs (r ∷ []) (k + 1) has));
}

-- the next receipt, as a loop has it
pub checks_next : (site : SiteNo) (h : List Entry) (all : List Receipt) (i : ℕ) (d : Receipt) (seen : List Bool) (place : ℕ)
    → i < length all → place < length seen → (get_or all i d).number ≡ place + 1 → IsAt site h (get_or all i d)
    → get_or seen place false ≡ false
    → IsChecked site h (take i all) seen → IsChecked site h (take (i + 1) all) (set seen place true)
checks_next site h all i d seen place inside below number stands unseen c =
    subst (λ (rs : List Receipt). IsChecked site h rs (set seen place true)) (sym (take_more all i d inside))
    (checks_more site h (take i all) seen (get_or all i d) place below number stands unseen c)

pub all_checked : (site : SiteNo) (h : List Entry) (all : List Receipt) (i : ℕ) (seen : List Bool) → length all ≤ i → length seen ≡ length h
    → ((n : ℕ) → n < length seen → get_or seen n false ≡ true) → IsChecked site h (take i all) seen → AreReceiptsOf site h all
all_checked site h all i seen past len marked c =
    let e : take i all ≡ all = take_all i all past in record {
      stand = subst (λ (rs : List Receipt). AreAllAt site h rs) e c.stand;
      once = subst (λ (rs : List Receipt). AreDistinct rs) e c.once;
      each = λ n below. subst (λ (rs : List Receipt). HasNumber rs (n + 1)) e (c.marked n (marked n (omega arith)));
    }

pub missing_at : (site own : SiteNo) (shown h : List Entry) (all : List Receipt) (i : ℕ) (seen marks : List Bool) (place : ℕ) → own ≡ site
    → shown ≡ h → length all ≤ i → marks ≡ seen → length seen ≡ length shown
    → (place < length marks) × (get_or marks place false ≡ false) × ((n : ℕ) → n < place → get_or marks n false ≡ true)
    → IsChecked own shown (take i all) seen → (own ≡ site) × IsLeastWithout site h all (place + 1)
missing_at site own shown h all i seen marks place is showing past same len first c =
    let e : take i all ≡ all = take_all i all past in
    let lengths : length shown ≡ length h = ap (λ (l : List Entry). length l) showing in
    let sizes : length marks ≡ length seen = ap (λ (l : List Bool). length l) same in
    let below : place < length marks = first.0 in
    let inside : place < length seen = omega arith in (
      is,
      record {
        stand = subst (λ (rs : List Receipt). AreAllAt site h rs) e
            (subst (λ (s : SiteNo). AreAllAt s h (take i all)) is
            (subst (λ (l : List Entry). AreAllAt own l (take i all)) showing c.stand));
        once = subst (λ (rs : List Receipt). AreDistinct rs) e c.once;
        place = (omega arith, omega arith);
        without = λ has.
            true≢false (sym (c.noted place inside (subst (λ (rs : List Receipt). HasNumber rs (place + 1)) (sym e) has))
            ∙ subst (λ (l : List Bool). get_or l place false ≡ false) same first.1);
        lower = λ m some under.
            let back : m - 1 + 1 ≡ m = omega arith in
            subst (λ (n : ℕ). HasNumber all n) back (subst (λ (rs : List Receipt). HasNumber rs (m - 1 + 1)) e
            (c.marked (m - 1) (subst (λ (l : List Bool). get_or l (m - 1) false ≡ true) same (first.2 (m - 1) (omega arith)))));
      },
    )

reached : (site own : SiteNo) (shown h : List Entry) (all : List Receipt) (i : ℕ) (d : Receipt) (seen : List Bool) → own ≡ site → shown ≡ h
    → i < length all → IsChecked own shown (take i all) seen → IsReachedAt site h all i (get_or all i d)
reached site own shown h all i d seen is showing inside c = record {
  at = slice_get-get_or all i d inside;
  stand = subst (λ (s : SiteNo). AreAllAt s h (take i all)) is (subst (λ (l : List Entry). AreAllAt own l (take i all)) showing c.stand);
  once = c.once;
}

pub differs_at : (site own : SiteNo) (shown h : List Entry) (all : List Receipt) (i : ℕ) (d : Receipt) (seen : List Bool) (s : SiteNo)
    (n : ℕ) → own ≡ site → shown ≡ h → i < length all → s ≡ (get_or all i d).site → n ≡ (get_or all i d).number
    → ¬ IsAt own shown (get_or all i d) → IsChecked own shown (take i all) seen
    → (j : ℕ) × (r : Receipt) × IsReachedAt site h all j r × (r.site ≡ s) × (r.number ≡ n) × ¬ IsAt site h r
differs_at site own shown h all i d seen s n is showing inside of number not c = (
  i,
  get_or all i d,
  reached site own shown h all i d seen is showing inside c,
  sym of,
  sym number,
  λ stands. not (subst (λ (o : SiteNo). IsAt o shown (get_or all i d)) (sym is)
      (subst (λ (l : List Entry). IsAt site l (get_or all i d)) (sym showing) stands)),
)

pub twice_at : (site own : SiteNo) (shown h : List Entry) (all : List Receipt) (i : ℕ) (d : Receipt) (seen : List Bool) (s : SiteNo)
    (n place : ℕ) → own ≡ site → shown ≡ h → i < length all → s ≡ (get_or all i d).site → n ≡ (get_or all i d).number
    → IsAt own shown (get_or all i d) → (get_or all i d).number ≡ place + 1 → get_or seen place false ≡ true
    → IsChecked own shown (take i all) seen
    → (j : ℕ) × (r : Receipt) × IsReachedAt site h all j r × (r.site ≡ s) × (r.number ≡ n) × IsAt site h r × HasNumber (take j all) n
twice_at site own shown h all i d seen s n place is showing inside of number stands at marked c = (
  i,
  get_or all i d,
  reached site own shown h all i d seen is showing inside c,
  sym of,
  sym number,
  subst (λ (o : SiteNo). IsAt o h (get_or all i d)) is (subst (λ (l : List Entry). IsAt own l (get_or all i d)) showing stands),
  subst (λ (m : ℕ). HasNumber (take i all) m) (sym at ∙ sym number) (c.marked place marked),
)

pub seen_at : (seen : List Bool) (place : ℕ) (b : Bool) → place < length seen → b ≡ get_or seen place b → get_or seen place false ≡ b
seen_at [] place b inside at = absurd (omega arith)
seen_at (x ∷ seen) zero b inside at = sym at
seen_at (x ∷ seen) (suc place) b inside at = seen_at seen place b (omega arith) at

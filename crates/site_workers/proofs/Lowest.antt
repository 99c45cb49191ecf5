-- The lowest site whose history shows what it may not.
use Rattle.std.proofs.Common.{◌≡◌, ℕ, ◌+◌, ◌<◌, ◌≤◌, ◌⊎◌, Bool, true, false, List, [], length, get_or, take, reverse, refl, sym, ap, subst, ◌∙◌, inl, inr, ⊎_elim, arith, Option, Some, None, Contains}
use Rattle.std.specs.Prelude.{if◌then◌else◌, nat_lt, IfSome, IfNone}
use Rattle.std.proofs.lemmas.Bool.{cases_lt, ltb-true, ltb-false}
use Rattle.std.proofs.lemmas.List.{get_or_past, length-map}
use Rattle.std.proofs.lemmas.Option.{same_Some, none-some}
use Rattle.std.specs.Global.{Vec}
use Rattle.field_bounds.specs.declared.id.SiteNo.{SiteNo}
use Rattle.field_bounds.specs.declared.entry.Entry.{Entry}
use Rattle.field_bounds.specs.declared.entry.Statement.{Statement}
use Rattle.field_bounds.specs.Statements.{statement_of, IsIssued}
use Rattle.site_workers.specs.Scripts.{histories_of, history_at, HasAccept, NoneForeign, NoneLost}
use Rattle.site_workers.specs.Crossing.{AreIssued, AreAccepted, set_at, AcceptsIssued, IsLowestForeign, AcceptsAll, Lacks, IsLowestLost, lower_of, IsLowest, LacksTold, TakesTold, LacksIn, TakesIn, LacksBefore, TakesBefore}
use Rattle.site_workers.proofs.Traffic.{turned_more, issued_at, accepted_at, history_here}

-- ---- the lower of two

lowest_as : (B G C H : ℕ → Type 0) (o : Option SiteNo) → ((j : ℕ) → B j → C j) → ((j : ℕ) → G j → H j) → IsLowest B G o → IsLowest C H o
lowest_as B G C H None b g low = λ j. g j (low j)
lowest_as B G C H (Some s) b g low = (b s.0 low.0, λ j under. g j (low.1 j under))

lowest_of_two : (B G C H : ℕ → Type 0) (s t : SiteNo) (first : Bool) → nat_lt t.0 s.0 ≡ first → IsLowest B G (Some s)
    → IsLowest C H (Some t)
    → IsLowest (λ j. B j ⊎ C j) (λ j. G j × H j) (if first then Some t else Some s)
lowest_of_two B G C H s t true lt l m =
    let below : t.0 < s.0 = ltb-true t.0 s.0 lt in
    (inr m.0, λ j under. (l.1 j (omega (arith, under, below)), m.1 j under))
lowest_of_two B G C H s t false ge l m =
    let below : s.0 ≤ t.0 = ltb-false t.0 s.0 ge in
    (inl l.0, λ j under. (l.1 j under, m.1 j (omega (arith, under, below))))

lowest_both : (B G C H : ℕ → Type 0) (o p : Option SiteNo) → IsLowest B G o → IsLowest C H p
    → IsLowest (λ j. B j ⊎ C j) (λ j. G j × H j) (lower_of o p)
lowest_both B G C H None None l m = λ j. (l j, m j)
lowest_both B G C H None (Some t) l m = (inr m.0, λ j under. (l j, m.1 j under))
lowest_both B G C H (Some s) None l m = (inl l.0, λ j under. (l.1 j under, m j))
lowest_both B G C H (Some s) (Some t) l m = lowest_of_two B G C H s t (nat_lt t.0 s.0) refl l m

-- ---- one history, entry by entry

-- the entry issues none
pub no_told : (sets : List (List Statement)) (issued : Option Statement) → issued ≡ None
    → IsLowest (LacksTold sets issued) (TakesTold sets issued) None
no_told sets issued is = λ j told other same. absurd (none-some told (sym is ∙ other))

-- its receiver's set has it
pub told_has : (sets : List (List Statement)) (issued : Option Statement) (st : Statement) → issued ≡ Some st
    → Contains (set_at sets st.to.0) st → IsLowest (LacksTold sets issued) (TakesTold sets issued) None
told_has sets issued st is has = λ j told other same.
    let which : st ≡ told = same_Some st told (sym is ∙ other) in
    subst (λ (n : ℕ). Contains (set_at sets n) told) same (subst (λ (x : Statement). Contains (set_at sets x.to.0) x) which has)

-- its receiver's set lacks it
pub told_lacks : (sets : List (List Statement)) (issued : Option Statement) (st : Statement) → issued ≡ Some st
    → ¬ Contains (set_at sets st.to.0) st → IsLowest (LacksTold sets issued) (TakesTold sets issued) (Some st.to)
told_lacks sets issued st is missing = (
  (st, is, refl, missing),
  λ j under told other same.
      let which : st ≡ told = same_Some st told (sym is ∙ other) in
      let at : st.to.0 ≡ told.to.0 = ap (λ (x : Statement). x.to.0) which in
      absurd (omega (arith, under, same, at)),
)

-- one entry more
pub lowest_step : (sets : List (List Statement)) (h : List Entry) (i : ℕ) (d : Entry) (o p : Option SiteNo) → i < length h
    → IsLowest (LacksIn sets (take i h)) (TakesIn sets (take i h)) o
    → IsLowest (LacksTold sets (statement_of (get_or h i d))) (TakesTold sets (statement_of (get_or h i d))) p
    → IsLowest (LacksIn sets (take (i + 1) h)) (TakesIn sets (take (i + 1) h)) (lower_of o p)
lowest_step sets h i d o p below before now =
    lowest_as _ _ _ _ (lower_of o p)
    (λ r. ⊎_elim
    (λ (old : LacksIn sets (take i h) r). (
      old.0,
      subst (λ (l : List Entry). IsIssued old.0 l) (sym (turned_more h i d below)) (inr old.1),
      old.2,
      old.3,
    ))
    (λ (new : LacksTold sets (statement_of (get_or h i d)) r).
    (new.0, subst (λ (l : List Entry). IsIssued new.0 l) (sym (turned_more h i d below)) (inl new.1), new.2, new.3)))
    (λ r (both : TakesIn sets (take i h) r × TakesTold sets (statement_of (get_or h i d)) r) told issued same.
    ⊎_elim (λ (here : statement_of (get_or h i d) ≡ Some told). both.1 told here same)
    (λ (there : IsIssued told (reverse (take i h))). both.0 told there same)
    (subst (λ (l : List Entry). IsIssued told l) (turned_more h i d below) issued))
    (lowest_both (LacksIn sets (take i h)) (TakesIn sets (take i h)) (LacksTold sets (statement_of (get_or h i d)))
    (TakesTold sets (statement_of (get_or h i d))) o p before now)

-- ---- all histories

module _ (sets : List (List Statement)) (vs : List (Vec Entry)) (i : ℕ) (v : Vec Entry) (shown : List Entry) (o p : Option SiteNo)
    (below : i < length vs) (is : v ≡ get_or vs i v) (showing : shown ≡ v.items) where
  here : history_at (histories_of vs) i ≡ shown
  here = history_here vs i v below is ∙ sym showing

  next_takes : (r : ℕ) → TakesBefore sets (histories_of vs) i r × TakesIn sets shown r → TakesBefore sets (histories_of vs) (i + 1) r
  next_takes r both s under =
      ⊎_elim (λ (old : s < i). both.0 s old)
      (λ (over : i ≤ s).
      let same : i ≡ s = omega arith in
      subst (λ (k : ℕ). TakesIn sets (history_at (histories_of vs) k) r) same
      (subst (λ (l : List Entry). TakesIn sets l r) (sym here) both.1))
      (cases_lt s i)

  -- one history more
  pub lowest_next : IsLowest (LacksBefore sets (histories_of vs) i) (TakesBefore sets (histories_of vs) i) o
      → IsLowest (LacksIn sets shown) (TakesIn sets shown) p
      → IsLowest (LacksBefore sets (histories_of vs) (i + 1)) (TakesBefore sets (histories_of vs) (i + 1)) (lower_of o p)
  lowest_next before now =
      lowest_as _ _ _ _ (lower_of o p)
      (λ r. ⊎_elim
      (λ (old : LacksBefore sets (histories_of vs) i r). let under : old.0 < i = old.1 in (old.0, omega (arith, under), old.2))
      (λ (new : LacksIn sets shown r). (i, omega arith, subst (λ (l : List Entry). LacksIn sets l r) (sym here) new)))
      next_takes
      (lowest_both _ _ _ _ o p before now)

pub lowest_first : (sets : List (List Statement)) (hs : List (List Entry)) → IsLowest (LacksBefore sets hs 0) (TakesBefore sets hs 0) None
lowest_first sets hs = λ r s under. absurd (omega arith)

module _ (sets : List (List Statement)) (vs : List (Vec Entry)) (n : ℕ) (all : length vs ≤ n)
    (known : AreAccepted (histories_of vs) sets) where
  all_take : (r : ℕ) → TakesBefore sets (histories_of vs) n r → AcceptsAll (histories_of vs) r
  all_take r takes s told issued same =
      ⊎_elim
      (λ (under : s < n). (accepted_at (histories_of vs) sets known r told).0 (takes s under told issued same))
      (λ (over : n ≤ s).
      let far : length (histories_of vs) ≤ s = omega (arith, all, over, length-map vs (λ (v : Vec Entry). v.items)) in
      absurd (subst (λ (l : List Entry). IsIssued told (reverse l)) (get_or_past (histories_of vs) s [] far) issued))
      (cases_lt s n)

  one_lacks : (r : ℕ) → LacksBefore sets (histories_of vs) n r → Lacks (histories_of vs) r
  one_lacks r lacks =
      let mine : LacksIn sets (history_at (histories_of vs) lacks.0) r = lacks.2 in record {
        giver = lacks.0;
        told = mine.0;
        issued = mine.1;
        receiver = mine.2;
        missing = λ has. mine.3 ((accepted_at (histories_of vs) sets known r mine.0).1 has);
      }

  pub some_lost : (o : Option SiteNo) → IsLowest (LacksBefore sets (histories_of vs) n) (TakesBefore sets (histories_of vs) n) o
      → IfSome o (λ (s : SiteNo). IsLowestLost (histories_of vs) s.0)
  some_lost None low = tt
  some_lost (Some s) low = record { named = one_lacks s.0 low.0; lower = λ j under. all_take j (low.1 j under) }

  pub none_lost : (o : Option SiteNo) → IsLowest (LacksBefore sets (histories_of vs) n) (TakesBefore sets (histories_of vs) n) o
      → IfNone o (NoneLost (histories_of vs))
  none_lost None low = λ s told issued. all_take told.to.0 (low told.to.0) s told issued refl
  none_lost (Some s) low = tt

-- ---- statements that weren't issued

module _ (sets : List (List Statement)) (vs : List (Vec Entry)) (known : AreIssued (histories_of vs) sets) where
  accepts_issued : (s : ℕ) (shown : List Entry) → history_at (histories_of vs) s ≡ shown
      → ((told : Statement) → HasAccept told (reverse shown) → Contains (set_at sets told.from.0) told) → AcceptsIssued (histories_of vs) s
  accepts_issued s shown is each told has =
      (issued_at (histories_of vs) sets known told.from.0 told).0
      (each told (subst (λ (l : List Entry). HasAccept told (reverse l)) is has))

  pub foreign_next : (i : ℕ) (v : Vec Entry) (shown : List Entry) → i < length vs → v ≡ get_or vs i v → shown ≡ v.items
      → ((told : Statement) → HasAccept told (reverse shown) → Contains (set_at sets told.from.0) told)
      → ((j : ℕ) → j < i → AcceptsIssued (histories_of vs) j) → (j : ℕ) → j < i + 1 → AcceptsIssued (histories_of vs) j
  foreign_next i v shown below is showing each before j under =
      ⊎_elim (λ (old : j < i). before j old)
      (λ (over : i ≤ j).
      let same : i ≡ j = omega arith in
      subst (λ (k : ℕ). AcceptsIssued (histories_of vs) k) same (accepts_issued i shown (history_here vs i v below is ∙ sym showing) each))
      (cases_lt j i)

  pub lowest_foreign : (i : ℕ) (v : Vec Entry) (shown : List Entry) (told : Statement) → i < length vs → v ≡ get_or vs i v → shown ≡ v.items
      → HasAccept told (reverse shown) × ¬ Contains (set_at sets told.from.0) told
      → ((j : ℕ) → j < i → AcceptsIssued (histories_of vs) j) → IsLowestForeign (histories_of vs) i
  lowest_foreign i v shown told below is showing found before = record {
    named = record {
      told = told;
      accepted = subst (λ (l : List Entry). HasAccept told (reverse l)) (sym (history_here vs i v below is ∙ sym showing)) found.0;
      unissued = λ issued. found.1 ((issued_at (histories_of vs) sets known told.from.0 told).1 issued);
    };
    lower = before;
  }

  pub none_is_foreign : (n : ℕ) → length vs ≤ n → ((j : ℕ) → j < n → AcceptsIssued (histories_of vs) j) → NoneForeign (histories_of vs)
  none_is_foreign n all each s told has =
      ⊎_elim (λ (under : s < n). each s under told has)
      (λ (over : n ≤ s).
      let far : length (histories_of vs) ≤ s = omega (arith, all, over, length-map vs (λ (v : Vec Entry). v.items)) in
      absurd (subst (λ (l : List Entry). HasAccept told (reverse l)) (get_or_past (histories_of vs) s [] far) has))
      (cases_lt s n)

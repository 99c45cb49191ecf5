-- What the answers of all sites give.
use Rattle.std.proofs.Common.{◌≡◌, ℕ, zero, suc, ◌+◌, ◌<◌, ◌≤◌, List, [], ◌∷◌, ◌++◌, length, reverse, refl, sym, ap, subst, ◌∙◌, arith, append_assoc, take, slice_index_or, Option, Some, None}
use Rattle.std.proofs.lemmas.List.{reverse-append}
use Rattle.std.specs.Prelude.{Result, Ok, Err, IfOk, IfErr, IfSome, IfNone}
use Rattle.std.specs.Global.{Vec}
use Rattle.field_bounds.specs.declared.id.SiteNo.{SiteNo}
use Rattle.field_bounds.specs.declared.entry.Command.{Command}
use Rattle.field_bounds.specs.declared.entry.Entry.{Entry}
use Rattle.field_bounds.specs.Schema.{SchemaValue}
use Rattle.field_bounds.specs.Limits.{IsSchema, max_sites}
use Rattle.work_faults.specs.declared.workers.WorkFault.{WorkFault}
use Rattle.work_faults.specs.declared.workers.WorkFault.TheVariants.{GateTurns, WentBack, Passes, Receipts, Foreign, Lost, NoMemory}
use Rattle.site_workers.specs.declared.site_fault.SiteFault.{SiteFault}
use Rattle.site_workers.specs.Inboxes.{site_no}
use Rattle.site_workers.specs.Faults.{fault_of, IsSiteFault, TellsForeign, TellsLost, TellsDiffers, TellsTurned, site_named}
use Rattle.site_workers.specs.Jobs.{AreAnswers, lowest_fault, answers_of, TellsCrossed, TellsFirst}
use Rattle.site_workers.specs.Scripts.{histories_of, ScriptsFit, AreWorked, AllWorked, NoneForeign, NoneLost}
use Rattle.site_workers.proofs.Teams.{all_worked}
use Rattle.site_workers.proofs.Faults.{of_site, fault_at, no_foreign_told, no_lost_told, differs_shown, turned_told, site_known, shows_foreign, foreign_known, shows_lost, lost_known}

-- what a run tells by a fault
pub record IsToldOf (schema : SchemaValue) (Turns : SiteNo → ℕ → Type 0) (ss : List (List Command)) (w : WorkFault) : Type 0 where
  pub first : TellsFirst schema Turns ss w
  pub foreign : TellsForeign schema ss w
  pub lost : TellsLost schema ss w
  pub receipts : TellsDiffers schema w
  pub turned : TellsTurned schema Turns w
  pub site : IfSome (site_named w) (λ (site : SiteNo). site.0 < schema.sites)

-- ---- the lowest fault

fault_or : {A : Type 0} → Result A SiteFault → SiteFault → SiteFault
fault_or (Ok a) d = d
fault_or (Err f) d = f

pub first_fault : (xs : List (Result (Vec Entry) SiteFault)) (i : ℕ) (d : Result (Vec Entry) SiteFault) (f : SiteFault)
    → i < length xs → slice_index_or xs i d ≡ Err f → lowest_fault (take i xs) ≡ None → lowest_fault xs ≡ Some (fault_of f)
unfolding fault_or
first_fault [] i d f below at none = absurd (omega arith)
first_fault (Ok h ∷ xs) zero d f below at none = cc
first_fault (Err g ∷ xs) zero d f below at none = ap (λ (x : Result (Vec Entry) SiteFault). Some (fault_of (fault_or x f))) at
first_fault (Ok h ∷ xs) (suc i) d f below at none = first_fault xs i d f (omega arith) at none
first_fault (Err g ∷ xs) (suc i) d f below at none = cc

still_none : (xs : List (Result (Vec Entry) SiteFault)) (i : ℕ) (d : Result (Vec Entry) SiteFault) (h : Vec Entry)
    → i < length xs → slice_index_or xs i d ≡ Ok h → lowest_fault (take i xs) ≡ None → lowest_fault (take (suc i) xs) ≡ None
still_none [] i d h below at none = absurd (omega arith)
still_none (Ok g ∷ xs) zero d h below at none = refl
still_none (Err g ∷ xs) zero d h below at none = cc
still_none (Ok g ∷ xs) (suc i) d h below at none = still_none xs i d h (omega arith) at none
still_none (Err g ∷ xs) (suc i) d h below at none = cc

-- the next answer, as a loop has it
pub none_yet : (xs : List (Result (Vec Entry) SiteFault)) (i : ℕ) (d : Result (Vec Entry) SiteFault) (h : Vec Entry)
    → i < length xs → slice_index_or xs i d ≡ Ok h → lowest_fault (take i xs) ≡ None → lowest_fault (take (i + 1) xs) ≡ None
none_yet xs i d h below at none =
    let e : suc i ≡ i + 1 = omega arith in
    subst (λ (n : ℕ). lowest_fault (take n xs) ≡ None) e (still_none xs i d h below at none)

-- ---- histories from answers, the last of which is taken first

pub gathers : (all left left' : List (Result (Vec Entry) SiteFault)) (a : Result (Vec Entry) SiteFault) (h : Vec Entry)
    (hs hs' : List (Vec Entry)) → left ≡ left' ++ a ∷ [] → a ≡ Ok h → hs' ≡ hs ++ h ∷ [] → all ≡ left ++ answers_of (reverse hs)
    → all ≡ left' ++ answers_of (reverse hs')
gathers all left left' a h hs hs' popped is pushed so_far =
    let turned : reverse hs' ≡ h ∷ reverse hs = ap (λ (l : List (Vec Entry)). reverse l) pushed ∙ reverse-append hs (h ∷ []) in
    so_far
    ∙ (ap (λ (l : List (Result (Vec Entry) SiteFault)). l ++ answers_of (reverse hs))
    (popped ∙ ap (λ (x : Result (Vec Entry) SiteFault). left' ++ x ∷ []) is)
    ∙ (append_assoc left' (Ok h ∷ []) (answers_of (reverse hs)) ∙ ap (λ (l : List (Vec Entry)). left' ++ answers_of l) (sym turned)))

has_fault : (xs bs : List (Result (Vec Entry) SiteFault)) (f : SiteFault) → lowest_fault ((xs ++ Err f ∷ []) ++ bs) ≡ None → ⊥
has_fault [] bs f none = cc
has_fault (Ok h ∷ xs) bs f none = has_fault xs bs f none
has_fault (Err g ∷ xs) bs f none = cc

pub no_fault_left : (all left left' bs : List (Result (Vec Entry) SiteFault)) (a : Result (Vec Entry) SiteFault) (f : SiteFault)
    → left ≡ left' ++ a ∷ [] → a ≡ Err f → all ≡ left ++ bs → lowest_fault all ≡ None → ⊥
no_fault_left all left left' bs a f popped is so_far none =
    has_fault left' bs f (subst (λ (l : List (Result (Vec Entry) SiteFault)). lowest_fault l ≡ None)
    (so_far ∙ ap (λ (l : List (Result (Vec Entry) SiteFault)). l ++ bs)
    (popped ∙ ap (λ (x : Result (Vec Entry) SiteFault). left' ++ x ∷ []) is)) none)

pub gathered : (all left : List (Result (Vec Entry) SiteFault)) (hs : List (Vec Entry)) → length left ≡ 0
    → all ≡ left ++ answers_of (reverse hs) → all ≡ answers_of (reverse hs)
gathered all [] hs none so_far = so_far
gathered all (a ∷ left) hs none so_far = absurd (omega arith)

-- ---- what they show

pub answers_worked : (schema : SchemaValue) (Turns : SiteNo → ℕ → Type 0) (n : ℕ) (ss : List (List Command)) (hs : List (Vec Entry))
    → AreAnswers schema Turns n ss (answers_of hs) → AreWorked schema n ss (histories_of hs)
answers_worked schema Turns n [] [] all = tt
answers_worked schema Turns n [] (h ∷ hs) all = absurd all
answers_worked schema Turns n (s ∷ ss) [] all = absurd all
answers_worked schema Turns n (s ∷ ss) (h ∷ hs) all = (all.0.worked, answers_worked schema Turns (n + 1) ss hs all.1)

pub no_fault_of : (hs : List (Vec Entry)) → lowest_fault (answers_of hs) ≡ None
no_fault_of [] = refl
no_fault_of (h ∷ hs) = no_fault_of hs

pub answers_count : (schema : SchemaValue) (Turns : SiteNo → ℕ → Type 0) (n : ℕ) (ss : List (List Command))
    (xs : List (Result (Vec Entry) SiteFault)) → AreAnswers schema Turns n ss xs → length xs ≡ length ss
answers_count schema Turns n [] [] all = refl
answers_count schema Turns n [] (a ∷ xs) all = absurd all
answers_count schema Turns n (s ∷ ss) [] all = absurd all
answers_count schema Turns n (s ∷ ss) (a ∷ xs) all =
    let e : length xs ≡ length ss = answers_count schema Turns (n + 1) ss xs all.1 in omega arith

pub few_answers : (schema : SchemaValue) (Turns : SiteNo → ℕ → Type 0) (ss : List (List Command))
    (xs : List (Result (Vec Entry) SiteFault)) → IsSchema schema → ScriptsFit schema ss → AreAnswers schema Turns 0 ss xs
    → length xs ≤ 65536
few_answers schema Turns ss xs good fit all =
    let count : length xs ≡ length ss = answers_count schema Turns 0 ss xs all in
    let few : schema.sites ≤ max_sites = good.few_sites in
    let limit : max_sites ≡ 64 = refl in
    omega (arith, count, fit.0, few, limit)

fault_shown : (schema : SchemaValue) (Turns : SiteNo → ℕ → Type 0) (n : ℕ) (ss : List (List Command))
    (xs : List (Result (Vec Entry) SiteFault)) → n + length ss ≤ schema.sites → AreAnswers schema Turns n ss xs
    → IfSome (lowest_fault xs) (IsSiteFault schema Turns)
fault_shown schema Turns n ss [] few all = tt
fault_shown schema Turns n [] (a ∷ xs) few all = absurd all
fault_shown schema Turns n (s ∷ ss) (Ok h ∷ xs) few all = fault_shown schema Turns (n + 1) ss xs (omega (arith, few)) all.1
fault_shown schema Turns n (s ∷ ss) (Err f ∷ xs) few all =
    let below : n < schema.sites = omega (arith, few) in
    of_site schema Turns (site_no n) (fault_of f) below (fault_at schema Turns (site_no n) s f all.0.fault)

-- ---- what is told of them

pub memory_told : (schema : SchemaValue) (Turns : SiteNo → ℕ → Type 0) (ss : List (List Command)) (w : WorkFault) → w ≡ NoMemory
    → IsToldOf schema Turns ss w
memory_told schema Turns ss w is =
    subst (λ (f : WorkFault). IsToldOf schema Turns ss f) (sym is)
    (record { first = tt; foreign = tt; lost = tt; receipts = tt; turned = tt; site = tt })

module _ (schema : SchemaValue) (Turns : SiteNo → ℕ → Type 0) (ss : List (List Command)) (xs : List (Result (Vec Entry) SiteFault))
    (fit : ScriptsFit schema ss) (all : AreAnswers schema Turns 0 ss xs) where
  all_of : (hs : List (Vec Entry)) → xs ≡ answers_of hs → AreWorked schema 0 ss (histories_of hs)
  all_of hs is = answers_worked schema Turns 0 ss hs
      (subst (λ (l : List (Result (Vec Entry) SiteFault)). AreAnswers schema Turns 0 ss l) is all)

  pub run_worked : (r : Result (Vec (Vec Entry)) WorkFault) → IfOk r (λ (hs : Vec (Vec Entry)). xs ≡ answers_of hs.items)
      → IfOk r (λ (hs : Vec (Vec Entry)). NoneForeign (histories_of hs.items))
      → IfOk r (λ (hs : Vec (Vec Entry)). NoneLost (histories_of hs.items))
      → IfOk r (λ (hs : Vec (Vec Entry)). AllWorked schema ss (histories_of hs.items))
  run_worked (Ok hs) is none_foreign none_lost =
      all_worked schema ss (histories_of hs.items) fit (all_of hs.items is) none_foreign none_lost
  run_worked (Err f) is none_foreign none_lost = tt

  -- a fault of a site, and the lowest
  first_told : (w : WorkFault) → lowest_fault xs ≡ Some w → TellsFirst schema Turns ss w
  first_told GateTurns is = record { answers = xs; given = all; lowest = is }
  first_told (WentBack site n) is = record { answers = xs; given = all; lowest = is }
  first_told (Passes site) is = record { answers = xs; given = all; lowest = is }
  first_told (Receipts fault) is = record { answers = xs; given = all; lowest = is }
  first_told (Foreign site) is = tt
  first_told (Lost site) is = tt
  first_told NoMemory is = tt

  site_told : (w : WorkFault) → lowest_fault xs ≡ Some w → IsSiteFault schema Turns w → IsToldOf schema Turns ss w
  site_told w is shown = record {
    first = first_told w is;
    foreign = no_foreign_told schema ss Turns w shown;
    lost = no_lost_told schema ss Turns w shown;
    receipts = differs_shown schema Turns w shown;
    turned = turned_told schema Turns w shown;
    site = site_known schema Turns w shown;
  }

  crossed_told : (w : WorkFault) → TellsCrossed xs w → IsToldOf schema Turns ss w
  crossed_told GateTurns c = absurd c
  crossed_told (WentBack site n) c = absurd c
  crossed_told (Passes site) c = absurd c
  crossed_told (Receipts fault) c = absurd c
  crossed_told (Foreign site) c = record {
    first = tt;
    foreign = shows_foreign schema ss c.0 c.0 site fit (all_of c.0 c.1) refl c.2;
    lost = tt;
    receipts = tt;
    turned = tt;
    site = foreign_known schema ss c.0 c.0 site fit (all_of c.0 c.1) refl c.2;
  }
  crossed_told (Lost site) c = record {
    first = tt;
    foreign = tt;
    lost = shows_lost schema ss c.0 c.0 site fit (all_of c.0 c.1) refl c.0 refl c.2 c.3;
    receipts = tt;
    turned = tt;
    site = lost_known schema ss c.0 c.0 site fit (all_of c.0 c.1) refl c.3;
  }
  crossed_told NoMemory c = record { first = tt; foreign = tt; lost = tt; receipts = tt; turned = tt; site = tt }

  pub run_told : (r : Result (Vec (Vec Entry)) WorkFault) → IfSome (lowest_fault xs) (λ (f : WorkFault). r ≡ Err f)
      → IfNone (lowest_fault xs) (IfErr r (TellsCrossed xs)) → IfErr r (IsToldOf schema Turns ss)
  run_told r lowest crossed = by_fault (lowest_fault xs) refl lowest crossed (fault_shown schema Turns 0 ss xs (omega (arith, fit.0)) all)
    where
      by_result : (x : Result (Vec (Vec Entry)) WorkFault) → IfErr x (TellsCrossed xs) → IfErr x (IsToldOf schema Turns ss)
      by_result (Ok hs) told = tt
      by_result (Err w) told = crossed_told w told

      by_fault : (o : Option WorkFault) → lowest_fault xs ≡ o → IfSome o (λ (f : WorkFault). r ≡ Err f)
          → IfNone o (IfErr r (TellsCrossed xs)) → IfSome o (IsSiteFault schema Turns) → IfErr r (IsToldOf schema Turns ss)
      by_fault (Some f) is first none shown =
          subst (λ (x : Result (Vec (Vec Entry)) WorkFault). IfErr x (IsToldOf schema Turns ss)) (sym first) (site_told f is shown)
      by_fault None is first none shown = by_result r none

-- What goes from site to site (Balegas and others 2015 for statements, this project for the tests). A history has the
-- oldest entry first.
use Rattle.std.specs.Prelude.{◌≡◌, ◌↔◌, ℕ, ◌<◌, List, [], ◌∷◌, reverse, slice_index_or, Contains, Option, Some, None, if◌then◌else◌, nat_lt}
use Rattle.field_bounds.specs.declared.id.SiteNo.{SiteNo}
use Rattle.field_bounds.specs.declared.entry.Entry.{Entry}
use Rattle.field_bounds.specs.declared.entry.Statement.{Statement}
use Rattle.field_bounds.specs.Statements.{IsIssued}
use Rattle.statement_set.specs.Issued.{HasIssued}
use Rattle.site_workers.specs.Scripts.{history_at, HasAccept}

-- ---- sets of statements

-- One set for each history: the statements that it issues.
abbrev pub AreIssued : List (List Entry) → List (List Statement) → Type 0
AreIssued [] [] = Unit {0}
AreIssued [] (set ∷ sets) = ⊥
AreIssued (h ∷ hs) [] = ⊥
AreIssued (h ∷ hs) (set ∷ sets) = HasIssued set (reverse h) × AreIssued hs sets

-- One set for each history: the statements that it accepts.
abbrev pub AreAccepted : List (List Entry) → List (List Statement) → Type 0
AreAccepted [] [] = Unit {0}
AreAccepted [] (set ∷ sets) = ⊥
AreAccepted (h ∷ hs) [] = ⊥
AreAccepted (h ∷ hs) (set ∷ sets) = ((told : Statement) → Contains set told ↔ HasAccept told (reverse h)) × AreAccepted hs sets

-- The set of a site.
abbrev pub set_at : List (List Statement) → ℕ → List Statement
set_at sets s = slice_index_or sets s []

-- ---- a statement that wasn't issued

-- Each statement that the site's history accepts was issued by the site that it names.
abbrev pub AcceptsIssued : List (List Entry) → ℕ → Type 0
AcceptsIssued hs s = (told : Statement) → HasAccept told (reverse (history_at hs s)) → IsIssued told (reverse (history_at hs told.from.0))

-- The site's history accepts a statement that the site which it names didn't issue.
pub record IsForeign (hs : List (List Entry)) (s : ℕ) : Type 0 where
  pub told : Statement
  pub accepted : HasAccept told (reverse (history_at hs s))
  pub unissued : ¬ IsIssued told (reverse (history_at hs told.from.0))

-- This site's does, and no lower one's.
pub record IsLowestForeign (hs : List (List Entry)) (s : ℕ) : Type 0 where
  pub named : IsForeign hs s
  pub lower : (j : ℕ) → j < s → AcceptsIssued hs j

-- ---- a statement that wasn't accepted

-- The site's history accepts each statement that some history issues to it.
abbrev pub AcceptsAll : List (List Entry) → ℕ → Type 0
AcceptsAll hs r = (s : ℕ) (told : Statement) → IsIssued told (reverse (history_at hs s)) → told.to.0 ≡ r
    → HasAccept told (reverse (history_at hs r))

-- The site's history lacks the accept of a statement that some history issues to it.
pub record Lacks (hs : List (List Entry)) (r : ℕ) : Type 0 where
  pub giver : ℕ
  pub told : Statement
  pub issued : IsIssued told (reverse (history_at hs giver))
  pub receiver : told.to.0 ≡ r
  pub missing : ¬ HasAccept told (reverse (history_at hs r))

-- This site's does, and no lower one's.
pub record IsLowestLost (hs : List (List Entry)) (r : ℕ) : Type 0 where
  pub named : Lacks hs r
  pub lower : (j : ℕ) → j < r → AcceptsAll hs j

-- ---- the lowest site of some

-- The lower of two sites.
abbrev pub lower_of : Option SiteNo → Option SiteNo → Option SiteNo
lower_of None other = other
lower_of (Some one) None = Some one
lower_of (Some one) (Some other) = if nat_lt other.0 one.0 then Some other else Some one

-- Some site is the lowest that is bad, and all lower ones are good; or all are good.
abbrev pub IsLowest : (ℕ → Type 0) → (ℕ → Type 0) → Option SiteNo → Type 0
IsLowest Bad Good None = (j : ℕ) → Good j
IsLowest Bad Good (Some s) = Bad s.0 × ((j : ℕ) → j < s.0 → Good j)

-- Of one entry's statement: it goes to the site, whose set lacks it.
abbrev pub LacksTold : List (List Statement) → Option Statement → ℕ → Type 0
LacksTold sets issued r = (told : Statement) × (issued ≡ Some told) × (told.to.0 ≡ r) × ¬ Contains (set_at sets r) told

-- Where it goes to the site, its set has it.
abbrev pub TakesTold : List (List Statement) → Option Statement → ℕ → Type 0
TakesTold sets issued r = (told : Statement) → issued ≡ Some told → told.to.0 ≡ r → Contains (set_at sets r) told

-- Of one history: it issues a statement to the site, which isn't in that site's set.
abbrev pub LacksIn : List (List Statement) → List Entry → ℕ → Type 0
LacksIn sets h r = (told : Statement) × IsIssued told (reverse h) × (told.to.0 ≡ r) × ¬ Contains (set_at sets r) told

-- Each statement that it issues to the site is in that site's set.
abbrev pub TakesIn : List (List Statement) → List Entry → ℕ → Type 0
TakesIn sets h r = (told : Statement) → IsIssued told (reverse h) → told.to.0 ≡ r → Contains (set_at sets r) told

-- Some history in front of the i-th lacks such a statement; each of them takes all.
abbrev pub LacksBefore : List (List Statement) → List (List Entry) → ℕ → ℕ → Type 0
LacksBefore sets hs i r = (s : ℕ) × (s < i) × LacksIn sets (history_at hs s) r

abbrev pub TakesBefore : List (List Statement) → List (List Entry) → ℕ → ℕ → Type 0
TakesBefore sets hs i r = (s : ℕ) → s < i → TakesIn sets (history_at hs s) r

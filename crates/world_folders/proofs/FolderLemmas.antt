-- Folders of sites, one after another.
use Rattle.std.proofs.Common.{◌≡◌, ◌≢◌, ℕ, ◌<◌, ◌≤◌, ◌+◌, List, [], ◌∷◌, ◌++◌, length, get_or, Bool, true, false, All, String, string_bytes, refl, sym, subst, ◌∙◌, inl, inr, arith, length-append}
use Rattle.std.specs.Global.{Global}
use Rattle.std.proofs.lemmas.Bool.{cases_lt}
use Rattle.std.proofs.lemmas.List.{get_or_default, get_or_append_left}
use Rattle.std.proofs.Math.Seq.{get_or-append_seam}
use Rattle.field_bounds.specs.declared.id.SiteNo.{SiteNo}
use Rattle.folder_logs.specs.Beside.{GoBeside}
use Rattle.world_folders.specs.declared.worlds.SiteFolder.{SiteFolder}
use Rattle.world_folders.specs.Folders.{IsSiteFolder, GoesWith}
use Rattle.world_folders.specs.Lost.{TellsLost, IsNotAmong, RiseFrom}
use Rattle.world_folders.proofs.Pushed.{push_each}

-- each folder is that of its name
pub named_more : (holds : List ℕ → List ℕ → Type 0) (named : List (String Global)) (folders : List SiteFolder) (n : ℕ)
    (name : String Global) (f : SiteFolder) → length folders ≡ n → name ≡ get_or named n name → n < length named
    → IsSiteFolder holds (string_bytes name) f
    → ((k : ℕ) (m : String Global) (d : SiteFolder) → k < n
    → IsSiteFolder holds (string_bytes (get_or named k m)) (get_or folders k d))
    → (k : ℕ) (m : String Global) (d : SiteFolder) → k < n + 1
    → IsSiteFolder holds (string_bytes (get_or named k m)) (get_or (folders ++ f ∷ []) k d)
named_more holds named folders n name f count is within here below k m d less =
    let P : ℕ → SiteFolder → Type 0 = λ k g. (m : String Global) → IsSiteFolder holds (string_bytes (get_or named k m)) g in
    push_each P folders n f count (λ k d before m. below k m d before)
    (λ m. subst (λ (own : String Global). IsSiteFolder holds (string_bytes own) f) (is ∙ get_or_default named n name m within) here) k d less m

-- each goes with those before it
pub beside_more : (folders : List SiteFolder) (n : ℕ) (f : SiteFolder) → length folders ≡ n → GoesWith folders f
    → ((k j : ℕ) (d e : SiteFolder) → k < n → j < k → GoBeside (get_or folders k d).identity (get_or folders j e).identity)
    → (k j : ℕ) (d e : SiteFolder) → k < n + 1 → j < k
    → GoBeside (get_or (folders ++ f ∷ []) k d).identity (get_or (folders ++ f ∷ []) j e).identity
beside_more folders n f count goes below k j d e less before =
    let P : ℕ → SiteFolder → Type 0 = λ k g. (j : ℕ) (e : SiteFolder) → j < k
    → GoBeside g.identity (get_or (folders ++ f ∷ []) j e).identity in
    let old : (j : ℕ) (e : SiteFolder) → j < n → get_or folders j e ≡ get_or (folders ++ f ∷ []) j e =
    λ j e less. sym (get_or_append_left folders (f ∷ []) e j (omega (arith, less, count))) in
    push_each P folders n f count
    (λ k d less j e before. subst (λ (h : SiteFolder). GoBeside (get_or folders k d).identity h.identity)
    (old j e (omega (arith, less, before))) (below k j d e less before))
    (λ j e before. subst (λ (h : SiteFolder). GoBeside f.identity h.identity) (old j e before)
    (goes j e (omega (arith, before, count)))) k d less j e before

-- ---- logs that are lost

pub lost_more : (stands : List ℕ → Bool → Type 0) (folders : List SiteFolder) (lost : List SiteNo) (site : SiteNo)
    → TellsLost stands folders site.0 true → All (λ one. TellsLost stands folders one.0 true) lost
    → All (λ one. TellsLost stands folders one.0 true) (lost ++ site ∷ [])
lost_more stands folders lost site here each k d less =
    let P : ℕ → SiteNo → Type 0 = λ k one. TellsLost stands folders one.0 true in
    push_each P lost (length lost) site refl each here k d (omega (arith, less, length-append lost (site ∷ [])))

pub others_past : (stands : List ℕ → Bool → Type 0) (folders : List SiteFolder) (lost : List SiteNo) (n : ℕ) (site : SiteNo) → site.0 ≡ n
    → ((s : ℕ) → s < n → IsNotAmong lost s → TellsLost stands folders s false)
    → (s : ℕ) → s < n + 1 → IsNotAmong (lost ++ site ∷ []) s → TellsLost stands folders s false
others_past stands folders lost n site is below s less among =
    let front : IsNotAmong lost s = λ k d within. subst (λ (one : SiteNo). one.0 ≢ s) (get_or_append_left lost (site ∷ []) d k within)
    (among k d (omega (arith, within, length-append lost (site ∷ [])))) in
    let last : site.0 ≢ s = subst (λ (one : SiteNo). one.0 ≢ s) (get_or-append_seam lost site [] site)
    (among (length lost) site (omega (arith, length-append lost (site ∷ [])))) in
    elim (cases_lt s n) [ inl before ↦ below s before front | inr least ↦ absurd (last (omega (arith, is, less, least))) ]

pub others_more : (stands : List ℕ → Bool → Type 0) (folders : List SiteFolder) (lost : List SiteNo) (n : ℕ)
    → TellsLost stands folders n false
    → ((s : ℕ) → s < n → IsNotAmong lost s → TellsLost stands folders s false)
    → (s : ℕ) → s < n + 1 → IsNotAmong lost s → TellsLost stands folders s false
others_more stands folders lost n here below s less among =
    elim (cases_lt s n) [
      | inl before ↦ below s before among
      | inr least ↦ subst (λ (m : ℕ). TellsLost stands folders m false) (let same : n ≡ s = omega (arith, less, least) in same) here
    ]

-- the order of the sites, where the end is one later, and where that site is added
pub rise_on : (from end : ℕ) (sites : List SiteNo) → RiseFrom from end sites → RiseFrom from (end + 1) sites
rise_on from end [] rise = rise
rise_on from end (site ∷ sites) rise = (rise.0, omega (arith, rise.1), rise_on (site.0 + 1) end sites rise.2)

pub rise_more : (from end : ℕ) (sites : List SiteNo) (last : SiteNo) → last.0 ≡ end → from ≤ end → RiseFrom from end sites
    → RiseFrom from (end + 1) (sites ++ last ∷ [])
rise_more from end [] last is least rise = (omega (arith, is, least), omega (arith, is), tt)
rise_more from end (site ∷ sites) last is least rise =
    (rise.0, omega (arith, rise.1), rise_more (site.0 + 1) end sites last is (omega (arith, rise.1)) rise.2)

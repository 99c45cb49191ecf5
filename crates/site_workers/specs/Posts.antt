-- The ends of all inboxes, and whose they are (this project).
use Rattle.std.specs.Prelude.{◌≡◌, ℕ, ◌+◌, List, [], ◌∷◌, ◌++◌, length}
use Rattle.std.specs.List.{All}
use Rattle.std.specs.Global.{Vec}
use Rattle.crossbeam_channel.specs.Claims.{view}
use Rattle.crossbeam_channel.specs.Ends.{sends_on}
use Rattle.site_workers.specs.declared.inbox.Role.TheVariants.{Worker}
use Rattle.site_workers.specs.declared.post.Post.{Post}
use Rattle.site_workers.specs.declared.post.Spare.{Spare}
use Rattle.site_workers.specs.Inboxes.{site_no}

-- This site's worker has this way of the inbox.
abbrev pub IsPostOf : Spare → ℕ → Post → Type 0
IsPostOf spare n post = (sends_on post.slot ≡ sends_on spare.slot) × ((view post.way).role ≡ Worker (site_no n))

-- This site's worker has a way of each inbox.
abbrev pub ArePosts : ℕ → List Post → List Spare → Type 0
ArePosts n [] [] = Unit {0}
ArePosts n [] (s ∷ spares) = ⊥
ArePosts n (p ∷ posts) [] = ⊥
ArePosts n (p ∷ posts) (s ∷ spares) = IsPostOf s n p × ArePosts n posts spares

-- So has each site's worker, from this one on.
abbrev pub HavePosts : ℕ → List (Vec Post) → List Spare → Type 0
HavePosts n [] spares = Unit {0}
HavePosts n (row ∷ rows) spares = ArePosts n row.items spares × HavePosts (n + 1) rows spares

-- The row of this site's worker has got its way of the inbox.
abbrev pub HasGot : Spare → ℕ → Vec Post → Vec Post → Type 0
HasGot spare n row longer = (post : Post) × (longer.items ≡ row.items ++ post ∷ []) × IsPostOf spare n post

-- So has each worker's row, from this site's on.
abbrev pub AreHired : Spare → ℕ → List (Vec Post) → List (Vec Post) → Type 0
AreHired spare n [] [] = Unit {0}
AreHired spare n [] (row ∷ after) = ⊥
AreHired spare n (row ∷ before) [] = ⊥
AreHired spare n (row ∷ before) (longer ∷ after) = HasGot spare n row longer × AreHired spare (n + 1) before after

-- Each site's worker has its way of each inbox, and no maker has made more than these.
pub record AreOpened (sites : ℕ) (rows : List (Vec Post)) (spares : List Spare) : Type 0 where
  pub workers : length rows ≡ sites
  pub inboxes : length spares ≡ sites
  pub posts : HavePosts 0 rows spares
  pub made : All (λ (s : Spare). (view s.way).made ≡ sites) spares

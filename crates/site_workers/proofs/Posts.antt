-- What the workers' rows have, inbox by inbox.
use Rattle.std.proofs.Common.{◌≡◌, ℕ, zero, suc, ◌+◌, ◌<◌, ◌≤◌, List, [], ◌∷◌, ◌++◌, length, set, get_or, length-append, refl, sym, ap, subst, ◌∙◌, arith}
use Rattle.std.specs.List.{All}
use Rattle.std.proofs.lemmas.List.Elements.{All-push}
use Rattle.std.specs.Global.{Vec}
use Rattle.crossbeam_channel.specs.Claims.{view}
use Rattle.crossbeam_channel.specs.Ends.{sends_on}
use Rattle.site_workers.specs.declared.inbox.Role.TheVariants.{Worker}
use Rattle.site_workers.specs.declared.post.Post.{Post}
use Rattle.site_workers.specs.declared.post.Spare.{Spare}
use Rattle.site_workers.specs.Inboxes.{site_no}
use Rattle.site_workers.specs.Posts.{IsPostOf, ArePosts, HavePosts, HasGot, AreHired}

pub empty_more : (n : ℕ) (rows : List (Vec Post)) (row : Vec Post) → row.items ≡ [] → HavePosts n rows [] → HavePosts n (rows ++ row ∷ []) []
empty_more n [] row none all = (subst (λ (posts : List Post). ArePosts n posts []) (sym none) tt, tt)
empty_more n (r ∷ rows) row none all = (all.0, empty_more (n + 1) rows row none all.1)

pub row_more : (rows rows' : List (Vec Post)) (row : Vec Post) (n : ℕ) → rows' ≡ rows ++ row ∷ [] → row.items ≡ []
    → (length rows ≡ n) × HavePosts 0 rows [] → (length rows' ≡ n + 1) × HavePosts 0 rows' []
row_more rows rows' row n pushed none all = (
  ap (λ (l : List (Vec Post)). length l) pushed ∙ (length-append rows (row ∷ []) ∙ ap (λ (k : ℕ). k + 1) all.0),
  subst (λ (l : List (Vec Post)). HavePosts 0 l []) (sym pushed) (empty_more 0 rows row none all.1),
)

-- ---- one inbox

-- The first m rows have got their worker's way of the inbox, and the others are what they were.
abbrev pub AreHiredTo : Spare → List (Vec Post) → List (Vec Post) → ℕ → ℕ → Type 0
AreHiredTo spare [] [] n m = Unit {0}
AreHiredTo spare [] (row ∷ after) n m = ⊥
AreHiredTo spare (row ∷ before) [] n m = ⊥
AreHiredTo spare (row ∷ before) (longer ∷ after) n zero = (longer ≡ row) × AreHiredTo spare before after (n + 1) zero
AreHiredTo spare (row ∷ before) (longer ∷ after) n (suc m) = HasGot spare n row longer × AreHiredTo spare before after (n + 1) m

hired_none : (spare : Spare) (rows : List (Vec Post)) (n : ℕ) → AreHiredTo spare rows rows n zero
hired_none spare [] n = tt
hired_none spare (row ∷ rows) n = (refl, hired_none spare rows (n + 1))

pub starts_hiring : (spare : Spare) (rows : List (Vec Post)) → AreHiredTo spare rows rows 0 0
starts_hiring spare rows = hired_none spare rows 0

hired_whole : (spare : Spare) (before after : List (Vec Post)) (n m : ℕ) → length before ≤ m → AreHiredTo spare before after n m
    → AreHired spare n before after
hired_whole spare [] [] n m all h = tt
hired_whole spare [] (row ∷ after) n m all h = absurd h
hired_whole spare (row ∷ before) [] n m all h = absurd h
hired_whole spare (row ∷ before) (longer ∷ after) n zero all h = absurd (omega arith)
hired_whole spare (row ∷ before) (longer ∷ after) n (suc m) all h = (h.0, hired_whole spare before after (n + 1) m (omega arith) h.1)

same_inbox : (old spare : Spare) → sends_on spare.slot ≡ sends_on old.slot → (n : ℕ) (before after : List (Vec Post)) → AreHired old n before after
    → AreHired spare n before after
same_inbox old spare same n [] [] h = tt
same_inbox old spare same n [] (row ∷ after) h = absurd h
same_inbox old spare same n (row ∷ before) [] h = absurd h
same_inbox old spare same n (row ∷ before) (longer ∷ after) h =
    let got = h.0 in ((got.0, got.1, (got.2.0 ∙ sym same, got.2.1)), same_inbox old spare same (n + 1) before after h.1)

pub hired_all : (old spare : Spare) (before after : List (Vec Post)) (m : ℕ) → length before ≤ m
    → sends_on spare.slot ≡ sends_on old.slot → AreHiredTo old before after 0 m → AreHired spare 0 before after
hired_all old spare before after m all same h = same_inbox old spare same 0 before after (hired_whole old before after 0 m all h)

hired_suc : (spare : Spare) (before after : List (Vec Post)) (n m : ℕ) (d longer : Vec Post) (post : Post) → m < length after
    → longer.items ≡ (get_or after m d).items ++ post ∷ [] → IsPostOf spare (n + m) post → AreHiredTo spare before after n m
    → AreHiredTo spare before (set after m longer) n (suc m)
hired_suc spare [] [] n m d longer post below got is h = absurd (omega arith)
hired_suc spare [] (row ∷ after) n m d longer post below got is h = absurd h
hired_suc spare (row ∷ before) [] n m d longer post below got is h = absurd h
hired_suc spare (row ∷ before) (now ∷ after) n zero d longer post below got is h =
    let same : n + zero ≡ n = omega arith in
    let row_is : now.items ≡ row.items = ap (λ (v : Vec Post). v.items) h.0 in (
      (
        post,
        got ∙ ap (λ (posts : List Post). posts ++ post ∷ []) row_is,
        subst (λ (k : ℕ). IsPostOf spare k post) same is,
      ),
      h.1,
    )
hired_suc spare (row ∷ before) (now ∷ after) n (suc m) d longer post below got is h =
    let same : n + suc m ≡ n + 1 + m = omega arith in
    (h.0, hired_suc spare before after (n + 1) m d longer post (omega arith) got (subst (λ (k : ℕ). IsPostOf spare k post) same is) h.1)

-- the row at the place of the site has got what the spare's maker has hired
pub hires_next : (spare now : Spare) (before after : List (Vec Post)) (m place : ℕ) (row longer : Vec Post) (post : Post)
    → m < length after → place ≡ m → row ≡ get_or after place row → longer.items ≡ row.items ++ post ∷ []
    → sends_on now.slot ≡ sends_on spare.slot → sends_on post.slot ≡ sends_on now.slot → (view post.way).role ≡ Worker (site_no m)
    → AreHiredTo spare before after 0 m
    → AreHiredTo spare before (set after place longer) 0 (m + 1)
hires_next spare now before after m place row longer post below here at got same end worker h =
    let e : suc m ≡ m + 1 = omega arith in
    let z : m ≡ 0 + m = omega arith in
    let is : IsPostOf spare m post = (end ∙ same, worker) in
    let row_is : row ≡ get_or after m row = at ∙ ap (λ (k : ℕ). get_or after k row) here in
    let more : longer.items ≡ (get_or after m row).items ++ post ∷ [] =
    got ∙ ap (λ (v : Vec Post). v.items ++ post ∷ []) row_is in
    subst (λ (k : ℕ). AreHiredTo spare before (set after k longer) 0 (m + 1)) (sym here)
    (subst (λ (k : ℕ). AreHiredTo spare before (set after m longer) 0 k) e
    (hired_suc spare before after 0 m row longer post below more (subst (λ (k : ℕ). IsPostOf spare k post) z is) h))

pub hired_count : (spare : Spare) (n : ℕ) (before after : List (Vec Post)) → AreHired spare n before after → length after ≡ length before
hired_count spare n [] [] h = refl
hired_count spare n [] (row ∷ after) h = absurd h
hired_count spare n (row ∷ before) [] h = absurd h
hired_count spare n (row ∷ before) (longer ∷ after) h =
    let rest : length after ≡ length before = hired_count spare (n + 1) before after h.1 in omega arith

-- ---- all inboxes

posts_push : (n : ℕ) (posts : List Post) (spares : List Spare) (post : Post) (spare : Spare) → IsPostOf spare n post
    → ArePosts n posts spares → ArePosts n (posts ++ post ∷ []) (spares ++ spare ∷ [])
posts_push n [] [] post spare is all = (is, tt)
posts_push n [] (s ∷ spares) post spare is all = absurd all
posts_push n (p ∷ posts) [] post spare is all = absurd all
posts_push n (p ∷ posts) (s ∷ spares) post spare is all = (all.0, posts_push n posts spares post spare is all.1)

pub posts_more : (n : ℕ) (before after : List (Vec Post)) (spares : List Spare) (old spare : Spare)
    → sends_on spare.slot ≡ sends_on old.slot → AreHired old n before after → HavePosts n before spares
    → HavePosts n after (spares ++ spare ∷ [])
posts_more n [] [] spares old spare same h all = tt
posts_more n [] (row ∷ after) spares old spare same h all = absurd h
posts_more n (row ∷ before) [] spares old spare same h all = absurd h
posts_more n (row ∷ before) (longer ∷ after) spares old spare same h all =
    let got = h.0 in
    let is : IsPostOf spare n got.0 = (got.2.0 ∙ sym same, got.2.1) in (
      subst (λ (posts : List Post). ArePosts n posts (spares ++ spare ∷ [])) (sym got.1)
          (posts_push n row.items spares got.0 spare is all.0),
      posts_more (n + 1) before after spares old spare same h.1 all.1,
    )

-- what a new inbox, at which all are hired, adds
pub opens_next : (sites n : ℕ) (before after : List (Vec Post)) (spares spares' : List Spare) (old spare : Spare)
    → sends_on spare.slot ≡ sends_on old.slot → (view spare.way).made ≡ sites → spares' ≡ spares ++ spare ∷ []
    → AreHired old 0 before after
    → (length before ≡ sites) × (length spares ≡ n) × HavePosts 0 before spares × All (λ (s : Spare). (view s.way).made ≡ sites) spares
    → (length after ≡ sites) × (length spares' ≡ n + 1) × HavePosts 0 after spares'
    × All (λ (s : Spare). (view s.way).made ≡ sites) spares'
opens_next sites n before after spares spares' old spare same made pushed hired all = (
  hired_count old 0 before after hired ∙ all.0,
  ap (λ (l : List Spare). length l) pushed ∙ (length-append spares (spare ∷ []) ∙ ap (λ (k : ℕ). k + 1) all.1),
  subst (λ (l : List Spare). HavePosts 0 after l) (sym pushed) (posts_more 0 before after spares old spare same hired all.2),
  subst (λ (l : List Spare). All (λ (s : Spare). (view s.way).made ≡ sites) l) (sym pushed)
      (All-push (λ (s : Spare). (view s.way).made ≡ sites) spares spare all.3 made),
)

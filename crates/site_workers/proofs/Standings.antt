-- Each step keeps the rule of an inbox.
use Rattle.std.proofs.Common.{◌≡◌, ◌≢◌, ℕ, zero, suc, ◌+◌, ◌<◌, ◌≤◌, Bool, true, false, true≢false, List, [], ◌∷◌, ◌++◌, length, set, sym, refl, ap, ◌∙◌, subst, ⊎_elim, ◌⊎◌, inl, inr, arith}
use Rattle.std.specs.List.{All, Contains}
use Rattle.std.proofs.lemmas.List.Elements.{All-nil, All-push, All-head, All-tail, All-weaker, Contains-append_left, Contains-push}
use mathlib.Core.Option.{some, some-ne-none, some-injective}
use lib.ListN.{get_elem?}
use Rattle.atomic_table.proofs.Lists.{at_set, set_here, set_else, at_longer, at_snoc}
use native.Mathlib.Decide.{ℕ_discrete}
use mathlib.Core.Logic.{dite}
use Rattle.crossbeam_channel.specs.Fifo.{Pushes, Pops, Forks, Learns}
use Rattle.field_bounds.specs.declared.id.SiteNo.{SiteNo}
use Rattle.site_workers.specs.declared.inbox.Letter.{Letter}
use Rattle.site_workers.specs.declared.inbox.Letter.TheVariants.{Stated, End}
use Rattle.site_workers.specs.declared.inbox.Role.{Role}
use Rattle.site_workers.specs.declared.inbox.Role.TheVariants.{Maker, Worker, Courier}
use Rattle.site_workers.specs.declared.inbox.View.{View}
use Rattle.site_workers.specs.Inboxes.{first_maker, new_courier, site_no, maker_after, next_worker, hire_leaves, hire_cuts, after_put, after_take, WasPutBy, IsPut, AllPut, MayPut, AreApart, AreMade, IsKept}

-- w knows at least what v knew: the role is the same, each letter that was put still is, and no fewer workers were made
abbrev Grows : View → View → Type 0
Grows v w = (w.role ≡ v.role) × ((x : Letter) → Contains v.put x → Contains w.put x) × (v.made ≤ w.made)

in_range : {A : Type 0} (l : List A) (i : ℕ) (a : A) → get_elem? l i ≡ some a → i < length l
in_range [] i a e = absurd (some-ne-none a (sym e))
in_range (x ∷ xs) zero a e = omega arith
in_range (x ∷ xs) (suc i) a e = let h = in_range xs i a e in omega arith

put_stays : (views : List View) (way : ℕ) (v w : View) → get_elem? views way ≡ some v → Grows v w → (site : SiteNo) (x : Letter)
    → WasPutBy views site x → WasPutBy (set views way w) site x
put_stays views way v w at grows site x by =
    dite (ℕ_discrete by.0 way)
    (λ (same : by.0 ≡ way).
    let is : v ≡ by.1 = some-injective v by.1 (sym at ∙ (ap (λ (i : ℕ). get_elem? views i) (sym same) ∙ by.2)) in (
      way,
      w,
      set_here views way w (in_range views way v at),
      (grows.0 ∙ (ap (λ (u : View). u.role) is ∙ by.3)),
      grows.1 x (subst (λ (u : View). Contains u.put x) (sym is) by.4),
    ))
    (λ (other : by.0 ≢ way). (by.0, by.1, set_else views way by.0 w other ∙ by.2, by.3, by.4))

stays : (views : List View) (way : ℕ) (v w : View) → get_elem? views way ≡ some v → Grows v w → (x : Letter) → IsPut views x
    → IsPut (set views way w) x
stays views way v w at grows (Stated s) stands = put_stays views way v w at grows s.from (Stated s) stands
stays views way v w at grows (End site) stands = tt

stays_longer : (views : List View) (u : View) (x : Letter) → IsPut views x → IsPut (views ++ u ∷ []) x
stays_longer views u (Stated s) by = (by.0, by.1, at_longer views (u ∷ []) by.0 by.1 by.2, by.3, by.4)
stays_longer views u (End site) stands = tt

-- one view grows, and what it has taken stands afterwards
changes : (letters : List Letter) (views : List View) (way : ℕ) (v w : View) → get_elem? views way ≡ some v → Grows v w
    → AllPut letters views → All (IsPut (set views way w)) w.taken → AllPut letters (set views way w)
changes letters views way v w at grows h mine = (
  All-weaker (IsPut views) (IsPut (set views way w)) (stays views way v w at grows) letters h.0,
  λ j u e. ⊎_elim
      (λ (t : (j ≡ way) × (w ≡ u)). subst (λ (y : View). All (IsPut (set views way w)) y.taken) t.1 mine)
      (λ (t : (j ≢ way) × (get_elem? views j ≡ some u)).
      All-weaker (IsPut views) (IsPut (set views way w)) (stays views way v w at grows) u.taken (h.1 j u t.1))
      (at_set views way j w u e),
)

same_put : (v w : View) → w.role ≡ v.role → w.put ≡ v.put → v.made ≤ w.made → Grows v w
same_put v w role put made = (role, λ x has. subst (λ (xs : List Letter). Contains xs x) (sym put) has, made)

-- a letter that its worker has put stands
just_put : (views : List View) (way : ℕ) (v : View) → get_elem? views way ≡ some v → (x : Letter) → MayPut v x
    → IsPut (set views way (after_put v x)) x
just_put views way v at (Stated s) may = (
  way,
  after_put v (Stated s),
  set_here views way (after_put v (Stated s)) (in_range views way v at),
  may,
  Contains-push v.put (Stated s),
)
just_put views way v at (End site) may = tt

-- ---- roles

-- which role one is
is_maker : Role → Bool
is_maker Maker = true
is_maker (Worker site) = false
is_maker Courier = false

is_courier : Role → Bool
is_courier Maker = false
is_courier (Worker site) = false
is_courier Courier = true

number_of : Role → ℕ
number_of Maker = 0
number_of (Worker site) = site.0
number_of Courier = 0

courier_no_maker : Courier ≢ Maker
unfolding is_maker
courier_no_maker is = true≢false (sym (ap is_maker is))

worker_no_maker : (site : SiteNo) → Worker site ≢ Maker
unfolding is_maker
worker_no_maker site is = true≢false (sym (ap is_maker is))

no_worker : (site : SiteNo) → Maker ≢ Worker site
no_worker site is = worker_no_maker site (sym is)

courier_no_worker : (site : SiteNo) → Courier ≢ Worker site
unfolding is_courier
courier_no_worker site is = true≢false (ap is_courier is)

same_number : (a b : SiteNo) → Worker a ≡ Worker b → a.0 ≡ b.0
unfolding number_of
same_number a b is = ap number_of is

-- ---- names

-- what stood at a place before one view grew
abbrev Before : List View → ℕ → View → Type 0
Before views j b = (a : View) × (get_elem? views j ≡ some a) × (b.role ≡ a.role) × (a.made ≤ b.made)

before : (views : List View) (way : ℕ) (v w : View) → get_elem? views way ≡ some v → Grows v w → (j : ℕ) (b : View)
    → get_elem? (set views way w) j ≡ some b → Before views j b
before views way v w at grows j b e =
    ⊎_elim
    (λ (t : (j ≡ way) × (w ≡ b)). subst (λ (y : View). Before views j y) t.1
    (v, ap (λ (i : ℕ). get_elem? views i) t.0 ∙ at, grows.0, grows.2))
    (λ (t : (j ≢ way) × (get_elem? views j ≡ some b)). (b, t.1, refl, omega arith))
    (at_set views way j w b e)

apart_after : (views : List View) (way : ℕ) (v w : View) → get_elem? views way ≡ some v → Grows v w → AreApart views
    → AreApart (set views way w)
apart_after views way v w at grows apart i j a b ea eb same named =
    let one : Before views i a = before views way v w at grows i a ea in
    let two : Before views j b = before views way v w at grows j b eb in
    apart i j one.0 two.0 one.1 two.1 (sym one.2 ∙ (same ∙ two.2)) (λ (is : one.0.role ≡ Courier). named (one.2 ∙ is))

made_after : (views : List View) (way : ℕ) (v w : View) → get_elem? views way ≡ some v → Grows v w → AreMade views
    → AreMade (set views way w)
made_after views way v w at grows made i j a b site ea eb maker worker =
    let one : Before views i a = before views way v w at grows i a ea in
    let two : Before views j b = before views way v w at grows j b eb in
    let below : site.0 < one.0.made = made i j one.0 two.0 site one.1 two.1 (sym one.2 ∙ maker) (sym two.2 ∙ worker) in
    let more : one.0.made ≤ a.made = one.3 in omega arith

keeps_names : (letters items : List Letter) (views : List View) (way : ℕ) (v w : View) → get_elem? views way ≡ some v → Grows v w
    → IsKept letters views → AllPut items (set views way w) → IsKept items (set views way w)
keeps_names letters items views way v w at grows h all = record {
  put = all;
  apart = apart_after views way v w at grows h.apart;
  made = made_after views way v w at grows h.made;
}

-- ---- steps

pub begins : IsKept [] (first_maker ∷ [])
begins = record {
  put = (
    All-nil (IsPut (first_maker ∷ [])),
    λ way v e. subst (λ (y : View). All (IsPut (first_maker ∷ [])) y.taken) (only way v e).1
        (All-nil (IsPut (first_maker ∷ []))),
  );
  apart = λ i j v w ei ej same named. (only i v ei).0 ∙ sym (only j w ej).0;
  made = λ i j v w site ei ej maker worker. absurd (no_worker site (ap (λ (u : View). u.role) (only j w ej).1 ∙ worker));
}
  where
    only : (i : ℕ) (v : View) → get_elem? (first_maker ∷ []) i ≡ some v → (i ≡ 0) × (first_maker ≡ v)
    only zero v e = (refl, some-injective first_maker v e)
    only (suc i) v e = absurd (some-ne-none v (sym e))

pub puts : (n way : ℕ) (v : View) (x : Letter) → MayPut v x → Pushes IsKept n way v x (λ w. w ≡ after_put v x)
puts n way v x may items views room h at =
    let w : View = after_put v x in
    let views' : List View = set views way w in
    let grows : Grows v w = (refl, λ y has. Contains-append_left v.put (x ∷ []) y has, omega arith) in
    let all : AllPut items views' = changes items views way v w at grows h.put
    (All-weaker (IsPut views) (IsPut views') (stays views way v w at grows) v.taken (h.put.1 way v at)) in
    let whole : AllPut (items ++ x ∷ []) views' = (All-push (IsPut views') items x all.0 (just_put views way v at x may), all.1) in
    (w, keeps_names items (items ++ x ∷ []) views way v w at grows h whole, refl)

pub takes : (way : ℕ) (v : View) → Pops IsKept way v (λ x w. w ≡ after_take v x)
takes way v x items views h at =
    let w : View = after_take v x in
    let views' : List View = set views way w in
    let grows : Grows v w = same_put v w refl refl (omega arith) in
    let keeps = stays views way v w at grows in
    let mine : All (IsPut views') w.taken = All-push (IsPut views') v.taken x
    (All-weaker (IsPut views) (IsPut views') keeps v.taken (h.put.1 way v at)) (keeps x (All-head (IsPut views) x items h.put.0)) in
    let all : AllPut items views' = changes items views way v w at grows (All-tail (IsPut views) x items h.put.0, h.put.1) mine in
    (w, keeps_names (x ∷ items) items views way v w at grows h all, refl)

-- a new way that has taken nothing
joins : (items : List Letter) (views : List View) (u : View) → u.taken ≡ [] → AllPut items views → AllPut items (views ++ u ∷ [])
joins items views u none h =
    let longer : (y : Letter) → IsPut views y → IsPut (views ++ u ∷ []) y = stays_longer views u in (
      All-weaker (IsPut views) (IsPut (views ++ u ∷ [])) longer items h.0,
      λ j y e. ⊎_elim
          (λ (old : get_elem? views j ≡ some y). All-weaker (IsPut views) (IsPut (views ++ u ∷ [])) longer y.taken (h.1 j y old))
          (λ (is : u ≡ y). subst (λ (z : View). All (IsPut (views ++ u ∷ [])) z.taken) is
          (subst (λ (xs : List Letter). All (IsPut (views ++ u ∷ [])) xs) (sym none) (All-nil (IsPut (views ++ u ∷ [])))))
          (at_snoc views u y j e),
    )

forks : (items : List Letter) (views : List View) (way : ℕ) (v left right : View) → get_elem? views way ≡ some v → Grows v left
    → left.taken ≡ v.taken → right.taken ≡ [] → AllPut items views → AllPut items (set views way left ++ right ∷ [])
forks items views way v left right at grows taken none h =
    let views' : List View = set views way left in
    let mine : All (IsPut views') left.taken = subst (λ (xs : List Letter). All (IsPut views') xs) (sym taken)
    (All-weaker (IsPut views) (IsPut views') (stays views way v left at grows) v.taken (h.1 way v at)) in
    joins items views' right none (changes items views way v left at grows h mine)

-- the place of a view in a list that one more joins: an old place, or the new one
placed : (views : List View) (u b : View) (j : ℕ) → get_elem? (views ++ u ∷ []) j ≡ some b
    → (get_elem? views j ≡ some b) ⊎ ((j ≡ length views) × (u ≡ b))
placed [] u b zero e = inr (refl, some-injective u b e)
placed [] u b (suc j) e = absurd (some-ne-none b (sym e))
placed (x ∷ xs) u b zero e = inl e
placed (x ∷ xs) u b (suc j) e =
    ⊎_elim (λ (old : get_elem? xs j ≡ some b). inl old)
    (λ (new : (j ≡ length xs) × (u ≡ b)). let same : j ≡ length xs = new.0 in inr (omega arith, new.1)) (placed xs u b j e)

-- nobody else has the role of the one that joins
abbrev IsNew : List View → View → Type 0
IsNew views u = (j : ℕ) (b : View) → get_elem? views j ≡ some b → b.role ≡ u.role → b.role ≡ Courier

apart_more : (views : List View) (u : View) → IsNew views u → AreApart views → AreApart (views ++ u ∷ [])
apart_more views u new apart i j a b ea eb same named =
    ⊎_elim
    (λ (p : get_elem? views i ≡ some a).
    ⊎_elim
    (λ (q : get_elem? views j ≡ some b). apart i j a b p q same named)
    (λ (q : (j ≡ length views) × (u ≡ b)).
    absurd (named (new i a p (same ∙ sym (ap (λ (y : View). y.role) q.1)))))
    (placed views u b j eb))
    (λ (p : (i ≡ length views) × (u ≡ a)).
    ⊎_elim
    (λ (q : get_elem? views j ≡ some b).
    absurd (named (same ∙ new j b q (sym same ∙ sym (ap (λ (y : View). y.role) p.1)))))
    (λ (q : (j ≡ length views) × (u ≡ b)). p.0 ∙ sym q.0)
    (placed views u b j eb))
    (placed views u a i ea)

-- the one that joins is no maker; where it is a worker, its number is below what the maker has made
abbrev IsMade : List View → View → Type 0
IsMade views u = (u.role ≢ Maker)
    × ((i : ℕ) (a : View) (site : SiteNo) → get_elem? views i ≡ some a → a.role ≡ Maker → u.role ≡ Worker site → site.0 < a.made)

made_more : (views : List View) (u : View) → IsMade views u → AreMade views → AreMade (views ++ u ∷ [])
made_more views u new made i j a b site ea eb maker worker =
    ⊎_elim
    (λ (p : get_elem? views i ≡ some a).
    ⊎_elim
    (λ (q : get_elem? views j ≡ some b). made i j a b site p q maker worker)
    (λ (q : (j ≡ length views) × (u ≡ b)). new.1 i a site p maker (ap (λ (y : View). y.role) q.1 ∙ worker))
    (placed views u b j eb))
    (λ (p : (i ≡ length views) × (u ≡ a)). absurd (new.0 (ap (λ (y : View). y.role) p.1 ∙ maker)))
    (placed views u a i ea)

pub admits : (way : ℕ) (v : View) → Forks IsKept way v v new_courier
admits way v items views h at =
    let grows : Grows v v = same_put v v refl refl (omega arith) in
    let views' : List View = set views way v in record {
      put = forks items views way v v new_courier at grows refl refl h.put;
      apart = apart_more views' new_courier (λ j b e is. is) (apart_after views way v v at grows h.apart);
      made = made_more views' new_courier (courier_no_maker, λ i a site e maker is. absurd (courier_no_worker site is))
          (made_after views way v v at grows h.made);
    }

-- the maker counts the worker that it makes
makes : (way : ℕ) (v : View) → v.role ≡ Maker → Forks IsKept way v (maker_after v) (next_worker v)
makes way v role items views h at =
    let w : View = maker_after v in
    let u : View = next_worker v in
    let grows : Grows v w = same_put v w (sym role) refl (omega arith) in
    let views' : List View = set views way w in
    let new : IsNew views' u = λ j b e is.
    let old : Before views j b = before views way v w at grows j b e in
    let below : v.made < v.made = h.made way j v old.0 (site_no v.made) at old.1 role (sym old.2 ∙ is) in
    absurd (omega arith) in
    let counted : IsMade views' u = (
      worker_no_maker (site_no v.made),
      λ i a site e maker is.
          let old : Before views i a = before views way v w at grows i a e in
          let here : i ≡ way = h.apart i way old.0 v old.1 at (sym old.2 ∙ (maker ∙ sym role))
          (λ (courier : old.0.role ≡ Courier). courier_no_maker (sym courier ∙ (sym old.2 ∙ maker))) in
          let now : w ≡ a = some-injective w a
          (sym (set_here views way w (in_range views way v at)) ∙ (ap (λ (k : ℕ). get_elem? views' k) (sym here) ∙ e)) in
          let count : v.made + 1 ≡ a.made = ap (λ (y : View). y.made) now in
          let number : v.made ≡ site.0 = same_number (site_no v.made) site is in omega arith,
    ) in record {
      put = forks items views way v w u at grows refl refl h.put;
      apart = apart_more views' u new (apart_after views way v w at grows h.apart);
      made = made_more views' u counted (made_after views way v w at grows h.made);
    }

-- what a hire leaves and cuts, of the maker
pub leaves_maker : (v : View) → v.role ≡ Maker → hire_leaves v ≡ maker_after v
leaves_maker v role = rw role refl

pub cuts_worker : (v : View) → v.role ≡ Maker → hire_cuts v ≡ next_worker v
cuts_worker v role = rw role refl

pub hires : (way : ℕ) (v : View) → v.role ≡ Maker → Forks IsKept way v (hire_leaves v) (hire_cuts v)
hires way v role =
    subst (λ (l : View). Forks IsKept way v l (hire_cuts v)) (sym (leaves_maker v role))
    (subst (λ (r : View). Forks IsKept way v (maker_after v) r) (sym (cuts_worker v role)) (makes way v role))

pub learns : (way : ℕ) (v : View) → Learns IsKept way v (λ items. Unit {0})
learns way v items views h at = tt

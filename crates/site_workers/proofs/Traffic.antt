-- What goes from site to site, entry by entry.
use Rattle.std.proofs.Common.{◌≡◌, ◌↔◌, ℕ, zero, suc, ◌+◌, ◌<◌, ◌≤◌, ◌⊎◌, List, [], ◌∷◌, ◌++◌, length, get_or, take, reverse, sym, ap, subst, ◌∙◌, inl, inr, ⊎_elim, arith, Some, Contains}
use Rattle.std.proofs.lemmas.List.{take_more, take_all, get_or-map, reverse-append, map-append}
use Rattle.std.specs.Global.{Vec}
use Rattle.field_bounds.specs.declared.entry.Command.TheVariants.{Accept}
use Rattle.field_bounds.specs.declared.entry.Entry.{Entry}
use Rattle.field_bounds.specs.declared.entry.Statement.{Statement}
use Rattle.field_bounds.specs.Statements.{statement_of, IsIssued}
use Rattle.site_workers.specs.Scripts.{histories_of, history_at, HasAccept}
use Rattle.site_workers.specs.Crossing.{AreIssued, AreAccepted, set_at}

-- ---- an entry of a list

accept_left : (told : Statement) (a b : List Entry) → HasAccept told a → HasAccept told (a ++ b)
accept_left told [] b h = absurd h
accept_left told (e ∷ a) b (inl now) = inl now
accept_left told (e ∷ a) b (inr before) = inr (accept_left told a b before)

accept_right : (told : Statement) (a b : List Entry) → HasAccept told b → HasAccept told (a ++ b)
accept_right told [] b h = h
accept_right told (e ∷ a) b h = inr (accept_right told a b h)

pub accept_here : (told : Statement) (h : List Entry) (i : ℕ) (d : Entry) → i < length h → (get_or h i d).command ≡ Accept told
    → HasAccept told (reverse h)
accept_here told [] i d below is = absurd (omega arith)
accept_here told (e ∷ h) zero d below is = subst (λ (l : List Entry). HasAccept told l) (sym (reverse-append (e ∷ []) h))
    (accept_right told (reverse h) (e ∷ []) (inl is))
accept_here told (e ∷ h) (suc i) d below is = subst (λ (l : List Entry). HasAccept told l) (sym (reverse-append (e ∷ []) h))
    (accept_left told (reverse h) (e ∷ []) (accept_here told h i d (omega arith) is))

pub turned_more : (h : List Entry) (i : ℕ) (d : Entry) → i < length h → reverse (take (i + 1) h) ≡ get_or h i d ∷ reverse (take i h)
turned_more h i d below = ap (λ (l : List Entry). reverse l) (take_more h i d below) ∙ reverse-append (take i h) (get_or h i d ∷ [])

-- ---- the statements of a front of a history, as a set

module _ (h : List Entry) (i : ℕ) (d : Entry) (set next : List Statement) (below : i < length h) where
  pub issued_step : ((told : Statement) → Contains set told ↔ IsIssued told (reverse (take i h)))
      → ((told : Statement) → Contains next told ↔ ((statement_of (get_or h i d) ≡ Some told) ⊎ Contains set told))
      → (told : Statement) → Contains next told ↔ IsIssued told (reverse (take (i + 1) h))
  issued_step before put told =
      subst (λ (l : List Entry). Contains next told ↔ IsIssued told l) (sym (turned_more h i d below)) (
        λ has. ⊎_elim (λ (now : statement_of (get_or h i d) ≡ Some told). inl now) (λ (old : Contains set told). inr ((before told).0 old))
            ((put told).0 has),
        λ got. (put told).1 (⊎_elim (λ (now : statement_of (get_or h i d) ≡ Some told). inl now)
            (λ (old : IsIssued told (reverse (take i h))). inr ((before told).1 old)) got),
      )

  pub accepted_step : ((told : Statement) → Contains set told ↔ HasAccept told (reverse (take i h)))
      → ((told : Statement) → Contains next told ↔ (((get_or h i d).command ≡ Accept told) ⊎ Contains set told))
      → (told : Statement) → Contains next told ↔ HasAccept told (reverse (take (i + 1) h))
  accepted_step before put told =
      subst (λ (l : List Entry). Contains next told ↔ HasAccept told l) (sym (turned_more h i d below)) (
        λ has. ⊎_elim (λ (now : (get_or h i d).command ≡ Accept told). inl now) (λ (old : Contains set told). inr ((before told).0 old))
            ((put told).0 has),
        λ got. (put told).1 (⊎_elim (λ (now : (get_or h i d).command ≡ Accept told). inl now)
            (λ (old : HasAccept told (reverse (take i h))). inr ((before told).1 old)) got),
      )

pub issued_whole : (h : List Entry) (i : ℕ) (set : List Statement) → length h ≤ i
    → ((told : Statement) → Contains set told ↔ IsIssued told (reverse (take i h))) → (told : Statement)
    → Contains set told ↔ IsIssued told (reverse h)
issued_whole h i set all known told = subst (λ (l : List Entry). Contains set told ↔ IsIssued told (reverse l)) (take_all i h all)
    (known told)

pub accepted_whole : (h : List Entry) (i : ℕ) (set : List Statement) → length h ≤ i
    → ((told : Statement) → Contains set told ↔ HasAccept told (reverse (take i h))) → (told : Statement)
    → Contains set told ↔ HasAccept told (reverse h)
accepted_whole h i set all known told = subst (λ (l : List Entry). Contains set told ↔ HasAccept told (reverse l)) (take_all i h all)
    (known told)

-- ---- the sets of all histories

issued_more : (hs : List (List Entry)) (sets : List (List Statement)) (h : List Entry) (set : List Statement) → AreIssued hs sets
    → ((told : Statement) → Contains set told ↔ IsIssued told (reverse h))
    → AreIssued (hs ++ h ∷ []) (sets ++ set ∷ [])
issued_more [] [] h set all one = (one, tt)
issued_more [] (s ∷ sets) h set all one = absurd all
issued_more (g ∷ hs) [] h set all one = absurd all
issued_more (g ∷ hs) (s ∷ sets) h set all one = (all.0, issued_more hs sets h set all.1 one)

accepted_more : (hs : List (List Entry)) (sets : List (List Statement)) (h : List Entry) (set : List Statement) → AreAccepted hs sets
    → ((told : Statement) → Contains set told ↔ HasAccept told (reverse h))
    → AreAccepted (hs ++ h ∷ []) (sets ++ set ∷ [])
accepted_more [] [] h set all one = (one, tt)
accepted_more [] (s ∷ sets) h set all one = absurd all
accepted_more (g ∷ hs) [] h set all one = absurd all
accepted_more (g ∷ hs) (s ∷ sets) h set all one = (all.0, accepted_more hs sets h set all.1 one)

histories_more : (vs : List (Vec Entry)) (i : ℕ) (v : Vec Entry) → i < length vs → v ≡ get_or vs i v
    → histories_of (take (i + 1) vs) ≡ histories_of (take i vs) ++ v.items ∷ []
histories_more vs i v below is =
    ap histories_of (take_more vs i v below ∙ ap (λ (w : Vec Entry). take i vs ++ w ∷ []) (sym is))
    ∙ map-append (λ (w : Vec Entry). w.items) (take i vs) (v ∷ [])

pub issued_next : (vs : List (Vec Entry)) (i : ℕ) (v : Vec Entry) (shown : List Entry) (sets next : List (List Statement))
    (set : List Statement) → i < length vs → v ≡ get_or vs i v → shown ≡ v.items → next ≡ sets ++ set ∷ []
    → AreIssued (histories_of (take i vs)) sets → ((told : Statement) → Contains set told ↔ IsIssued told (reverse shown))
    → AreIssued (histories_of (take (i + 1) vs)) next
issued_next vs i v shown sets next set below is showing pushed before one =
    let now : (told : Statement) → Contains set told ↔ IsIssued told (reverse v.items) =
    subst (λ (l : List Entry). (told : Statement) → Contains set told ↔ IsIssued told (reverse l)) showing one in
    subst (λ (l : List (List Entry)). AreIssued l next) (sym (histories_more vs i v below is))
    (subst (λ (l : List (List Statement)). AreIssued (histories_of (take i vs) ++ v.items ∷ []) l) (sym pushed)
    (issued_more (histories_of (take i vs)) sets v.items set before now))

pub accepted_next : (vs : List (Vec Entry)) (i : ℕ) (v : Vec Entry) (shown : List Entry) (sets next : List (List Statement))
    (set : List Statement) → i < length vs → v ≡ get_or vs i v → shown ≡ v.items → next ≡ sets ++ set ∷ []
    → AreAccepted (histories_of (take i vs)) sets → ((told : Statement) → Contains set told ↔ HasAccept told (reverse shown))
    → AreAccepted (histories_of (take (i + 1) vs)) next
accepted_next vs i v shown sets next set below is showing pushed before one =
    let now : (told : Statement) → Contains set told ↔ HasAccept told (reverse v.items) =
    subst (λ (l : List Entry). (told : Statement) → Contains set told ↔ HasAccept told (reverse l)) showing one in
    subst (λ (l : List (List Entry)). AreAccepted l next) (sym (histories_more vs i v below is))
    (subst (λ (l : List (List Statement)). AreAccepted (histories_of (take i vs) ++ v.items ∷ []) l) (sym pushed)
    (accepted_more (histories_of (take i vs)) sets v.items set before now))

none_in : (told : Statement) → Contains [] told → ⊥
none_in told has = omega (arith, has.1)

pub issued_at : (hs : List (List Entry)) (sets : List (List Statement)) → AreIssued hs sets → (s : ℕ) (told : Statement)
    → Contains (set_at sets s) told ↔ IsIssued told (reverse (history_at hs s))
issued_at [] [] all s told = (λ has. absurd (none_in told has), λ is. absurd is)
issued_at [] (set ∷ sets) all s told = absurd all
issued_at (h ∷ hs) [] all s told = absurd all
issued_at (h ∷ hs) (set ∷ sets) all zero told = all.0 told
issued_at (h ∷ hs) (set ∷ sets) all (suc s) told = issued_at hs sets all.1 s told

pub accepted_at : (hs : List (List Entry)) (sets : List (List Statement)) → AreAccepted hs sets → (s : ℕ) (told : Statement)
    → Contains (set_at sets s) told ↔ HasAccept told (reverse (history_at hs s))
accepted_at [] [] all s told = (λ has. absurd (none_in told has), λ is. absurd is)
accepted_at [] (set ∷ sets) all s told = absurd all
accepted_at (h ∷ hs) [] all s told = absurd all
accepted_at (h ∷ hs) (set ∷ sets) all zero told = all.0 told
accepted_at (h ∷ hs) (set ∷ sets) all (suc s) told = accepted_at hs sets all.1 s told

pub history_here : (vs : List (Vec Entry)) (s : ℕ) (v : Vec Entry) → s < length vs → v ≡ get_or vs s v
    → history_at (histories_of vs) s ≡ v.items
history_here vs s v below is = get_or-map (λ (w : Vec Entry). w.items) vs s v [] below ∙ ap (λ (w : Vec Entry). w.items) (sym is)

-- The other sites move the field, one after another.
use Rattle.std.proofs.Common.{◌≡◌, ℕ, zero, suc, ◌-◌, ◌<◌, ◌≤◌, ◌≢◌, min, true, false, List, [], ◌∷◌, ◌++◌, length, refl, sym, ◌∙◌, ap, subst, inl, inr, arith, None, All}
use Rattle.std.proofs.lemmas.Bool.{cases_eq, eq-eqb, ne_eqb}
use Rattle.std.proofs.lemmas.Int.{ints}
use Rattle.std.proofs.lemmas.List.Elements.{All-append}
use Rattle.std.specs.Prelude.{ℤ, pos, ◌+ℤ◌, ◌-ℤ◌, neg_ℤ, unsigned_abs}
use Rattle.field_bounds.specs.declared.kind.Kind.{Kind}
use Rattle.field_bounds.specs.declared.kind.Kind.TheVariants.{Lower, Raise}
use Rattle.field_bounds.specs.declared.id.TxnId.{TxnId}
use Rattle.field_bounds.specs.declared.id.SiteNo.{SiteNo}
use Rattle.field_bounds.specs.declared.id.FieldNo.{FieldNo}
use Rattle.field_bounds.specs.declared.entry.Command.{Command}
use Rattle.field_bounds.specs.declared.entry.Command.TheVariants.{Begin, Escrow, Commit}
use Rattle.field_bounds.specs.declared.entry.Entry.{Entry}
use Rattle.field_bounds.specs.Kind.{kind_of}
use Rattle.field_bounds.specs.Schema.{SchemaValue}
use Rattle.field_bounds.specs.Limits.{IsSchema}
use Rattle.field_bounds.specs.Parts.{sum_below}
use Rattle.field_bounds.specs.Effects.{fresh, share, effects, is_committed, granted_sizes}
use Rattle.field_bounds.specs.Owed.{Place, place, first, refusals, is_up, count_since, is_begun_reply, max_number, max_change}
use Rattle.field_bounds.specs.Central.{own, at_site, committed_value, IsSound}
use Rattle.field_bounds.proofs.Traces.{own_here, own_there}
use Rattle.world_steps.specs.declared.step.WorldStep.{WorldStep}
use Rattle.world_steps.specs.World.{StepFits, trace_by}
use Rattle.reaching_steps.specs.Reach.{fine, towards, next_txn, moves, over_sites}
use Rattle.reaching_steps.proofs.Sites.{NoneOpen}
use Rattle.reaching_steps.proofs.Plans.{sound_of, Went, went_none, went_one, went_on, went_as, went_same, Leads, leads_task, leads_over, Claim}
use Rattle.reaching_steps.proofs.Going.{here, made, goes_do}
use Rattle.reaching_steps.proofs.Balance.{share_small}
use Rattle.reaching_steps.proofs.Changing.{with_begin, with_escrow, with_commit, may_begin, may_escrow, may_commit, settles, moved}

-- ---- a number with the sign of a kind

abbrev pub signed : Kind → ℕ → ℤ
signed Raise n = pos n
signed Lower n = neg_ℤ (pos n)

abbrev pub of_kind : Kind → ℕ → ℕ → ℕ
of_kind Lower lower raise = lower
of_kind Raise lower raise = raise

min_zero : (n : ℕ) → min 0 n ≡ 0
min_zero n = omega arith

pub towards_is : (k : Kind) (d lower raise : ℕ) → towards (signed k d) lower raise ≡ signed k (min d (of_kind k lower raise))
towards_is Raise d lower raise = refl
towards_is Lower zero lower raise = ap pos (min_zero raise) ∙ sym (ap (λ (n : ℕ). neg_ℤ (pos n)) (min_zero lower))
towards_is Lower (suc d) lower raise = refl

pub size_signed : (k : Kind) (n : ℕ) → unsigned_abs (signed k n) ≡ n
size_signed Raise n = refl
size_signed Lower zero = refl
size_signed Lower (suc n) = refl

pub kind_signed : (k : Kind) (n : ℕ) → n ≢ 0 → kind_of (signed k n) ≡ k
kind_signed Raise n some = refl
kind_signed Lower zero some = absurd (some refl)
kind_signed Lower (suc n) some = refl

less_left : (k : Kind) (target before : ℤ) (d q left : ℕ) → target -ℤ before ≡ signed k d → q ≤ d → left ≡ d - q
    → target -ℤ (before +ℤ signed k q) ≡ signed k left
less_left Raise target before d q left h small is = omega (arith, ints, h, small, is)
less_left Lower target before d q left h small is =
    let neg : (n : ℕ) → neg_ℤ (pos n) ≡ (pos 0 -ℤ pos n) = λ n. omega (arith, ints) in
    omega (arith, ints, h, small, is, neg d, neg q, neg left)

-- ---- the steps of a site

-- the change that it makes towards the target
abbrev pub change_to : SchemaValue → ℕ → ℤ → ℕ → List Entry → ℤ
change_to schema f target s t =
    towards (target -ℤ committed_value schema t f) (share (fresh schema s) f Lower (at_site schema t s))
    (share (fresh schema s) f Raise (at_site schema t s))

-- none at the named site, and none where there is nothing to change
pub none_there : (schema : SchemaValue) (named f : ℕ) (target : ℤ) (s : ℕ) (t : List Entry) → s ≡ named
    → moves schema named f target s t ≡ []
none_there schema named f target s t same = rw (eq-eqb s named same) refl

pub none_are : (schema : SchemaValue) (named f : ℕ) (target : ℤ) (s : ℕ) (t : List Entry) → s ≢ named
    → unsigned_abs (change_to schema f target s t) ≡ 0 → moves schema named f target s t ≡ []
none_are schema named f target s t apart none = rw (ne_eqb s named apart, none) refl

pub three_are : (schema : SchemaValue) (named f : ℕ) (target : ℤ) (s : ℕ) (t : List Entry) {change : ℤ} → s ≢ named
    → change ≡ change_to schema f target s t → unsigned_abs change ≢ 0
    → (fine s Begin ∷ fine s (Escrow (next_txn schema t s) (record { 0 = f }) change) ∷ fine s (Commit (next_txn schema t s)) ∷ [])
    ≡ moves schema named f target s t
three_are schema named f target s t {change} apart is some = rw (← is, ne_eqb s named apart, ne_eqb (unsigned_abs change) 0 some) refl

-- ---- one site moves the field

module _ (schema : SchemaValue) (good : IsSchema schema) (named f : ℕ) (known : f < length schema.fields) where
  -- a site that is up, has a number left and has nothing open
  pub record Idle (t : List Entry) (s : ℕ) : Type 0 where
    pub up : is_up (fresh schema s) (own s t) ≡ true
    pub left : count_since is_begun_reply (own s t) < max_number
    pub none : NoneOpen (at_site schema t s)

  -- what the three steps leave
  pub record Moved (s : ℕ) (change : ℤ) (t u : List Entry) : Type 0 where
    pub others : (j : ℕ) → j ≢ s → own j u ≡ own j t
    pub value : committed_value schema u f ≡ (committed_value schema t f +ℤ change)

  own_same : (s : ℕ) (e : Entry) (t : List Entry) (o : List Entry) → e.site.0 ≡ s → own s t ≡ o → own s (e ∷ t) ≡ e ∷ o
  own_same s e t o site is = own_here s e t site ∙ ap (λ (l : List Entry). e ∷ l) is

  pub moves_by : (steps : List WorldStep) → All (StepFits schema) steps → (s : ℕ) → s < schema.sites → (change : ℤ)
      → Idle (trace_by schema steps) s
      → unsigned_abs change ≢ 0 → unsigned_abs change ≤ share (fresh schema s) f (kind_of change) (at_site schema (trace_by schema steps) s)
      → Went schema steps (fine s Begin ∷ fine s (Escrow (next_txn schema (trace_by schema steps) s) (record { 0 = f }) change)
      ∷ fine s (Commit (next_txn schema (trace_by schema steps) s)) ∷ []) (Moved s change (trace_by schema steps))
  moves_by steps fit s below change idle some enough =
      let t : List Entry = trace_by schema steps in
      let o : List Entry = own s t in
      let base = fresh schema s in
      let sound = sound_of schema good steps fit in
      let run = sound.runs s below in
      let id : TxnId = next_txn schema t s in
      let site : SiteNo = record { 0 = s } in
      let no : FieldNo = record { 0 = f } in
      let escrow : Command = Escrow id no change in
      let small : unsigned_abs change ≤ max_change = omega (arith, enough, share_small schema good t sound f s (kind_of change) below) in
      -- the first
      let e1 : Entry = made schema t site Begin in
      let t1 : List Entry = e1 ∷ t in
      let own1 : own s t1 ≡ with_begin schema s base o run f change = own_same s e1 t o refl refl in
      let went1 : trace_by schema (steps ++ fine s Begin ∷ []) ≡ t1 =
      goes_do schema steps s Begin refl (may_begin schema s base o run f change idle.up idle.left idle.none) in
      -- the second
      let steps1 : List WorldStep = steps ++ fine s Begin ∷ [] in
      let here1 : here schema t1 s ≡ place schema s base (with_begin schema s base o run f change) =
      ap (λ (l : List Entry). place schema s base l) own1 in
      let may2 : first (refusals (here schema t1 s) escrow) ≡ None =
      ap (λ (at : Place). first (refusals at escrow)) here1 ∙ may_escrow schema s base o run f change idle.up known some small enough in
      let went2_at : (l : List Entry) → l ≡ t1 → first (refusals (here schema l s) escrow) ≡ None =
      λ l is. ap (λ (l : List Entry). first (refusals (here schema l s) escrow)) is ∙ may2 in
      let e2 : Entry = made schema t1 site escrow in
      let t2 : List Entry = e2 ∷ t1 in
      let went2 : trace_by schema (steps1 ++ fine s escrow ∷ []) ≡ t2 =
      goes_do schema steps1 s escrow refl (went2_at (trace_by schema steps1) went1)
      ∙ ap (λ (l : List Entry). made schema l site escrow ∷ l) went1 in
      let own2 : own s t2 ≡ with_escrow schema s base o run f change =
      own_same s e2 t1 (with_begin schema s base o run f change) refl own1 in
      -- the third
      let steps2 : List WorldStep = steps1 ++ fine s escrow ∷ [] in
      let here2 : here schema t2 s ≡ place schema s base (with_escrow schema s base o run f change) =
      ap (λ (l : List Entry). place schema s base l) own2 in
      let may3 : first (refusals (here schema t2 s) (Commit id)) ≡ None =
      ap (λ (at : Place). first (refusals at (Commit id))) here2 ∙ may_commit schema s base o run f change idle.up in
      let e3 : Entry = made schema t2 site (Commit id) in
      let t3 : List Entry = e3 ∷ t2 in
      let went3 : trace_by schema (steps2 ++ fine s (Commit id) ∷ []) ≡ t3 =
      goes_do schema steps2 s (Commit id) refl (ap (λ (l : List Entry). first (refusals (here schema l s) (Commit id))) went2 ∙ may3)
      ∙ ap (λ (l : List Entry). made schema l site (Commit id) ∷ l) went2 in
      let own3 : own s t3 ≡ with_commit schema s base o run f change =
      own_same s e3 t2 (with_escrow schema s base o run f change) refl own2 in
      -- together
      let Any : Claim = λ u. Unit {0} in
      let rest : (j : ℕ) → j ≢ s → own j t3 ≡ own j t =
      λ j apart. (let far : s ≢ j = λ e. apart (sym e) in own_there j e3 t2 far ∙ own_there j e2 t1 far ∙ own_there j e1 t far) in
      let after_all : (sound3 : IsSound schema t3) → Moved s change t t3 = λ sound3.
      record {
        others = rest;
        value = moved schema good f t t3 sound sound3 s below change
            (λ k. ap (λ (l : List Entry). (let es = effects base false l in granted_sizes (λ j. is_committed j es) f k es)) own3
            ∙ settles schema s base o run f change k)
            rest;
      } in
      let last : Went schema steps2 (fine s (Commit id) ∷ []) Any = went_one (below, refl) refl tt in
      went_on fit (went_one {step = fine s Begin} {Q = Any} (below, refl) refl tt)
      (λ fits1 _. went_on fits1 (went_one {step = fine s escrow} {Q = Any} (below, refl) refl tt)
      (λ fits2 _. went_one (below, refl) refl
      (let fits3 = All-append (StepFits schema) steps2 (fine s (Commit id) ∷ []) fits2 last.fit in
      let sound3 = subst (λ (l : List Entry). IsSound schema l) went3 (sound_of schema good (steps2 ++ fine s (Commit id) ∷ []) fits3) in
      subst (λ (l : List Entry). Moved s change t l) (sym went3) (after_all sound3))))

  -- ---- all sites in turn

  module _ (target : ℤ) (k : Kind) (all : ℕ) (F : ℕ → ℕ) (mine : List Entry) (mine_free : F named ≡ 0) where
    -- the sites from i on are idle and have free what F says; so much is left to move
    pub record Moving (i : ℕ) (t : List Entry) : Type 0 where
      pub mine_is : own named t ≡ mine
      pub idle : (s : ℕ) → i ≤ s → s < schema.sites → s ≢ named → Idle t s
      pub free_is : (s : ℕ) → i ≤ s → s < schema.sites → s ≢ named → share (fresh schema s) f k (at_site schema t s) ≡ F s
      pub left : target -ℤ committed_value schema t f ≡ signed k (all - sum_below i F)

    idle_same : (t u : List Entry) (s : ℕ) → own s u ≡ own s t → Idle t s → Idle u s
    idle_same t u s same idle =
        record {
          up = ap (λ (o : List Entry). is_up (fresh schema s) o) same ∙ idle.up;
          left = subst (λ (o : List Entry). count_since is_begun_reply o < max_number) (sym same) idle.left;
          none = subst (λ (o : List Entry). NoneOpen (effects (fresh schema s) false o)) (sym same) idle.none;
        }

    -- where a site moves nothing
    stays : (i : ℕ) (t : List Entry) → Moving i t → all - sum_below i F ≡ all - sum_below (suc i) F → Moving (suc i) t
    stays i t m same =
        record {
          mine_is = m.mine_is;
          idle = λ s above below apart. m.idle s (omega (arith, above)) below apart;
          free_is = λ s above below apart. m.free_is s (omega (arith, above)) below apart;
          left = m.left ∙ ap (λ (n : ℕ). signed k n) same;
        }

    goes_on : (i : ℕ) (q : ℕ) (t u : List Entry) → i ≢ named → q ≡ min (all - sum_below i F) (F i) → Moving i t → Moved i (signed k q) t u
        → Moving (suc i) u
    goes_on i q t u apart is m did =
        record {
          mine_is = did.others named (λ e. apart (sym e)) ∙ m.mine_is;
          idle = λ s above below other. idle_same t u s (did.others s (λ e. omega (arith, e, above)))
              (m.idle s (omega (arith, above)) below other);
          free_is = λ s above below other.
              ap (λ (o : List Entry). share (fresh schema s) f k (effects (fresh schema s) false o))
              (did.others s (λ e. omega (arith, e, above)))
              ∙ m.free_is s (omega (arith, above)) below other;
          left = ap (λ (v : ℤ). target -ℤ v) did.value
              ∙ less_left k target (committed_value schema t f) (all - sum_below i F) q (all - sum_below (suc i) F) m.left
              (omega (arith, is)) (omega (arith, is));
        }

    share_of_kind : (s : ℕ) (t : List Entry) (k : Kind)
        → of_kind k (share (fresh schema s) f Lower (at_site schema t s)) (share (fresh schema s) f Raise (at_site schema t s))
        ≡ share (fresh schema s) f k (at_site schema t s)
    share_of_kind s t Lower = refl
    share_of_kind s t Raise = refl

    one_moves : (i : ℕ) → i < schema.sites → (steps : List WorldStep) → All (StepFits schema) steps → Moving i (trace_by schema steps)
        → Went schema steps (moves schema named f target i (trace_by schema steps)) (Moving (suc i))
    one_moves i below steps fit m =
        let t : List Entry = trace_by schema steps in
        elim (cases_eq i named) [
          | inl itself ↦
              let none : F i ≡ 0 = ap F itself ∙ mine_free in
              went_same (sym (none_there schema named f target i t itself)) (went_none (stays i t m (omega (arith, none))))
          | inr apart ↦
              let free = m.free_is i (omega arith) below apart in
              let d : ℕ = all - sum_below i F in
              let q : ℕ = min d (F i) in
              let lower = share (fresh schema i) f Lower (at_site schema t i) in
              let raise = share (fresh schema i) f Raise (at_site schema t i) in
              let is : change_to schema f target i t ≡ signed k q =
              ap (λ (z : ℤ). towards z lower raise) m.left ∙ towards_is k d lower raise
              ∙ ap (λ (n : ℕ). signed k (min d n)) (share_of_kind i t k ∙ free) in
              let size = size_signed k q in
              elim (cases_eq q 0) [
                | inl nothing ↦
                    went_same (sym (none_are schema named f target i t apart (ap unsigned_abs is ∙ size ∙ nothing)))
                    (went_none (stays i t m (omega (arith, nothing))))
                | inr some ↦
                    let more : unsigned_abs (signed k q) ≢ 0 = λ e. some (sym size ∙ e) in
                    let enough : unsigned_abs (signed k q) ≤ share (fresh schema i) f (kind_of (signed k q)) (at_site schema t i) =
                    rw (kind_signed k q some) (omega (arith, size, free)) in
                    went_same (three_are schema named f target i t apart (sym is) more)
                    (went_as (moves_by steps fit i below (signed k q) (m.idle i (omega arith) below apart) more enough)
                    (λ did. goes_on i q t _ apart refl m did))
              ]
        ]

    pub all_moved : Leads schema (Moving 0) (Moving schema.sites) (over_sites schema.sites (λ s. moves schema named f target s ∷ []))
    all_moved =
        leads_over schema Moving schema.sites (λ s. moves schema named f target s ∷ [])
        (λ i below. leads_task schema (Moving i) (Moving (suc i)) (moves schema named f target i) (one_moves i below))

-- The open transactions of a site are aborted.
use Rattle.std.proofs.Common.{◌≡◌, ℕ, ◌<◌, ◌≢◌, Bool, true, false, ◌&&◌, ◌||◌, cond, List, [], ◌∷◌, ◌++◌, map, reverse, filter, refl, sym, ◌∙◌, ap, subst, inl, inr, All}
use Rattle.std.proofs.lemmas.Bool.{cases_Bool, ne_eqb, or_cases, or_parts, or_right}
use Rattle.std.proofs.lemmas.List.{reverse-append, map-append}
use Rattle.field_bounds.specs.declared.id.TxnId.{TxnId}
use Rattle.field_bounds.specs.declared.entry.Command.TheVariants.{Abort}
use Rattle.field_bounds.specs.declared.entry.Entry.{Entry}
use Rattle.field_bounds.specs.Schema.{SchemaValue}
use Rattle.field_bounds.specs.declared.effect.Effect.{Effect}
use Rattle.field_bounds.specs.declared.effect.Effect.TheVariants.{Begins, Aborts}
use Rattle.field_bounds.specs.Effects.{Base, fresh, same_txn, is_begun, is_open, begun_txns, open_txns, effects}
use Rattle.field_bounds.specs.Owed.{is_up}
use Rattle.field_bounds.specs.Central.{own, at_site}
use Rattle.field_bounds.proofs.Lawful.{IsLawful, same_txn-true}
use Rattle.field_bounds.proofs.Traces.{own_here}
use Rattle.world_steps.specs.declared.step.WorldStep.{WorldStep}
use Rattle.world_steps.specs.World.{StepFits, trace_by}
use Rattle.reaching_steps.specs.Reach.{fine, aborts}
use Rattle.reaching_steps.proofs.Sites.{NoneOpen, keeps_abort, abort_closes, abort_spares, same_txn-refl}
use Rattle.reaching_steps.proofs.Refusals.{abort_goes}
use Rattle.reaching_steps.proofs.Plans.{Went, went_none, went_one, went_on, went_as, went_same}
use Rattle.reaching_steps.proofs.Going.{here, made, goes_do, Leaves, leaves_refl, leaves_trans, leaves_one}

-- ---- lists of ids

abbrev pub among : TxnId → List TxnId → Bool
among j [] = false
among j (id ∷ ids) = same_txn id j || among j ids

abbrev pub AreApart : List TxnId → Type 0
AreApart [] = Unit {0}
AreApart (id ∷ ids) = (among id ids ≡ false) × AreApart ids

abbrev pub AreOpen : List TxnId → List Effect → Type 0
AreOpen [] es = Unit {0}
AreOpen (id ∷ ids) es = ((is_begun id es ≡ true) × (is_open id es ≡ true)) × AreOpen ids es

-- what was begun stands among the begun
among_case : (b : Bool) (j id : TxnId) (ids : List TxnId) → among j (cond b (id ∷ ids) ids) ≡ ((b && same_txn id j) || among j ids)
among_case true j id ids = refl
among_case false j id ids = refl

here_kept : (b s rest : Bool) → b ≡ true → s ≡ true → ((b && s) || rest) ≡ true
here_kept b s rest h g = rw (h, g) refl

there_kept : (x rest : Bool) → rest ≡ true → (x || rest) ≡ true
there_kept x rest h = or_right x rest h

pub open_among : (p : TxnId → Bool) (es : List Effect) (j : TxnId) → is_begun j es ≡ true → p j ≡ true
    → among j (filter p (begun_txns es)) ≡ true
open_among p [] j h g = cc
open_among p (Begins txn ∷ es) j h g =
    among_case (p txn) j txn (filter p (begun_txns es))
    ∙ elim (or_cases (same_txn txn j) (is_begun j es) h) [
      | inl same ↦ here_kept (p txn) (same_txn txn j) (among j (filter p (begun_txns es))) (ap p (same_txn-true txn j same) ∙ g) same
      | inr before ↦ there_kept (p txn && same_txn txn j) (among j (filter p (begun_txns es))) (open_among p es j before g)
    ]
open_among p (e ∷ es) j h g = open_among p es j h g

-- what stands among the begun was begun
only_case : (b s rest was : Bool) → ((b && s) || rest) ≡ true → (rest ≡ true → was ≡ true) → (s || was) ≡ true
only_case true true rest was h more = refl
only_case true false rest was h more = more h
only_case false s rest was h more = or_right s was (more h)

pub among_begun : (p : TxnId → Bool) (es : List Effect) (j : TxnId) → among j (filter p (begun_txns es)) ≡ true → is_begun j es ≡ true
among_begun p [] j h = cc
among_begun p (Begins txn ∷ es) j h =
    only_case (p txn) (same_txn txn j) (among j (filter p (begun_txns es))) (is_begun j es)
    (sym (among_case (p txn) j txn (filter p (begun_txns es))) ∙ h) (among_begun p es j)
among_begun p (e ∷ es) j h = among_begun p es j h

not_among : (p : TxnId → Bool) (es : List Effect) (j : TxnId) → is_begun j es ≡ false → among j (filter p (begun_txns es)) ≡ false
not_among p es j new =
    elim (cases_Bool (among j (filter p (begun_txns es)))) as (λ _. among j (filter p (begun_txns es)) ≡ false) [
      | inl there ↦ let was = among_begun p es j there in absurd cc
      | inr isnt ↦ isnt
    ]

apart_case : (b : Bool) (id : TxnId) (ids : List TxnId) → among id ids ≡ false → AreApart ids → AreApart (cond b (id ∷ ids) ids)
apart_case true id ids new apart = (new, apart)
apart_case false id ids new apart = apart

-- what was begun lawfully has ids apart
pub begun_apart : (schema : SchemaValue) (base : Base) (p : TxnId → Bool) (es : List Effect) → IsLawful schema base es
    → AreApart (filter p (begun_txns es))
begun_apart schema base p [] lawful = tt
begun_apart schema base p (Begins txn ∷ es) lawful =
    apart_case (p txn) txn (filter p (begun_txns es)) (not_among p es txn lawful.1) (begun_apart schema base p es lawful.0)
begun_apart schema base p (e ∷ es) lawful = begun_apart schema base p es lawful.0

open_case : (all : List Effect) (b : Bool) (id : TxnId) (ids : List TxnId) → (b ≡ true → (is_begun id all ≡ true) × (is_open id all ≡ true))
    → AreOpen ids all → AreOpen (cond b (id ∷ ids) ids) all
open_case all true id ids is rest = (is refl, rest)
open_case all false id ids is rest = rest

opened_of : (all es : List Effect) → ((id : TxnId) → is_begun id es ≡ true → is_begun id all ≡ true)
    → AreOpen (filter (λ id. is_open id all) (begun_txns es)) all
opened_of all [] h = tt
opened_of all (Begins txn ∷ es) h =
    let first : is_begun txn (Begins txn ∷ es) ≡ true = rw (same_txn-refl txn) refl in
    open_case all (is_open txn all) txn (filter (λ id. is_open id all) (begun_txns es)) (λ opened. (h txn first, opened))
    (opened_of all es (λ id was. h id (or_right (same_txn txn id) (is_begun id es) was)))
opened_of all (e ∷ es) h = opened_of all es h

pub open_txns_open : (es : List Effect) → AreOpen (open_txns es) es
open_txns_open es = opened_of es es (λ id h. h)

-- ---- one after another, the last of the list first

module _ (schema : SchemaValue) (named f : ℕ) where
  -- what is left of a trace once some transactions of a site were aborted
  pub record Aborted (s : ℕ) (ids : List TxnId) (t u : List Entry) : Type 0 where
    pub leaves : Leaves schema named f t u
    pub shut : (j : TxnId) → among j ids ≡ true → is_open j (at_site schema u s) ≡ true → ⊥
    pub spared : (j : TxnId) → among j ids ≡ false → is_open j (at_site schema u s) ≡ is_open j (at_site schema t s)
    pub begun_as : (j : TxnId) → is_begun j (at_site schema u s) ≡ is_begun j (at_site schema t s)

  -- what took effect at a site grows by the abort
  effects_abort : (s : ℕ) (id : TxnId) (t : List Entry)
      → at_site schema (made schema t (record { 0 = s }) (Abort id) ∷ t) s ≡ Aborts id ∷ at_site schema t s
  effects_abort s id t = ap (λ (o : List Entry). effects (fresh schema s) false o)
      (own_here s (made schema t (record { 0 = s }) (Abort id)) t refl)

  aborted_more : (s : ℕ) (id : TxnId) (ids : List TxnId) (t u : List Entry) → s ≢ named → Aborted s ids t u
      → Aborted s (id ∷ ids) t (made schema u (record { 0 = s }) (Abort id) ∷ u)
  aborted_more s id ids t u apart did =
      let e = made schema u (record { 0 = s }) (Abort id) in
      let is = effects_abort s id u in
      record {
        leaves = leaves_trans schema named f t u (e ∷ u) did.leaves
            (leaves_one schema named f e u apart (keeps_abort (fresh schema s) f (record { 0 = s }) id (own s u)));
        shut = λ j there opened.
            let opened_so : is_open j (Aborts id ∷ at_site schema u s) ≡ true =
            subst (λ (es : List Effect). is_open j es ≡ true) is opened in
            elim (cases_Bool (same_txn id j)) [
              | inl same ↦ abort_closes id j (at_site schema u s) same opened_so
              | inr other ↦
                  elim (or_cases (same_txn id j) (among j ids) there) [
                    | inl same ↦ cc
                    | inr before ↦ did.shut j before (sym (abort_spares id j (at_site schema u s) other) ∙ opened_so)
                  ]
            ];
        spared = λ j isnt.
            let parts = or_parts (same_txn id j) (among j ids) isnt in
            ap (λ (es : List Effect). is_open j es) is ∙ abort_spares id j (at_site schema u s) parts.0 ∙ did.spared j parts.1;
        begun_as = λ j. ap (λ (es : List Effect). is_begun j es) is ∙ did.begun_as j;
      }

  abort_each : (steps : List WorldStep) (s : ℕ) (ids : List TxnId) → All (StepFits schema) steps → s < schema.sites → s ≢ named
      → is_up (fresh schema s) (own s (trace_by schema steps)) ≡ true
      → AreApart ids → AreOpen ids (at_site schema (trace_by schema steps) s)
      → Went schema steps (map (λ id. fine s (Abort id)) (reverse ids)) (λ u. Aborted s ids (trace_by schema steps) u)
  abort_each steps s [] fit below apart up distinct opened =
      went_none
      (record { leaves = leaves_refl schema named f (trace_by schema steps); shut = λ j h. cc; spared = λ j h. refl; begun_as = λ j. refl })
  abort_each steps s (id ∷ ids) fit below apart up distinct opened =
      let t = trace_by schema steps in
      let step : TxnId → WorldStep = λ id. fine s (Abort id) in
      let before = map step (reverse ids) in
      let same : before ++ step id ∷ [] ≡ map step (reverse (id ∷ ids)) =
      sym (ap (map step) (reverse-append (id ∷ []) ids) ∙ map-append step (reverse ids) (id ∷ [])) in
      went_same same
      (went_on fit (abort_each steps s ids fit below apart up distinct.1 opened.1)
      (λ fits did.
      let u = trace_by schema (steps ++ before) in
      let up_now = (did.leaves.sites s).up up in
      let begun_now = did.begun_as id ∙ opened.0.0 in
      let open_now = did.spared id distinct.0 ∙ opened.0.1 in
      let went = goes_do schema (steps ++ before) s (Abort id) refl (abort_goes (here schema u s) up_now id begun_now open_now) in
      went_one (below, refl) refl
      (subst (λ (v : List Entry). Aborted s (id ∷ ids) t v) (sym went) (aborted_more s id ids t u apart did))))

  -- all that are open, as the task has it
  pub abort_all : (steps : List WorldStep) (s : ℕ) → All (StepFits schema) steps → s < schema.sites → s ≢ named
      → is_up (fresh schema s) (own s (trace_by schema steps)) ≡ true
      → IsLawful schema (fresh schema s) (at_site schema (trace_by schema steps) s)
      → Went schema steps (aborts schema named s (trace_by schema steps)) (λ u. Leaves schema named f (trace_by schema steps) u
      × NoneOpen (at_site schema u s))
  abort_all steps s fit below apart up lawful =
      let t = trace_by schema steps in
      let es = at_site schema t s in
      let ids = open_txns es in
      let is : map (λ id. fine s (Abort id)) (reverse ids) ≡ aborts schema named s t = rw (ne_eqb s named apart) refl in
      went_same is
      (went_as
      (abort_each steps s ids fit below apart up (begun_apart schema (fresh schema s) (λ id. is_open id es) es lawful) (open_txns_open es))
      (λ did. (
        did.leaves,
        λ j begun_now open_now.
            elim (cases_Bool (among j ids)) [
              | inl there ↦ did.shut j there open_now
              | inr isnt ↦
                  let was_begun = sym (did.begun_as j) ∙ begun_now in
                  let was_open = sym (did.spared j isnt) ∙ open_now in
                  let there = open_among (λ id. is_open id es) es j was_begun was_open in
                  cc
            ],
      )))

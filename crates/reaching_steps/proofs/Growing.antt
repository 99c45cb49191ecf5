-- What the parts of the body leave, one after another.
use Rattle.std.proofs.Common.{◌≡◌, ◌≢◌, ℕ, zero, suc, ◌+◌, ◌<◌, length, take, get_or, map, Bool, true, false, cond, eqb, Some, None, All, List, [], ◌∷◌, ◌++◌, refl, sym, ◌∙◌, ap, subst, arith, add-one}
use Rattle.std.proofs.lemmas.List.{append_assoc, append-nil, map-append, map_more}
use Rattle.std.proofs.lemmas.Bool.{eqb-false, eqb-true}
use Rattle.std.specs.Prelude.{Option, OnOk, Result, Ok, Err, ℤ, unsigned_abs}
use Rattle.field_bounds.specs.declared.id.SiteNo.{SiteNo}
use Rattle.field_bounds.specs.declared.id.FieldNo.{FieldNo}
use Rattle.field_bounds.specs.declared.id.TxnId.{TxnId}
use Rattle.field_bounds.specs.declared.entry.Command.TheVariants.{Begin, Escrow, Commit}
use Rattle.field_bounds.specs.declared.kind.Kind.{Kind}
use Rattle.field_bounds.specs.Limits.{IsSchema}
use Rattle.field_bounds.specs.Central.{committed_value}
use Rattle.field_bounds.specs.Schema.{SchemaValue}
use Rattle.world_steps.specs.declared.step.WorldStep.{WorldStep}
use Rattle.world_steps.specs.World.{StepFits}
use Rattle.world_steps.specs.View.{WorldValue, trace_of, Answers}
use Rattle.reaching_steps.specs.Reach.{is_wanting, restates, delivers, Task, steps_of_tasks, over_sites, fine, next_txn, moves, move_tasks, aborts, passes_on, tasks, same_value, reach_fault, reach_steps}
use Rattle.reaching_steps.specs.Body.{Grew, HasReached, Does, change_of}
use Rattle.reaching_steps.specs.Taken.{steps_of, with_steps, AreAnswered}
use Rattle.reaching_steps.specs.declared.taken.StepTaken.{StepTaken}
use Rattle.reaching_steps.proofs.Plans.{planned_append}
use Rattle.reaching_steps.proofs.Moving.{change_to, none_are, three_are}
use Rattle.reaching_steps.proofs.Reaching.{all_reached}

-- ---- what was answered

-- behind the world's own steps, one after another
pub with_both : (w : WorldValue) (a b : List WorldStep) → with_steps (with_steps w a) b ≡ with_steps w (a ++ b)
with_both w a b = ap (λ (l : List WorldStep). (let v : WorldValue = record { schema = w.schema; steps = l } in v)) (append_assoc w.steps a b)

pub with_none : (w : WorldValue) → w ≡ with_steps w []
with_none w = ap (λ (l : List WorldStep). (let v : WorldValue = record { schema = w.schema; steps = l } in v)) (sym (append-nil w.steps))

pub answered_both : (w : WorldValue) (xs ys : List StepTaken) → AreAnswered w xs → AreAnswered (with_steps w (steps_of xs)) ys
    → AreAnswered w (xs ++ ys)
answered_both w [] ys h k = subst (λ (v : WorldValue). AreAnswered v ys) (sym (with_none w)) k
answered_both w (x ∷ xs) ys h k = (
  h.0,
  answered_both (with_steps w (x.step ∷ [])) xs ys h.1
      (subst (λ (v : WorldValue). AreAnswered v ys) (sym (with_both w (x.step ∷ []) (steps_of xs))) k),
)

-- each of them, behind those before it
pub answered_at : (w : WorldValue) (taken : List StepTaken) (i : ℕ) (d : StepTaken) → i < length taken → AreAnswered w taken
    → Answers (get_or taken i d).reply (with_steps w (steps_of (take i taken))) (get_or taken i d).step
    (with_steps (with_steps w (steps_of (take i taken))) ((get_or taken i d).step ∷ []))
answered_at w [] i d below h = absurd (omega (arith, below))
answered_at w (x ∷ later) zero d below h =
    subst (λ (v : WorldValue). Answers x.reply v x.step (with_steps v (x.step ∷ []))) (with_none w) h.0
answered_at w (x ∷ later) (suc i) d below h =
    subst (λ (v : WorldValue). Answers (get_or later i d).reply v (get_or later i d).step (with_steps v ((get_or later i d).step ∷ [])))
    (with_both w (x.step ∷ []) (steps_of (take i later)))
    (answered_at (with_steps w (x.step ∷ [])) later i d (omega (arith, below)) h.1)

-- ---- what grew

pub grew_none : {w : WorldValue} {had : List StepTaken} → Grew w had [] w had
grew_none {w} {had} = record { world = with_none w; added = []; taken = sym (append-nil had); steps = refl; answered = tt }

pub grew_as : {w x : WorldValue} {had has : List StepTaken} {more others : List WorldStep} → more ≡ others → Grew w had more x has
    → Grew w had others x has
grew_as {w} {x} {had} {has} same g = subst (λ (l : List WorldStep). Grew w had l x has) same g

pub grew_on : {w x y : WorldValue} {had mid has : List StepTaken} {a b : List WorldStep} → Grew w had a x mid → Grew x mid b y has
    → Grew w had (a ++ b) y has
grew_on {w} {had} {a} {b} g h =
    record {
      world = h.world ∙ ap (λ (v : WorldValue). with_steps v b) g.world ∙ with_both w a b;
      added = g.added ++ h.added;
      taken = h.taken ∙ ap (λ (l : List StepTaken). l ++ h.added) g.taken ∙ append_assoc had g.added h.added;
      steps = map-append (λ (one : StepTaken). one.step) g.added h.added
          ∙ ap (λ (l : List WorldStep). l ++ steps_of h.added) g.steps
          ∙ ap (λ (l : List WorldStep). a ++ l) h.steps;
      answered = answered_both w g.added h.added g.answered
          (subst (λ (v : WorldValue). AreAnswered v h.added)
          (g.world ∙ ap (λ (l : List WorldStep). with_steps w l) (sym g.steps)) h.answered);
    }

pub grew_nothing : {w : WorldValue} {had : List StepTaken} {more : List WorldStep} → more ≡ [] → Grew w had more w had
grew_nothing none = grew_as (sym none) grew_none

-- one more of a list, a step each
pub grew_map : {w x y : WorldValue} {had mid has : List StepTaken} (f : TxnId → WorldStep) (ids : List TxnId) (i : ℕ) (d : TxnId)
    → i < length ids → Grew w had (map f (take i ids)) x mid → Grew x mid (f (get_or ids i d) ∷ []) y has
    → Grew w had (map f (take (i + 1) ids)) y has
grew_map f ids i d below g h = grew_as (sym (map_more f ids i d below)) (grew_on g h)

-- one task
pub grew_task : {w x : WorldValue} {had has : List StepTaken} (task : Task) → Grew w had (task (trace_of w)) x has
    → Grew w had (steps_of_tasks w.schema w.steps (task ∷ [])) x has
grew_task {w} task g = grew_as (sym (append-nil (task (trace_of w)))) g

-- some tasks and others, told by what the first left
pub both_are : (w x : WorldValue) (a b : SchemaValue → List Task) → x ≡ with_steps w (steps_of_tasks w.schema w.steps (a w.schema))
    → steps_of_tasks w.schema w.steps (a w.schema) ++ steps_of_tasks x.schema x.steps (b x.schema)
    ≡ steps_of_tasks w.schema w.steps (a w.schema ++ b w.schema)
both_are w x a b world =
    let done = steps_of_tasks w.schema w.steps (a w.schema) in
    ap (λ (v : WorldValue). done ++ steps_of_tasks v.schema v.steps (b v.schema)) world
    ∙ sym (planned_append w.schema w.steps (a w.schema) (b w.schema))

pub grew_tasks : {w x y : WorldValue} {had mid has : List StepTaken} (a b : SchemaValue → List Task)
    → Grew w had (steps_of_tasks w.schema w.steps (a w.schema)) x mid → Grew x mid (steps_of_tasks x.schema x.steps (b x.schema)) y has
    → Grew w had (steps_of_tasks w.schema w.steps (a w.schema ++ b w.schema)) y has
grew_tasks {w} {x} a b g h = grew_as (both_are w x a b g.world) (grew_on g h)

-- one more turn of a loop over sites
pub grew_over : {w x y : WorldValue} {had mid has : List StepTaken} (f : SchemaValue → ℕ → List Task) (i : ℕ)
    → Grew w had (steps_of_tasks w.schema w.steps (over_sites i (f w.schema))) x mid
    → Grew x mid (steps_of_tasks x.schema x.steps (f x.schema i)) y has
    → Grew w had (steps_of_tasks w.schema w.steps (over_sites (i + 1) (f w.schema))) y has
grew_over f i g h = rw add-one (grew_tasks (λ schema. over_sites i (f schema)) (λ schema. f schema i) g h)

-- two tasks of one place
pub grew_both : {w x y : WorldValue} {had mid has : List StepTaken} (a b : SchemaValue → Task) → Grew w had (a w.schema (trace_of w)) x mid
    → Grew x mid (b x.schema (trace_of x)) y has
    → Grew w had (steps_of_tasks w.schema w.steps (a w.schema ∷ b w.schema ∷ [])) y has
grew_both {w} {x} a b g h = grew_tasks (λ s. a s ∷ []) (λ s. b s ∷ []) (grew_task (a w.schema) g) (grew_task (b x.schema) h)

not_wanted : (b : Bool) (n : ℕ) → None ≡ cond b (Some n) None → b ≡ false
not_wanted true n h = cc
not_wanted false n h = refl

-- nothing is passed on where nothing is wanted
pub grew_unpassed : {w : WorldValue} {had : List StepTaken} (named f from to n : ℕ) (k : Kind)
    → None ≡ cond (is_wanting w.schema named f from to k (trace_of w)) (Some n) None
    → Grew w had (steps_of_tasks w.schema w.steps (restates w.schema named f from to k ∷ delivers w.schema named f from to k ∷ [])) w had
grew_unpassed {w} named f from to n k none =
    let off = not_wanted (is_wanting w.schema named f from to k (trace_of w)) n none in
    grew_both (λ schema. restates schema named f from to k) (λ schema. delivers schema named f from to k)
    (grew_nothing (rw off refl)) (grew_nothing (rw off refl))

pub on_ok : {A E : Type 0} (r : Result A E) (P Q : Type 0) → (P → Q) → OnOk r P → OnOk r Q
on_ok (Ok x) P Q f h = f h
on_ok (Err e) P Q f h = tt

-- the three steps of a move
change_some : (z change : ℤ) → Some change ≡ change_of z → (change ≡ z) × (unsigned_abs z ≢ 0)
change_some z change h = by (eqb (unsigned_abs z) 0) refl h
  where
    by : (b : Bool) → eqb (unsigned_abs z) 0 ≡ b → Some change ≡ cond b None (Some z) → (change ≡ z) × (unsigned_abs z ≢ 0)
    by true is h = cc
    by false is h = (cc, eqb-false (unsigned_abs z) 0 is)

pub found_three : (w : WorldValue) (named f : ℕ) (target : ℤ) (s : ℕ) {txn : TxnId} {change : ℤ} {found : Option ℤ} → s ≢ named
    → txn ≡ next_txn w.schema (trace_of w) s → found ≡ Some change → found ≡ change_of (change_to w.schema f target s (trace_of w))
    → (fine s Begin ∷ fine s (Escrow txn (record { 0 = f }) change) ∷ fine s (Commit txn) ∷ [])
    ≡ moves w.schema named f target s (trace_of w)
found_three w named f target s {change} apart txn_is found_is told =
    let is = change_some (change_to w.schema f target s (trace_of w)) change (sym found_is ∙ told) in
    rw txn_is (three_are w.schema named f target s (trace_of w) apart is.0 (rw is.0 is.1))

-- no step of a move where there is nothing to change
change_none : (z : ℤ) → None ≡ change_of z → unsigned_abs z ≡ 0
change_none z h = by (eqb (unsigned_abs z) 0) refl h
  where
    by : (b : Bool) → eqb (unsigned_abs z) 0 ≡ b → None ≡ cond b None (Some z) → unsigned_abs z ≡ 0
    by true is h = eqb-true (unsigned_abs z) 0 is
    by false is h = cc

pub found_none : (w : WorldValue) (named f : ℕ) (target : ℤ) (s : ℕ) {found : Option ℤ} → s ≢ named → found ≡ None
    → found ≡ change_of (change_to w.schema f target s (trace_of w)) → moves w.schema named f target s (trace_of w) ≡ []
found_none w named f target s apart none told =
    none_are w.schema named f target s (trace_of w) apart (change_none (change_to w.schema f target s (trace_of w)) (sym none ∙ told))

-- ---- the last tasks, closed

pub moves_start : (w : WorldValue) (had : List StepTaken) (named f : ℕ) (target : ℤ)
    → Grew w had (steps_of_tasks w.schema w.steps (move_tasks w.schema named f target 0)) w had
unfolding move_tasks
moves_start w had named f target = grew_none

pub moves_on : {w x y : WorldValue} {had mid has : List StepTaken} (named f : ℕ) (target : ℤ) (i : ℕ)
    → Grew w had (steps_of_tasks w.schema w.steps (move_tasks w.schema named f target i)) x mid
    → Grew x mid (moves x.schema named f target i (trace_of x)) y has
    → Grew w had (steps_of_tasks w.schema w.steps (move_tasks w.schema named f target (i + 1))) y has
unfolding move_tasks
moves_on {x} named f target i g h =
    grew_over (λ schema s. moves schema named f target s ∷ []) i g (grew_task (moves x.schema named f target i) h)

-- all three phases, one after another
pub planned_all : {w x y z : WorldValue} {a b c d : List StepTaken} (named f : ℕ) (target : ℤ) (n : ℕ) → n ≡ w.schema.sites → a ≡ []
    → same_value (committed_value w.schema (trace_of w) f) target ≡ false
    → Grew w a (steps_of_tasks w.schema w.steps (over_sites n (λ s. aborts w.schema named s ∷ []))) x b
    → Grew x b (steps_of_tasks x.schema x.steps (over_sites n (λ from. over_sites n (λ to. passes_on x.schema named f from to)))) y c
    → Grew y c (steps_of_tasks y.schema y.steps (move_tasks y.schema named f target n)) z d
    → HasReached w (record { 0 = named }) (record { 0 = f }) target z d
unfolding move_tasks
planned_all {w} {z} {a} {d} named f target n count empty there g h k =
    let first : ℕ → SchemaValue → List Task = λ n schema. over_sites n (λ s. aborts schema named s ∷ []) in
    let second : ℕ → SchemaValue → List Task = λ n schema. over_sites n (λ from. over_sites n (λ to. passes_on schema named f from to)) in
    let third : ℕ → SchemaValue → List Task = λ n schema. over_sites n (λ s. moves schema named f target s ∷ []) in
    let all : ℕ → List WorldStep = λ n. steps_of_tasks w.schema w.steps (first n w.schema ++ (second n w.schema ++ third n w.schema)) in
    let grew : Grew w a (all n) z d = grew_tasks (first n) (λ schema. second n schema ++ third n schema) g
    (grew_tasks (second n) (third n) h k) in
    let is : d ≡ grew.added = grew.taken ∙ ap (λ (l : List StepTaken). l ++ grew.added) empty in
    let steps : steps_of d ≡ all n = ap (λ (l : List StepTaken). steps_of l) is ∙ grew.steps in
    record {
      steps = steps ∙ ap all count
          ∙ sym (ap (λ (b : Bool). cond b [] (steps_of_tasks w.schema w.steps (tasks w.schema named f target))) there);
      world = grew.world ∙ ap (λ (l : List WorldStep). with_steps w l) (sym steps);
      answered = subst (λ (l : List StepTaken). AreAnswered w l) (sym is) grew.answered;
    }

-- none, where the value is there
pub planned_none : (w : WorldValue) (items : List StepTaken) (site : SiteNo) (field : FieldNo) (target : ℤ) → items ≡ []
    → same_value (committed_value w.schema (trace_of w) field.0) target ≡ true → HasReached w site field target w items
planned_none w items site field target empty there =
    let none : steps_of items ≡ [] = ap (λ (l : List StepTaken). steps_of l) empty in
    record {
      steps = none
          ∙ sym (ap (λ (b : Bool). cond b [] (steps_of_tasks w.schema w.steps (tasks w.schema site.0 field.0 target))) there);
      world = with_none w ∙ ap (λ (l : List WorldStep). with_steps w l) (sym none);
      answered = subst (λ (l : List StepTaken). AreAnswered w l) (sym empty) tt;
    }

-- ---- the end

pub does : (w : WorldValue) (site : SiteNo) (field : FieldNo) (target : ℤ) (items : List WorldStep) → IsSchema w.schema
    → All (StepFits w.schema) w.steps
    → reach_fault w.schema (trace_of w) site field target ≡ None → items ≡ reach_steps w.schema w.steps site field target
    → Does w site field target items
does w site field target items good fit clear is =
    let went = all_reached w.schema good w.steps fit site field target clear in
    subst (λ (l : List WorldStep). Does w site field target l) (sym is)
    (record { fit = went.fit; fine = went.fine; elsewhere = went.then.0; reached = went.then.1 })

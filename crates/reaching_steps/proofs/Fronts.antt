-- What the parts of the body leave where memory is wanting: a front of their steps.
use Rattle.std.proofs.Common.{◌≡◌, ℕ, zero, suc, ◌+◌, ◌-◌, ◌<◌, cond, Bool, false, List, [], ◌∷◌, ◌++◌, refl, sym, ◌∙◌, ap, subst, arith, ◌≢◌, length, take, drop, get_or, map, reverse}
use Rattle.std.proofs.lemmas.List.{append_assoc, append-nil, map-append, map_more, take-append-drop}
use Rattle.std.proofs.lemmas.Bool.{ne_eqb}
use Rattle.std.proofs.Math.Nat.{zero-add, suc-add}
use Rattle.std.specs.Prelude.{Result, Ok, Err, ℤ}
use Rattle.field_bounds.specs.declared.id.TxnId.{TxnId}
use Rattle.field_bounds.specs.declared.entry.Command.TheVariants.{Abort}
use Rattle.field_bounds.specs.Effects.{open_txns}
use Rattle.field_bounds.specs.Central.{at_site, committed_value}
use Rattle.field_bounds.specs.Schema.{SchemaValue}
use Rattle.world_steps.specs.declared.step.WorldStep.{WorldStep}
use Rattle.world_steps.specs.View.{WorldValue, trace_of}
use Rattle.reaching_steps.specs.Reach.{Task, steps_of_tasks, over_sites, fine, aborts, passes_on, moves, move_tasks, same_value, reach_steps}
use Rattle.reaching_steps.specs.Body.{Grew, CarriedOut}
use Rattle.reaching_steps.specs.Taken.{with_steps, TookFront}
use Rattle.reaching_steps.specs.declared.taken.StepTaken.{StepTaken}
use Rattle.reaching_steps.proofs.Plans.{planned_append}
use Rattle.reaching_steps.proofs.Growing.{with_both, with_none, grew_as, grew_on, grew_task, both_are}

pub took_none : (w : WorldValue) (more : List WorldStep) → TookFront w more w
took_none w more = record { front = []; rest = more; parts = refl; world = with_none w }

pub took_all : (w x : WorldValue) (more : List WorldStep) → x ≡ with_steps w more → TookFront w more x
took_all w x more world = record { front = more; rest = []; parts = append-nil more; world = world }

pub took_as : {w x : WorldValue} {more others : List WorldStep} → more ≡ others → TookFront w more x → TookFront w others x
took_as {w} {x} same t = subst (λ (l : List WorldStep). TookFront w l x) same t

-- a front of the first of two lists, and one of the second behind the whole first
pub took_first : {w x : WorldValue} {a : List WorldStep} (b : List WorldStep) → TookFront w a x → TookFront w (a ++ b) x
took_first b t =
    record {
      front = t.front;
      rest = t.rest ++ b;
      parts = sym (append_assoc t.front t.rest b) ∙ ap (λ (l : List WorldStep). l ++ b) t.parts;
      world = t.world;
    }

pub took_behind : {w x y : WorldValue} {had mid : List StepTaken} {a b : List WorldStep} → Grew w had a x mid → TookFront x b y
    → TookFront w (a ++ b) y
took_behind {w} {a} g t =
    record {
      front = a ++ t.front;
      rest = t.rest;
      parts = append_assoc a t.front t.rest ∙ ap (λ (l : List WorldStep). a ++ l) t.parts;
      world = t.world ∙ ap (λ (v : WorldValue). with_steps v t.front) g.world ∙ with_both w a t.front;
    }

-- a step each of a list, and a front of the next one's
pub took_map : {w x y : WorldValue} {had mid : List StepTaken} (f : TxnId → WorldStep) (ids : List TxnId) (i : ℕ) (d : TxnId)
    → i < length ids → Grew w had (map f (take i ids)) x mid → TookFront x (f (get_or ids i d) ∷ []) y → TookFront w (map f ids) y
took_map f ids i d below g t =
    took_as (sym (map-append f (take (i + 1) ids) (drop (i + 1) ids))
    ∙ ap (λ (l : List TxnId). map f l) (take-append-drop (i + 1) ids))
    (took_first (map f (drop (i + 1) ids)) (took_as (sym (map_more f ids i d below)) (took_behind g t)))

-- the steps that abort, at another site
pub aborts_are : (w : WorldValue) (named s : ℕ) (ids : List TxnId) → s ≢ named
    → ids ≡ reverse (open_txns (at_site w.schema (trace_of w) s))
    → map (λ (id : TxnId). fine s (Abort id)) ids ≡ aborts w.schema named s (trace_of w)
aborts_are w named s ids apart is = rw (ne_eqb s named apart, is) refl

-- ---- what a call leaves, either way

pub carried_as : {A E : Type 0} (r : Result A E) (w x : WorldValue) (had has : List StepTaken) {more others : List WorldStep}
    → more ≡ others → CarriedOut r w had more x has → CarriedOut r w had others x has
carried_as (Ok done) w x had has same c = grew_as same c
carried_as (Err fault) w x had has same c = took_as same c

pub carried_on : {A E : Type 0} (r : Result A E) {w x : WorldValue} {had mid : List StepTaken} {a : List WorldStep} (y : WorldValue)
    (has : List StepTaken) (b : List WorldStep) → Grew w had a x mid → CarriedOut r x mid b y has → CarriedOut r w had (a ++ b) y has
carried_on (Ok done) y has b g h = grew_on g h
carried_on (Err fault) y has b g h = took_behind g h

-- two tasks of one place
pub carried_both : {A E : Type 0} (r : Result A E) {w x : WorldValue} {had mid : List StepTaken} (y : WorldValue) (has : List StepTaken)
    (a b : SchemaValue → Task) → Grew w had (a w.schema (trace_of w)) x mid → CarriedOut r x mid (b x.schema (trace_of x)) y has
    → CarriedOut r w had (steps_of_tasks w.schema w.steps (a w.schema ∷ b w.schema ∷ [])) y has
carried_both r {w} {x} {had} {mid} y has a b g h =
    let one = grew_task (a w.schema) g in
    carried_as r w y had has (both_are w x (λ s. a s ∷ []) (λ s. b s ∷ []) one.world)
    (carried_on r y has _ one (carried_as r x y mid has (sym (append-nil (b x.schema (trace_of x)))) h))

-- ---- tasks

-- one task
pub took_task : {w x : WorldValue} (task : Task) → TookFront w (task (trace_of w)) x
    → TookFront w (steps_of_tasks w.schema w.steps (task ∷ [])) x
took_task task t = took_first [] t

-- the first of two lists of tasks, and the second behind it
pub took_tasks : {w x : WorldValue} (a b : List Task) → TookFront w (steps_of_tasks w.schema w.steps a) x
    → TookFront w (steps_of_tasks w.schema w.steps (a ++ b)) x
took_tasks {w} a b t = took_as (sym (planned_append w.schema w.steps a b)) (took_first _ t)

pub took_later : {w x y : WorldValue} {had mid : List StepTaken} (a b : SchemaValue → List Task)
    → Grew w had (steps_of_tasks w.schema w.steps (a w.schema)) x mid → TookFront x (steps_of_tasks x.schema x.steps (b x.schema)) y
    → TookFront w (steps_of_tasks w.schema w.steps (a w.schema ++ b w.schema)) y
took_later {w} {x} a b g t = took_as (both_are w x a b g.world) (took_behind g t)

-- a front of so many turns of a loop over sites is one of more turns
pub took_more : {w y : WorldValue} (f : ℕ → List Task) (i k : ℕ) → TookFront w (steps_of_tasks w.schema w.steps (over_sites i f)) y
    → TookFront w (steps_of_tasks w.schema w.steps (over_sites (k + i) f)) y
took_more f i zero t = rw zero-add t
took_more f i (suc k) t = rw suc-add (took_tasks (over_sites (k + i) f) (f (k + i)) (took_more f i k t))

-- a front of a turn, behind those before it
pub took_over : {w x y : WorldValue} {had mid : List StepTaken} (f : SchemaValue → ℕ → List Task) (i n : ℕ) → i < n
    → Grew w had (steps_of_tasks w.schema w.steps (over_sites i (f w.schema))) x mid
    → TookFront x (steps_of_tasks x.schema x.steps (f x.schema i)) y
    → TookFront w (steps_of_tasks w.schema w.steps (over_sites n (f w.schema))) y
took_over {w} {y} f i n below g t =
    let whole : (n - suc i) + suc i ≡ n = omega arith in
    subst (λ (m : ℕ). TookFront w (steps_of_tasks w.schema w.steps (over_sites m (f w.schema))) y) whole
    (took_more (f w.schema) (suc i) (n - suc i) (took_later (λ schema. over_sites i (f schema)) (λ schema. f schema i) g t))

-- the same of the last tasks, closed
pub moves_front : {w x y : WorldValue} {had mid : List StepTaken} (named f : ℕ) (target : ℤ) (i n : ℕ) → i < n
    → Grew w had (steps_of_tasks w.schema w.steps (move_tasks w.schema named f target i)) x mid
    → TookFront x (moves x.schema named f target i (trace_of x)) y
    → TookFront w (steps_of_tasks w.schema w.steps (move_tasks w.schema named f target n)) y
unfolding move_tasks
moves_front {x} named f target i n below g t =
    took_over (λ schema s. moves schema named f target s ∷ []) i n below g (took_task (moves x.schema named f target i) t)

-- ---- all three phases

module _ (w : WorldValue) (named f : ℕ) (target : ℤ) (n : ℕ) (count : n ≡ w.schema.sites)
    (there : same_value (committed_value w.schema (trace_of w) f) target ≡ false) where
  abbrev pub Front : WorldValue → Type 0
  Front x = TookFront w (reach_steps w.schema w.steps (record { 0 = named }) (record { 0 = f }) target) x

  abbrev pub first : SchemaValue → List Task
  first schema = over_sites n (λ s. aborts schema named s ∷ [])

  abbrev pub second : SchemaValue → List Task
  second schema = over_sites n (λ from. over_sites n (λ to. passes_on schema named f from to))

  abbrev third : SchemaValue → List Task
  third schema = move_tasks schema named f target n

  all_of : {y : WorldValue} → TookFront w (steps_of_tasks w.schema w.steps (first w.schema ++ (second w.schema ++ third w.schema))) y
      → Front y
  unfolding move_tasks
  all_of t =
      let all : ℕ → List WorldStep = λ n. steps_of_tasks w.schema w.steps (over_sites n (λ s. aborts w.schema named s ∷ [])
      ++ (over_sites n (λ from. over_sites n (λ to. passes_on w.schema named f from to))
      ++ over_sites n (λ s. moves w.schema named f target s ∷ []))) in
      took_as (ap all count ∙ sym (ap (λ (b : Bool). cond b [] (all w.schema.sites)) there)) t

  pub front_of_aborts : {x : WorldValue} → TookFront w (steps_of_tasks w.schema w.steps (first w.schema)) x → Front x
  front_of_aborts t = all_of (took_tasks (first w.schema) (second w.schema ++ third w.schema) t)

  pub front_of_passing : {x y : WorldValue} {a b : List StepTaken} → Grew w a (steps_of_tasks w.schema w.steps (first w.schema)) x b
      → TookFront x (steps_of_tasks x.schema x.steps (second x.schema)) y → Front y
  front_of_passing {x} g t =
      all_of (took_later first (λ schema. second schema ++ third schema) g (took_tasks (second x.schema) (third x.schema) t))

  pub front_of_moves : {x y z : WorldValue} {a b c : List StepTaken} → Grew w a (steps_of_tasks w.schema w.steps (first w.schema)) x b
      → Grew x b (steps_of_tasks x.schema x.steps (second x.schema)) y c
      → TookFront y (steps_of_tasks y.schema y.steps (third y.schema)) z → Front z
  front_of_moves g h t = all_of (took_later first (λ schema. second schema ++ third schema) g (took_later second third h t))

-- The steps by which the other sites take a field to a value that the named site's interval holds, and what stands in
-- their way (this project). A trace has the newest entry first; steps stand in order, the oldest first.
use Rattle.std.specs.Prelude.{◌≡◌, ℕ, zero, suc, ◌+◌, min, ◌==◌, nat_lt, nat_le, ℤ, pos, negsuc, ◌-ℤ◌, neg_ℤ, unsigned_abs, int_lt, Bool, not, ◌&&◌, ◌||◌, if◌then◌else◌, List, [], ◌∷◌, ◌++◌, length, map, reverse, Option, Some, None, is_some}
use Rattle.field_bounds.specs.declared.kind.Kind.{Kind}
use Rattle.field_bounds.specs.declared.kind.Kind.TheVariants.{Lower, Raise}
use Rattle.field_bounds.specs.declared.id.SiteNo.{SiteNo}
use Rattle.field_bounds.specs.declared.id.FieldNo.{FieldNo}
use Rattle.field_bounds.specs.declared.id.TxnId.{TxnId}
use Rattle.field_bounds.specs.declared.entry.Statement.{Statement}
use Rattle.field_bounds.specs.declared.entry.Command.{Command}
use Rattle.field_bounds.specs.declared.entry.Command.TheVariants.{Begin, Escrow, Commit, Abort, Restate}
use Rattle.field_bounds.specs.declared.entry.Entry.{Entry}
use Rattle.field_bounds.specs.Kind.{same_kind}
use Rattle.field_bounds.specs.Schema.{SchemaValue}
use Rattle.field_bounds.specs.Effects.{fresh, open_txns, share}
use Rattle.field_bounds.specs.Owed.{place, is_up, epoch_of, count_since, is_begun_reply, max_number, interval_at}
use Rattle.field_bounds.specs.Central.{own, at_site, committed_value, cuts, given_between, accepted_between}
use Rattle.kept_state.specs.declared.luck.Luck.TheVariants.{Fine}
use Rattle.world_steps.specs.declared.step.WorldStep.{WorldStep}
use Rattle.world_steps.specs.declared.step.WorldStep.TheVariants.{Do, Deliver}
use Rattle.world_steps.specs.World.{statements_issued, luck_of, trace_by}
use Rattle.reaching_steps.specs.declared.fault.ReachFault.{ReachFault}
use Rattle.reaching_steps.specs.declared.fault.ReachFault.TheVariants.{NoSite, NoField, NotUp, InFlight, Unstated, Tightened, Numbers, Outside}

-- ---- steps that look at the trace by then

-- Some steps, told by the trace that there is by then.
abbrev pub Task : Type 0
Task = List Entry → List WorldStep

-- The steps of some tasks, one after another, each told by the trace that the steps before it make.
abbrev pub steps_of_tasks : SchemaValue → List WorldStep → List Task → List WorldStep
steps_of_tasks schema steps [] = []
steps_of_tasks schema steps (task ∷ tasks) =
    task (trace_by schema steps) ++ steps_of_tasks schema (steps ++ task (trace_by schema steps)) tasks

-- What f gives for 0 to n - 1, one after another.
abbrev pub over_sites : ℕ → (ℕ → List Task) → List Task
over_sites zero f = []
over_sites (suc n) f = over_sites n f ++ f n

-- A command at a site, whose append is whole.
abbrev pub fine : ℕ → Command → WorldStep
fine s command = Do (record { 0 = s }) command Fine

-- ---- first, the open transactions of another site are aborted, in order of begin

abbrev pub aborts : SchemaValue → ℕ → ℕ → Task
aborts schema named s t =
    if s == named then [] else map (λ id. fine s (Abort id)) (reverse (open_txns (at_site schema t s)))

-- ---- then what was given and isn't accepted is delivered

abbrev pub same_statement : Statement → Statement → Bool
same_statement a b =
    (a.from.0 == b.from.0) && (a.to.0 == b.to.0) && (a.field.0 == b.field.0) && same_kind a.kind b.kind && (a.total == b.total)

-- The number of the first such statement, and 0 where there is none.
abbrev pub number_of : Statement → List Statement → ℕ
number_of x [] = 0
number_of x (y ∷ older) =
    if number_of x older == 0 then (if same_statement y x then suc (length older) else 0) else number_of x older

-- The statement of all that one site has given to another.
abbrev pub telling : SchemaValue → List Entry → ℕ → Kind → ℕ → ℕ → Statement
telling schema t f k from to =
    record {
      from = record { 0 = from };
      to = record { 0 = to };
      field = record { 0 = f };
      kind = k;
      total =
          given_between schema t f k from to;
    }

-- Whether a receiver other than the giver and the named site has accepted less than was given.
abbrev pub is_wanting : SchemaValue → ℕ → ℕ → ℕ → ℕ → Kind → List Entry → Bool
is_wanting schema named f from to k t =
    not (from == to) && not (to == named) && nat_lt (accepted_between schema t f k from to) (given_between schema t f k from to)

abbrev pub restates : SchemaValue → ℕ → ℕ → ℕ → ℕ → Kind → Task
restates schema named f from to k t =
    if is_wanting schema named f from to k t && (number_of (telling schema t f k from to) (statements_issued t) == 0)
    then fine from (Restate (record { 0 = to }) (record { 0 = f }) k) ∷ []
    else []

abbrev pub delivers : SchemaValue → ℕ → ℕ → ℕ → ℕ → Kind → Task
delivers schema named f from to k t =
    if is_wanting schema named f from to k t then Deliver (number_of (telling schema t f k from to) (statements_issued t)) Fine ∷ [] else []

abbrev pub passes_on : SchemaValue → ℕ → ℕ → ℕ → ℕ → List Task
passes_on schema named f from to =
    restates schema named f from to Lower ∷ delivers schema named f from to Lower
    ∷ restates schema named f from to Raise ∷ delivers schema named f from to Raise ∷ []

-- ---- last, the field is moved

-- The change that a site with these shares can make towards a difference.
abbrev pub towards : ℤ → ℕ → ℕ → ℤ
towards (pos d) lower raise = pos (min d raise)
towards (negsuc d) lower raise = neg_ℤ (pos (min (suc d) lower))

-- The id that the site's next begin is answered.
abbrev pub next_txn : SchemaValue → List Entry → ℕ → TxnId
next_txn schema t s =
    record { epoch = epoch_of (fresh schema s) (own s t); number = count_since is_begun_reply (own s t) + 1 }

-- A transaction of one escrow, where there is something to change.
abbrev pub changes_by : ℕ → ℕ → TxnId → ℤ → List WorldStep
changes_by s f id change =
    if unsigned_abs change == 0
    then []
    else fine s Begin ∷ fine s (Escrow id (record { 0 = f }) change) ∷ fine s (Commit id) ∷ []

abbrev pub moves : SchemaValue → ℕ → ℕ → ℤ → ℕ → Task
moves schema named f target s t =
    if s == named
    then []
    else changes_by s f (next_txn schema t s)
    (towards (target -ℤ committed_value schema t f) (share (fresh schema s) f Lower (at_site schema t s))
    (share (fresh schema s) f Raise (at_site schema t s)))

-- ---- the steps

abbrev pub tasks : SchemaValue → ℕ → ℕ → ℤ → List Task
tasks schema named f target =
    over_sites schema.sites (λ s. aborts schema named s ∷ [])
    ++ (over_sites schema.sites (λ from. over_sites schema.sites (λ to. passes_on schema named f from to))
    ++ over_sites schema.sites (λ s. moves schema named f target s ∷ []))

-- The last of them alone, closed, for the body.
unfoldable pub move_tasks : SchemaValue → ℕ → ℕ → ℤ → ℕ → List Task
move_tasks schema named f target n = over_sites n (λ s. moves schema named f target s ∷ [])

-- Whether two values are the same.
abbrev pub same_value : ℤ → ℤ → Bool
same_value a b = unsigned_abs (a -ℤ b) == 0

-- The steps that take a field to the target, where these were taken: none where it is there.
abbrev pub reach_steps : SchemaValue → List WorldStep → SiteNo → FieldNo → ℤ → List WorldStep
reach_steps schema steps site field target =
    if same_value (committed_value schema (trace_by schema steps) field.0) target then []
    else steps_of_tasks schema steps (tasks schema site.0 field.0 target)

-- ---- what stands in the way

-- The least number below n that passes.
abbrev pub least : ℕ → (ℕ → Bool) → Option ℕ
least zero p = None
least (suc n) p = if is_some (least n p) then least n p else (if p n then Some n else None)

abbrev pub fault_at : (SiteNo → ReachFault) → Option ℕ → Option ReachFault
fault_at f None = None
fault_at f (Some s) = Some (f (record { 0 = s }))

abbrev pub fault_if : Bool → ReachFault → Option ReachFault
fault_if b fault = if b then Some fault else None

-- The first fault there is.
abbrev pub first_fault : List (Option ReachFault) → Option ReachFault
first_fault [] = None
first_fault (Some fault ∷ rest) = Some fault
first_fault (None ∷ rest) = first_fault rest

abbrev pub is_down : SchemaValue → List Entry → ℕ → Bool
is_down schema t s = not (is_up (fresh schema s) (own s t))

abbrev pub is_short_of : SchemaValue → List Entry → ℕ → ℕ → ℕ → Kind → Bool
is_short_of schema t f to from k = nat_lt (accepted_between schema t f k from to) (given_between schema t f k from to)

abbrev pub is_unstated : SchemaValue → List Entry → ℕ → ℕ → ℕ → Kind → Bool
is_unstated schema t f from to k =
    nat_lt 0 (given_between schema t f k from to) && (number_of (telling schema t f k from to) (statements_issued t) == 0)

abbrev pub is_tightened : SchemaValue → List Entry → ℕ → Bool
is_tightened schema t f = nat_lt 0 (cuts schema t f Lower) || nat_lt 0 (cuts schema t f Raise)

abbrev pub has_no_number : SchemaValue → List Entry → ℕ → ℕ → Bool
has_no_number schema t named s = not (s == named) && nat_le max_number (count_since is_begun_reply (own s t))

abbrev pub lies_outside : ℤ × ℤ → ℤ → Bool
lies_outside interval target = int_lt target interval.0 || int_lt interval.1 target

-- The faults, in their order, each where it holds.
abbrev pub reach_faults : SchemaValue → List Entry → SiteNo → FieldNo → ℤ → List (Option ReachFault)
reach_faults schema t site field target =
    let interval = interval_at (place schema site.0 (fresh schema site.0) (own site.0 t)) field in
    fault_if (nat_le schema.sites site.0) NoSite
    ∷ fault_if (nat_le (length schema.fields) field.0) NoField
    ∷ fault_at NotUp (least schema.sites (is_down schema t))
    ∷ fault_at InFlight (least schema.sites (λ from. is_short_of schema t field.0 site.0 from Lower
    || is_short_of schema t field.0 site.0 from Raise))
    ∷ fault_at Unstated (least schema.sites (λ to. is_unstated schema t field.0 site.0 to Lower
    || is_unstated schema t field.0 site.0 to Raise))
    ∷ fault_if (is_tightened schema t field.0) Tightened
    ∷ fault_at Numbers (least schema.sites (has_no_number schema t site.0))
    ∷ fault_if (lies_outside interval target) (Outside interval.0 interval.1)
    ∷ []

-- The first fault that holds.
abbrev pub reach_fault : SchemaValue → List Entry → SiteNo → FieldNo → ℤ → Option ReachFault
reach_fault schema t site field target = first_fault (reach_faults schema t site field target)

-- ---- what is promised

abbrev pub IsFine : WorldStep → Type 0
IsFine step = luck_of step ≡ Fine

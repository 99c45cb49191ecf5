-- What an entry adds to the records, and how many.
use Rattle.std.proofs.Common.{◌≡◌, ℕ, ◌+◌, ◌≤◌, Bool, true, false, cond, List, [], ◌∷◌, reverse, length, refl, sym, ap, subst, ◌∙◌, arith}
use Rattle.std.proofs.lemmas.List.{length-append}
use Rattle.std.specs.List.{AllByRecursion}
use Rattle.field_bounds.specs.declared.entry.Command.{Command}
use Rattle.field_bounds.specs.declared.entry.Command.TheVariants.{Begin, Escrow, Commit, Abort, Give, Restate, Spare, Tighten, Accept, Read, Share, Restart}
use Rattle.field_bounds.specs.declared.entry.Reply.{Reply}
use Rattle.field_bounds.specs.declared.entry.Reply.TheVariants.{Restarted, Unsure, StillDown, Refused}
use Rattle.field_bounds.specs.declared.entry.Entry.{Entry}
use Rattle.kept_records.specs.declared.record.Record.{Record}
use Rattle.kept_records.specs.declared.record.Record.TheVariants as records
use Rattle.field_bounds.specs.Schema.{SchemaValue}
use Rattle.field_bounds.specs.Effects.{Base, doubt_kept_before, escrows_of}
use Rattle.field_bounds.specs.Owed.{Place, place, answer, writes}
use Rattle.kept_records.specs.Stands.{is_summary}
use Rattle.kept_records.specs.Keeping.{is_restart as is_restart_record}
use Rattle.kept_state.specs.Keeps.{record_left, adds, Keeps}
use Rattle.field_bounds.proofs.Refused.{is_restart}

-- ---- the record of a command

-- a command leaves one record exactly where it writes one
left_is : (at : Place) (c : Command) → (r : Record) × (record_left at c ≡ cond (writes at c) (r ∷ []) [])
left_is at (Commit txn) = (records.Commit txn (reverse (escrows_of txn at.effects)), refl)
left_is at (Give to field kind amount) = (_, refl)
left_is at (Spare to field kind want) = (_, refl)
left_is at (Tighten field kind amount) = (_, refl)
left_is at (Accept told) = (records.Accept told.from told.field told.kind told.total, refl)
left_is at c = (records.Restart 0, refl)

pub one_left : (at : Place) (c : Command) → writes at c ≡ true → (r : Record) × (record_left at c ≡ r ∷ [])
one_left at c w = let is = left_is at c in (is.0, is.1 ∙ ap (λ (b : Bool). cond b (is.0 ∷ []) []) w)

pub none_left : (at : Place) (c : Command) → writes at c ≡ false → record_left at c ≡ []
none_left at c w = let is = left_is at c in is.1 ∙ ap (λ (b : Bool). cond b (is.0 ∷ []) []) w

some_there : (b : Bool) (r other : Record) → cond b (r ∷ []) [] ≡ other ∷ [] → b ≡ true
some_there true r other same = refl
some_there false r other same = cc

pub left_writes : (at : Place) (c : Command) {r : Record} → record_left at c ≡ r ∷ [] → writes at c ≡ true
left_writes at c {r = r} left = let is = left_is at c in some_there (writes at c) is.0 r (sym is.1 ∙ left)

length_cond : (b : Bool) (r : Record) → length (cond b (r ∷ []) []) ≡ cond b 1 0
length_cond true r = refl
length_cond false r = refl

pub length_left : (at : Place) (c : Command) → length (record_left at c) ≡ cond (writes at c) 1 0
length_left at c = let is = left_is at c in ap length is.1 ∙ length_cond (writes at c) is.0

one_most : (b : Bool) → cond b 1 0 ≤ 1
one_most true = omega arith
one_most false = omega arith

pub few_left : (at : Place) (c : Command) → length (record_left at c) ≤ 1
few_left at c = omega (arith, length_left at c, one_most (writes at c))

-- what holds of a record, where it is left, holds of each that is left
pub each_if : (P : Record → Type 0) (b : Bool) (r : Record) → (b ≡ true → P r) → AllByRecursion P (cond b (r ∷ []) [])
each_if P true r h = (h refl, tt)
each_if P false r h = tt

-- and what holds of each holds of the only one
pub of_one : (P : Record → Type 0) {rs : List Record} {r : Record} → rs ≡ r ∷ [] → AllByRecursion P rs → P r
of_one P is each = (subst (λ (x : List Record). AllByRecursion P x) is each).0

-- a command leaves no record of a restart, and no summary
abbrev pub IsOwn : Record → Type 0
IsOwn r = (is_restart_record r ≡ false) × (is_summary r ≡ false)

own_left : (at : Place) (c : Command) → AllByRecursion IsOwn (record_left at c)
own_left at (Commit txn) = each_if IsOwn (writes at (Commit txn)) (records.Commit txn (reverse (escrows_of txn at.effects))) (λ w. (refl, refl))
own_left at (Give to field kind amount) = ((refl, refl), tt)
own_left at (Spare to field kind want) = ((refl, refl), tt)
own_left at (Tighten field kind amount) = ((refl, refl), tt)
own_left at (Accept told) =
    each_if IsOwn (writes at (Accept told)) (records.Accept told.from told.field told.kind told.total) (λ w. (refl, refl))
own_left at c = tt

pub left_is_own : (at : Place) (c : Command) {r : Record} → record_left at c ≡ r ∷ [] → IsOwn r
left_is_own at c left = of_one IsOwn left (own_left at c)

-- an answer leaves the record of its command
pub adds_answer : (at : Place) (c : Command) (stood : Bool) (rs : List Record) → is_restart c ≡ false
    → adds at c (answer at c) stood rs ≡ record_left at c
adds_answer at Begin stood rs n = refl
adds_answer at (Escrow txn field change) stood rs n = refl
adds_answer at (Commit txn) stood rs n = refl
adds_answer at (Abort txn) stood rs n = refl
adds_answer at (Give to field kind amount) stood rs n = refl
adds_answer at (Restate to field kind) stood rs n = refl
adds_answer at (Spare to field kind want) stood rs n = refl
adds_answer at (Tighten field kind amount) stood rs n = refl
adds_answer at (Accept told) stood rs n = refl
adds_answer at (Read field) stood rs n = refl
adds_answer at (Share field) stood rs n = refl
adds_answer at Restart stood rs n = cc

-- ---- each entry leaves at most one record

length_stood : (b : Bool) (rs : List Record) → length rs ≤ 1 → length (cond b rs []) ≤ 1
length_stood true rs h = h
length_stood false rs h = omega arith

pub length_adds : (at : Place) (c : Command) (r : Reply) (stood : Bool) (front : List Record) → length (adds at c r stood front) ≤ 1
length_adds at c (Refused x) stood front = omega arith
length_adds at c (Restarted epoch found) stood front = omega arith
length_adds at c StillDown stood front = length_stood stood (_ ∷ []) (omega arith)
length_adds at c Unsure stood front = length_stood stood (record_left at c) (few_left at c)
length_adds at c r stood front = few_left at c

pub keeps_length : (schema : SchemaValue) (s : ℕ) (base : Base) (bs : List Record) (kept : Bool) (o : List Entry) (rs : List Record)
    → Keeps schema s base bs kept o rs → length rs ≤ length bs + length o
keeps_length schema s base bs kept [] rs keeps = omega (arith, ap length keeps)
keeps_length schema s base bs kept (e ∷ o) rs keeps =
    omega (
      arith,
      ap length keeps.4,
      length-append keeps.0 (adds (place schema s base o) e.command e.reply keeps.1 keeps.0),
      length_adds (place schema s base o) e.command e.reply keeps.1 keeps.0,
      keeps_length schema s base bs (doubt_kept_before kept e.reply) o keeps.0 keeps.2,
    )

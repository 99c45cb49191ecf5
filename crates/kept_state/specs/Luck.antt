-- The one reply of a step whose append goes by luck (this project). Lists have the newest first.
use Rattle.std.specs.Prelude.{ℕ, suc, ◌+◌, ◌==◌, nat_le, Bool, true, false, ◌&&◌, if◌then◌else◌, List, [], ◌∷◌, length, Option, Some, None}
use Rattle.std.specs.List.{flat_map}
use Rattle.field_bounds.specs.declared.entry.Command.{Command}
use Rattle.field_bounds.specs.declared.entry.Reply.{Reply}
use Rattle.field_bounds.specs.declared.entry.Reply.TheVariants.{Restarted, Unsure, StillDown, Refused}
use Rattle.field_bounds.specs.declared.entry.Refusal.{Refusal}
use Rattle.field_bounds.specs.declared.entry.Refusal.TheVariants.{NumbersFull}
use Rattle.field_bounds.specs.declared.entry.Last.{Last}
use Rattle.field_bounds.specs.declared.entry.Last.TheVariants.{Nothing, Kept, Lost}
use Rattle.field_bounds.specs.declared.entry.Entry.{Entry}
use Rattle.field_bounds.specs.Schema.{SchemaValue}
use Rattle.field_bounds.specs.Shape.{answered, restarted, in_doubt, stays_down, refused, shape, asks_restart}
use Rattle.field_bounds.specs.Effects.{Base}
use Rattle.field_bounds.specs.Owed.{Place, place, first, refusals, answer, writes, epoch_of, max_epoch}
use Rattle.kept_records.specs.declared.record.Record.TheVariants.{Restart}
use Rattle.kept_records.specs.Text.{text}
use Rattle.kept_state.specs.declared.luck.Luck.{Luck}
use Rattle.kept_state.specs.declared.luck.Luck.TheVariants.{Fine, Torn}
use Rattle.kept_state.specs.Keeps.{record_left}

-- How many bytes the record of a command has, where a site stands.
abbrev pub record_length : Place → Command → ℕ
record_length at command = length (flat_map text (record_left at command))

-- How many bytes the record of a restart has.
abbrev pub restart_length : ℕ → ℕ
restart_length epoch = length (text (Restart epoch))

-- An entry with the luck of its step.
abbrev pub Lucky : Type 0
Lucky = Entry × Luck

abbrev pub entries : List Lucky → List Entry
entries [] = []
entries (x ∷ xs) = x.0 ∷ entries xs

abbrev pub own_lucky : ℕ → List Lucky → List Lucky
own_lucky s [] = []
own_lucky s (x ∷ xs) = if x.0.site.0 == s then x ∷ own_lucky s xs else own_lucky s xs

-- Whether a torn append leaves its whole record, of so many bytes (this project).
abbrev pub leaves : Luck → ℕ → Bool
leaves Fine size = false
leaves (Torn bytes) size = nat_le size bytes

-- ---- the restarts since the last Restarted that failed and left a whole record

abbrev pub covered_after : Reply → Luck → ℕ → ℕ → ℕ
covered_after r luck size n =
    let more = if leaves luck size then suc n else n in
    elim (shape r) [ answered ↦ n | restarted _ _ ↦ 0 | in_doubt ↦ n | stays_down ↦ more | refused _ ↦ n ]

abbrev pub covered_restarts : Base → List Lucky → ℕ
covered_restarts base [] = 0
covered_restarts base (x ∷ xs) =
    covered_after x.0.reply x.1 (restart_length (epoch_of base (entries xs) + covered_restarts base xs + 1)) (covered_restarts base xs)

-- ---- what a restart finds of the record in doubt

abbrev pub doubt_after : Reply → Luck → ℕ → Last → Last
doubt_after r luck size before =
    let found = if leaves luck size then Kept else Lost in
    elim (shape r) [ answered ↦ before | restarted _ _ ↦ Nothing | in_doubt ↦ found | stays_down ↦ before | refused _ ↦ before ]

abbrev pub doubt : SchemaValue → ℕ → Base → List Lucky → Last
doubt schema s base [] = Nothing
doubt schema s base (x ∷ xs) =
    doubt_after x.0.reply x.1 (record_length (place schema s base (entries xs)) x.0.command) (doubt schema s base xs)

-- ---- the one reply

abbrev pub is_torn : Luck → Bool
is_torn Fine = false
is_torn (Torn bytes) = true

abbrev pub refused_or : Option Refusal → Reply → Reply
refused_or None reply = reply
refused_or (Some refusal) reply = Refused refusal

-- A restart that finds this greatest epoch and this of the record in doubt.
abbrev pub restart_reply : ℕ → Last → Luck → Reply
restart_reply kept_epoch found luck =
    if nat_le max_epoch kept_epoch then Refused NumbersFull else (if is_torn luck then StillDown else Restarted (kept_epoch + 1) found)

-- Any other command: in doubt exactly where it would append and its luck is torn.
abbrev pub answer_reply : Place → Command → Luck → Reply
answer_reply at command luck =
    refused_or (first (refusals at command)) (if is_torn luck && writes at command then Unsure else answer at command)

-- The one reply, where a restart would find this greatest epoch and this of the record in doubt.
abbrev pub owed_with : Place → ℕ → Last → Command → Luck → Reply
owed_with at epoch found command luck =
    if asks_restart command then restart_reply epoch found luck else answer_reply at command luck

-- The greatest epoch kept, after a reply.
abbrev pub epoch_kept : Reply → Luck → ℕ → ℕ
epoch_kept r luck kept =
    let more = if leaves luck (restart_length (kept + 1)) then kept + 1 else kept in
    elim (shape r) [ answered ↦ kept | restarted epoch _ ↦ epoch | in_doubt ↦ kept | stays_down ↦ more | refused _ ↦ kept ]

-- The one reply after what a site has lived through.
abbrev pub lucky_reply : SchemaValue → ℕ → Base → List Lucky → Command → Luck → Reply
lucky_reply schema s base xs command luck =
    owed_with (place schema s base (entries xs)) (epoch_of base (entries xs) + covered_restarts base xs)
    (doubt schema s base xs) command luck

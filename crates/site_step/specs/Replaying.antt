-- How many records a restart replays (this project). A history has the newest entry first.
use Rattle.std.specs.Prelude.{◌≡◌, ◌⊎◌, ℕ, ◌+◌, max, List, [], ◌∷◌, Option, Some, None}
use Rattle.field_bounds.specs.declared.entry.Reply.{Reply}
use Rattle.field_bounds.specs.declared.entry.Entry.{Entry}
use Rattle.field_bounds.specs.Shape.{answered, restarted, in_doubt, stays_down, refused, shape}
use Rattle.kept_records.specs.declared.medium.Mishap.{Mishap}
use Rattle.kept_records.specs.declared.medium.Mishap.TheVariants.{Never, Append, Cut, Read}

-- What a restart that failed replayed: under a mishap for appends or for cuts it had read the medium, and replayed the
-- records behind the last whole summary; under one for reads it replayed none, and what was told before stays. Where no
-- mishap strikes it doesn't fail. Where none is known, it did one or the other.
abbrev pub ReplaysFailed : Option Mishap → ℕ → ℕ → ℕ → Type 0
ReplaysFailed None behind before after = (after ≡ behind) ⊎ (after ≡ before)
ReplaysFailed (Some Never) behind before after = ⊥
ReplaysFailed (Some (Append bytes)) behind before after = after ≡ behind
ReplaysFailed (Some Cut) behind before after = after ≡ behind
ReplaysFailed (Some Read) behind before after = after ≡ before

-- A restart that went well replayed the records behind the last whole summary. Nothing but a restart changes how many were
-- replayed last.
abbrev pub Replays : Reply → Option Mishap → ℕ → ℕ → ℕ → Type 0
Replays r foretold behind before after =
    elim (shape r) [
      | answered ↦ after ≡ before
      | restarted _ _ ↦ after ≡ behind
      | in_doubt ↦ after ≡ before
      | stays_down ↦ ReplaysFailed foretold behind before after
      | refused _ ↦ after ≡ before
    ]

-- How many restarts failed since the last one that went well.
abbrev pub downs_after : Reply → ℕ → ℕ
downs_after r n = elim (shape r) [ answered ↦ n | restarted _ _ ↦ 0 | in_doubt ↦ n | stays_down ↦ n + 1 | refused _ ↦ n ]

abbrev pub downs_since : List Entry → ℕ
downs_since [] = 0
downs_since (e ∷ o) = downs_after e.reply (downs_since o)

-- The same before the last restart that read the medium: the last that went well, or one that failed behind it.
abbrev pub downs_at : Reply → ℕ → ℕ → ℕ
downs_at r since before =
    elim (shape r) [ answered ↦ before | restarted _ _ ↦ since | in_doubt ↦ before | stays_down ↦ max since before | refused _ ↦ before ]

abbrev pub downs_before : List Entry → ℕ
downs_before [] = 0
downs_before (e ∷ o) = downs_at e.reply (downs_since o) (downs_before o)

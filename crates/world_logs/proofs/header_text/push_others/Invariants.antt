use Rattle.std.proofs.Common.{◌≡◌, ◌-◌, ◌++◌, take, drop, string_bytes}
use Rattle.world_logs.specs.HeaderText.{others_text}
use Rattle.world_logs.proofs.header_text.push_others.Given as goal

-- those of the fields so far
abbrev pub invariant-loop-number : goal.invariant-loop-number
invariant-loop-number l =
    string_bytes l.header ≡ string_bytes l.initial.header ++ others_text (take (l.number - 1) (drop 1 l.schema.fields))

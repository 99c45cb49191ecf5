-- A reader or a writer that is watched (this project).
use Rattle.std.specs.Prelude.{ℕ, List, Option}
use Rattle.script_input.specs.declared.watched.Watched.{Watched}
use Rattle.script_input.specs.declared.streams.CallEnd.{CallEnd}

-- The reader or the writer.
abbrev pub inner_of : {T : Type 0} → Watched T → T
inner_of w = w.inner

-- How its last call ended.
abbrev pub last_of : {T : Type 0} → Watched T → CallEnd
last_of w = w.last

-- How many of its calls failed, or took none of their bytes.
abbrev pub failures_of : {T : Type 0} → Watched T → ℕ
failures_of w = w.failures

-- The bytes that are known of it: those that a reader has left, or those that a writer holds.
abbrev pub known_bytes : {T : Type 0} → (T → Option (List ℕ)) → Watched T → Option (List ℕ)
known_bytes bytes w = bytes w.inner

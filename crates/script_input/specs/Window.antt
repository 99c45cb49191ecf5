-- What a window on an input shows (this project). No public clause cites this module but by `Reader`.
use Rattle.std.specs.Prelude.{ℕ, List, slice_range}
use Rattle.script_input.specs.declared.window.Window.{Window}

-- The bytes that were read and not given.
abbrev pub rest_of : Window → List ℕ
rest_of w = slice_range w.bytes.items w.start w.end

-- The line that was given last.
abbrev pub line_of : Window → List ℕ
line_of w = slice_range w.bytes.items w.from w.to

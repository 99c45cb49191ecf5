-- What a trace is told of the answers of a site (this project).
use Rattle.std.specs.Prelude.{◌≡◌, ℕ, List, ◌++◌, Option}
use Rattle.std.specs.Io.KnownBytes.{append_known}

-- A trace's file: the bytes that it holds, and those that are safe, where they are known.
pub record TraceValue : Type 0 where
  pub bytes : Option (List ℕ)
  pub safe : Option (List ℕ)

abbrev pub trace_of : Option (List ℕ) → Option (List ℕ) → TraceValue
trace_of bytes safe = record { bytes = bytes; safe = safe }

-- A trace of which all was safe.
abbrev pub WasSafe : TraceValue → Type 0
WasSafe was = was.safe ≡ was.bytes

-- The trace has grown by this text, and if all of it was safe it still is.
pub record HasTold (was now : TraceValue) (text : List ℕ) : Type 0 where
  pub added : now.bytes ≡ append_known was.bytes text
  pub safe : WasSafe was → now.safe ≡ now.bytes

-- If all of the trace was safe, this text is now safe behind it, and maybe more.
pub record HasKept (was now : TraceValue) (text : List ℕ) : Type 0 where
  pub safe : WasSafe was → (more : List ℕ) × (now.safe ≡ append_known was.bytes (text ++ more))

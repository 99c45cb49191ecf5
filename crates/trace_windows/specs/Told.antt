-- Which histories windows tell (this project).
use Rattle.std.specs.Prelude.{◌≡◌, ◌<◌, ℕ, List, length, Option, slice_index_or}
use Rattle.field_bounds.specs.Schema.{SchemaValue}
use Rattle.field_bounds.specs.Limits.{IsSchema}
use Rattle.field_bounds.specs.declared.entry.Entry.{Entry}
use Rattle.trace_weave.specs.Weave.{history_at}
use Rattle.trace_windows.specs.declared.window.TraceWindow.{TraceWindow}
use Rattle.trace_windows.specs.declared.windows.TraceWindows.{TraceWindows}
use Rattle.trace_windows.specs.Texts.{AreFirst}
use Rattle.trace_windows.specs.Windows.{IsFilled}

-- The window tells these entries: they are the first ones of the text that its file has, as many as count, and n were taken.
pub record Tells {F : Type 0} (bytes : F → Option (List ℕ)) (schema : SchemaValue) (entries : List Entry) (n : ℕ) (w : TraceWindow F)
    : Type 0 where
  pub text : List ℕ
  pub count : ℕ
  pub first : AreFirst schema text count entries
  pub at : IsFilled bytes schema text count n w

-- Each window tells the history of its place, from the first entry on.
pub record TellEach {F : Type 0} (bytes : F → Option (List ℕ)) (schema : SchemaValue) (hs : List (List Entry)) (traces : List (TraceWindow F))
    : Type 0 where
  pub limits : IsSchema schema
  pub sites : length hs ≡ length traces
  pub each : (s : ℕ) (d : TraceWindow F) → s < length hs → Tells bytes schema (history_at hs s) 0 (slice_index_or traces s d)

-- The windows tell these histories, of each of which so many entries were taken.
pub record AreTold {F : Type 0} (bytes : F → Option (List ℕ)) (hs : List (List Entry)) (counts : List ℕ) (w : TraceWindows F) : Type 0 where
  pub limits : IsSchema w.schema.now
  pub sites : length hs ≡ length w.traces.items
  pub sized : length counts ≡ length hs
  pub each : (s : ℕ) (d : TraceWindow F) → s < length hs
      → Tells bytes w.schema.now (history_at hs s) (slice_index_or counts s 0) (slice_index_or w.traces.items s d)

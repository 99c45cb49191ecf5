-- What the traces of a world's sites hold, by the bytes that were read of them (this project).
use Rattle.std.specs.Prelude.{◌≡◌, ◌<◌, ◌+◌, ℕ, List, ◌++◌, length, ⊤, Option, Some, None, string_bytes, slice_index_or}
use Rattle.std.specs.Global.{Vec}
use Rattle.field_bounds.specs.Schema.{SchemaValue}
use Rattle.field_bounds.specs.declared.entry.Entry.{Entry}
use Rattle.kept_records.specs.declared.counting.LogCount.{LogCount}
use Rattle.site_folder.specs.Identity.{IdentityValue, trace_name}
use Rattle.site_trace.specs.declared.reading.Trace.{Trace}
use Rattle.site_trace.specs.declared.cutting.TraceEnd.{TraceEnd}
use Rattle.site_trace.specs.Traces.{IsTrace}
use Rattle.site_trace.specs.Ends.{IsEnd}
use Rattle.site_trace.specs.Kept.{AreKept}
use Rattle.world_folders.specs.declared.tracing.TraceCut.{TraceCut}
use Rattle.world_folders.specs.declared.worlds.SiteFolder.{SiteFolder}
use Rattle.world_folders.specs.Reading.{IsRead}
use Rattle.world_folders.specs.Folders.{IsFolderOf}
use Rattle.world_folders.specs.Logs.{CountsLog}

-- The text is a trace, and this is where it ends that is cut back to a log of so many records.
pub record IsTraceEnd (schema : SchemaValue) (text : List ℕ) (kept : ℕ) (end : TraceEnd) : Type 0 where
  pub trace : Trace
  pub read : IsTrace schema text trace
  pub cut : IsEnd trace kept end

-- The log was read, and then the trace: it is cut where it tells of as many records as the log holds, summaries left out.
pub record IsCutRead (holds : List ℕ → List ℕ → Type 0) (log_path trace_path : List ℕ) (identity : IdentityValue)
    (cut : TraceCut) : Type 0 where
  pub count : LogCount
  pub log : CountsLog holds log_path identity count
  pub file : List ℕ
  pub read : IsRead holds trace_path file
  pub text : List ℕ
  pub file_is : file ≡ trace_name identity ++ text
  pub end : IsTraceEnd identity.schema text count.plain cut.end
  pub name : cut.name ≡ length (trace_name identity)
  pub length_is : cut.length ≡ length file

-- How many bytes of a trace's file stay: its name, and the entries that stay.
abbrev pub kept_of : TraceCut → ℕ
kept_of cut = cut.name + cut.end.length

-- The file has as many bytes as the one that was read, where its bytes are known.
abbrev pub IsOfFile : TraceCut → Option (List ℕ) → Type 0
IsOfFile cut None = ⊤
IsOfFile cut (Some bytes) = cut.length ≡ length bytes

-- The log was read, and then the trace: these are the entries of it that stay where it is cut back to that log.
pub record AreEntriesRead (holds : List ℕ → List ℕ → Type 0) (log_path trace_path : List ℕ) (identity : IdentityValue)
    (entries : List Entry) : Type 0 where
  pub count : LogCount
  pub log : CountsLog holds log_path identity count
  pub file : List ℕ
  pub read : IsRead holds trace_path file
  pub text : List ℕ
  pub file_is : file ≡ trace_name identity ++ text
  pub kept : AreKept identity.schema text count.plain entries

-- The log and the trace in the folder of the site were read, and these are the entries that stay.
pub record IsHistoryRead (holds : List ℕ → List ℕ → Type 0) (folders : List SiteFolder) (s : ℕ) (entries : List Entry) : Type 0 where
  pub folder : SiteFolder
  pub own : IsFolderOf folders s folder
  pub read : AreEntriesRead holds (string_bytes folder.paths.log) (string_bytes folder.paths.trace) folder.identity entries

-- Those of all sites, in their order: each of its own trace.
pub record AreHistoriesRead (holds : List ℕ → List ℕ → Type 0) (folders : List SiteFolder) (schema : SchemaValue)
    (histories : List (Vec Entry)) : Type 0 where
  pub count : length histories ≡ schema.sites
  pub each : (s : ℕ) (d : Vec Entry) → s < schema.sites → IsHistoryRead holds folders s (slice_index_or histories s d).items

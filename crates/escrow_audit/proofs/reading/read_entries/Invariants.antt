use Rattle.std.proofs.Common.{◌≡◌, ℕ, List, true}
use Rattle.field_bounds.specs.declared.entry.Entry.{Entry}
use Rattle.script_input.specs.Reader.{ahead_of, Reads}
use Rattle.escrow_audit.specs.Audit.{HasEntries}
use Rattle.escrow_audit.specs.Reading.{WantsAt}
use Rattle.escrow_audit.proofs.reading.read_entries.Given as goal

abbrev pub invariant-lines : goal.invariant-lines
invariant-lines g l = record {
  given : List (List ℕ);
  reads : Reads (g.R.Source.bytes l.fn.reader) (g.R.Source.bytes l.reader) (g.R.Source.last l.reader) l.lines given;
  entries : List Entry;
  has : HasEntries l.schema entries given;
  taken : g.E.TakesEntries.has_taken l.schema entries l.taken;
  none : l.lines.passed ≡ 0;
  wants : WantsAt true (g.R.Source.bytes l.fn.reader) (g.R.Source.bytes l.reader);
  failures : g.R.Source.failures l.reader ≡ g.R.Source.failures l.fn.reader;
}

abbrev pub decreases-lines : goal.decreases-lines
decreases-lines g l = ahead_of l.lines

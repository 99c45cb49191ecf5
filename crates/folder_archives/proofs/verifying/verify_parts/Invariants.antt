-- The parts from the next one on were verified.
use Rattle.std.proofs.Common.{string_bytes}
use Rattle.folder_archives.specs.Steps.{IsNextPart}
use Rattle.folder_archives.proofs.verifying.verify_parts.Given as goal

abbrev pub invariant-parts : goal.invariant-parts
invariant-parts g l = record {
  behind : IsNextPart (g.R.ReadsFiles.holds l.fn.files) (string_bytes l.fn.paths.log) l.fn.identity l.next l.fn.totals;
}

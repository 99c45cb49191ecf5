use Rattle.std.proofs.Common.{◌+◌, refl, sym}
use Rattle.std.proofs.lemmas.List.{take-append-drop}
use Rattle.site_service.proofs.Ends.{last_byte, no_byte}
use Rattle.site_handle.proofs.lines.whole_lines.Goals as goal

pub returns-in-Some-clause-lines : goal.returns-in-Some-clause-lines
returns-in-Some-clause-lines c =
    let ends = last_byte c.args.bytes.now c.in-Some.at c.in-Some.ensures in
    record { parts = sym (take-append-drop (c.in-Some.at + 1) c.args.bytes.now); whole = ends.0; no_lf = ends.1 }

pub returns-in-None-clause-lines : goal.returns-in-None-clause-lines
returns-in-None-clause-lines c =
    record { parts = sym (take-append-drop 0 c.args.bytes.now); whole = refl; no_lf = no_byte c.args.bytes.now c.in-None.ensures }

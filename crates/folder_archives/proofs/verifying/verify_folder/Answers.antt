use Rattle.std.proofs.Common.{ℕ, List, string_bytes, subst}
use Rattle.folder_logs.specs.Files.{bytes_of}
use Rattle.folder_archives.specs.Steps.{IsBeginning}
use Rattle.folder_archives.proofs.Chained.{log_all, log_next, of_log}
use Rattle.folder_archives.proofs.verifying.verify_folder.Goals as goal

pub verify_parts-requires : goal.verify_parts-requires
verify_parts-requires g c =
    let holds = g.R.ReadsFiles.holds c.args.files.now in
    let log = string_bytes c.args.paths.now.log in
    let identity = c.args.identity.now in
    let held = c.in_ok-held.held in
    let read = of_log holds c.as_str.result.now log identity c.in_ok-bytes.bytes.items c.as_slice.result.now held.gone (bytes_of held.records)
    c.as_str.ensures.value c.as_slice.ensures.value c.in_ok-bytes.ensures.read c.in_ok-held.ensures.held in
    let begins = rw c.in-Some.is at c.in_ok-last.ensures.begins in
    record {
      next = log_next holds log identity c.in_ok-totals.totals held.gone (bytes_of held.records) c.in-Some.last read
          c.in_ok-totals.ensures.last
          (subst (λ (p : List ℕ). IsBeginning p held.gone (bytes_of held.records) c.in-Some.last) c.as_str-2.ensures.value begins);
    }

pub returns-clause-verified : goal.returns-clause-verified
returns-clause-verified g c =
    let holds = g.R.ReadsFiles.holds c.args.files.now in
    let log = string_bytes c.args.paths.now.log in
    let identity = c.args.identity.now in
    let held = c.in_ok-held.held in
    let read = of_log holds c.as_str.result.now log identity c.in_ok-bytes.bytes.items c.as_slice.result.now held.gone (bytes_of held.records)
    c.as_str.ensures.value c.as_slice.ensures.value c.in_ok-bytes.ensures.read c.in_ok-held.ensures.held in
    log_all holds log identity c.in_ok-totals.totals held.gone (bytes_of held.records) read c.in_ok-totals.ensures.last
    (rw c.in-None.is at c.in_ok-last.ensures.begins)

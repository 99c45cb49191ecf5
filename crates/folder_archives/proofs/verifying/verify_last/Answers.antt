use Rattle.std.proofs.Common.{string_bytes}
use Rattle.folder_logs.specs.Files.{bytes_of}
use Rattle.folder_archives.proofs.Lasts.{last}
use Rattle.folder_archives.proofs.Whys.{bad_last}
use Rattle.folder_archives.proofs.verifying.verify_last.Goals as goal
use Rattle.folder_archives.proofs.verifying.verify_last.Goals.{in-Standing+in_ok-totals_of-in-Standing, in-BadLine2}

pub returns : goal.returns
returns c = elim c.match-branch-2.branch [
  | in-Standing+in_ok-totals_of-in-Standing w ↦
      let held = c.args.held.now in
      let told = c.in_ok-replay_held.ensures in
      record {
        last = rw w.result-is
            (last c.args.identity.now c.schema.result.now c.number.result held.gone (bytes_of held.records) c.as_slice-records.result.now
            w.in_ok-totals_of-in-Standing.field-0 c.in_ok-replay_held.field-0 w.in-Standing.standing w.in-Standing.length
            c.schema.ensures.value c.number.ensures.value c.as_slice-records.ensures.bytes w.in-Standing.is told.whole told.behind
            w.in_ok-totals_of-in-Standing.ensures.totals);
        fault = rw w.result-is tt;
      }
  | in-BadLine2 w ↦
      let held = c.args.held.now in
      let told = c.in_ok-replay_held.ensures in
      record {
        last = rw w.result-is tt;
        fault = rw w.result-is
            (bad_last (string_bytes c.args.paths.now.log) w.as_str.result.now c.args.identity.now c.schema.result.now c.number.result held.gone
            (bytes_of held.records) c.as_slice-records.result.now c.in_ok-replay_held.field-0 w.in-BadLine.number w.refused.result
            w.as_str.ensures.value c.schema.ensures.value c.number.ensures.value c.as_slice-records.ensures.bytes told.whole told.behind
            w.in-BadLine.is w.refused.ensures);
      }
]

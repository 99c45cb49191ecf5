use Rattle.std.proofs.Common.{string_bytes}
use Rattle.folder_logs.specs.Files.{bytes_of}
use Rattle.world_folders.proofs.ReadLogs.{have_come, of_log}
use Rattle.world_folders.proofs.folder_log.read_stand.Goals as goal

pub returns-clause-stand : goal.returns-clause-stand
returns-clause-stand g c =
    let held = c.in_ok-held.held in
    record {
      gone = held.gone;
      records = c.as_slice-2.result.now;
      log =
          of_log (g.R.ReadsFiles.holds c.args.files.now) c.as_str.result.now (string_bytes c.args.paths.now.log) c.args.identity.now
          c.in_ok-bytes.bytes.items c.as_slice.result.now held.gone (bytes_of held.records) c.as_slice-2.result.now c.as_str.ensures.value
          c.as_slice.ensures.value c.as_slice-2.ensures.bytes c.in_ok-bytes.ensures.read c.in_ok-held.ensures.held;
      come =
          have_come held.gone c.as_slice-2.result.now c.in_ok-stand_held.field-0 c.in_ok-stand_held.ensures.whole
          c.in_ok-stand_held.ensures.behind;
    }

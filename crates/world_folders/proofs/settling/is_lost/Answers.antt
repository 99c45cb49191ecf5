use Rattle.std.proofs.Common.{ℕ, List, subst}
use Rattle.folder_faults.specs.declared.fault.Missing.TheVariants.{Log}
use Rattle.world_folders.specs.Faults.{IsUnread}
use Rattle.world_folders.proofs.ReadLogs.{lost_seen}
use Rattle.world_folders.proofs.settling.is_lost.Goals as goal

pub returns-in-Ok-clause-told : goal.returns-in-Ok-clause-told
returns-in-Ok-clause-told g c =
    lost_seen (g.R.ReadsFiles.stands c.args.files.now) c.args.world.now.folders.items c.args.site.0 c.in-Some.folder.now
    c.as_str-path.result.now c.in-Ok.is_there c.as_str-path.ensures.value c.in-Some.ensures.own c.in-Ok.ensures.seen

pub returns-in-Err-clause-unseen : goal.returns-in-Err-clause-unseen
returns-in-Err-clause-unseen g c =
    let at = c.as_str-path.result.now in
    let fault = c.read_fault.result in
    record {
      folder = c.in-Some.folder.now;
      own = c.in-Some.ensures.own;
      unread =
          subst (λ (p : List ℕ). IsUnread (g.R.ReadsFiles.fails c.args.files.now) p Log fault) c.as_str-path.ensures.value
          (record { why = c.in-Err.why; failed = c.in-Err.ensures.unseen; told = c.read_fault.ensures.told });
    }

use Rattle.std.proofs.Common.{◌≡◌, take}
use Rattle.site_workers.specs.Carried.{commands_of}
use Rattle.site_workers.specs.Scripts.{IsRising}
use Rattle.site_workers.proofs.one_site.work.Given as goal

abbrev pub invariant-loop-command : goal.invariant-loop-command
invariant-loop-command g l = record {
  calls : commands_of l.receipts.items ≡ take l.command-index l.script;
  rising : IsRising l.fn.pass.last l.receipts.items l.pass.last;
}

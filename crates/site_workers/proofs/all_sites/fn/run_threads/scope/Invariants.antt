use Rattle.std.proofs.Common.{◌≡◌, vec_len}
use Rattle.site_workers.specs.Scripts.{scripts_of}
use Rattle.site_workers.specs.Jobs.{AreStarted}
use Rattle.site_workers.proofs.all_sites.fn.run_threads.scope.Given as goal

abbrev pub invariant-loop-script : goal.invariant-loop-script
invariant-loop-script g l = record {
  started : AreStarted l.schema l.gate (scripts_of l.initial.left.items) (scripts_of l.left.items) l.handles.items;
  number : l.next ≡ vec_len l.left;
}

abbrev pub decreases-loop-script : goal.decreases-loop-script
decreases-loop-script g l = vec_len l.left

use Rattle.site_workers.proofs.Carrying.{commands_step}
use Rattle.site_workers.proofs.Faults.{call_fault}
use Rattle.site_workers.proofs.Scripts.{rises_more_at}
use Rattle.site_workers.proofs.one_site.work.Goals as goal

pub loop-command-preserved : goal.loop-command-preserved
loop-command-preserved g c = record {
  calls = commands_step _ _ _ c.args.script.now c.loop-command.command-index _ c.in_ok-push-in-Ok.ensures.items c.in-Ok.ensures.ok.0
      c.loop-command.invariant.calls c.loop-command-test.true;
  rising = rises_more_at _ _ _ _ _ _ c.in_ok-push-in-Ok.ensures.items c.in-Ok.ensures.ok.1 c.in-Ok.ensures.ok.3
      c.loop-command.invariant.rising;
}

pub returns-in-Err-clause-fault : goal.returns-in-Err-clause-fault
returns-in-Err-clause-fault g c =
    call_fault c.args.desk.now.schema c.args.desk.now.site _ (g.G.Gate.turns c.args.gate.now) _ _ _ c.fault_of_call.ensures
    c.site.ensures.value c.in-Err.ensures.turned

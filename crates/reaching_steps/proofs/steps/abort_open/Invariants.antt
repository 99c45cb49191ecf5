use Rattle.std.proofs.Common.{take, map}
use Rattle.field_bounds.specs.declared.id.TxnId.{TxnId}
use Rattle.field_bounds.specs.declared.entry.Command.TheVariants.{Abort}
use Rattle.reaching_steps.specs.Reach.{fine}
use Rattle.reaching_steps.specs.Body.{Grew}
use Rattle.reaching_steps.proofs.steps.abort_open.Given as goal

abbrev pub invariant-loop-id : goal.invariant-loop-id
invariant-loop-id l =
    Grew l.fn.trial l.fn.taken.items (map (λ (id : TxnId). fine l.site.0 (Abort id)) (take l.id-index l.id-items)) l.trial l.taken.items

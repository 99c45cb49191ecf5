use Rattle.std.proofs.Common.{List, [], vec_len}
use Rattle.field_bounds.specs.Schema.{SchemaValue}
use Rattle.field_bounds.specs.declared.entry.Command.{Command}
use Rattle.site_workers.specs.Jobs.{AreJoined}
use Rattle.site_workers.proofs.all_sites.join_all.Given as goal

abbrev pub invariant-loop-handle : goal.invariant-loop-handle
invariant-loop-handle g l = (schema : SchemaValue) (gate : g.row.G.Denot) (all : List (List Command))
    → AreJoined schema gate (g.G.Gate.turns gate) all l.fn.handles.items []
    → AreJoined schema gate (g.G.Gate.turns gate) all l.handles.items l.answers.items

abbrev pub decreases-loop-handle : goal.decreases-loop-handle
decreases-loop-handle g l = vec_len l.handles

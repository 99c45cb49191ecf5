use Rattle.std.proofs.Common.{length, ap, ◌∙◌}
use Rattle.site_step.proofs.Calls.{tells_open, tells_count}
use Rattle.site_step.proofs.Settling.{some_there}
use Rattle.site_step.proofs.site.Site.escrow_count.Goals as goal

pub unwrap-requires : goal.unwrap-requires
unwrap-requires g c =
    some_there c.escrows.result (c.escrows.ensures.«open» ∙ tells_open c.self.invariant c.self.view_is c.requires.up c.args.txn
    ∙ c.requires.«open»)

pub returns : goal.returns
returns g c =
    ap length (rw c.unwrap.ensures at c.escrows.ensures.value)
    ∙ tells_count c.self.invariant c.self.view_is c.requires.up c.args.txn c.requires.«open»

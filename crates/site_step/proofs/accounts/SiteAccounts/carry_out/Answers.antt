use Rattle.site_step.specs.State.{before_taking_in}
use Rattle.log_replay.proofs.StandingLaws.{can_plain}
use Rattle.site_step.proofs.accounts.SiteAccounts.carry_out.Goals as goal

pub take_in-took-requires-clause-plain : goal.take_in-took-requires-clause-plain
take_in-took-requires-clause-plain c = can_plain c.args.schema.now
    (before_taking_in c.args.self.now c.args.kept.now).standing c.args.kept.now c.requires.can.takes_

use Rattle.site_step.proofs.Calls.{record_fits, record_plain, can_due, due_is, due_fits}
use Rattle.site_step.proofs.Settling.{ok_is}
use Rattle.site_step.proofs.site.Site.due.Goals as goal

pub due_behind-requires : goal.due_behind-requires
due_behind-requires g c =
    record {
      in_range = record_fits c.self.invariant c.self.view_is c.args.command c.requires.unrefused c.requires.kept;
      plain = record_plain c.self.invariant c.self.view_is c.args.command c.requires.unrefused c.requires.kept;
      may = can_due c.self.invariant c.self.view_is c.args.command c.requires.unrefused c.requires.kept;
    }

pub returns-clause-due : goal.returns-clause-due
returns-clause-due g c =
    ok_is c.due_behind.result (λ due told.
    due_is c.self.invariant c.self.view_is c.args.command c.requires.unrefused c.requires.kept due told)
    c.due_behind.ensures.due

pub returns-clause-ranges : goal.returns-clause-ranges
returns-clause-ranges g c =
    ok_is c.due_behind.result (λ due told.
    due_fits c.self.invariant c.self.view_is c.args.command c.requires.unrefused c.requires.kept due told)
    c.due_behind.ensures.due

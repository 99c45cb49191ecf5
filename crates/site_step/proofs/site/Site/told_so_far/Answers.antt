use Rattle.std.proofs.Common.{◌∙◌}
use Rattle.site_step.proofs.Calls.{has_place, tells_given}
use Rattle.site_step.proofs.site.Site.told_so_far.Goals as goal

pub total-requires : goal.total-requires
total-requires g c = record {
  place = has_place c.self.invariant c.self.view_is c.requires.up c.requires.other c.requires.site_in
      c.requires.field_in;
}

pub returns-clause-value : goal.returns-clause-value
returns-clause-value g c =
    c.total.ensures.value ∙ tells_given c.self.invariant c.self.view_is c.requires.up c.args.to c.args.field c.args.kind c.requires.other
    c.requires.site_in c.requires.field_in

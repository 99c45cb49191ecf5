use Rattle.std.proofs.Common.{ap, ◌∙◌, ◌-◌}
use Rattle.site_step.proofs.Calls.{has_place, tells_gain}
use Rattle.site_step.proofs.site.Site.gain.Goals as goal

pub accepted-requires : goal.accepted-requires
accepted-requires g c = record {
  place = has_place c.self.invariant c.self.view_is c.requires.up c.requires.other c.requires.site_in
      c.requires.field_in;
}

pub returns : goal.returns
returns g c =
    let told = c.args.told in
    record {
      value = c.saturating_sub.ensures ∙ ap (λ n. told.total - n) c.accepted.ensures.value
          ∙ tells_gain c.self.invariant c.self.view_is c.requires.up told.from told.field told.kind told.total c.requires.other
          c.requires.site_in c.requires.field_in;
    }

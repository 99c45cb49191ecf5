use Rattle.std.proofs.Common.{length, refl, sym, ap, subst, ◌∙◌}
use Rattle.site_step.specs.Shortening.{held_of}
use Rattle.site_service.specs.Opening.{IsSafe}
use Rattle.site_service.proofs.Links.{sound_opened, is_started, copy_safe}
use Rattle.site_service.proofs.Held.{held_medium}
use Rattle.site_service.proofs.service.Service.start.Goals as goal

pub invariant_of-service : goal.invariant_of-service
invariant_of-service g c =
    sound_opened c.args.opened.site c.args.opened.keys.last c.args.told 0 c.new-2.result.items (g.F.LogFile.bytes c.args.log)
    (g.F.LogFile.safe c.args.log) (g.F.LogFile.least c.args.log) (length c.bytes-settled.result.now) c.new.result c.args.opened.keys.lines
    c.requires.stands c.requires.let_go (ap length (c.bytes-settled.ensures.bytes ∙ held_medium c.args.opened.site c.medium.ensures.bytes)) c.requires.text
    (c.new.ensures.none (held_of c.args.opened.site)) c.requires.none

pub returns-in-Ok : goal.returns-in-Ok
returns-in-Ok g c = record {
  ok = is_started c.args.opened.site c.args.opened.keys.last c.args.told _ _ _ _ _ _ _ c.restart.new.self refl c.new-2.ensures.items c.in-Ok.ensures.ok
      c.in-Ok.ensures.settled;
  line = tt;
  safe = λ held log safe. c.in-Ok.ensures.front held log safe;
  least = c.in-Ok.ensures.least;
  told = c.in-Ok.ensures.told;
  kept = tt;
  uncut = c.in-Ok.ensures.uncut;
}

pub returns-in-Err : goal.returns-in-Err
returns-in-Err g c = record {
  ok = tt;
  line = c.in-Err.ensures.line;
  safe = λ held log safe. subst (λ k. IsSafe k held) (sym (c.into_log.ensures.safe ∙ c.in-Err.ensures.safe))
      (copy_safe (g.F.LogFile.safe c.args.log) held safe);
  least = c.into_log.ensures.least ∙ c.in-Err.ensures.least;
  told = tt;
  kept = c.in-Err.ensures.kept;
  uncut = c.in-Err.ensures.uncut;
}

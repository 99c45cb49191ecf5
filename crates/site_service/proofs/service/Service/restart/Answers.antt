use Rattle.std.proofs.Common.{ℕ, List, [], Option, refl, sym, subst, ◌∙◌}
use Rattle.file_medium.specs.Copies.{IsCopyOf}
use Rattle.std.proofs.lemmas.Result.{err_from_is_err_and}
use Rattle.field_bounds.specs.declared.entry.Command.TheVariants.{Restart}
use Rattle.site_service.specs.Answers.{Served}
use Rattle.site_service.specs.Service.{Grows}
use Rattle.site_service.specs.Traces.{trace_of, HasTold}
use Rattle.site_service.proofs.Tracing.{told_none, kept_of}
use Rattle.site_service.proofs.Links.{applied_on}
use Rattle.site_service.proofs.service.Service.restart.Goals as goal

pub returns-in_err-apply : goal.returns-in_err-apply
returns-in_err-apply g c =
    let trace = trace_of (g.T.LogFile.bytes c.args.trace.now) (g.T.LogFile.safe c.args.trace.now) in
    let p = err_from_is_err_and c.from_residual.result c.from_residual.ensures.1 in
    rw (p.1, p.2) (record {
      ok = tt;
      settled = tt;
      line = λ n is. cc;
      grows = c.apply.ensures.grows;
      safe = c.apply.ensures.log.safe;
      front = λ text log safe. tt;
      least = c.apply.ensures.log.least;
      told = tt;
      kept = kept_of trace trace [] (told_none trace);
      uncut = refl;
    })

pub returns-in-Ok : goal.returns-in-Ok
returns-in-Ok g c = record {
  ok = applied_on Restart c.args.self.now c.apply.new.self c.settle_behind.new.self c.in_ok-apply.ensures.ok c.in-Ok.ensures.served
      c.in-Ok.ensures.waiting;
  settled = c.in-Ok.ensures.ok;
  line = tt;
  grows = subst (λ (s : Served). Grows c.args.self.now.served.site s.site) (sym c.in-Ok.ensures.served) c.apply.ensures.grows;
  safe = tt;
  front = λ text log safe.
      c.in-Ok.ensures.front text (subst (λ (k : Option (List ℕ)). IsCopyOf k text) (sym c.apply.ensures.log.log) log)
      (subst (λ (k : Option (List ℕ)). IsCopyOf k text) (sym c.apply.ensures.log.safe) safe);
  least = c.in-Ok.ensures.least ∙ c.apply.ensures.log.least;
  told = subst (HasTold _ _) (sym c.in-Ok.ensures.waiting) c.in-Ok.ensures.told;
  kept = tt;
  uncut = c.in-Ok.ensures.uncut;
}

pub returns-in-Err : goal.returns-in-Err
returns-in-Err g c = record {
  ok = tt;
  settled = tt;
  line = λ n is. cc;
  grows = subst (λ (s : Served). Grows c.args.self.now.served.site s.site) (sym c.in-Err.ensures.served) c.apply.ensures.grows;
  safe = c.in-Err.ensures.safe ∙ c.apply.ensures.log.safe;
  front = λ text log safe. tt;
  least = c.in-Err.ensures.least ∙ c.apply.ensures.log.least;
  told = tt;
  kept = c.in-Err.ensures.kept;
  uncut = c.in-Err.ensures.uncut;
}

use Rattle.std.proofs.Common.{sym, subst}
use Rattle.std.proofs.lemmas.Result.{on_ok_weaker, on_err_weaker}
use Rattle.file_medium.specs.Copies.{IsCopyOf}
use Rattle.site_service.specs.Opening.{KeepsLines, SparesLines}
use Rattle.site_service.proofs.opening.keep_lines.Goals as goal

pub returns : goal.returns
returns g c =
    let known = g.F.LogFile.bytes c.args.log.now in record {
      bytes = λ held lines. on_ok_weaker c.make_safe.result
          (λ same. subst (λ k. IsCopyOf k held) (sym same) (c.in_ok-cut_behind.ensures.cut held lines)) c.make_safe.ensures.bytes;
      safe = λ held lines. on_ok_weaker c.make_safe.result
          (λ same. subst (λ k. IsCopyOf k held) (sym same) (c.in_ok-cut_behind.ensures.cut held lines)) c.make_safe.ensures.safe;
      kept = on_err_weaker c.make_safe.result
          (λ same. subst (KeepsLines known (g.F.LogFile.safe c.args.log.now)) (sym same) c.in_ok-cut_behind.ensures.safe) c.make_safe.ensures.kept;
      least = subst (SparesLines known (g.F.LogFile.least c.args.log.now)) (sym c.make_safe.ensures.least) c.in_ok-cut_behind.ensures.least;
    }

use Rattle.std.proofs.Common.{refl, ap, ◌∙◌}
use Rattle.file_medium.specs.Files.{cut_known, least_known}
use Rattle.site_service.proofs.Starts.{whole_there, whole_all, whole_cut, keeps_still, keeps_cut, spares_still, spares_cut}
use Rattle.site_service.proofs.opening.cut_behind.Goals as goal

pub cut-requires : goal.cut-requires
cut-requires g c = record { within = whole_there (g.F.LogFile.bytes c.args.log.now) c.args.whole c.args.torn c.requires.lines }

pub returns-then-not-torn : goal.returns-then-not-torn
returns-then-not-torn g c = record {
  cut = whole_all (g.F.LogFile.bytes c.args.log.now) c.args.whole c.args.torn c.requires.lines c.if-not-torn.true;
  safe = keeps_still (g.F.LogFile.bytes c.args.log.now) (g.F.LogFile.safe c.args.log.now) _ refl;
  least = spares_still (g.F.LogFile.bytes c.args.log.now) (g.F.LogFile.least c.args.log.now) _ refl;
}

pub returns-in-Ok : goal.returns-in-Ok
returns-in-Ok g c =
    let known = g.F.LogFile.bytes c.args.log.now in
    let holds = c.requires.lines in record {
      cut = whole_cut known _ c.args.whole c.args.torn holds c.in-Ok.ensures.bytes;
      safe = keeps_cut known (g.F.LogFile.safe c.args.log.now) _ holds.held holds.lines
          (c.in-Ok.ensures.safe ∙ ap (λ n. cut_known n (g.F.LogFile.safe c.args.log.now)) holds.size);
      least = spares_cut known (g.F.LogFile.least c.args.log.now) _ holds.held holds.lines
          (c.in-Ok.ensures.least ∙ ap (λ n. least_known n (g.F.LogFile.least c.args.log.now)) holds.size);
    }

pub returns-in-Err : goal.returns-in-Err
returns-in-Err g c =
    let known = g.F.LogFile.bytes c.args.log.now in record {
      cut = λ held lines. tt;
      safe = keeps_still known (g.F.LogFile.safe c.args.log.now) _ c.in-Err.ensures.safe;
      least = spares_still known (g.F.LogFile.least c.args.log.now) _ c.in-Err.ensures.least;
    }

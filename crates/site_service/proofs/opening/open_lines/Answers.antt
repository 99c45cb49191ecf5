use Rattle.std.proofs.Common.{ℕ, List, length, Option, sym, ap, subst}
use Rattle.std.proofs.lemmas.Result.{err_from_is_err_and}
use Rattle.site_step.specs.Site.{Opens}
use Rattle.file_medium.specs.Copies.{IsCopyOf}
use Rattle.site_service.specs.Service.{IsTextOf}
use Rattle.site_service.specs.Opening.{HoldsLines}
use Rattle.site_service.proofs.Links.{names_none, names_line, not_a_line}
use Rattle.site_service.proofs.Starts.{keeps_still, spares_still, keeps_from, spares_from}
use Rattle.site_service.proofs.opening.open_lines.Goals as goal

pub returns-in_err-held : goal.returns-in_err-held
returns-in_err-held g c =
    let known = g.F.LogFile.bytes c.args.log.now in
    let p = err_from_is_err_and c.from_residual.result c.from_residual.ensures.1 in
    rw (p.1, p.2) (record {
      lines = tt;
      none = tt;
      opens = tt;
      whole = tt;
      line = names_none c.args.schema c.args.number known _;
      kept = keeps_still known (g.F.LogFile.safe c.args.log.now) _ c.read_lines.ensures.safe;
      least = spares_still known (g.F.LogFile.least c.args.log.now) _ c.read_lines.ensures.least;
      same_bytes = λ n is. c.read_lines.ensures.bytes;
      same_safe = λ n is. c.read_lines.ensures.safe;
      same_least = λ n is. c.read_lines.ensures.least;
    })

pub split_lines-requires : goal.split_lines-requires
split_lines-requires g c = record { whole = c.in_ok-held.ensures.lines.lines.whole }

pub returns-in_err-keys : goal.returns-in_err-keys
returns-in_err-keys g c =
    let known = g.F.LogFile.bytes c.args.log.now in
    let p = err_from_is_err_and c.from_residual-in_err-keys.result c.from_residual-in_err-keys.ensures.1 in
    rw (p.1, p.2) (record {
      lines = tt;
      none = tt;
      opens = tt;
      whole = tt;
      line = tt;
      kept = keeps_still known (g.F.LogFile.safe c.args.log.now) _ c.read_lines.ensures.safe;
      least = spares_still known (g.F.LogFile.least c.args.log.now) _ c.read_lines.ensures.least;
      same_bytes = λ n is. c.read_lines.ensures.bytes;
      same_safe = λ n is. c.read_lines.ensures.safe;
      same_least = λ n is. c.read_lines.ensures.least;
    })

pub open_site-requires : goal.open_site-requires
open_site-requires g c = record { in_schema = c.requires.in_schema; whole = c.in_ok-keys.ensures.whole }

pub returns-in_err-site : goal.returns-in_err-site
returns-in_err-site g c =
    let known = g.F.LogFile.bytes c.args.log.now in
    let p = err_from_is_err_and c.from_residual-in_err-site.result c.from_residual-in_err-site.ensures.1 in
    rw (p.1, p.2) (record {
      lines = tt;
      none = tt;
      opens = tt;
      whole = tt;
      line = names_line c.args.schema c.args.number known c.in_ok-held.held.lines.items c.in_ok-keys.keys.last c.in_ok-keys.records.items _
          (record { lines = c.in_ok-held.ensures.lines; is = c.in_ok-keys.ensures.is }) c.in_err-site.ensures.line c.in_err-site.ensures.never;
      kept = keeps_still known (g.F.LogFile.safe c.args.log.now) _ c.read_lines.ensures.safe;
      least = spares_still known (g.F.LogFile.least c.args.log.now) _ c.read_lines.ensures.least;
      same_bytes = λ n is. c.read_lines.ensures.bytes;
      same_safe = λ n is. c.read_lines.ensures.safe;
      same_least = λ n is. c.read_lines.ensures.least;
    })

pub keep_lines-requires : goal.keep_lines-requires
keep_lines-requires g c =
    record {
      lines = record {
        held = c.in_ok-held.held.lines.items;
        lines = subst (λ (k : Option (List ℕ)). HoldsLines k c.in_ok-held.held.lines.items) (sym c.read_lines.ensures.bytes) c.in_ok-held.ensures.lines;
        size = ap length c.as_slice-whole.ensures.value;
        all = λ none. subst (λ (k : Option (List ℕ)). IsCopyOf k c.in_ok-held.held.lines.items) (sym c.read_lines.ensures.bytes)
            (c.in_ok-held.ensures.all none);
      };
    }

pub returns-in_err-keep_lines : goal.returns-in_err-keep_lines
returns-in_err-keep_lines g c =
    let known = g.F.LogFile.bytes c.args.log.now in
    let p = err_from_is_err_and c.from_residual-in_err-keep_lines.result c.from_residual-in_err-keep_lines.ensures.1 in
    rw (p.1, p.2) (record {
      lines = tt;
      none = tt;
      opens = tt;
      whole = tt;
      line = names_none c.args.schema c.args.number known _;
      kept = keeps_from known _ _ _ _ c.read_lines.ensures.bytes c.read_lines.ensures.safe c.in_err-keep_lines.ensures.kept;
      least = spares_from known _ _ _ _ c.read_lines.ensures.bytes c.read_lines.ensures.least c.in_err-keep_lines.ensures.least;
      same_bytes = λ n is. absurd (not_a_line _ n is);
      same_safe = λ n is. absurd (not_a_line _ n is);
      same_least = λ n is. absurd (not_a_line _ n is);
    })

pub returns : goal.returns
returns g c =
    let known = g.F.LogFile.bytes c.args.log.now in
    let held = c.in_ok-held.held.lines.items in
    let site = c.in_ok-site.site in
    let there : HoldsLines (g.F.LogFile.bytes c.read_lines.new.log) held =
    subst (λ (k : Option (List ℕ)). HoldsLines k held) (sym c.read_lines.ensures.bytes) c.in_ok-held.ensures.lines in
    record {
      lines = (
        held,
        record {
          lines = c.in_ok-held.ensures.lines;
          is = subst (IsTextOf held c.in_ok-keys.keys.last) (sym c.in_ok-site.ensures.opens.bytes) c.in_ok-keys.ensures.is;
        },
        c.in_ok-keep_lines.ensures.bytes held there,
        c.in_ok-keep_lines.ensures.safe held there,
      );
      none = c.in_ok-keys.ensures.none;
      opens = subst (λ (bytes : List ℕ). Opens c.args.schema c.args.number bytes 0 site) (sym c.in_ok-site.ensures.opens.bytes)
          c.in_ok-site.ensures.opens;
      whole = c.in_ok-site.ensures.whole;
      line = tt;
      kept = tt;
      least = spares_from known _ _ _ _ c.read_lines.ensures.bytes c.read_lines.ensures.least c.in_ok-keep_lines.ensures.least;
      same_bytes = tt;
      same_safe = tt;
      same_least = tt;
    }

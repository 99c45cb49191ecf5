use Rattle.std.proofs.Common.{subst}
use Rattle.std.proofs.lemmas.Result.{IfOk-weaker, MatchResult-weaker}
use Rattle.site_service.specs.Service.{IsTextOf}
use Rattle.site_service.proofs.KeyedTexts.{whole_lines_are}
use Rattle.site_service.proofs.Starts.{keeps_all}
use Rattle.site_service.proofs.Held.{held_medium}
use Rattle.site_service.proofs.BehindBases.{early_told}
use Rattle.site_service.proofs.service.Service.open_behind.Goals as goal

pub start-requires-clause-let_go : goal.start-requires-clause-let_go
start-requires-clause-let_go g c =
    early_told c.in-Ok.opened.site.gone c.args.told c.epoch-epoch.ensures.own.some_epoch c.in-Ok.ensures.early

pub start-requires-clause-text : goal.start-requires-clause-text
start-requires-clause-text g c =
    let lines = c.in-Ok.ensures.lines in
    record {
      text = lines.0;
      lines = whole_lines_are lines.0 lines.2.lines.lines.whole;
      is = subst (IsTextOf lines.0 c.in-Ok.opened.keys.last) (held_medium c.in-Ok.opened.site lines.3.opens.bytes) lines.2.is;
      log = lines.4;
      safe = lines.5;
    }

pub returns-in-Ok-clause-ok : goal.returns-in-Ok-clause-ok
returns-in-Ok-clause-ok g c =
    let lines = c.in-Ok.ensures.lines in
    IfOk-weaker c.start.result _ _ (λ made started. record {
      held = lines.0;
      last = c.in-Ok.opened.keys.last;
      records = lines.1;
      holds = lines.2;
      opened = c.in-Ok.opened.site;
      opens = lines.3;
      is_told = early_told c.in-Ok.opened.site.gone c.args.told c.epoch-epoch.ensures.own.some_epoch c.in-Ok.ensures.early;
      started = started;
    }) c.start.ensures.ok

pub returns-in-Ok-clause-safe : goal.returns-in-Ok-clause-safe
returns-in-Ok-clause-safe g c =
    let known = g.F.LogFile.bytes c.args.log in
    let was = g.F.LogFile.safe c.args.log in
    let lines = c.in-Ok.ensures.lines in
    let holds = lines.2.lines in
    MatchResult-weaker c.start.result (c.start.ensures.safe lines.0 lines.4 lines.5) (λ made safe. keeps_all known was made.safe lines.0 holds safe)
    (λ left safe. keeps_all known was (g.F.LogFile.safe left.1) lines.0 holds safe)

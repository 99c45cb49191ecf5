use Rattle.std.proofs.Common.{◌≡◌, true, List, [], None, refl, sym, ap, ◌∙◌, subst}
use Rattle.field_bounds.specs.declared.id.TxnId.{TxnId}
use Rattle.kept_records.specs.declared.record.Record.{Record}
use Rattle.site_step.specs.Shortening.{has_commit}
use Rattle.site_service.specs.LetGo.{let_go_of, may_be_gone}
use Rattle.site_service.specs.Answers.{whole_of}
use Rattle.site_service.specs.Service.{IsTextOf}
use Rattle.std.proofs.lemmas.Result.{IfOk-weaker, IfErr-weaker, MatchResult-weaker}
use Rattle.site_service.specs.Opening.{SparesLines, IsStarted}
use Rattle.site_service.specs.Traces.{trace_of}
use Rattle.site_service.proofs.Tracing.{told_none, kept_of}
use Rattle.site_service.proofs.KeyedTexts.{whole_lines_are}
use Rattle.site_service.proofs.Links.{is_opened, names_not}
use Rattle.site_service.proofs.Starts.{keeps_all}
use Rattle.site_service.proofs.Held.{stands_whole, held_all, opens_whole}
use Rattle.site_service.proofs.service.Service.open.Goals as goal

-- where none is gone, none of them is a commit
none_has : (gone : List Record) (txn : TxnId) → gone ≡ [] → has_commit txn gone ≡ true → may_be_gone None txn ≡ true
none_has gone txn none has = sym (ap (has_commit txn) none) ∙ has

pub start-requires : goal.start-requires
start-requires g c =
    let lines = c.in-Ok.ensures.lines in
    record {
      stands = stands_whole c.in-Ok.opened.site c.in-Ok.ensures.whole;
      let_go = record { none = λ told. c.in-Ok.ensures.whole.held; horizon = λ txn has. none_has c.in-Ok.opened.site.gone txn c.in-Ok.ensures.whole.held has };
      none = c.in-Ok.ensures.none;
      text = record {
        text = lines.0;
        lines = whole_lines_are lines.0 lines.1.lines.lines.whole;
        is = subst (IsTextOf lines.0 c.in-Ok.opened.keys.last) (sym (held_all c.in-Ok.opened.site c.in-Ok.ensures.whole.held)) lines.1.is;
        log = lines.2;
        safe = lines.3;
      };
    }

pub returns-in-Ok : goal.returns-in-Ok
returns-in-Ok g c =
    let known = g.F.LogFile.bytes c.args.log in
    let was = g.F.LogFile.safe c.args.log in
    let r = c.start.result in
    let lines = c.in-Ok.ensures.lines in
    let holds = lines.1.lines in
    let spared = c.in-Ok.ensures.least in
    record {
      ok = IfOk-weaker r _ _ (λ made started. is_opened c.args.schema c.args.number known lines.0 c.in-Ok.opened.keys.last
          (whole_of c.in-Ok.opened.site) made lines.1
          (opens_whole c.args.schema c.args.number c.in-Ok.opened.site.bytes 0 c.in-Ok.opened.site c.in-Ok.ensures.opens)
          (subst (λ (gone : List Record). IsStarted (whole_of c.in-Ok.opened.site) c.in-Ok.opened.keys.last (let_go_of gone None) made)
          c.in-Ok.ensures.whole.held started)) c.start.ensures.ok;
      line = IfErr-weaker r _ _ (λ left none. names_not c.args.schema c.args.number known left.0 none) c.start.ensures.line;
      safe = MatchResult-weaker r (c.start.ensures.safe lines.0 lines.2 lines.3) (λ made safe. keeps_all known was made.safe lines.0 holds safe)
          (λ left safe. keeps_all known was (g.F.LogFile.safe left.1) lines.0 holds safe);
      least = MatchResult-weaker r c.start.ensures.least (λ made same. subst (SparesLines known (g.F.LogFile.least c.args.log)) (sym same) spared)
          (λ left same. subst (SparesLines known (g.F.LogFile.least c.args.log)) (sym same) spared);
      same_bytes = IfErr-weaker r _ _ (λ left none n is. absurd (none n is)) c.start.ensures.line;
      same_safe = IfErr-weaker r _ _ (λ left none n is. absurd (none n is)) c.start.ensures.line;
      same_least = IfErr-weaker r _ _ (λ left none n is. absurd (none n is)) c.start.ensures.line;
      told = c.start.ensures.told;
      kept = c.start.ensures.kept;
      uncut = c.start.ensures.uncut;
    }

pub returns-in-Err : goal.returns-in-Err
returns-in-Err g c =
    let trace = trace_of (g.T.LogFile.bytes c.args.trace.now) (g.T.LogFile.safe c.args.trace.now) in
    record {
      ok = tt;
      line = c.in-Err.ensures.line;
      safe = c.in-Err.ensures.kept;
      least = c.in-Err.ensures.least;
      same_bytes = c.in-Err.ensures.same_bytes;
      same_safe = c.in-Err.ensures.same_safe;
      same_least = c.in-Err.ensures.same_least;
      told = tt;
      kept = kept_of trace trace [] (told_none trace);
      uncut = refl;
    }

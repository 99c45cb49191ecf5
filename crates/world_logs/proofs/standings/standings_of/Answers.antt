use Rattle.std.proofs.Common.{◌≡◌, ◌<◌, ◌++◌, ◌∷◌, [], length, map, sym, ◌∙◌, ap, inl, inr, arith, below_more}
use Rattle.std.proofs.lemmas.Bool.{cases_eq}
use Rattle.std.proofs.lemmas.Grind.{common_steps}
use Rattle.std.proofs.lemmas.List.{get_or_push, get_or_append_left}
use Rattle.std.proofs.lemmas.Result.{err_from_is_err_and}
use Rattle.kept_records.specs.Stands.{Lawful}
use Rattle.world_logs.specs.Logs.{log_of}
use Rattle.world_logs.proofs.Readings.{log_at}
use Rattle.world_logs.proofs.LostReadings.{unlawful_at}
use Rattle.world_logs.proofs.standings.standings_of.Goals as goal

pub standing_of-requires-clause-in_range : goal.standing_of-requires-clause-in_range
standing_of-requires-clause-in_range g c =
    let kept = g.L.KeptLog.kept in
    let n = c.loop-number.number in
    let below : n < length c.args.logs.now = omega (arith, c.requires.count, c.loop-number-test.true, c.sites-number-end.ensures.value) in
    rw (c.records-log.ensures, c.index-logs-from.is, ← log_at kept c.args.logs.now n c.from.result c.index-logs-from.result below c.from.ensures)
    (c.requires.in_range n)

pub returns-in_err-standing_of-clause-fault : goal.returns-in_err-standing_of-clause-fault
returns-in_err-standing_of-clause-fault g c =
    let kept = g.L.KeptLog.kept in
    let p = err_from_is_err_and c.from_residual.result c.from_residual.ensures.1 in
    let n = c.loop-number.number in
    let site_in : n < c.args.schema.now.sites = omega (arith, c.loop-number-test.true, c.sites-number-end.ensures.value) in
    let below : n < length c.args.logs.now = omega (arith, c.requires.count, site_in) in
    rw (p.1, p.2) (
    unlawful_at c.args.schema.now (map kept c.args.logs.now) n c.records-log.result.now
    c.in_err-standing_of.field-0.0 site_in
    (log_at kept c.args.logs.now n c.from.result c.index-logs-from.result below c.from.ensures
    ∙ ap kept (sym c.index-logs-from.is) ∙ sym c.records-log.ensures)
    c.loop-number.invariant.lawful c.in_err-standing_of.ensures.fault
    )

pub loop-number-preserved : goal.loop-number-preserved
loop-number-preserved g c =
    let kept = g.L.KeptLog.kept in
    let schema = c.args.schema.now in
    let logs = map kept c.args.logs.now in
    let old = c.loop-number.standings.items in
    let x = c.in_ok-standing_of.field-0 in
    let n = c.loop-number.number in
    let below : n < length c.args.logs.now = omega (arith, c.requires.count, c.loop-number-test.true, c.sites-number-end.ensures.value) in
    let same : c.records-log.result.now ≡ log_of logs n =
    c.records-log.ensures ∙ ap kept c.index-logs-from.is
    ∙ sym (log_at kept c.args.logs.now n c.from.result c.index-logs-from.result below c.from.ensures) in
    let lawful = rw same at c.in_ok-standing_of.ensures.lawful in
    let stands = rw same at c.in_ok-standing_of.ensures.stands in
    let grown : c.push.new.self.items ≡ old ++ x ∷ [] = c.in_ok-push.ensures.items in
    record {
      count = grind (arith, common_steps);
      lawful = below_more (λ s. Lawful schema s (log_of logs s)) n c.loop-number.invariant.lawful lawful;
      each = λ s d less.
          rw grown (elim (cases_eq s n) [
            | inl same ↦ rw (get_or_push old x d s (c.loop-number.invariant.count ∙ sym same), same) stands
            | inr apart ↦
                let there : s < n = omega (arith, less, apart) in
                rw (get_or_append_left old (x ∷ []) d s (omega (arith, there, c.loop-number.invariant.count)))
                (c.loop-number.invariant.each s d there)
          ]);
    }

use Rattle.std.proofs.Common.{ℕ, ◌+◌, length, ap, sym, subst, ◌∙◌}
use Rattle.std.proofs.lemmas.List.{length_push}
use Rattle.std.proofs.lemmas.List.Elements.{All-push}
use Rattle.site_rights.specs.declared.field_rights.FieldRights.{FieldRights}
use Rattle.site_rights.specs.Rights.{IsTold, IsWithinWidth, pair_at}
use Rattle.site_rights.proofs.Rows.{rows_more}
use Rattle.site_rights.proofs.rights.Rights.of.Goals as goal

pub loop-number-preserved : goal.loop-number-preserved
loop-number-preserved c =
    let rows = c.loop-number.rows.items in
    let row = c.told_rights.result in
    let longer = c.in_ok-push.ensures.items in
    let so_far = c.loop-number.invariant in
    let told = λ (f : ℕ) (r : FieldRights). IsTold c.args.schema.now f (pair_at c.args.free.now f) (pair_at c.args.cuts.now f) r in
    let number = c.loop-number.number in
    let cut : IsTold c.args.schema.now number (pair_at c.args.free.now c.from.result) (pair_at c.args.cuts.now number) row =
    subst (λ (f : ℕ). IsTold c.args.schema.now number (pair_at c.args.free.now c.from.result) (pair_at c.args.cuts.now f) row)
    c.from-in-loop-number.ensures c.told_rights.ensures.told in
    let here : told number row =
    subst (λ (f : ℕ). IsTold c.args.schema.now number (pair_at c.args.free.now f) (pair_at c.args.cuts.now number) row)
    c.from.ensures cut in
    record {
      count = ap length longer ∙ length_push _ _ ∙ ap (λ (k : ℕ). k + 1) so_far.count;
      within = rw longer (All-push IsWithinWidth rows row so_far.within c.told_rights.ensures.within);
      each = rows_more told rows _ row longer so_far.each
          (subst (λ (f : ℕ). told f row) (sym so_far.count) here);
    }

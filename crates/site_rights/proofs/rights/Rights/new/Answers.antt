use Rattle.std.proofs.Common.{ℕ, ◌+◌, length, ap, sym, subst, ◌∙◌}
use Rattle.std.proofs.lemmas.List.{length_push}
use Rattle.std.proofs.lemmas.List.Elements.{All-push}
use Rattle.site_rights.specs.Rights.{IsFresh, IsWithinWidth}
use Rattle.site_rights.proofs.Rows.{rows_more}
use Rattle.site_rights.proofs.rights.Rights.new.Goals as goal

pub loop-number-preserved : goal.loop-number-preserved
loop-number-preserved c =
    let rows = c.loop-number.rows.items in
    let row = c.first_rights.result in
    let longer = c.in_ok-push.ensures.items in
    let so_far = c.loop-number.invariant in
    let fresh = IsFresh c.args.schema.now c.args.site.0 in
    record {
      count = ap length longer ∙ length_push _ _ ∙ ap (λ (k : ℕ). k + 1) so_far.count;
      within = rw longer (All-push IsWithinWidth rows row so_far.within c.first_rights.ensures.within);
      each = rows_more fresh rows _ row longer so_far.each
          (subst (λ (f : ℕ). fresh f row) (sym so_far.count) c.first_rights.ensures.fresh);
    }

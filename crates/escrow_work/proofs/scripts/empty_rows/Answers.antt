use Rattle.std.proofs.Common.{ℕ, ◌+◌, length, ap, ◌∙◌}
use Rattle.std.proofs.lemmas.List.{length_push}
use Rattle.escrow_work.proofs.Dealt.{none_more}
use Rattle.escrow_work.proofs.scripts.empty_rows.Goals as goal

pub loop-site-preserved : goal.loop-site-preserved
loop-site-preserved c = record {
  none = none_more _ c.loop-site.rows.items _ c.new.result c.loop-site.invariant.none c.in_ok-push.ensures.items c.new.ensures.items;
  count = ap length c.in_ok-push.ensures.items ∙ length_push _ _ ∙ ap (λ (k : ℕ). k + 1) c.loop-site.invariant.count;
}

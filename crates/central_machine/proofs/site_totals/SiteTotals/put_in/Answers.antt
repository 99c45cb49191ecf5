use Rattle.std.proofs.Common.{ap, ◌∙◌}
use Rattle.central_rules.specs.declared.site_counts.SiteCounts.{SiteCounts}
use Rattle.central_machine.proofs.site_totals.SiteTotals.put_in.Goals as goal

pub returns : goal.returns
returns c =
    let took = c.in_ok-put_effect.ensures in
    let told = c.note_reply.ensures in
    record {
      numbers = took.numbers;
      doubt = took.doubt;
      up = λ base o was. told.up base o (ap (λ (n : SiteCounts). n.up) took.counts ∙ was);
      epoch = λ base o was. told.epoch base o (ap (λ (n : SiteCounts). n.epoch) took.counts ∙ was);
      begun = λ o few was. told.begun o few (ap (λ (n : SiteCounts). n.begun) took.counts ∙ was);
      still_down = λ o few was. told.still_down o few (ap (λ (n : SiteCounts). n.still_down) took.counts ∙ was);
      unsure = λ o few was. told.unsure o few (ap (λ (n : SiteCounts). n.unsure) took.counts ∙ was);
    }

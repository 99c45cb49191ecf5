use Rattle.std.proofs.Common.{◌≡◌, ℕ, ap, take, inl, inr}
use Rattle.folder_logs.proofs.Fronts.{line_told, rule_is_first}
use Rattle.folder_logs.proofs.first.first_fault.Goals as goal
use Rattle.folder_logs.proofs.first.first_fault.Goals.{in-BreaksRule, in-Standing}

pub returns : goal.returns
returns c =
    let bytes = c.args.records.now in
    let front = take c.min-good.result bytes in
    let cut = ap (λ (k : ℕ). take k bytes) c.min-good.ensures in
    elim c.match-branch-3.branch [
      | in-BreaksRule w ↦ record {
        first = rw w.result-is
            (rule_is_first c.args.schema.now c.args.site.0 bytes front c.in_ok-count.count w.in-BreaksRule.number
            c.in_ok-count.ensures.count cut (rw w.in-BreaksRule.is at c.in_ok-number.ensures.tells));
      }
      | in-Standing w ↦ record {
        first = rw w.result-is
            (rw w.unwrap_or.ensures
            (line_told c.args.schema.now c.args.site.0 bytes front c.args.line c.in_ok-count.count c.in_ok-number.field-0
            c.requires.bad c.in_ok-count.ensures.count cut c.in_ok-number.ensures.tells
            (λ number e. elim w.in-Standing.is [ inl it ↦ let is = it.2 in cc | inr it ↦ let is = it.1 in cc ])));
      }
    ]

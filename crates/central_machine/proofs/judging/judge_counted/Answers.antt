use Rattle.std.proofs.Common.{ℕ, rules}
use Rattle.central_rules.specs.declared.verdict.Verdict.{Verdict}
use Rattle.central_rules.proofs.Exact.{legal_of, first_of, sound_of}
use Rattle.central_machine.proofs.judging.judge_counted.Goals as goal

pub returns-clause-legal : goal.returns-clause-legal
returns-clause-legal c = legal_of (λ (r : Verdict × ℕ). r.0) c.args.schema.now c.args.entries.now c.judge_each.result c.judge_each.ensures.verdict

pub returns-clause-illegal : goal.returns-clause-illegal
returns-clause-illegal c = first_of (λ (r : Verdict × ℕ). r.0) c.args.schema.now c.args.entries.now c.judge_each.result c.judge_each.ensures.verdict

pub returns-clause-sound : goal.returns-clause-sound
returns-clause-sound c = λ sound.
    sound_of (λ (r : Verdict × ℕ). r.0) c.args.schema.now c.args.entries.now c.judge_each.result c.judge_each.ensures.verdict c.sites-sites.ensures.limits sound

pub returns-clause-verdict : goal.returns-clause-verdict
returns-clause-verdict c = search rules

pub returns-clause-count : goal.returns-clause-count
returns-clause-count c = search rules

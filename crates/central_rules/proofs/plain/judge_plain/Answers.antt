use Rattle.central_rules.specs.declared.verdict.Verdict.{Verdict}
use Rattle.central_rules.proofs.Exact.{legal_of, first_of, sound_of}
use Rattle.central_rules.proofs.plain.judge_plain.Goals as goal

pub returns-clause-legal : goal.returns-clause-legal
returns-clause-legal c = legal_of (λ (v : Verdict). v) c.args.schema.now c.args.entries.now c.judge_fronts.result c.judge_fronts.ensures.verdict

pub returns-clause-illegal : goal.returns-clause-illegal
returns-clause-illegal c = first_of (λ (v : Verdict). v) c.args.schema.now c.args.entries.now c.judge_fronts.result c.judge_fronts.ensures.verdict

pub returns-clause-sound : goal.returns-clause-sound
returns-clause-sound c = λ sound.
    sound_of (λ (v : Verdict). v) c.args.schema.now c.args.entries.now c.judge_fronts.result c.judge_fronts.ensures.verdict c.sites-sites.ensures.limits sound

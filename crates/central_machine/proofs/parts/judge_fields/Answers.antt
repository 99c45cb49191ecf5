use Rattle.std.proofs.Common.{rules}
use Rattle.central_rules.specs.declared.verdict.Verdict.{Verdict}
use Rattle.central_rules.proofs.Exact.{legal_of, first_of, sound_of}
use Rattle.central_machine.proofs.parts.judge_fields.Goals as goal

pub returns-clause-legal : goal.returns-clause-legal
returns-clause-legal g c = legal_of (λ (v : Verdict). v) c.args.schema.now c.args.entries.now c.judge_parts.result c.judge_parts.ensures.verdict

pub returns-clause-illegal : goal.returns-clause-illegal
returns-clause-illegal g c = first_of (λ (v : Verdict). v) c.args.schema.now c.args.entries.now c.judge_parts.result c.judge_parts.ensures.verdict

pub returns-clause-sound : goal.returns-clause-sound
returns-clause-sound g c = λ sound.
    sound_of (λ (v : Verdict). v) c.args.schema.now c.args.entries.now c.judge_parts.result c.judge_parts.ensures.verdict c.sites-sites.ensures.limits sound

pub returns-clause-verdict : goal.returns-clause-verdict
returns-clause-verdict g c = search rules

use Rattle.std.proofs.Common.{reverse}
use Rattle.central_rules.proofs.Verdicts.{legal_is_sound}
use Rattle.central_rules.proofs.plain.broken_rule.Goals as goal

pub grant_holds-requires-clause-sound : goal.grant_holds-requires-clause-sound
grant_holds-requires-clause-sound c = (legal_is_sound c.args.schema.now (reverse c.args.front.now) c.requires.legal).0

pub interval_holds-requires-clause-sound : goal.interval_holds-requires-clause-sound
interval_holds-requires-clause-sound c = (legal_is_sound c.args.schema.now (reverse c.args.front.now) c.requires.legal).0

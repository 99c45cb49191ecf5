use Rattle.held_logs.proofs.Heads.{other_head}
use Rattle.held_logs.proofs.reading.read_shortened.Goals as goal

pub unreachable-requires : goal.unreachable-requires
unreachable-requires c =
    other_head c.args.identity.now c.args.bytes.now c.in_ok-kind.field-0 c.requires.other c.in_ok-kind.ensures.found c.in-Plain.is

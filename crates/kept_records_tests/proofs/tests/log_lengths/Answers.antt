use Rattle.std.proofs.Common.{[], refl}
use Rattle.kept_records_tests.proofs.tests.log_lengths.Goals as goal

pub read_back-requires : goal.read_back-requires
read_back-requires g c =
    let kept = c.requires.log in
    record { log = record { before = []; behind = kept.0; rest = kept.1; log = kept.2; place_is = refl } }

use Rattle.std.proofs.Common.{◌≢◌, [], All, rules}
use Rattle.caller_keys.proofs.Fronts.{plain}
use Rattle.caller_keys.proofs.split.split_notes.Goals as goal

pub returns-then-has_no_marks-clause-split : goal.returns-then-has_no_marks-clause-split
returns-then-has_no_marks-clause-split c =
    let clear : All (λ b. b ≢ 75) c.args.text.items = search rules in
    record { notes = []; keyed = plain c.args.text.items clear; tells = c.new.ensures.tells }

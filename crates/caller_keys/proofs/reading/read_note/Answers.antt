use Rattle.std.proofs.Common.{◌≢◌, List, ℕ, rules}
use Rattle.hex.specs.Hex.{encode_upper}
use Rattle.caller_keys.specs.Keys.{IsKey}
use Rattle.caller_keys.proofs.Lines.{other_numbers, other_digits}
use Rattle.caller_keys.proofs.reading.read_note.Goals as goal

pub returns-in_default-txn_of : goal.returns-in_default-txn_of
returns-in_default-txn_of c =
    let some = c.in-Some.ensures.some in
    record {
      note = other_numbers c.args.line.now c.in-Some.epoch c.in-Some.number c.in-Some.digits.now some.0 some.1 some.2 c.in_default-txn_of.ensures;
    }

pub returns-in-None : goal.returns-in-None
returns-in-None c =
    let some = c.in-Some.ensures.some in
    let none : (key : List ℕ) → IsKey key → c.in-Some.digits.now ≢ encode_upper key = search rules in
    record { note = other_digits c.args.line.now c.in-Some.epoch c.in-Some.number c.in-Some.digits.now some.0 some.1 some.2 none }

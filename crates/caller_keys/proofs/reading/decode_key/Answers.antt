use Rattle.std.proofs.Common.{◌≡◌, Bool, true, false, sym, subst, ◌∙◌, rules}
use Rattle.hex.specs.Hex.{encode_upper}
use Rattle.caller_keys.specs.Keys.{IsKey}
use Rattle.caller_keys.proofs.Keyed.{one_key, no_key, not_again}
use Rattle.caller_keys.proofs.reading.decode_key.Goals as goal

pub returns-in-Err-OddLength : goal.returns-in-Err-OddLength
returns-in-Err-OddLength c = no_key c.args.digits.now _ c.in-Err-OddLength.ensures.err (λ is. cc)

pub returns-in-Err-InvalidStringLength : goal.returns-in-Err-InvalidStringLength
returns-in-Err-InvalidStringLength c = no_key c.args.digits.now _ c.in-Err-InvalidStringLength.ensures.err (λ is. cc)

pub returns-in-Err-InvalidHexCharacter : goal.returns-in-Err-InvalidHexCharacter
returns-in-Err-InvalidHexCharacter c = no_key c.args.digits.now _ c.in-Err-InvalidHexCharacter.ensures.err (λ is. cc)

pub returns-then-not-is_key : goal.returns-then-not-is_key
returns-then-not-is_key c = λ key valid spelled.
    let same = one_key c.args.digits.now c.in-Ok.key.items key c.in-Ok.ensures.ok valid spelled in
    let not : ◌≡◌ {A = Bool} false true = c.if-not-is_key.ensures.decides.1 (subst IsKey (sym (c.as_slice.ensures.value ∙ same)) valid) in
    absurd cc

pub returns-else-eq : goal.returns-else-eq
returns-else-eq c =
    let again : c.as_bytes.result.now ≡ encode_upper c.in-Ok.key.items = search rules in
    not_again c.args.digits.now c.in-Ok.key.items c.as_bytes.result.now c.in-Ok.ensures.ok again (sym c.if-eq.ensures)

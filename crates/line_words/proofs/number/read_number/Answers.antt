use Rattle.std.proofs.Common.{◌≡◌, ◌^◌, take, List, ℕ, Some, sym, subst, arith}
use Rattle.std.proofs.lemmas.List.{take_all}
use Rattle.line_words.specs.Reading.{number_of}
use Rattle.line_words.proofs.Forms.{read_says}
use Rattle.line_words.proofs.WordKinds.{number_read}
use Rattle.line_words.proofs.number.read_number.Goals as goal

pub returns-then-count-word : goal.returns-then-count-word
returns-then-count-word c =
    let w = c.args.word.now in
    let number = c.in-Some.number in
    let count = c.in-Some.count in
    let whole : take count w ≡ w = take_all count w (omega (arith, c.if-count-word.true)) in
    read_says number_read w _ (sym (subst (λ (l : List ℕ). number_of (2 ^ 64) l ≡ Some number) whole c.in-Some.ensures.value))

pub returns : goal.returns
returns c = read_says number_read c.args.word.now _ c.read_tested.ensures

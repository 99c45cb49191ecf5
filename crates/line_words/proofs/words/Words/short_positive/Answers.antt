use Rattle.std.proofs.Common.{◌≡◌, ap, ◌∙◌, sym, take, Some}
use Rattle.std.specs.Prelude.{ℤ}
use Rattle.std.specs.Int.{w64}
use Rattle.std.proofs.lemmas.Int.{to_z-of_z}
use Rattle.line_words.specs.Words.{words_of}
use Rattle.line_words.specs.Reading.{signed_of}
use Rattle.line_words.proofs.SignedNumbers.{signed_takes, some}
use Rattle.line_words.proofs.FrontLemmas.{word_taken, front_positive}
use Rattle.line_words.proofs.words.Words.short_positive.Goals as goal

pub returns : goal.returns
returns c =
    let word = take c.in_ok-size.count c.in_ok-bytes.bytes.now in
    let z = c.in_ok-number.number in
    let is : signed_of word ≡ Some z = front_positive word c.in_ok-size.size z c.in_ok-size.ensures.value c.in_ok-number.ensures in
    let same = to_z-of_z w64 z (signed_takes word z is).0 in
    word_taken signed_of word _ _ _ (sym c.self.view_is ∙ ap words_of c.in_ok-bytes.was ∙ c.in_ok-left.ensures)
    (is ∙ ap (λ (y : ℤ). some y) (sym same))

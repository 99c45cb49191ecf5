use Rattle.std.proofs.Common.{◌^◌, ap, ◌∙◌, sym, take}
use Rattle.line_words.specs.Words.{words_of}
use Rattle.line_words.specs.Reading.{number_of}
use Rattle.line_words.proofs.FrontLemmas.{word_taken}
use Rattle.line_words.proofs.words.Words.short_number.Goals as goal

pub returns : goal.returns
returns c =
    word_taken (number_of (2 ^ 64)) (take c.in_ok-number.count c.in_ok-bytes.bytes.now) _ _ _
    (sym c.self.view_is ∙ ap words_of c.in_ok-bytes.was ∙ c.in_ok-left.ensures) c.in_ok-number.ensures.value

use Rattle.std.proofs.Common.{◌≡◌, [], refl, ap, ◌∙◌, sym}
use Rattle.line_words.specs.Words.{words_of}
use Rattle.line_words.proofs.FrontLemmas.{no_words}
use Rattle.line_words.proofs.words.Words.take_text.Goals as goal

pub returns-in_default : goal.returns-in_default
returns-in_default c =
    let empty : c.args.self.now ≡ [] = sym c.self.view_is ∙ ap words_of c.in_default.is in
    record { taken = (refl, λ ws. no_words c.args.text.now c.args.self.now ws empty) }

use Rattle.std.proofs.Common.{ℕ, ◌+◌, ap, ◌∙◌, sym, List, ◌∷◌, take, drop, arith}
use Rattle.std.proofs.lemmas.List.{take_all, length-drop}
use Rattle.line_words.specs.Words.{words, words_of}
use Rattle.line_words.proofs.WordLemmas.{words_first, words_last}
use Rattle.line_words.proofs.words.Words.next.Goals as goal

pub returns-in-Some : goal.returns-in-Some
returns-in-Some c =
    let bytes = c.in_ok-bytes.bytes.now in
    let at = c.in-Some.at in
    let f = words_first bytes at (sym c.in-Some.ensures) in
    record {
      first = sym c.self.view_is ∙ ap words_of c.in_ok-bytes.was ∙ f.1
          ∙ ap (λ (l : List ℕ). take at bytes ∷ words l)
          (sym (take_all _ (drop (at + 1) bytes) (omega (arith, length-drop (at + 1) bytes))));
    }

pub returns-in-None : goal.returns-in-None
returns-in-None c = record {
  first = sym c.self.view_is ∙ ap words_of c.in_ok-bytes.was
      ∙ words_last c.in_ok-bytes.bytes.now (sym c.in-None.ensures);
}

use Rattle.std.proofs.Common.{ap, sym, ◌∙◌, ◌+◌, ◌∷◌, List, ℕ, take, drop, arith}
use Rattle.std.proofs.lemmas.List.{take_all, length-drop}
use Rattle.line_words.specs.Words.{words}
use Rattle.line_words.proofs.FrontLemmas.{word_whole, word_cut}
use Rattle.line_words.proofs.front.left_behind.Goals as goal

pub returns-then-count-bytes : goal.returns-then-count-bytes
returns-then-count-bytes c = word_whole c.args.bytes.now c.args.count c.if-count-bytes.true c.requires.no_space

pub returns-then-bytes-count-eq32 : goal.returns-then-bytes-count-eq32
returns-then-bytes-count-eq32 c =
    let bytes = c.args.bytes.now in
    let count = c.args.count in
    word_cut bytes count (omega (arith, c.requires.within, c.if-count-bytes.false)) c.if-bytes-count-eq32.true c.requires.no_space
    ∙ ap (λ (l : List ℕ). take count bytes ∷ words l) (sym (take_all _ (drop (count + 1) bytes) (omega (arith, length-drop (count + 1) bytes))))

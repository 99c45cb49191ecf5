use Rattle.std.proofs.Common.{◌≡◌, ◌<◌, ◌+◌, ◌-◌, ◌∷◌, ap, ◌∙◌, sym, subst, refl, take, drop, length, arith, false}
use Rattle.std.proofs.lemmas.List.Elements.{All-append}
use Rattle.line_words.specs.Words.{words_of}
use Rattle.line_words.specs.Fronts.{IsSpaceFree, dotted_of}
use Rattle.line_words.proofs.WordLemmas.{is_space}
use Rattle.line_words.proofs.FrontLemmas.{word_taken, front_dotted, dotted_front, marked_space_free}
use Rattle.line_words.proofs.words.Words.short_dotted.Goals as goal

pub left_behind-requires-clause-no_space : goal.left_behind-requires-clause-no_space
left_behind-requires-clause-no_space c =
    let bytes = c.in_ok-bytes.bytes.now in
    let dot = c.in_ok-first.dot in
    let count = c.in_ok-second.count in
    let second = take count (take (length bytes - (dot + 1)) (drop (dot + 1) bytes)) in
    let lt : dot < length bytes = omega (arith, c.in_ok-first.ensures.within, c.if-dot-bytes.false) in
    subst IsSpaceFree (sym (dotted_front bytes dot count lt c.if-bytes-dot-ne46.false))
    (All-append (λ b. is_space b ≡ false) (take dot bytes) (46 ∷ second) c.in_ok-first.ensures.no_space
    (marked_space_free 46 second refl c.in_ok-second.ensures.no_space))

pub returns : goal.returns
returns c =
    let bytes = c.in_ok-bytes.bytes.now in
    let dot = c.in_ok-first.dot in
    let count = c.in_ok-second.count in
    let second = take count (take (length bytes - (dot + 1)) (drop (dot + 1) bytes)) in
    let lt : dot < length bytes = omega (arith, c.in_ok-first.ensures.within, c.if-dot-bytes.false) in
    word_taken dotted_of (take (dot + 1 + count) bytes) _ _ _
    (sym c.self.view_is ∙ ap words_of c.in_ok-bytes.was ∙ c.in_ok-left.ensures)
    (ap dotted_of (dotted_front bytes dot count lt c.if-bytes-dot-ne46.false)
    ∙ front_dotted (take dot bytes) second _ _ c.in_ok-first.ensures.value c.in_ok-second.ensures.value)

use Rattle.std.proofs.Common.{rules, get_or, ◌≡◌, ◌+◌, ◌-◌, ◌∷◌, ap, ◌∙◌, sym, subst, refl, take, drop, length, Some}
use Rattle.std.specs.Prelude.{ℤ}
use Rattle.std.specs.Int.{w64}
use Rattle.std.proofs.lemmas.Int.{to_z-of_z}
use Rattle.line_words.specs.Words.{words_of}
use Rattle.line_words.specs.Reading.{signed_of}
use Rattle.line_words.specs.Fronts.{IsSpaceFree}
use Rattle.line_words.proofs.SignedNumbers.{signed_takes, some}
use Rattle.line_words.proofs.FrontLemmas.{word_taken, front_negative, take_behind, marked_space_free}
use Rattle.line_words.proofs.words.Words.short_negative.Goals as goal

pub left_behind-requires-clause-no_space : goal.left_behind-requires-clause-no_space
left_behind-requires-clause-no_space c =
    let bytes = c.in_ok-bytes.bytes.now in
    let count = c.in_ok-size.count in
    let minus : get_or bytes 0 0 ≡ 45 = search rules in
    subst IsSpaceFree (sym (take_behind bytes 45 count c.in-45.len_at_least minus))
    (marked_space_free 45 (take count (take (length bytes - 1) (drop 1 bytes))) refl c.in_ok-size.ensures.no_space)

pub returns : goal.returns
returns c =
    let bytes = c.in_ok-bytes.bytes.now in
    let count = c.in_ok-size.count in
    let minus : get_or bytes 0 0 ≡ 45 = search rules in
    let digits = take count (take (length bytes - 1) (drop 1 bytes)) in
    let z = c.in_ok-number.number in
    let is : signed_of (45 ∷ digits) ≡ Some z = front_negative digits c.in_ok-size.size z c.in_ok-size.ensures.value c.in_ok-number.ensures in
    let same = to_z-of_z w64 z (signed_takes (45 ∷ digits) z is).0 in
    word_taken signed_of (take (count + 1) bytes) _ _ _
    (sym c.self.view_is ∙ ap words_of c.in_ok-bytes.was ∙ c.in_ok-left.ensures)
    (ap signed_of (take_behind bytes 45 count c.in-45.len_at_least minus) ∙ is ∙ ap (λ (y : ℤ). some y) (sym same))

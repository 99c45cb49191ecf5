use Rattle.std.proofs.Common.{◌∷◌, [], ℕ, List}
use Rattle.std.specs.Fmt.{decimal}
use Rattle.kept_records.specs.Text.{kind_word}
use Rattle.kept_records.proofs.AtFront.{word_before}
use Rattle.kept_records.proofs.straight.total_line.Goals as goal

pub returns-clause-spelled : goal.returns-clause-spelled
returns-clause-spelled c =
    let rest : List ℕ = 10 ∷ c.in_ok-rest.rest.now in
    let total = decimal c.in_ok-total.total in
    let kind = kind_word c.in_ok-kind.kind in
    let field = decimal c.in_ok-field.field in
    let one = word_before c.in_ok-kind.left.now c.in_ok-total.left.now rest total [] c.in_ok-total.ensures.spelled c.in_ok-rest.ensures in
    let two = word_before c.in_ok-field.left.now c.in_ok-kind.left.now rest kind (total ∷ []) c.in_ok-kind.ensures.spelled one in
    let three = word_before c.in_ok-site.left.now c.in_ok-field.left.now rest field (kind ∷ total ∷ []) c.in_ok-field.ensures.spelled two in
    word_before c.args.bytes.now c.in_ok-site.left.now rest (decimal c.in_ok-site.site) (field ∷ kind ∷ total ∷ []) c.in_ok-site.ensures.spelled three

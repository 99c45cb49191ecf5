use Rattle.std.proofs.Common.{◌∷◌, [], ◌++◌, List}
use Rattle.field_bounds.specs.declared.entry.Command.{Command}
use Rattle.field_bounds.specs.declared.entry.Command.TheVariants.{Tighten}
use Rattle.field_bounds.specs.Owed.{Test, answer, writes, max_change, test_short}
use Rattle.central_rules.proofs.Rungs.{field_tests, amount_tests, field_there, refused, passed}
use Rattle.central_rules.proofs.ladder.fits_tighten.Goals as goal

pub returns-in-Some : goal.returns-in-Some
returns-in-Some g c = λ at is.
    let command : Command = Tighten c.args.field c.args.kind c.args.amount in
    let above : List Test = field_tests at c.args.field in
    let sized : List Test = amount_tests max_change c.args.amount in
    let below : List Test = test_short at c.args.field c.args.kind c.args.amount ∷ [] in
    refused (answer at command) (writes at command) c.args.reply above (sized ++ below) _
    (c.field_refusal.ensures at is) _ c.in-Some.is _ c.is_refused.ensures

pub returns-in-Some-amount_refusal : goal.returns-in-Some-amount_refusal
returns-in-Some-amount_refusal g c = λ at is.
    let command : Command = Tighten c.args.field c.args.kind c.args.amount in
    let above : List Test = field_tests at c.args.field in
    let sized : List Test = amount_tests max_change c.args.amount in
    let below : List Test = test_short at c.args.field c.args.kind c.args.amount ∷ [] in
    passed (answer at command) (writes at command) c.args.reply above (sized ++ below) _
    (c.field_refusal.ensures at is) c.in_default.is _
    (refused (answer at command) (writes at command) c.args.reply sized below _
    c.amount_refusal.ensures _ c.in-Some-amount_refusal.is _ c.is_refused-in-Some-amount_refusal.ensures)

pub returns : goal.returns
returns g c = λ at is.
    let command : Command = Tighten c.args.field c.args.kind c.args.amount in
    let above : List Test = field_tests at c.args.field in
    let sized : List Test = amount_tests max_change c.args.amount in
    let below : List Test = test_short at c.args.field c.args.kind c.args.amount ∷ [] in
    let inside = field_there at _ c.in_default.is c.args.field (c.field_refusal.ensures at is) in
    passed (answer at command) (writes at command) c.args.reply above (sized ++ below) _
    (c.field_refusal.ensures at is) c.in_default.is _
    (passed (answer at command) (writes at command) c.args.reply sized below _
    c.amount_refusal.ensures c.in_default-amount_refusal.is _ (c.fits_cut.ensures at is inside))

use Rattle.std.proofs.Common.{◌∷◌, [], ◌++◌, List}
use Rattle.field_bounds.specs.declared.entry.Command.{Command}
use Rattle.field_bounds.specs.declared.entry.Command.TheVariants.{Accept}
use Rattle.field_bounds.specs.Owed.{Test, answer, writes, max_total, test_self_gift, test_not_yours, test_forged}
use Rattle.central_rules.proofs.Rungs.{statement_tests, amount_tests, statement_there, refused, passed}
use Rattle.central_rules.proofs.ladder.fits_accept.Goals as goal

pub returns-in-Some : goal.returns-in-Some
returns-in-Some g c = λ at is.
    let command : Command = Accept c.args.told in
    let above : List Test = statement_tests at c.args.told in
    let sized : List Test = amount_tests max_total c.args.told.total in
    let below : List Test = test_self_gift at c.args.told.from ∷ test_not_yours at c.args.told.to ∷ test_forged at c.args.told ∷ [] in
    refused (answer at command) (writes at command) c.args.reply above (sized ++ below) _
    (c.statement_refusal.ensures at is) _ c.in-Some.is _ c.is_refused.ensures

pub returns-in-Some-amount_refusal : goal.returns-in-Some-amount_refusal
returns-in-Some-amount_refusal g c = λ at is.
    let command : Command = Accept c.args.told in
    let above : List Test = statement_tests at c.args.told in
    let sized : List Test = amount_tests max_total c.args.told.total in
    let below : List Test = test_self_gift at c.args.told.from ∷ test_not_yours at c.args.told.to ∷ test_forged at c.args.told ∷ [] in
    passed (answer at command) (writes at command) c.args.reply above (sized ++ below) _
    (c.statement_refusal.ensures at is) c.in_default.is _
    (refused (answer at command) (writes at command) c.args.reply sized below _
    c.amount_refusal.ensures _ c.in-Some-amount_refusal.is _ c.is_refused-in-Some-amount_refusal.ensures)

pub returns : goal.returns
returns g c = λ at is.
    let command : Command = Accept c.args.told in
    let above : List Test = statement_tests at c.args.told in
    let sized : List Test = amount_tests max_total c.args.told.total in
    let below : List Test = test_self_gift at c.args.told.from ∷ test_not_yours at c.args.told.to ∷ test_forged at c.args.told ∷ [] in
    let inside = statement_there at _ c.in_default.is c.args.told (c.statement_refusal.ensures at is) in
    passed (answer at command) (writes at command) c.args.reply above (sized ++ below) _
    (c.statement_refusal.ensures at is) c.in_default.is _
    (passed (answer at command) (writes at command) c.args.reply sized below _
    c.amount_refusal.ensures c.in_default-amount_refusal.is _ (c.fits_gain.ensures at is inside.0 inside.1))

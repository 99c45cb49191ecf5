use Rattle.std.proofs.Common.{◌∷◌, [], ◌++◌, List}
use Rattle.field_bounds.specs.declared.entry.Command.{Command}
use Rattle.field_bounds.specs.declared.entry.Command.TheVariants.{Spare}
use Rattle.field_bounds.specs.Owed.{Test, answer, writes, max_change, test_self_gift, test_ledger_full, test_no_share, spare_of}
use Rattle.central_rules.proofs.Rungs.{gift_tests, amount_tests, gift_there, refused, passed}
use Rattle.central_rules.proofs.ladder.fits_spare.Goals as goal

pub returns-in-Some : goal.returns-in-Some
returns-in-Some g c = λ at is.
    let command : Command = Spare c.args.to c.args.field c.args.kind c.args.want in
    let above : List Test = gift_tests at c.args.to c.args.field in
    let sized : List Test = amount_tests max_change c.args.want in
    let below : List Test = test_no_share at c.args.field c.args.kind ∷ test_self_gift at c.args.to
    ∷ test_ledger_full at c.args.to c.args.field c.args.kind (spare_of at c.args.field c.args.kind c.args.want) ∷ [] in
    refused (answer at command) (writes at command) c.args.reply above (sized ++ below) _
    (c.gift_refusal.ensures at is) _ c.in-Some.is _ c.is_refused.ensures

pub returns-in-Some-amount_refusal : goal.returns-in-Some-amount_refusal
returns-in-Some-amount_refusal g c = λ at is.
    let command : Command = Spare c.args.to c.args.field c.args.kind c.args.want in
    let above : List Test = gift_tests at c.args.to c.args.field in
    let sized : List Test = amount_tests max_change c.args.want in
    let below : List Test = test_no_share at c.args.field c.args.kind ∷ test_self_gift at c.args.to
    ∷ test_ledger_full at c.args.to c.args.field c.args.kind (spare_of at c.args.field c.args.kind c.args.want) ∷ [] in
    passed (answer at command) (writes at command) c.args.reply above (sized ++ below) _
    (c.gift_refusal.ensures at is) c.in_default.is _
    (refused (answer at command) (writes at command) c.args.reply sized below _
    c.amount_refusal.ensures _ c.in-Some-amount_refusal.is _ c.is_refused-in-Some-amount_refusal.ensures)

pub returns : goal.returns
returns g c = λ at is.
    let command : Command = Spare c.args.to c.args.field c.args.kind c.args.want in
    let above : List Test = gift_tests at c.args.to c.args.field in
    let sized : List Test = amount_tests max_change c.args.want in
    let below : List Test = test_no_share at c.args.field c.args.kind ∷ test_self_gift at c.args.to
    ∷ test_ledger_full at c.args.to c.args.field c.args.kind (spare_of at c.args.field c.args.kind c.args.want) ∷ [] in
    let inside = gift_there at _ c.in_default.is c.args.to c.args.field (c.gift_refusal.ensures at is) in
    passed (answer at command) (writes at command) c.args.reply above (sized ++ below) _
    (c.gift_refusal.ensures at is) c.in_default.is _
    (passed (answer at command) (writes at command) c.args.reply sized below _
    c.amount_refusal.ensures c.in_default-amount_refusal.is _ (c.fits_spared.ensures at is inside.0 inside.1))

use Rattle.std.proofs.Common.{◌∷◌, [], List}
use Rattle.field_bounds.specs.declared.entry.Command.{Command}
use Rattle.field_bounds.specs.declared.entry.Command.TheVariants.{Restate}
use Rattle.field_bounds.specs.Owed.{Test, answer, writes, test_self_gift, test_nothing_given}
use Rattle.central_rules.proofs.Rungs.{gift_tests, gift_there, refused, passed}
use Rattle.central_rules.proofs.ladder.fits_restate.Goals as goal

pub returns-in-Some : goal.returns-in-Some
returns-in-Some g c = λ at is.
    let command : Command = Restate c.args.to c.args.field c.args.kind in
    let above : List Test = gift_tests at c.args.to c.args.field in
    let below : List Test = test_self_gift at c.args.to ∷ test_nothing_given at c.args.to c.args.field c.args.kind ∷ [] in
    refused (answer at command) (writes at command) c.args.reply above below _
    (c.gift_refusal.ensures at is) _ c.in-Some.is _ c.is_refused.ensures

pub returns : goal.returns
returns g c = λ at is.
    let command : Command = Restate c.args.to c.args.field c.args.kind in
    let above : List Test = gift_tests at c.args.to c.args.field in
    let below : List Test = test_self_gift at c.args.to ∷ test_nothing_given at c.args.to c.args.field c.args.kind ∷ [] in
    let inside = gift_there at _ c.in_default.is c.args.to c.args.field (c.gift_refusal.ensures at is) in
    passed (answer at command) (writes at command) c.args.reply above below _
    (c.gift_refusal.ensures at is) c.in_default.is _ (c.fits_total.ensures at is inside.0 inside.1)

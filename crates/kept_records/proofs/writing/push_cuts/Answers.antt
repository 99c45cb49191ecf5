use Rattle.std.proofs.Common.{get_or, refl}
use Rattle.field_bounds.specs.declared.kind.Kind.TheVariants.{Lower}
use Rattle.kept_records.specs.declared.total.Cut.{Cut}
use Rattle.kept_records.proofs.Spaced.{cut_pushed}
use Rattle.kept_records.proofs.writing.push_cuts.Goals as goal

pub loop-told-preserved : goal.loop-told-preserved
loop-told-preserved c =
    let none : Cut = record { field = record { 0 = 0 }; kind = Lower; total = 0 } in
    let ts = c.args.totals.now in
    let i = c.loop-told.told-index in
    let t : Cut = get_or ts i none in
    cut_pushed c.args.line.now.items c.loop-told.line.items c.push_word.new.line.items c.push_cut.new.line.items ts i t none
    c.loop-told-test.true refl c.loop-told.invariant c.in_ok-push_word.ensures c.in_ok-push_cut.ensures

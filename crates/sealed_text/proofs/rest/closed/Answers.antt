use Rattle.std.proofs.Common.{◌≡◌, [], length, sym, rules}
use Rattle.std.proofs.lemmas.Bool.{eqb-true}
use Rattle.std.proofs.lemmas.List.{nil_from_length}
use Rattle.sealed_text.specs.Seals.{end_batch}
use Rattle.sealed_text.proofs.Cuts.{ended, damaged_end, is_some}
use Rattle.sealed_text.proofs.rest.closed.Goals as goal

pub returns-in-true-true : goal.returns-in-true-true
returns-in-true-true c =
    let same : c.args.batch.now ≡ end_batch = search rules in
    let none : c.args.rest.now ≡ [] = nil_from_length c.args.rest.now (eqb-true (length c.args.rest.now) 0 (sym c.in-true-true.ensures')) in
    record { rest = ended c.args.batch.now c.args.rest.now same none }

pub returns-in-true-false : goal.returns-in-true-false
returns-in-true-false c =
    let same : c.args.batch.now ≡ end_batch = search rules in
    record { rest = damaged_end c.args.batch.now c.args.rest.now same (is_some c.args.rest.now c.in-true-false.ensures') }

use Rattle.central_machine.proofs.field_sums.FieldSums.commit_and_close.Goals as goal

pub returns : goal.returns
returns c = record { mid = c.commit.new.self; moves = c.commit.ensures; closes = c.close.ensures }

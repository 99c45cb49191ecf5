use Rattle.kept_records.proofs.Summaries.{plain_same, own_same, plain_lawful, piece_lawful, piece_bounds, since_one}
use Rattle.kept_records.specs.Stands.{plain}
use Rattle.kept_records.proofs.laws.summaries_tell_nothing_new.Goals as goal

pub returns-clause-sums : goal.returns-clause-sums
returns-clause-sums c = λ rs. plain_same rs

pub returns-clause-owned : goal.returns-clause-owned
returns-clause-owned c = λ schema s rs f k. own_same schema s (plain rs) rs (plain_same rs) f k

pub returns-clause-lawful : goal.returns-clause-lawful
returns-clause-lawful c = λ schema s rs lawful. plain_lawful schema s rs lawful

pub returns-clause-piece : goal.returns-clause-piece
returns-clause-piece c = λ schema s rs r lawful may. piece_lawful schema s rs r lawful may

pub returns-clause-bound : goal.returns-clause-bound
returns-clause-bound c = λ schema s rs r. piece_bounds schema s rs r

pub returns-clause-one : goal.returns-clause-one
returns-clause-one c = λ rs r. since_one rs r

use Rattle.kept_state.proofs.Growing.{doubt_unsure, doubt_still_down, doubt_refused, doubt_answered, doubt_restarted, found_tells, found_is}
use Rattle.kept_state.proofs.steps.doubt_is_settled.Goals as goal

pub returns-clause-unsure : goal.returns-clause-unsure
returns-clause-unsure c = λ at site command o rs stood w. doubt_unsure at site command o rs stood w

pub returns-clause-still_down : goal.returns-clause-still_down
returns-clause-still_down c = λ at site command kept o rs stood doubt is. doubt_still_down at site command kept o rs stood doubt is

pub returns-clause-refused : goal.returns-clause-refused
returns-clause-refused c = λ site command refusal kept o rs doubt is. doubt_refused site command refusal kept o rs doubt is

pub returns-clause-sure : goal.returns-clause-sure
returns-clause-sure c = λ site command reply kept later o rs more sure is. doubt_answered site command reply kept later o rs more sure is

pub returns-clause-restarted : goal.returns-clause-restarted
returns-clause-restarted c = λ site command epoch found kept o rs. doubt_restarted site command epoch found kept o rs

pub returns-clause-tells : goal.returns-clause-tells
returns-clause-tells c = λ schema s base kept o rs doubt is. found_tells schema s base kept o rs doubt is

pub returns-clause-finds : goal.returns-clause-finds
returns-clause-finds c = λ kept o rs n is. found_is kept o rs n is

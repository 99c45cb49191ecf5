use Rattle.std.proofs.Common.{◌≡◌, take, None}
use Rattle.site_workers.specs.Jobs.{lowest_fault}
use Rattle.site_workers.proofs.gathering.lowest_fault.Given as goal

abbrev pub invariant-loop-answer : goal.invariant-loop-answer
invariant-loop-answer l = lowest_fault (take l.answer-index l.answers) ≡ None

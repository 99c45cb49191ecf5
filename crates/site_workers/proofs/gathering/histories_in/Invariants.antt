use Rattle.std.proofs.Common.{◌≡◌, ◌++◌, reverse, vec_len, None}
use Rattle.site_workers.specs.Jobs.{lowest_fault, answers_of}
use Rattle.site_workers.proofs.gathering.histories_in.Given as goal

abbrev pub invariant-loop-answer : goal.invariant-loop-answer
invariant-loop-answer l = record {
  none : lowest_fault l.initial.answers.items ≡ None;
  split : l.initial.answers.items ≡ l.answers.items ++ answers_of (reverse l.histories.items);
}

abbrev pub decreases-loop-answer : goal.decreases-loop-answer
decreases-loop-answer l = vec_len l.answers

use Rattle.std.proofs.Common.{rules}
use Rattle.named_log.proofs.named_log.check_name.Goals as goal

pub returns-then-not-branch-clause-other : goal.returns-then-not-branch-clause-other
returns-then-not-branch-clause-other g c = search rules

pub returns-then-not-branch-clause-untouched : goal.returns-then-not-branch-clause-untouched
returns-then-not-branch-clause-untouched g c = search rules

pub returns-clause-begins : goal.returns-clause-begins
returns-clause-begins g c = search rules

pub returns-clause-safe : goal.returns-clause-safe
returns-clause-safe g c = search rules

pub returns-clause-bytes : goal.returns-clause-bytes
returns-clause-bytes g c = search rules

pub returns-then-not-branch-clause-kept : goal.returns-then-not-branch-clause-kept
returns-then-not-branch-clause-kept g c = search rules

pub returns-then-not-branch-clause-least : goal.returns-then-not-branch-clause-least
returns-then-not-branch-clause-least g c = search rules

use Rattle.std.proofs.Common.{rules}
use Rattle.site_rights.proofs.rights.Rights.check_free.Goals as goal

pub returns-then-amount-share-clause-enough : goal.returns-then-amount-share-clause-enough
returns-then-amount-share-clause-enough c = search rules

pub returns-then-amount-share-clause-short : goal.returns-then-amount-share-clause-short
returns-then-amount-share-clause-short c = search rules

pub returns-clause-enough : goal.returns-clause-enough
returns-clause-enough c = search rules

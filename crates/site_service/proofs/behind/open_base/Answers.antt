use Rattle.std.proofs.Common.{ℕ, List, subst}
use Rattle.site_step.specs.Opening.{StartsWith}
use Rattle.site_service.specs.Behind.{OpensBehind}
use Rattle.site_service.proofs.BehindBases.{opens_base, stands_behind, bad_behind, early_gone}
use Rattle.site_service.proofs.behind.open_base.Goals as goal

pub returns-in-Ok-clause-stands : goal.returns-in-Ok-clause-stands
returns-in-Ok-clause-stands c =
    let first = subst (λ (b : List ℕ). StartsWith b c.in_ok-base.base) c.deref.ensures.value c.in_ok-base.ensures.first in
    let opens : OpensBehind c.args.schema c.args.number c.args.held.items c.in-Ok.site =
    opens_base c.args.schema c.args.number c.args.held.items c.new.result.bytes c.in_ok-base.base
    c.new.ensures.bytes first c.in_ok-base.ensures.past c.in-Ok.site c.in-Ok.ensures.ok c.in-Ok.ensures.gone in
    stands_behind c.args.schema c.args.number c.args.held.items 0 c.in-Ok.site opens.opens c.requires.whole c.in-Ok.ensures.mishap
    opens.past.each

pub returns-in-Ok-clause-early : goal.returns-in-Ok-clause-early
returns-in-Ok-clause-early c = λ txn has.
    early_gone c.args.schema c.args.number c.in_ok-base.base c.in-Ok.site.gone c.in-Ok.ensures.gone txn has

pub returns-clause-line : goal.returns-clause-line
returns-clause-line c =
    let first = subst (λ (b : List ℕ). StartsWith b c.in_ok-base.base) c.deref.ensures.value c.in_ok-base.ensures.first in
    bad_behind c.args.schema c.args.number c.args.held.items c.new.result.bytes c.in_ok-base.base
    c.new.ensures.bytes first c.in_ok-base.ensures.past c.in-Err.fault c.in-Err.ensures.line c.in-Err.ensures.never

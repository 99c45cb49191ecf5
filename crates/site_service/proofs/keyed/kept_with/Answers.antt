use Rattle.std.proofs.Common.{sym, subst, ◌∙◌}
use Rattle.site_service.specs.Kept.{TellsKey}
use Rattle.site_service.proofs.Notes.{key_none, key_found}
use Rattle.site_service.proofs.keyed.kept_with.Goals as goal

pub returns-in-None-clause-kept : goal.returns-in-None-clause-kept
returns-in-None-clause-kept c = key_none c.args.log.now c.args.keys.now.last c.args.key.bytes.now (sym c.in-None.is ∙ c.last.ensures.value)

pub returns-in_ok-is_kept-in-Some-clause-kept : goal.returns-in_ok-is_kept-in-Some-clause-kept
returns-in_ok-is_kept-in-Some-clause-kept c =
    subst (TellsKey c.args.log.now c.args.keys.now.last c.args.key.bytes.now) (sym c.if_kept.ensures)
    (key_found c.args.log.now c.args.keys.now.last c.args.key.bytes.now c.in-Some.txn c.in_ok-is_kept-in-Some.is_kept
    (sym c.in-Some.is ∙ c.last.ensures.value) c.in_ok-is_kept-in-Some.ensures.kept)

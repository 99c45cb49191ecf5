use Rattle.site_workers.specs.Scripts.{scripts_of}
use Rattle.escrow_work.proofs.Sound.{text_told, none_told}
use Rattle.escrow_work.proofs.text.made.Goals as goal

pub returns-clause-ok : goal.returns-clause-ok
returns-clause-ok g c =
    text_told c.args.scripts.schema (scripts_of c.args.scripts.rows.items) c.in_ok-entries.entries.items c.as_slice.result.now
    c.as_slice.ensures.value c.in_ok-entries.ensures.ok c.judged_and_spelled.result (λ t. t) c.args.scripts.header.items
    c.judged_and_spelled.ensures.judged c.judged_and_spelled.ensures.spelled

pub returns-clause-fault : goal.returns-clause-fault
returns-clause-fault g c =
    none_told c.args.scripts.schema (scripts_of c.args.scripts.rows.items) c.in_ok-entries.entries.items c.as_slice.result.now
    c.as_slice.ensures.value c.in_ok-entries.ensures.ok c.judged_and_spelled.result c.sites-sites.ensures.limits
    c.judged_and_spelled.ensures.illegal c.judged_and_spelled.ensures.fault

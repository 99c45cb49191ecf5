use Rattle.std.proofs.Common.{[], ◌∷◌, ◌++◌, sym, subst}
use Rattle.site_workers.specs.Scripts.{scripts_of}
use Rattle.escrow_work.specs.Scripts.{HasScripts}
use Rattle.escrow_work.proofs.Asked.{has_more}
use Rattle.escrow_work.proofs.scripts.Scripts.take_in.Goals as goal

pub returns-clause-good : goal.returns-clause-good
returns-clause-good c = λ good lines holds.
    let w = c.args.self.now in
    subst (λ rows. HasScripts w.schema w.header.items rows (lines ++ c.args.line.now ∷ [])) (sym c.in_ok-deal.ensures.dealt)
    (has_more w.schema w.header.items (scripts_of w.rows.items) lines c.args.line.now c.in-Some.site c.in-Some.command holds
    c.in-Some.ensures.some)

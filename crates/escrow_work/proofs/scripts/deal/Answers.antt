use Rattle.std.proofs.Common.{ℕ, ap, ◌∙◌, arith}
use Rattle.site_workers.specs.Scripts.{scripts_of}
use Rattle.escrow_work.specs.Scripts.{with_command}
use Rattle.escrow_work.proofs.Dealt.{dealt_at}
use Rattle.escrow_work.proofs.scripts.deal.Goals as goal

pub returns-clause-dealt : goal.returns-clause-dealt
returns-clause-dealt c =
    dealt_at c.args.rows.now.items c.from.result c.index_mut.result.now c.push.new.self c.args.command (omega arith)
    c.index_mut.ensures.value c.in_ok-push.ensures.items
    ∙ ap (λ (k : ℕ). with_command (scripts_of c.args.rows.now.items) k c.args.command) c.from.ensures

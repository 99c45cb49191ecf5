use Rattle.std.proofs.Common.{rules}
use Rattle.escrow_run.proofs.TakenLemmas.{tells_more, front_again}
use Rattle.escrow_run.proofs.machine.add_replies.Goals as goal

pub loop-one-preserved : goal.loop-one-preserved
loop-one-preserved c = (
  tells_more c.args.schema.now c.args.taken.now c.loop-one.one-index _ c.args.out.now.items c.loop-one.out.items
      c.add_reply.new.out.items c.loop-one-test.true c.loop-one.invariant.0 c.in_ok-add_reply.ensures.ok,
  front_again c.args.out.now.items c.loop-one.out.items c.add_reply.new.out.items c.loop-one.invariant.1 c.in_ok-add_reply.ensures.grows,
)

pub returns-in_err-add_reply-clause-err : goal.returns-in_err-add_reply-clause-err
returns-in_err-add_reply-clause-err c =
    let kept = front_again c.args.out.now.items c.loop-one.out.items c.add_reply.new.out.items c.loop-one.invariant.1
    c.in_err-add_reply.ensures.err in
    search (rules, kept)

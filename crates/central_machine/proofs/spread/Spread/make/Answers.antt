use Rattle.std.proofs.Common.{arith}
use Rattle.central_machine.proofs.Blocks.{made_told}
use Rattle.central_machine.proofs.Row.{set_long}
use Rattle.central_machine.proofs.spread.Spread.make.Goals as goal

pub returns : goal.returns
returns c =
    let n = c.args.self.now in
    record {
      put = λ b p below. made_told n.spots.items n.blocks.items c.args.block c.args.offset c.args.n c.made.result c.requires.spot
          c.made.ensures.owner c.made.ensures.numbers c.requires.missing c.push.new.self.items c.len-spot.result
          c.in_ok-push.ensures.items (omega arith) b p;
      spots = set_long n.spots.items c.args.block c.len-spot.result;
    }

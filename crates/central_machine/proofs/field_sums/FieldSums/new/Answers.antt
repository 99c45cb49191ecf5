use Rattle.std.proofs.Common.{arith, ◌∙◌, sym, rules}
use Rattle.std.proofs.lemmas.Int.{ints}
use Rattle.field_bounds.specs.declared.kind.Kind.TheVariants.{Lower}
use Rattle.central_machine.proofs.Moves.{no_cuts}
use Rattle.central_machine.proofs.field_sums.FieldSums.new.Goals as goal

pub returns : goal.returns
returns c =
    let schema = c.args.schema.now in
    record {
      room_in = λ f l. (c.in_ok-rooms.ensures f l).slot;
      aside_in = λ f l. (c.in_ok-zeros.ensures f Lower (omega (arith, l))).0;
      cut_in = λ f l. (c.in_ok-zeros-2.ensures f Lower (omega (arith, l))).0;
      low = λ f l. let room = (c.in_ok-rooms.ensures f l).low in omega (arith, ints, room);
      high = λ f l. let room = (c.in_ok-rooms.ensures f l).high in omega (arith, ints, room);
      aside = λ f k l. (c.in_ok-zeros.ensures f k (omega (arith, l))).1;
      cut = λ f k l. (c.in_ok-zeros-2.ensures f k (omega (arith, l))).1 ∙ sym (no_cuts schema f k);
    }

pub from-fields-requires : goal.from-fields-requires
from-fields-requires c = search rules

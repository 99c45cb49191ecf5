use Rattle.std.proofs.Common.{arith}
use Rattle.std.proofs.lemmas.Int.{ints}
use Rattle.field_bounds.specs.declared.kind.Kind.TheVariants.{Lower, Raise}
use Rattle.field_bounds.proofs.Ledgers.{cuts_grow}
use Rattle.field_bounds.proofs.laws.bounds_never_loosen.Goals as goal

pub returns : goal.returns
returns c =
    record {
      tighter = λ schema later before f. (
        omega (arith, ints, cuts_grow schema later before f Lower),
        omega (arith, ints, cuts_grow schema later before f Raise),
      );
    }

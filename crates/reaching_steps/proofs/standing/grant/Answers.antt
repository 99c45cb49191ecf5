use Rattle.std.proofs.Common.{◌≡◌, ◌<◌, length, get_or, refl, arith, rules}
use Rattle.std.specs.Prelude.{unsigned_abs}
use Rattle.field_bounds.specs.Kind.{kind_of}
use Rattle.reaching_steps.proofs.Standings.{grows_at, grows_first}
use Rattle.reaching_steps.proofs.standing.grant.Goals as goal

pub returns-in-Some : goal.returns-in-Some
returns-in-Some c =
    let kind_is : c.of-kind.result ≡ kind_of c.args.change = search rules in
    let size_is : c.unsigned_abs-size.result ≡ unsigned_abs c.args.change = search rules in
    let held = c.args.held.now.items in
    let old = c.index.result.now in
    let below : c.in-Some.i < length held = search rules in
    let its = rw c.deref.ensures.value at (c.in-Some.ensures.its old) in
    let found : old ≡ get_or held c.in-Some.i old = search rules in
    record {
      grows = rw (kind_is, size_is) at (grows_at c.args.txn c.of-kind.result c.unsigned_abs-size.result held _ c.in-Some.i old
          c.grown.result below found its c.grown.ensures.txn c.grown.ensures.sizes refl);
      small = omega (arith, size_is, c.unsigned_abs-size.ensures.bound);
    }

pub returns-in_ok-push-in-None : goal.returns-in_ok-push-in-None
returns-in_ok-push-in-None c =
    let kind_is : c.of-kind.result ≡ kind_of c.args.change = search rules in
    let size_is : c.unsigned_abs-size.result ≡ unsigned_abs c.args.change = search rules in
    record {
      grows = rw (kind_is, size_is) at (grows_first c.args.txn c.of-kind.result c.unsigned_abs-size.result c.args.held.now.items _ _
          c.grown-in-None.result refl refl refl c.grown-in-None.ensures.txn c.grown-in-None.ensures.sizes c.in_ok-push-in-None.ensures.items);
      small = omega (arith, size_is, c.unsigned_abs-size.ensures.bound);
    }

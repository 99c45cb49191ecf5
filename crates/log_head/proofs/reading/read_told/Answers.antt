use Rattle.std.proofs.Common.{◌≡◌, ℕ, length, slice_index_or, sym, ap, ◌∙◌, arith}
use Rattle.log_head.specs.declared.gone.Gone.{Gone}
use Rattle.log_head.proofs.LinesRead.{no_head, no_horizon, other_horizon, other_counts, two_are, told_is}
use Rattle.log_head.proofs.reading.read_told.Goals as goal

pub returns-in_default-clause-none : goal.returns-in_default-clause-none
returns-in_default-clause-none c = no_head c.args.bytes.now (rw c.in_default.is at c.in_ok-counts.ensures.none)

pub returns-in_default-2-clause-none : goal.returns-in_default-2-clause-none
returns-in_default-2-clause-none c =
    no_horizon c.args.bytes.now c.in-Some.counts.items c.in-Some.bytes.now (rw c.in-Some.is at c.in_ok-counts.ensures.some)
    (rw c.in_default-2.is at c.in_ok-numbers.ensures.none)

pub returns-in_default-3-clause-none : goal.returns-in_default-3-clause-none
returns-in_default-3-clause-none c =
    other_horizon c.args.bytes.now c.in-Some.counts.items c.in-Some.bytes.now c.in-Some-2.numbers.items c.in-Some-2.rest.now
    (rw c.in-Some.is at c.in_ok-counts.ensures.some) (rw c.in-Some-2.is at c.in_ok-numbers.ensures.some)
    (λ h own e. (rw c.in_default-3.is at c.in_ok-horizon.ensures.none) h own (c.as_slice.ensures.value ∙ e))

pub returns-then-len-ne2-clause-none : goal.returns-then-len-ne2-clause-none
returns-then-len-ne2-clause-none c =
    other_counts c.args.bytes.now c.in-Some.counts.items c.in-Some.bytes.now (rw c.in-Some.is at c.in_ok-counts.ensures.some)
    (λ a b e. absurd (c.if-len-ne2.true (omega (arith, c.len.ensures, c.in-Some.counts.ok.0, ap (length {A = ℕ}) e))))

pub returns-clause-some : goal.returns-clause-some
returns-clause-some c =
    let xs = c.in-Some.counts.items in
    let ys = c.as_slice-counts.result.now in
    let two : length xs ≡ 2 = omega (arith, c.len.ensures, c.in-Some.counts.ok.0, c.if-len-ne2.false) in
    let gone : Gone = record { bytes = slice_index_or ys 0 0; records = slice_index_or ys 1 0; horizon = c.in-Some-3.horizon } in
    told_is c.args.bytes.now xs c.in-Some.bytes.now c.in-Some-2.numbers.items c.in-Some-2.rest.now
    (rw c.in-Some.is at c.in_ok-counts.ensures.some) (rw c.in-Some-2.is at c.in_ok-numbers.ensures.some) gone
    (two_are xs ys c.as_slice-counts.ensures.value two)
    (sym c.as_slice.ensures.value ∙ (rw c.in-Some-3.is at c.in_ok-horizon.ensures.some))

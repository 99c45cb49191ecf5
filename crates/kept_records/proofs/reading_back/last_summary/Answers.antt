use Rattle.std.proofs.Common.{◌≡◌, ◌≤◌, ◌<◌, ◌-◌, length, get_or, arith}
use Rattle.std.proofs.lemmas.List.{length-take}
use Rattle.kept_records.proofs.Windows.{none_behind_lf, none_behind_letter, none_with_letters, none_at_letter, is_line}
use Rattle.kept_records.proofs.reading_back.last_summary.Goals as goal
use Rattle.kept_records.proofs.reading_back.last_summary.Goals.{else-at-gt0-via-then-at-gt0+else-bytes-at-eq10, else-at-gt0-via-else-at-gt0}

pub loop-at-init : goal.loop-at-init
loop-at-init c = record {
  within = omega arith;
  none = none_behind_lf c.args.bytes.now c.in_ok-end.end c.in_ok-end.ensures.1 c.in_ok-end.ensures.0.after;
}

pub returns-then-bytes-at-eq10-clause-line : goal.returns-then-bytes-at-eq10-clause-line
returns-then-bytes-at-eq10-clause-line c =
    let bytes = c.args.bytes.now in
    let end = c.loop-at.end in
    let found = c.in-Some.ensures in
    is_line bytes c.in-Some.at end c.in_ok-end.end c.if-at-gt0.true
    (omega (arith, found.0.high, length-take end bytes)) c.loop-at.invariant.within c.in_ok-end.ensures.0.high c.in_ok-end.ensures.1
    c.if-bytes-at-eq10.true found.1

pub returns-then-bytes-at-eq10-clause-last : goal.returns-then-bytes-at-eq10-clause-last
returns-then-bytes-at-eq10-clause-last c = λ j past line.
    let within : c.loop-at.end ≤ length c.args.bytes.now = omega (arith, c.loop-at.invariant.within, c.in_ok-end.ensures.0.high) in
    none_behind_letter c.args.bytes.now c.loop-at.end c.in-Some.at within c.loop-at.invariant.none c.in-Some.ensures.0.after j
    (omega (arith, past)) line

pub loop-at-preserved : goal.loop-at-preserved
loop-at-preserved c =
    let bytes = c.args.bytes.now in
    let end = c.loop-at.end in
    let here = c.in-Some.at in
    let within : end ≤ length bytes = omega (arith, c.loop-at.invariant.within, c.in_ok-end.ensures.0.high) in
    let apart : 0 < here → get_or bytes (here - 1) 0 ≡ 10 → ⊥ =
    elim c.else-at-gt0.branch [
      | else-at-gt0-via-then-at-gt0+else-bytes-at-eq10 w ↦ λ some is. w.if-bytes-at-eq10.false is
      | else-at-gt0-via-else-at-gt0 w ↦ λ some is. absurd (omega (arith, some, w.if-at-gt0.false))
    ] in
    record {
      within = omega (arith, c.in-Some.ensures.0.high, length-take end bytes, c.loop-at.invariant.within);
      none = none_at_letter bytes here (none_behind_letter bytes end here within c.loop-at.invariant.none c.in-Some.ensures.0.after) apart;
    }

pub returns-clause-none : goal.returns-clause-none
returns-clause-none c = λ same j low line.
    let bytes = c.args.bytes.now in
    let end = c.loop-at.end in
    let within : end ≤ length bytes = omega (arith, c.loop-at.invariant.within, c.in_ok-end.ensures.0.high) in
    none_with_letters bytes end within c.loop-at.invariant.none c.in_default.ensures j (omega arith) line

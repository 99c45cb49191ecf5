use Rattle.std.proofs.Common.{◌≡◌, ◌≤◌, ◌<◌, ◌+◌, ◌-◌, length, get_or, arith}
use Rattle.std.proofs.lemmas.Bool.{eq-eqb}
use Rattle.std.proofs.lemmas.List.{length-take}
use Rattle.kept_records.proofs.Windows.{is_line}
use Rattle.site_step.proofs.FrontEnds.{none_from, none_at}
use Rattle.site_step.proofs.front.summary_before.Goals as goal
use Rattle.site_step.proofs.front.summary_before.Goals.{else-at-gt0-via-then-at-gt0+else-bytes-at-eq10, else-at-gt0-via-else-at-gt0}

pub returns-then-bytes-at-eq10-clause-line : goal.returns-then-bytes-at-eq10-clause-line
returns-then-bytes-at-eq10-clause-line c =
    let bytes = c.args.bytes.now in
    let left = c.loop-at.left in
    let inside = c.requires.inside in
    let found = c.in-Some.ensures in
    is_line bytes c.in-Some.at left inside.line_feed c.if-at-gt0.true
    (omega (arith, found.0.high, length-take left bytes)) (omega (arith, c.loop-at.invariant.within, inside.before)) inside.within
    (eq-eqb (get_or bytes inside.line_feed 0) 10 inside.ends) c.if-bytes-at-eq10.true found.1

pub returns-then-bytes-at-eq10-clause-last : goal.returns-then-bytes-at-eq10-clause-last
returns-then-bytes-at-eq10-clause-last c =
    let bytes = c.args.bytes.now in
    let left = c.loop-at.left in
    let inside = c.requires.inside in
    let within : left ≤ length bytes = omega (arith, c.loop-at.invariant.within, inside.before, inside.within) in
    none_from bytes left (c.in-Some.at + 1) c.args.end within c.loop-at.invariant.none c.in-Some.ensures.0.after

pub loop-at-preserved : goal.loop-at-preserved
loop-at-preserved c =
    let bytes = c.args.bytes.now in
    let left = c.loop-at.left in
    let here = c.in-Some.at in
    let inside = c.requires.inside in
    let within : left ≤ length bytes = omega (arith, c.loop-at.invariant.within, inside.before, inside.within) in
    let apart : 0 < here → get_or bytes (here - 1) 0 ≡ 10 → ⊥ =
    elim c.else-at-gt0.branch [
      | else-at-gt0-via-then-at-gt0+else-bytes-at-eq10 w ↦ λ some is. w.if-bytes-at-eq10.false is
      | else-at-gt0-via-else-at-gt0 w ↦ λ some is. absurd (omega (arith, some, w.if-at-gt0.false))
    ] in
    record {
      within = omega (arith, c.in-Some.ensures.0.high, length-take left bytes, c.loop-at.invariant.within);
      none = none_at bytes here c.args.end
          (none_from bytes left (here + 1) c.args.end within c.loop-at.invariant.none c.in-Some.ensures.0.after) apart;
    }

pub returns-clause-none : goal.returns-clause-none
returns-clause-none c = λ same.
    let bytes = c.args.bytes.now in
    let left = c.loop-at.left in
    let inside = c.requires.inside in
    let within : left ≤ length bytes = omega (arith, c.loop-at.invariant.within, inside.before, inside.within) in
    none_from bytes left 0 c.args.end within c.loop-at.invariant.none c.in_default.ensures

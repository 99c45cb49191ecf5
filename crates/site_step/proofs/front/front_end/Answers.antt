use Rattle.std.proofs.Common.{◌+◌, refl, ap, arith}
use Rattle.std.proofs.lemmas.Bool.{eqb-true}
use Rattle.site_step.specs.Shortening.{behind_line, IsInLine}
use Rattle.site_step.proofs.FrontEnds.{in_line_before, none_further, none_past, none_back, none_first, slice_rest}
use Rattle.site_step.proofs.front.front_end.Goals as goal

pub loop-at-init : goal.loop-at-init
loop-at-init c =
    let bytes = c.args.bytes.now in
    let end = c.in_ok-end.end in
    let further = c.in_ok-further.further in
    let last = c.in_ok-end.ensures in
    let inside : IsInLine bytes end = record {
      line_feed = end;
      before = omega arith;
      within = last.0.high;
      ends = eqb-true _ _ last.1;
    } in
    record {
      line = c.in_ok-further.ensures.line;
      inside = in_line_before bytes further end (omega (arith, c.in_ok-further.ensures.before)) inside;
      none = λ place low is. none_further bytes c.args.keep end (further + 1) last.1 last.0.after c.in_ok-further.ensures.last place
          (omega (arith, low)) is;
    }

pub returns-then-keep-left_behind-clause-some : goal.returns-then-keep-left_behind-clause-some
returns-then-keep-left_behind-clause-some c =
    let rest = slice_rest c.in-Some.at c.args.bytes.now in
    record {
      line = c.in-Some.ensures.line;
      next = c.loop-at.further;
      behind = c.in-Some.ensures.before;
      another = c.loop-at.invariant.line;
      stays = omega (arith, c.if-keep-left_behind.true, c.left_behind.ensures.value, ap behind_line rest);
    }

pub returns-then-keep-left_behind-clause-last : goal.returns-then-keep-left_behind-clause-last
returns-then-keep-left_behind-clause-last c =
    none_past c.args.bytes.now c.args.keep c.in-Some.at c.loop-at.further c.loop-at.invariant.none c.in-Some.ensures.last

pub loop-at-preserved : goal.loop-at-preserved
loop-at-preserved c =
    let bytes = c.args.bytes.now in
    let at = c.in-Some.at in
    let further = c.loop-at.further in
    record {
      line = c.in-Some.ensures.line;
      inside = in_line_before bytes at further (omega (arith, c.in-Some.ensures.before)) c.loop-at.invariant.inside;
      none = none_back bytes c.args.keep at further c.loop-at.invariant.none c.in-Some.ensures.last
          (omega (arith, c.if-keep-left_behind.false, c.left_behind.ensures.value, ap behind_line (slice_rest at bytes)));
    }

pub returns-clause-none : goal.returns-clause-none
returns-clause-none c = λ same.
    none_first c.args.bytes.now c.args.keep c.loop-at.further c.loop-at.invariant.none (c.in_default.ensures.none refl)

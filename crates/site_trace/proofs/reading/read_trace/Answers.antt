use Rattle.std.proofs.Common.{ap, ◌∙◌, sym, subst}
use Rattle.std.proofs.lemmas.Result.{err_from_is_err_and}
use Rattle.site_trace.specs.Traces.{AreTraced, lines_length}
use Rattle.site_trace.proofs.Traced.{line_read, bad_read, whole_read}
use Rattle.site_trace.proofs.reading.read_trace.Goals as goal

pub returns-in_err-add_line-clause-err : goal.returns-in_err-add_line-clause-err
returns-in_err-add_line-clause-err c =
    let p = err_from_is_err_and c.from_residual.result c.from_residual.ensures.1 in
    rw (p.1, p.2) (bad_read c.args.schema.now c.args.bytes.now c.loop-line.rest.now c.in-Some.line.now c.in-Some.behind.now
    c.loop-line.entries.items c.loop-line.length c.loop-line.number c.in_err-add_line.field-0.0 c.in-Some.ensures.parts.0
    c.in-Some.ensures.parts.1 c.in_err-add_line.ensures.err c.loop-line.invariant)

pub loop-line-preserved : goal.loop-line-preserved
loop-line-preserved c =
    line_read c.args.schema.now c.args.bytes.now c.loop-line.rest.now c.in-Some.line.now c.in-Some.behind.now c.loop-line.entries.items
    c.add_line.new.entries.items c.loop-line.length c.loop-line.number c.in-Some.ensures.parts.0 c.in-Some.ensures.parts.1
    c.in_ok-add_line.ensures.ok c.loop-line.invariant

pub returns-clause-ok : goal.returns-clause-ok
returns-clause-ok c =
    let read = c.loop-line.invariant in
    let whole = whole_read c.args.schema.now c.args.bytes.now c.loop-line.rest.now c.loop-line.entries.items c.loop-line.length
    c.loop-line.number c.in_default.ensures.parts read in
    record {
      entries = subst (λ lines. AreTraced c.args.schema.now 0 lines c.loop-line.entries.items) (sym whole) read.front;
      length = read.size ∙ ap lines_length (sym whole);
    }

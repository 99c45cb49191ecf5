use Rattle.std.proofs.lemmas.Result.{err_from_is_err_and}
use Rattle.site_trace.proofs.Traced.{bad_read}
use Rattle.site_trace.proofs.KeptFronts.{entry_read, all_read}
use Rattle.site_trace.proofs.keeping.read_entries.Goals as goal

pub returns-in_err-add_entry-clause-err : goal.returns-in_err-add_entry-clause-err
returns-in_err-add_entry-clause-err c =
    let p = err_from_is_err_and c.from_residual.result c.from_residual.ensures.1 in
    let was = c.loop-line.invariant in
    rw (p.1, p.2) (bad_read c.args.schema.now c.args.bytes.now c.loop-line.rest.now c.in-Some.line.now c.in-Some.behind.now was.traced
    was.at c.loop-line.number c.in_err-add_entry.field-0.0 c.in-Some.ensures.parts.0 c.in-Some.ensures.parts.1
    c.in_err-add_entry.ensures.err was.read)

pub loop-line-preserved : goal.loop-line-preserved
loop-line-preserved c =
    entry_read c.args.schema.now c.args.bytes.now c.loop-line.rest.now c.in-Some.line.now c.in-Some.behind.now
    c.loop-line.entries.items c.add_entry.new.entries.items c.loop-line.number c.in-Some.ensures.parts.0 c.in-Some.ensures.parts.1
    c.in_ok-add_entry.ensures.ok c.loop-line.invariant

pub returns-clause-ok : goal.returns-clause-ok
returns-clause-ok c =
    all_read c.args.schema.now c.args.bytes.now c.loop-line.rest.now c.loop-line.entries.items c.loop-line.number
    c.in_default.ensures.parts c.loop-line.invariant

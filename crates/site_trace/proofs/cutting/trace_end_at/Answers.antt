use Rattle.std.proofs.Common.{ap, sym, ◌∙◌}
use Rattle.site_trace.specs.declared.reading.TracedEntry.{TracedEntry}
use Rattle.site_trace.proofs.Cuts.{front_at, front_past, end_behind}
use Rattle.site_trace.proofs.cutting.trace_end_at.Goals as goal

pub returns-in-Some-clause-some : goal.returns-in-Some-clause-some
returns-in-Some-clause-some c =
    let ts = c.as_slice-entries.result.now in
    let next = c.in-Some.next.now in
    let look = c.in-Some.ensures.lookup in
    end_behind c.args.trace.now c.args.kept c.in_ok-count.count next.start ts c.as_slice-entries.ensures.value c.in_ok-count.ensures.some
    (ap (λ (t : TracedEntry). t.start) look.1 ∙ sym (front_at ts c.args.trace.now.length c.in_ok-count.count next look.3.0))

pub returns-in-None-clause-some : goal.returns-in-None-clause-some
returns-in-None-clause-some c =
    let trace = c.args.trace.now in
    let ts = c.as_slice-entries.result.now in
    let look = c.in-None.ensures.lookup in
    end_behind trace c.args.kept c.in_ok-count.count trace.length ts c.as_slice-entries.ensures.value c.in_ok-count.ensures.some
    (sym (front_past ts trace.length c.in_ok-count.count look.3))

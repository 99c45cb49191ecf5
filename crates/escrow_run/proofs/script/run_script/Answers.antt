use Rattle.std.proofs.Common.{◌∙◌, subst}
use Rattle.std.proofs.lemmas.Result.{err_from_is_err_and}
use Rattle.script_input.specs.Faults.{CountsRead}
use Rattle.escrow_run.proofs.RunLemmas.{answers_all, fails_last, fails_again, fails_other, fails_written, on_ok, on_write}
use Rattle.escrow_run.proofs.CountLemmas.{reads_written, reads_again, writes_again, writes_other}
use Rattle.escrow_run.proofs.script.run_script.Goals as goal

pub returns-in_default-clause-ok : goal.returns-in_default-clause-ok
returns-in_default-clause-ok g c =
    let through = c.in_default.ensures.ok (g.R.Source.bytes c.args.reader.now) (g.W.Sink.bytes c.args.writer.now)
    (c.in_ok-script.ensures.ok (g.W.Sink.bytes c.args.writer.now)) in
    on_ok c.write_out.result _ _ (λ wrote. answers_all _ _ _ _ _ _ c.answer_all.new.self through wrote.1) c.write_out.ensures.ok

pub returns-in_default-clause-end : goal.returns-in_default-clause-end
returns-in_default-clause-end g c =
    let through = c.in_default.ensures.ok (g.R.Source.bytes c.args.reader.now) (g.W.Sink.bytes c.args.writer.now)
    (c.in_ok-script.ensures.ok (g.W.Sink.bytes c.args.writer.now)) in
    on_ok c.write_out.result _ _ (λ wrote. through.1.0.ended.1) c.write_out.ensures.ok

pub returns-in_default-clause-fault : goal.returns-in_default-clause-fault
returns-in_default-clause-fault g c =
    let through = c.in_default.ensures.ok (g.R.Source.bytes c.args.reader.now) (g.W.Sink.bytes c.args.writer.now)
    (c.in_ok-script.ensures.ok (g.W.Sink.bytes c.args.writer.now)) in
    on_write c.write_out.result _ _ (λ front. fails_last _ _ _ _ _ _ c.answer_all.new.self through front)
    c.write_out.ensures.fault c.write_out.ensures.front

pub returns-in_default-clause-reads : goal.returns-in_default-clause-reads
returns-in_default-clause-reads g c = reads_written c.write_out.result _ _ c.write_out.ensures.fault (c.in_default.ensures.reads ∙ c.in_ok-script.ensures.reads)

pub returns-in-Write-clause-fault : goal.returns-in-Write-clause-fault
returns-in-Write-clause-fault g c =
    fails_written _ _ _ _ _ c.answer_all.new.self.out.items c.in-Err.fault c.in-Write.is
    (c.in-Err.ensures.err (g.R.Source.bytes c.args.reader.now) (g.W.Sink.bytes c.args.writer.now)
    (c.in_ok-script.ensures.ok (g.W.Sink.bytes c.args.writer.now)))

pub returns-in_err-write_out : goal.returns-in_err-write_out
returns-in_err-write_out g c =
    let stops = c.in-Err.ensures.err (g.R.Source.bytes c.args.reader.now) (g.W.Sink.bytes c.args.writer.now)
    (c.in_ok-script.ensures.ok (g.W.Sink.bytes c.args.writer.now)) in
    let reads = subst (λ n. CountsRead c.in-Err.fault n (g.R.Source.failures c.answer_all.new.reader)) c.in_ok-script.ensures.reads
    c.in-Err.ensures.reads in
    let p = err_from_is_err_and c.from_residual-in_err-write_out.result c.from_residual-in_err-write_out.ensures.1 in
    rw (p.1, p.2, c.in_err-write_out.ensures.fault) (record {
      ok = tt;
      end = tt;
      fault = fails_again _ _ _ _ _ _ c.answer_all.new.self.out.items c.in-Err.fault c.in_default-fault.not-Write stops
          c.in_err-write_out.ensures.front;
      read = λ h. cc;
      write = λ _. c.in_err-write_out.ensures.refused;
      reads = reads_again c.in-Err.fault _ _ _ c.in-Err.ensures.empty c.in_err-write_out.ensures.some reads;
      writes = writes_again c.in-Err.fault _ _ _ _ c.in_default-fault.not-Write c.in-Err.ensures.writes c.in_err-write_out.ensures.fault
          c.in_err-write_out.ensures.writes;
    })

pub returns : goal.returns
returns g c =
    let stops = c.in-Err.ensures.err (g.R.Source.bytes c.args.reader.now) (g.W.Sink.bytes c.args.writer.now)
    (c.in_ok-script.ensures.ok (g.W.Sink.bytes c.args.writer.now)) in record {
      ok = tt;
      end = tt;
      fault = fails_other _ _ _ _ _ _ c.answer_all.new.self.out.items c.in-Err.fault c.in_default-fault.not-Write stops
          c.in_ok-write_out.ensures.ok.1;
      read = c.in-Err.ensures.failed;
      write = λ h. absurd (c.in_default-fault.not-Write h);
      reads = subst (λ n. CountsRead c.in-Err.fault n (g.R.Source.failures c.answer_all.new.reader)) c.in_ok-script.ensures.reads
          c.in-Err.ensures.reads;
      writes = writes_other c.in-Err.fault _ _ _ c.in-Err.ensures.writes c.in_ok-write_out.ensures.writes;
    }

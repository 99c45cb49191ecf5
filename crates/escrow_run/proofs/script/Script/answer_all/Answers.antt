use Rattle.std.proofs.Common.{◌≡◌, ◌<◌, ◌⊎◌, sym, ◌∙◌, subst, inl}
use Rattle.std.proofs.lemmas.Result.{err_from_is_err_and}
use Rattle.script_input.specs.Reader.{passed_over, Reads}
use Rattle.escrow_run.specs.Run.{RunsOn}
use Rattle.escrow_run.proofs.RunLemmas.{stands_written, fails_write}
use Rattle.escrow_run.proofs.script.Script.answer_all.Goals as goal

pub lines-preserved-in-Continue-branch-2 : goal.lines-preserved-in-Continue-branch-2
lines-preserved-in-Continue-branch-2 g c =
    let inv = c.lines.invariant in
    let to = g.R.Source.bytes c.take_next.new.reader in
    let last = g.R.Source.last c.take_next.new.reader in
    let wrote = c.in_ok-write_out.ensures.ok in record {
      runs = λ from before runs.
          let on = subst (RunsOn from to before (g.W.Sink.bytes c.take_next.new.writer) last c.take_next.new.self) c.if-branch.true
          (c.in_ok-take_next.ensures.ok from before (inv.runs from before runs)) in record {
            given = on.given;
            reads = subst (λ r. Reads from to last r on.given) (sym wrote.0.lines) on.reads;
            stands = stands_written before (g.W.Sink.bytes c.take_next.new.writer) (g.W.Sink.bytes c.write_out.new.writer) c.take_next.new.self
                c.write_out.new.self on.given on.stands wrote.0 wrote.1;
            long = subst (λ r. (passed_over r ≡ 0) ⊎ (256 < passed_over r)) (sym wrote.0.lines) on.long;
          };
      reads = c.in_ok-take_next.ensures.reads ∙ inv.reads;
      writes = c.in_ok-write_out.ensures.writes ∙ (c.in_ok-take_next.ensures.writes ∙ inv.writes);
    }

pub returns-in_err-write_out-clause-err : goal.returns-in_err-write_out-clause-err
returns-in_err-write_out-clause-err g c = λ from before runs.
    let to = g.R.Source.bytes c.take_next.new.reader in
    let last = g.R.Source.last c.take_next.new.reader in
    let on = subst (RunsOn from to before (g.W.Sink.bytes c.take_next.new.writer) last c.take_next.new.self) c.if-branch.true
    (c.in_ok-take_next.ensures.ok from before (c.lines.invariant.runs from before runs)) in
    let p = err_from_is_err_and c.from_residual-in_err-write_out.result c.from_residual-in_err-write_out.ensures.1 in
    rw (p.1, p.2)
    (inl (
      c.in_err-write_out.ensures.fault,
      fails_write from to before (g.W.Sink.bytes c.take_next.new.writer) (g.W.Sink.bytes c.write_out.new.writer) last c.take_next.new.self.lines
          c.take_next.new.self.machine.world c.take_next.new.self.out.items on.given on.reads on.stands c.in_err-write_out.ensures.front,
    ))

pub returns-clause-ok : goal.returns-clause-ok
returns-clause-ok g c = λ from before runs.
    subst (RunsOn from (g.R.Source.bytes c.take_next.new.reader) before (g.W.Sink.bytes c.take_next.new.writer)
    (g.R.Source.last c.take_next.new.reader) c.take_next.new.self) c.if-branch.false
    (c.in_ok-take_next.ensures.ok from before (c.lines.invariant.runs from before runs))

use Rattle.std.proofs.Common.{[], ◌∷◌, ◌++◌, Ok, Some, refl, sym, ap, ◌∙◌, subst, inl, inr, IfNone, arith}
use Rattle.std.proofs.lemmas.Result.{err_from_is_err_and}
use Rattle.script_input.specs.declared.fault.ScriptFault.TheVariants as faults
use Rattle.script_input.specs.Reader.{given_line, PassesOn, Reads, Finds}
use Rattle.script_input.proofs.NextLemmas.{stops_no_memory}
use Rattle.escrow_run.specs.Run.{Answered}
use Rattle.escrow_run.proofs.RunLemmas.{stands_more, stands_long, stands_written, stops_behind, memory_at_line, fails_write}
use Rattle.escrow_run.proofs.script.Script.take_next.Goals as goal

pub returns-in_err-answer-in-Some-Line-clause-err : goal.returns-in_err-answer-in-Some-Line-clause-err
returns-in_err-answer-in-Some-Line-clause-err g c = λ from before runs.
    let to = g.R.Source.bytes c.args.reader.now in
    let last = g.R.Source.last c.args.reader.now in
    let old = c.args.self.now in
    let line = subst (λ f. Finds from to last runs.given old.lines c.find.new.self 256 (Ok f)) (c.in-Some-Line.is ∙ ap Some c.in-Some-Line.field-0-is)
    (c.in_ok-find.ensures.next from to last runs.given runs.reads) in
    let p = err_from_is_err_and c.from_residual-in_err-answer-in-Some-Line.result c.from_residual-in_err-answer-in-Some-Line.ensures.1 in
    rw (p.1, p.2) (stops_behind from to before (g.W.Sink.bytes c.args.writer.now) last old.machine.world old.out.items c.answer.new.out.items runs.given
    faults.NoMemory (λ h. cc) (memory_at_line from to last c.find.new.self runs.given 256 line) runs.stands c.in_err-answer-in-Some-Line.ensures.err)

pub returns-in_err-add_line-in-Some-Passed-clause-err : goal.returns-in_err-add_line-in-Some-Passed-clause-err
returns-in_err-add_line-in-Some-Passed-clause-err g c = λ from before runs.
    let to = g.R.Source.bytes c.args.reader.now in
    let last = g.R.Source.last c.args.reader.now in
    let old = c.args.self.now in
    let passed = subst (λ f. Finds from to last runs.given old.lines c.find.new.self 256 (Ok f)) (c.in-Some-Passed.is ∙ ap Some c.in-Some-Passed.field-0-is)
    (c.in_ok-find.ensures.next from to last runs.given runs.reads) in
    let p = err_from_is_err_and c.from_residual-in_err-add_line-in-Some-Passed.result c.from_residual-in_err-add_line-in-Some-Passed.ensures.1 in
    rw (p.1, p.2) (stops_behind from to before (g.W.Sink.bytes c.args.writer.now) last old.machine.world old.out.items c.add_line.new.out.items runs.given
    faults.NoMemory (λ h. cc) (stops_no_memory from to last runs.given passed.no_further) runs.stands c.in_err-add_line-in-Some-Passed.ensures.err)

pub returns-in-Some-End-clause-ok : goal.returns-in-Some-End-clause-ok
returns-in-Some-End-clause-ok g c = λ from before runs.
    let to = g.R.Source.bytes c.args.reader.now in
    let last = g.R.Source.last c.args.reader.now in (
      runs.given,
      (
        subst (λ f. Finds from to last runs.given c.args.self.now.lines c.find.new.self 256 (Ok f)) (c.in-Some-End.is ∙ ap Some c.in-Some-End.field-0-is)
            (c.in_ok-find.ensures.next from to last runs.given runs.reads),
        runs.stands,
      ),
    )

pub returns-in_err-write_out-in-None-clause-err : goal.returns-in_err-write_out-in-None-clause-err
returns-in_err-write_out-in-None-clause-err g c = λ from before runs.
    let to = g.R.Source.bytes c.args.reader.now in
    let last = g.R.Source.last c.args.reader.now in
    let old = c.args.self.now in
    let reads = subst (λ f. Finds from to last runs.given old.lines c.find.new.self 256 (Ok f)) c.in-None.is
    (c.in_ok-find.ensures.next from to last runs.given runs.reads) in
    let p = err_from_is_err_and c.from_residual-in_err-write_out-in-None.result c.from_residual-in_err-write_out-in-None.ensures.1 in
    rw (p.1, p.2) (inl (
      c.in_err-write_out-in-None.ensures.fault,
      fails_write from to before _ _ last c.find.new.self old.machine.world old.out.items runs.given reads
          runs.stands c.in_err-write_out-in-None.ensures.front,
    ))

pub returns-in_err-read-in-None-clause-err : goal.returns-in_err-read-in-None-clause-err
returns-in_err-read-in-None-clause-err g c = λ from before runs.
    let to = g.R.Source.bytes c.args.reader.now in
    let last = g.R.Source.last c.args.reader.now in
    let old = c.args.self.now in
    let reads = subst (λ f. Finds from to last runs.given old.lines c.find.new.self 256 (Ok f)) c.in-None.is
    (c.in_ok-find.ensures.next from to last runs.given runs.reads) in
    let wrote = c.in_ok-write_out-in-None.ensures.ok in
    let p = err_from_is_err_and c.from_residual-in_err-read-in-None.result c.from_residual-in_err-read-in-None.ensures.1 in
    rw (p.1, p.2) (stops_behind from _ before _ _ c.write_out.new.self.machine.world c.write_out.new.self.out.items c.write_out.new.self.out.items runs.given _
    (λ h. let e = sym c.in_err-read-in-None.ensures.fault ∙ h in cc)
    (c.in_err-read-in-None.ensures.err from runs.given (subst (λ r. Reads from to last r runs.given) (sym wrote.0.lines) reads))
    (stands_written before _ _ _ c.write_out.new.self runs.given runs.stands wrote.0 wrote.1) refl)

pub returns-in_ok-answer-in-Some-Line-clause-ok : goal.returns-in_ok-answer-in-Some-Line-clause-ok
returns-in_ok-answer-in-Some-Line-clause-ok g c = λ from before runs.
    let to = g.R.Source.bytes c.args.reader.now in
    let last = g.R.Source.last c.args.reader.now in
    let old = c.args.self.now in
    let line = subst (λ f. Finds from to last runs.given old.lines c.find.new.self 256 (Ok f)) (c.in-Some-Line.is ∙ ap Some c.in-Some-Line.field-0-is)
    (c.in_ok-find.ensures.next from to last runs.given runs.reads) in record {
      given = runs.given ++ given_line c.find.new.self ∷ [];
      reads = line.reads;
      stands = stands_more before (g.W.Sink.bytes c.args.writer.now) old.machine.world c.answer.new.self.world old.out.items c.answer.new.out.items runs.given
          (given_line c.find.new.self) runs.stands
          (subst (λ l. Answered l old.machine.world c.answer.new.self.world old.out.items c.answer.new.out.items) c.line.ensures.line
          c.in_ok-answer-in-Some-Line.ensures.ok);
      long = inl line.passed;
    }

pub returns-in-Some-Long-clause-ok : goal.returns-in-Some-Long-clause-ok
returns-in-Some-Long-clause-ok g c = λ from before runs.
    let to = g.R.Source.bytes c.args.reader.now in
    let last = g.R.Source.last c.args.reader.now in
    let long = subst (λ f. Finds from to last runs.given c.args.self.now.lines c.find.new.self 256 (Ok f)) (c.in-Some-Long.is ∙ ap Some c.in-Some-Long.field-0-is)
    (c.in_ok-find.ensures.next from to last runs.given runs.reads) in record {
      given = runs.given;
      reads = long.reads;
      stands = runs.stands;
      long = inr long.long;
    }

pub returns-in_ok-add_line-in-Some-Passed-clause-ok : goal.returns-in_ok-add_line-in-Some-Passed-clause-ok
returns-in_ok-add_line-in-Some-Passed-clause-ok g c = λ from before runs.
    let to = g.R.Source.bytes c.args.reader.now in
    let last = g.R.Source.last c.args.reader.now in
    let old = c.args.self.now in
    let passed = subst (λ f. Finds from to last runs.given old.lines c.find.new.self 256 (Ok f)) (c.in-Some-Passed.is ∙ ap Some c.in-Some-Passed.field-0-is)
    (c.in_ok-find.ensures.next from to last runs.given runs.reads) in record {
      given = runs.given ++ passed.line ∷ [];
      reads = passed.reads;
      stands = stands_long before (g.W.Sink.bytes c.args.writer.now) old.machine.world old.out.items c.add_line.new.out.items runs.given passed.line
          (elim runs.long [ inl none ↦ absurd (omega (arith, none, passed.was)) | inr long ↦ omega (arith, long, passed.long) ])
          c.in_ok-add_line-in-Some-Passed.ensures.ok runs.stands;
      long = inl passed.passed;
    }

pub returns-in_ok-read-in-None-clause-ok : goal.returns-in_ok-read-in-None-clause-ok
returns-in_ok-read-in-None-clause-ok g c = λ from before runs.
    let to = g.R.Source.bytes c.args.reader.now in
    let last = g.R.Source.last c.args.reader.now in
    let old = c.args.self.now in
    let reads = subst (λ f. Finds from to last runs.given old.lines c.find.new.self 256 (Ok f)) c.in-None.is
    (c.in_ok-find.ensures.next from to last runs.given runs.reads) in
    let on = subst (λ f. IfNone f (PassesOn old.lines c.find.new.self)) c.in-None.is c.in_ok-find.ensures.passed in
    let wrote = c.in_ok-write_out-in-None.ensures.ok in
    let same = c.in_ok-read-in-None.ensures.line ∙ ap (λ r. r.passed) wrote.0.lines in record {
      given = runs.given;
      reads = c.in_ok-read-in-None.ensures.ok from runs.given (subst (λ r. Reads from to last r runs.given) (sym wrote.0.lines) reads);
      stands = stands_written before _ _ _ c.write_out.new.self runs.given runs.stands wrote.0 wrote.1;
      long = elim runs.long [ inl none ↦ inl (same ∙ on.none none) | inr long ↦ inr (omega (arith, same, on.more, long)) ];
    }

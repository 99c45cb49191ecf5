use Rattle.std.proofs.Common.{[], Ok, inl, inr, sym, ap, ◌∙◌, subst, arith}
use Rattle.std.proofs.lemmas.Result.{err_from_is_err_and, IfOk-weaker, IfErr-weaker}
use Rattle.field_bounds.specs.Header.{schema_of}
use Rattle.script_input.specs.Faults.{TellsHeader}
use Rattle.script_input.specs.Lines.{lines_of}
use Rattle.script_input.specs.Reader.{Nexts}
use Rattle.script_input.proofs.ReaderLemmas.{reads_none, no_further_none, stops_header, stops_long, header_there}
use Rattle.script_input.proofs.reader.LineReader.header.Goals as goal

pub returns-in_err-next-clause-err : goal.returns-in_err-next-clause-err
returns-in_err-next-clause-err g c =
    let p = err_from_is_err_and c.from_residual.result c.from_residual.ensures.1 in
    rw (p.1, p.2) (c.in_err-next.ensures.next (g.R.Source.bytes c.args.reader.now) []
    (reads_none (g.R.Source.bytes c.args.reader.now) (g.R.Source.last c.args.reader.now) c.args.self.now c.requires.first))

pub unreachable-requires : goal.unreachable-requires
unreachable-requires g c =
    let from = g.R.Source.bytes c.args.reader.now in
    let to = g.R.Source.bytes c.next.new.reader in
    let last = g.R.Source.last c.next.new.reader in
    let next = c.in_ok-next.ensures.next from [] (reads_none from (g.R.Source.last c.args.reader.now) c.args.self.now c.requires.first) in
    elim c.in-Passed.is [
      | inl is ↦
          let passed = subst (λ n. Nexts from to last [] c.args.self.now c.next.new.self 65536 (Ok n)) is next in
          omega (arith, passed.was, c.requires.first.passed)
      | inr is ↦
          let all = subst (λ n. Nexts from to last [] c.args.self.now c.next.new.self 65536 (Ok n)) is next in
          header_there (lines_of all.read) all.all
    ]

pub returns-in-Line-clause-ok : goal.returns-in-Line-clause-ok
returns-in-Line-clause-ok g c =
    let from = g.R.Source.bytes c.args.reader.now in
    let to = g.R.Source.bytes c.next.new.reader in
    let last = g.R.Source.last c.next.new.reader in
    let line = subst (λ n. Nexts from to last [] c.args.self.now c.next.new.self 65536 (Ok n)) c.in-Line.is
    (c.in_ok-next.ensures.next from [] (reads_none from (g.R.Source.last c.args.reader.now) c.args.self.now c.requires.first)) in
    IfOk-weaker c.schema_of_line.result _ _ (λ schema told. record {
      told = ap schema_of (sym c.line.ensures.line) ∙ told;
      passed = line.passed;
      reads = line.reads;
    }) c.schema_of_line.ensures.ok

pub returns-in-Line-clause-err : goal.returns-in-Line-clause-err
returns-in-Line-clause-err g c =
    let from = g.R.Source.bytes c.args.reader.now in
    let to = g.R.Source.bytes c.next.new.reader in
    let last = g.R.Source.last c.next.new.reader in
    let line = subst (λ n. Nexts from to last [] c.args.self.now c.next.new.self 65536 (Ok n)) c.in-Line.is
    (c.in_ok-next.ensures.next from [] (reads_none from (g.R.Source.last c.args.reader.now) c.args.self.now c.requires.first)) in
    IfErr-weaker c.schema_of_line.result _ _ (λ fault told.
    stops_header from to last c.next.new.self 65536 fault line
    (subst (λ l. TellsHeader fault (schema_of l)) c.line.ensures.line told)) c.schema_of_line.ensures.err

pub returns-in-Long-clause-err : goal.returns-in-Long-clause-err
returns-in-Long-clause-err g c =
    let from = g.R.Source.bytes c.args.reader.now in
    let to = g.R.Source.bytes c.next.new.reader in
    let last = g.R.Source.last c.next.new.reader in
    stops_long from to last c.next.new.self
    (subst (λ n. Nexts from to last [] c.args.self.now c.next.new.self 65536 (Ok n)) c.in-Long.is
    (c.in_ok-next.ensures.next from [] (reads_none from (g.R.Source.last c.args.reader.now) c.args.self.now c.requires.first)))

pub returns-in_err-next-clause-no_further : goal.returns-in_err-next-clause-no_further
returns-in_err-next-clause-no_further g c =
    let from = g.R.Source.bytes c.args.reader.now in
    no_further_none from (g.R.Source.bytes c.next.new.reader)
    (c.in_err-next.ensures.no_further from [] (reads_none from (g.R.Source.last c.args.reader.now) c.args.self.now c.requires.first))

pub returns-in-Line-clause-no_further : goal.returns-in-Line-clause-no_further
returns-in-Line-clause-no_further g c =
    let from = g.R.Source.bytes c.args.reader.now in
    no_further_none from (g.R.Source.bytes c.next.new.reader)
    (c.in_ok-next.ensures.no_further from [] (reads_none from (g.R.Source.last c.args.reader.now) c.args.self.now c.requires.first))

pub returns-in-Long-clause-no_further : goal.returns-in-Long-clause-no_further
returns-in-Long-clause-no_further g c =
    let from = g.R.Source.bytes c.args.reader.now in
    no_further_none from (g.R.Source.bytes c.next.new.reader)
    (c.in_ok-next.ensures.no_further from [] (reads_none from (g.R.Source.last c.args.reader.now) c.args.self.now c.requires.first))

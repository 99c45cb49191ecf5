use Rattle.std.proofs.lemmas.Result.{err_from_is_err_and}
use Rattle.std.proofs.Common.{[], refl, arith}
use Rattle.std.proofs.KnownBytes.{Consumes-nil, Consumes-kept}
use Rattle.script_input.proofs.ReaderLemmas.{stops_read, reads_more, reads_no_further}
use Rattle.script_input.proofs.reader.LineReader.read.Goals as goal

pub returns-in_err-count-clause-err : goal.returns-in_err-count-clause-err
returns-in_err-count-clause-err g c = λ from given reads.
    let p = err_from_is_err_and c.from_residual.result c.from_residual.ensures.1 in
    rw (p.1, p.2, c.in_err-count.ensures.fault)
    (stops_read from _ _ c.args.self.now given reads (g.R.Source.bytes c.fill.new.reader) (g.R.Source.last c.fill.new.reader)
    c.in_err-count.ensures.kept.1 c.requires.due)

pub returns-in_err-count-clause-no_further : goal.returns-in_err-count-clause-no_further
returns-in_err-count-clause-no_further g c = λ from given reads.
    let to = g.R.Source.bytes c.args.reader.now in
    let later = g.R.Source.bytes c.fill.new.reader in
    reads_no_further from to _ c.args.self.now given reads later [] c.requires.due
    (Consumes-kept to to later [] (Consumes-nil to) c.in_err-count.ensures.kept.1) (omega arith)

pub returns-else-count-eq0-clause-no_further : goal.returns-else-count-eq0-clause-no_further
returns-else-count-eq0-clause-no_further g c = λ from given reads.
    let (piece, (size, (most, (rest, got)))) = c.in_ok-count.ensures.ok in
    reads_no_further from _ _ c.args.self.now given reads (g.R.Source.bytes c.fill.new.reader) piece c.requires.due got (omega (arith, size, most))

pub returns-then-count-eq0-clause-no_further : goal.returns-then-count-eq0-clause-no_further
returns-then-count-eq0-clause-no_further g c = λ from given reads.
    let (piece, (size, (most, (rest, got)))) = c.in_ok-count.ensures.ok in
    reads_no_further from _ _ c.args.self.now given reads (g.R.Source.bytes c.fill.new.reader) piece c.requires.due got (omega (arith, size, most))

pub returns-else-count-eq0-clause-ok : goal.returns-else-count-eq0-clause-ok
returns-else-count-eq0-clause-ok g c = λ from given reads.
    let (piece, (size, (most, (rest, got)))) = c.in_ok-count.ensures.ok in
    reads_more from _ _ c.args.self.now given reads (g.R.Source.bytes c.fill.new.reader) (g.R.Source.last c.fill.new.reader) _ piece c.requires.due
    got (omega (arith, size, most)) rest refl refl refl refl

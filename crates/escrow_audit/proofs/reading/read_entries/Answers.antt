use Rattle.std.proofs.Common.{◌+◌, [], ◌∷◌, ◌++◌, Ok, true, refl, sym, ◌∙◌, subst, inl, arith}
use Rattle.std.proofs.lemmas.List.{length_push}
use Rattle.std.proofs.lemmas.Result.{err_from_is_err_and}
use Rattle.script_input.specs.Reader.{given_line, Nexts}
use Rattle.script_input.proofs.ReaderLemmas.{no_further_none}
use Rattle.escrow_audit.specs.Audit.{IsBadEntry, HasEntries}
use Rattle.escrow_audit.specs.Reading.{Notes}
use Rattle.escrow_audit.proofs.Entries.{HasEntries-more, finds_bad, finds_long, faults_no_memory, wants_header, wants_on, wants_entry}
use Rattle.escrow_audit.proofs.reading.read_entries.Goals as goal

pub returns-in_err-lines-clause-fault : goal.returns-in_err-lines-clause-fault
returns-in_err-lines-clause-fault g c =
    let from = g.R.Source.bytes c.args.reader.now in
    let p = err_from_is_err_and c.from_residual.result c.from_residual.ensures.1 in
    rw (p.1, p.2) (faults_no_memory true from from (g.R.Source.last c.args.reader.now) (wants_header true from from (no_further_none from from (inl refl))))

pub returns-in_err-note-in-Line-clause-fault : goal.returns-in_err-note-in-Line-clause-fault
returns-in_err-note-in-Line-clause-fault g c =
    let from = g.R.Source.bytes c.args.reader.now in
    let to = g.R.Source.bytes c.next.new.reader in
    let last = g.R.Source.last c.next.new.reader in
    let inv = c.lines.invariant in
    let p = err_from_is_err_and c.from_residual-in_err-note-in-Line.result c.from_residual-in_err-note-in-Line.ensures.1 in
    rw (p.1, p.2) (faults_no_memory true from to last
    (wants_on from _ to c.lines.schema inv.entries inv.given inv.has inv.wants (c.in_ok-next.ensures.no_further from inv.given inv.reads)))

pub returns-then-not-branch-clause-ok : goal.returns-then-not-branch-clause-ok
returns-then-not-branch-clause-ok g c =
    let from = g.R.Source.bytes c.args.reader.now in
    let to = g.R.Source.bytes c.next.new.reader in
    let last = g.R.Source.last c.next.new.reader in
    let inv = c.lines.invariant in
    let line = subst (λ n. Nexts from to last inv.given c.lines.lines c.next.new.self 256 (Ok n)) c.in-Line.is
    (c.in_ok-next.ensures.next from inv.given inv.reads) in
    finds_bad g.E.TakesEntries.has_taken from to last c.next.new.self c.lines.schema inv.entries inv.given inv.has (given_line c.next.new.self) c.from.result
    (omega (arith, c.from.ensures, c.lines-then-not-branch.ensures.lines, line.reads.lines, length_push inv.given (given_line c.next.new.self)))
    (subst (IsBadEntry c.lines.schema) c.line.ensures.line (c.in_ok-note-in-Line.ensures.bad c.if-not-branch.true)) line.passed line.reads

pub lines-preserved : goal.lines-preserved
lines-preserved g c =
    let from = g.R.Source.bytes c.args.reader.now in
    let to = g.R.Source.bytes c.next.new.reader in
    let last = g.R.Source.last c.next.new.reader in
    let inv = c.lines.invariant in
    let line = subst (λ n. Nexts from to last inv.given c.lines.lines c.next.new.self 256 (Ok n)) c.in-Line.is
    (c.in_ok-next.ensures.next from inv.given inv.reads) in
    let noted = c.in_ok-note-in-Line.ensures.good c.if-not-branch.false inv.entries inv.taken in record {
      given = inv.given ++ given_line c.next.new.self ∷ [];
      reads = line.reads;
      entries = noted.0;
      has = HasEntries-more c.lines.schema inv.given (given_line c.next.new.self) inv.entries noted.0 inv.has
          (subst (λ l. Notes c.lines.schema l inv.entries noted.0) c.line.ensures.line noted.1.0);
      taken = noted.1.1;
      none = line.passed;
      wants = wants_on from _ to c.lines.schema inv.entries inv.given inv.has inv.wants (c.in_ok-next.ensures.no_further from inv.given inv.reads);
      failures = c.in_ok-next.ensures.reads ∙ inv.failures;
    }

pub returns-in-Long-clause-ok : goal.returns-in-Long-clause-ok
returns-in-Long-clause-ok g c =
    let from = g.R.Source.bytes c.args.reader.now in
    let to = g.R.Source.bytes c.next.new.reader in
    let last = g.R.Source.last c.next.new.reader in
    let inv = c.lines.invariant in
    let long = subst (λ n. Nexts from to last inv.given c.lines.lines c.next.new.self 256 (Ok n)) c.in-Long.is
    (c.in_ok-next.ensures.next from inv.given inv.reads) in
    finds_long g.E.TakesEntries.has_taken from to last c.next.new.self c.lines.schema inv.entries inv.given inv.has (c.from-in-Long.result + 1)
    (omega (arith, c.from-in-Long.ensures, c.lines-in-Long.ensures.lines, long.reads.lines)) long.long long.reads

pub unreachable-requires : goal.unreachable-requires
unreachable-requires g c =
    let inv = c.lines.invariant in
    let passed = subst (λ n. Nexts (g.R.Source.bytes c.args.reader.now) (g.R.Source.bytes c.next.new.reader) (g.R.Source.last c.next.new.reader)
    inv.given c.lines.lines c.next.new.self 256 (Ok n)) c.in-Passed.is
    (c.in_ok-next.ensures.next (g.R.Source.bytes c.args.reader.now) inv.given inv.reads) in
    omega (arith, passed.was, inv.none)

pub returns-in-End-clause-ok : goal.returns-in-End-clause-ok
returns-in-End-clause-ok g c =
    let from = g.R.Source.bytes c.args.reader.now in
    let to = g.R.Source.bytes c.next.new.reader in
    let last = g.R.Source.last c.next.new.reader in
    let inv = c.lines.invariant in
    let all = subst (λ n. Nexts from to last inv.given c.lines.lines c.next.new.self 256 (Ok n)) c.in-End.is
    (c.in_ok-next.ensures.next from inv.given inv.reads) in (
      all.read,
      (
        all.consumed,
        (all.ended, (all.within, (inv.entries, (subst (HasEntries c.lines.schema inv.entries) (sym all.all) inv.has, inv.taken)))),
      ),
    )

pub returns-in_err-lines-clause-memory : goal.returns-in_err-lines-clause-memory
returns-in_err-lines-clause-memory g c =
    let from = g.R.Source.bytes c.args.reader.now in
    let p = err_from_is_err_and c.from_residual.result c.from_residual.ensures.1 in
    rw (p.1, p.2) (λ e. wants_header _ from from (no_further_none from from (inl refl)))

pub returns-in_err-note-in-Line-clause-memory : goal.returns-in_err-note-in-Line-clause-memory
returns-in_err-note-in-Line-clause-memory g c =
    let from = g.R.Source.bytes c.args.reader.now in
    let to = g.R.Source.bytes c.next.new.reader in
    let inv = c.lines.invariant in
    let p = err_from_is_err_and c.from_residual-in_err-note-in-Line.result c.from_residual-in_err-note-in-Line.ensures.1 in
    rw (p.1, p.2) (λ e. wants_entry g.E.TakesEntries.keeps from to c.in_err-note-in-Line.ensures.told
    (wants_on from _ to c.lines.schema inv.entries inv.given inv.has inv.wants (c.in_ok-next.ensures.no_further from inv.given inv.reads)))

pub returns-then-not-branch-clause-no_further : goal.returns-then-not-branch-clause-no_further
returns-then-not-branch-clause-no_further g c =
    let from = g.R.Source.bytes c.args.reader.now in
    let inv = c.lines.invariant in
    wants_on from _ (g.R.Source.bytes c.next.new.reader) c.lines.schema inv.entries inv.given inv.has inv.wants
    (c.in_ok-next.ensures.no_further from inv.given inv.reads)

pub returns-in-Long-clause-no_further : goal.returns-in-Long-clause-no_further
returns-in-Long-clause-no_further g c =
    let from = g.R.Source.bytes c.args.reader.now in
    let inv = c.lines.invariant in
    wants_on from _ (g.R.Source.bytes c.next.new.reader) c.lines.schema inv.entries inv.given inv.has inv.wants
    (c.in_ok-next.ensures.no_further from inv.given inv.reads)

pub returns-in-End-clause-no_further : goal.returns-in-End-clause-no_further
returns-in-End-clause-no_further g c =
    let from = g.R.Source.bytes c.args.reader.now in
    let inv = c.lines.invariant in
    wants_on from _ (g.R.Source.bytes c.next.new.reader) c.lines.schema inv.entries inv.given inv.has inv.wants
    (c.in_ok-next.ensures.no_further from inv.given inv.reads)

use Rattle.std.proofs.Common.{◌+◌, [], ◌∷◌, ◌++◌, Ok, refl, sym, ◌∙◌, subst, inl, inr, arith}
use Rattle.std.proofs.lemmas.List.{length_push}
use Rattle.std.proofs.lemmas.Result.{err_from_is_err_and}
use Rattle.site_workers.specs.Scripts.{scripts_of}
use Rattle.script_input.specs.Reader.{given_line, Nexts}
use Rattle.escrow_work.specs.Scripts.{IsBadLine}
use Rattle.escrow_work.specs.Reading.{Holds}
use Rattle.script_input.proofs.ReaderLemmas.{no_further_none}
use Rattle.escrow_work.proofs.Asked.{stops_good, stops_memory, wants_header, wants_on, finds_bad, finds_long}
use Rattle.escrow_work.proofs.reading.read_scripts.Goals as goal

pub returns-in_err-lines-clause-fault : goal.returns-in_err-lines-clause-fault
returns-in_err-lines-clause-fault g c =
    let from = g.R.Source.bytes c.args.reader.now in
    let p = err_from_is_err_and c.from_residual.result c.from_residual.ensures.1 in
    rw (p.1, p.2) (stops_memory from from (g.R.Source.last c.args.reader.now) (wants_header from from (no_further_none from from (inl refl))))

pub returns-in_err-take_in-in-Line-clause-fault : goal.returns-in_err-take_in-in-Line-clause-fault
returns-in_err-take_in-in-Line-clause-fault g c =
    let from = g.R.Source.bytes c.args.reader.now in
    let to = g.R.Source.bytes c.next.new.reader in
    let last = g.R.Source.last c.next.new.reader in
    let inv = c.lines.invariant in
    let p = err_from_is_err_and c.from_residual-in_err-take_in-in-Line.result c.from_residual-in_err-take_in-in-Line.ensures.1 in
    rw (p.1, p.2) (stops_memory from to last
    (wants_on from _ to c.lines.scripts inv.given inv.holds inv.wants (c.in_ok-next.ensures.no_further from inv.given inv.reads)))

pub returns-then-not-branch-clause-fault : goal.returns-then-not-branch-clause-fault
returns-then-not-branch-clause-fault g c =
    let from = g.R.Source.bytes c.args.reader.now in
    let to = g.R.Source.bytes c.next.new.reader in
    let last = g.R.Source.last c.next.new.reader in
    let inv = c.lines.invariant in
    let line = subst (λ n. Nexts from to last inv.given c.lines.lines c.next.new.self 256 (Ok n)) c.in-Line.is
    (c.in_ok-next.ensures.next from inv.given inv.reads) in
    finds_bad from to last c.next.new.self c.lines.scripts inv.given inv.holds (given_line c.next.new.self) c.from.result
    (omega (arith, c.from.ensures, c.lines-then-not-branch.ensures.lines, line.reads.lines, length_push inv.given (given_line c.next.new.self)))
    (subst (IsBadLine c.lines.scripts.schema) c.line-in-Line.ensures.line (c.in_ok-take_in-in-Line.ensures.bad c.if-not-branch.true)) line.passed line.reads

pub lines-preserved : goal.lines-preserved
lines-preserved g c =
    let from = g.R.Source.bytes c.args.reader.now in
    let to = g.R.Source.bytes c.next.new.reader in
    let last = g.R.Source.last c.next.new.reader in
    let inv = c.lines.invariant in
    let line = subst (λ n. Nexts from to last inv.given c.lines.lines c.next.new.self 256 (Ok n)) c.in-Line.is
    (c.in_ok-next.ensures.next from inv.given inv.reads) in record {
      given = inv.given ++ given_line c.next.new.self ∷ [];
      reads = line.reads;
      holds = subst (λ l. Holds c.take_in.new.self (inv.given ++ l ∷ [])) c.line-in-Line.ensures.line
          (c.in_ok-take_in-in-Line.ensures.good c.if-not-branch.false inv.given inv.holds);
      none = line.passed;
      wants = wants_on from _ to c.lines.scripts inv.given inv.holds inv.wants (c.in_ok-next.ensures.no_further from inv.given inv.reads);
      failures = c.in_ok-next.ensures.reads ∙ inv.failures;
    }

pub returns-in-Long-clause-fault : goal.returns-in-Long-clause-fault
returns-in-Long-clause-fault g c =
    let from = g.R.Source.bytes c.args.reader.now in
    let to = g.R.Source.bytes c.next.new.reader in
    let last = g.R.Source.last c.next.new.reader in
    let inv = c.lines.invariant in
    let long = subst (λ n. Nexts from to last inv.given c.lines.lines c.next.new.self 256 (Ok n)) c.in-Long.is
    (c.in_ok-next.ensures.next from inv.given inv.reads) in
    finds_long from to last c.next.new.self c.lines.scripts inv.given inv.holds (c.from-in-Long.result + 1)
    (omega (arith, c.from-in-Long.ensures, c.lines-in-Long.ensures.lines, long.reads.lines)) long.long long.reads

pub unreachable-requires : goal.unreachable-requires
unreachable-requires g c =
    let inv = c.lines.invariant in
    let passed = subst (λ n. Nexts (g.R.Source.bytes c.args.reader.now) (g.R.Source.bytes c.next.new.reader) (g.R.Source.last c.next.new.reader)
    inv.given c.lines.lines c.next.new.self 256 (Ok n)) c.in-Passed.is
    (c.in_ok-next.ensures.next (g.R.Source.bytes c.args.reader.now) inv.given inv.reads) in
    omega (arith, passed.was, inv.none)

pub returns-in-End-clause-ok : goal.returns-in-End-clause-ok
returns-in-End-clause-ok g c =
    let from = g.R.Source.bytes c.args.reader.now in
    let to = g.R.Source.bytes c.next.new.reader in
    let last = g.R.Source.last c.next.new.reader in
    let inv = c.lines.invariant in
    let all = subst (λ n. Nexts from to last inv.given c.lines.lines c.next.new.self 256 (Ok n)) c.in-End.is
    (c.in_ok-next.ensures.next from inv.given inv.reads) in
    (all.read, (all.consumed, (all.ended, (all.within, subst (Holds c.lines.scripts) (sym all.all) inv.holds))))

pub returns-in_err-scripts-clause-fault : goal.returns-in_err-scripts-clause-fault
returns-in_err-scripts-clause-fault g c =
    let p = err_from_is_err_and c.from_residual-in_err-scripts.result c.from_residual-in_err-scripts.ensures.1 in
    rw (p.1, p.2) (stops_memory _ _ _ (wants_header _ _ c.in_ok-schema.ensures.no_further))

pub returns-in_err-next-clause-fault : goal.returns-in_err-next-clause-fault
returns-in_err-next-clause-fault g c =
    let from = g.R.Source.bytes c.args.reader.now in
    let inv = c.lines.invariant in
    let p = err_from_is_err_and c.from_residual-in_err-next.result c.from_residual-in_err-next.ensures.1 in
    rw (p.1, p.2) (stops_good from _ _ inv.given _ (inr (c.lines.scripts.schema, (c.lines.scripts.header.items, (scripts_of c.lines.scripts.rows.items, inv.holds))))
    c.in_err-next.ensures.other (c.in_err-next.ensures.next from inv.given inv.reads))

pub returns-in-End-clause-no_further : goal.returns-in-End-clause-no_further
returns-in-End-clause-no_further g c =
    let from = g.R.Source.bytes c.args.reader.now in
    let inv = c.lines.invariant in
    wants_on from _ (g.R.Source.bytes c.next.new.reader) c.lines.scripts inv.given inv.holds inv.wants
    (c.in_ok-next.ensures.no_further from inv.given inv.reads)

pub returns-in_err-schema-clause-fault : goal.returns-in_err-schema-clause-fault
returns-in_err-schema-clause-fault g c =
    let from = g.R.Source.bytes c.args.reader.now in
    let p = err_from_is_err_and c.from_residual-in_err-schema.result c.from_residual-in_err-schema.ensures.1 in
    rw (p.1, p.2) (stops_good from _ _ [] _ (inl refl) c.in_err-schema.ensures.other c.in_err-schema.ensures.err)

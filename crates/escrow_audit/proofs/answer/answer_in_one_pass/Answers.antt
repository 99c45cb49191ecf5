use Rattle.std.proofs.Common.{subst, true, false}
use Rattle.std.proofs.lemmas.Result.{err_from_is_err_and}
use Rattle.escrow_audit.specs.Judged.{AreJudged}
use Rattle.escrow_audit.specs.Reading.{FindsIn}
use Rattle.escrow_audit.proofs.Entries.{faults_no_memory}
use Rattle.escrow_audit.proofs.Told.{tells_verdict, wants_found}
use Rattle.escrow_audit.proofs.answer.answer_in_one_pass.Goals as goal

pub returns-in_err-tell_judged-in-Entries-clause-fault : goal.returns-in_err-tell_judged-in-Entries-clause-fault
returns-in_err-tell_judged-in-Entries-clause-fault g c =
    let p = err_from_is_err_and c.from_residual-in_err-tell_judged-in-Entries.result
    c.from_residual-in_err-tell_judged-in-Entries.ensures.1 in
    rw (p.1, p.2) (faults_no_memory true _ _ _ c.in_ok-judged.ensures.no_further)

pub returns-in-Entries-clause-ok : goal.returns-in-Entries-clause-ok
returns-in-Entries-clause-ok g c =
    let from = g.R.Source.bytes c.args.reader.now in
    let to = g.R.Source.bytes c.read_entries.new.reader in
    let last = g.R.Source.last c.read_entries.new.reader in
    let found = subst (λ f. FindsIn AreJudged from to last f) c.in-Entries.is c.in_ok-judged.ensures.ok in
    let (read, (consumed, (ended, (within, (entries, (has, are)))))) = found in
    tells_verdict from to last c.in-Entries.field-0 entries read c.in_ok-tell_judged-in-Entries.field-0.0 _ consumed ended within has
    (c.in_ok-tell_judged-in-Entries.ensures.end c.in-Entries.field-0 entries are)
    (c.in_ok-tell_judged-in-Entries.ensures.text c.in-Entries.field-0 entries are)

pub returns-in_err-bad_entry-in-BadEntry-clause-fault : goal.returns-in_err-bad_entry-in-BadEntry-clause-fault
returns-in_err-bad_entry-in-BadEntry-clause-fault g c =
    let p = err_from_is_err_and c.from_residual-in_err-bad_entry-in-BadEntry.result
    c.from_residual-in_err-bad_entry-in-BadEntry.ensures.1 in
    rw (p.1, p.2) (faults_no_memory true _ _ _ c.in_ok-judged.ensures.no_further)

pub returns-in_err-tell_judged-in-Entries-clause-memory : goal.returns-in_err-tell_judged-in-Entries-clause-memory
returns-in_err-tell_judged-in-Entries-clause-memory g c =
    let p = err_from_is_err_and c.from_residual-in_err-tell_judged-in-Entries.result c.from_residual-in_err-tell_judged-in-Entries.ensures.1 in
    rw (p.1, p.2) (λ e. wants_found _ false _ _ _ _ c.in_ok-judged.ensures.ok)

pub returns-in_err-bad_entry-in-BadEntry-clause-memory : goal.returns-in_err-bad_entry-in-BadEntry-clause-memory
returns-in_err-bad_entry-in-BadEntry-clause-memory g c =
    let p = err_from_is_err_and c.from_residual-in_err-bad_entry-in-BadEntry.result c.from_residual-in_err-bad_entry-in-BadEntry.ensures.1 in
    rw (p.1, p.2) (λ e. wants_found _ false _ _ _ _ c.in_ok-judged.ensures.ok)

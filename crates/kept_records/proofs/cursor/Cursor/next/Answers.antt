use Rattle.std.proofs.Common.{[], Option, Result, sym, subst, rules}
use Rattle.std.specs.declared.alloc.AllocError.{AllocError}
use Rattle.std.specs.Prelude.{IfOk}
use Rattle.kept_records.specs.declared.record.Record.{Record}
use Rattle.kept_records.specs.declared.record_lines.RecordLine.{RecordLine}
use Rattle.kept_records.specs.Keeping.{IsKept}
use Rattle.kept_records.specs.Lines.{HandsLine}
use Rattle.kept_records.proofs.Cursors.{kept_behind}
use Rattle.kept_records.proofs.Lines.{no_log}
use Rattle.kept_records.proofs.Walks.{begins_none, bad_there}
use Rattle.kept_records.proofs.cursor.Cursor.next.Goals as goal
use Rattle.kept_records.proofs.cursor.Cursor.next.Goals.{in-Record, in-End}

pub returns-clause-log : goal.returns-clause-log
returns-clause-log c =
    let old = c.self.inside.lines.left in
    let new = c.next_line.new.self.left in
    let kept = subst IsKept (sym c.self.view_is) c.requires.log in
    let handed = c.in_ok-kept.ensures.handed in
    elim c.match-branch-2.branch [
      | in-Record w ↦
          let at = subst (λ (l : RecordLine). HandsLine old l new) w.in-Record.is handed in
          subst (λ (r : Result (Option Record) AllocError). IfOk r (λ _. IsKept new)) (sym w.result-is)
          (kept_behind old new w.in-Record.kept kept at.parts at.fits)
      | in-End w ↦
          let none = subst (λ (l : RecordLine). HandsLine old l new) w.in-End.is handed in
          subst (λ (r : Result (Option Record) AllocError). IfOk r (λ _. IsKept new)) (sym w.result-is) (subst IsKept (sym none.1) kept)
    ]

pub unreachable-requires : goal.unreachable-requires
unreachable-requires c =
    let old = c.self.inside.lines.left in
    let kept = subst IsKept (sym c.self.view_is) c.requires.log in
    let bad = subst (λ (l : RecordLine). HandsLine old l c.next_line.new.self.left) c.in-NoRecord.is c.in_ok-kept.ensures.handed in
    no_log old 1 (bad_there old [] old 0 (begins_none old) bad.0).0 kept.0 kept.1 kept.2

pub returns-clause-handed : goal.returns-clause-handed
returns-clause-handed c = search rules

pub returns-clause-shorter : goal.returns-clause-shorter
returns-clause-shorter c = search rules

pub returns-clause-stays : goal.returns-clause-stays
returns-clause-stays c = search rules

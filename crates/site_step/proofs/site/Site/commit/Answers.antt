use Rattle.std.proofs.Common.{rules, ◌≡◌, ◌<◌, ◌+◌, [], ◌∷◌, length, refl, ap, sym, ◌∙◌, arith, false}
use Rattle.std.specs.Prelude.{nat_lt, nat_le}
use Rattle.std.proofs.lemmas.List.{length-reverse}
use Rattle.kept_records.specs.declared.record.Record.TheVariants as records
use Rattle.kept_records.specs.Stands.{plain, max_behind}
use Rattle.site_step.proofs.Extents.{longer_counted}
use Rattle.kept_records.specs.Text.{text}
use Rattle.site_step.proofs.Calls.{grew, commit_opened, commit_count}
use Rattle.site_step.proofs.Settling.{some_there}
use Rattle.site_step.proofs.Committing.{kept_is, commit_fits, can_spend, few_committed, commits, commit_unsure}
use Rattle.site_step.proofs.site.Site.commit.Goals as goal

pub unwrap-escrows-requires : goal.unwrap-escrows-requires
unwrap-escrows-requires g c = some_there c.escrows.result
    (c.escrows.ensures.«open» ∙ commit_opened c.self.invariant c.self.view_is c.args.txn c.requires.unrefused)

pub answer-requires-clause-silent : goal.answer-requires-clause-silent
answer-requires-clause-silent g c =
    let empty : length c.unwrap-escrows.result.now ≡ 0 = search rules in
    ap (nat_lt 0) (commit_count c.self.invariant c.self.view_is c.args.txn c.requires.unrefused
    (rw c.unwrap-escrows.ensures at c.escrows.ensures.value) ∙ empty)

pub write-requires-clause-kept : goal.write-requires-clause-kept
write-requires-clause-kept g c =
    let some : 0 < length c.unwrap-escrows.result.now = search rules in
    let are = rw c.unwrap-escrows.ensures at c.escrows.ensures.value in
    kept_is c.self.invariant c.self.view_is c.args.txn c.requires.unrefused c.unwrap-escrows.result.now are some
    ∙ ap (λ es. records.Commit c.args.txn es ∷ []) (sym (c.new-escrows.ensures.all ∙ c.in_ok-from_slice.ensures.items))

pub append_commit-requires : goal.append_commit-requires
append_commit-requires g c =
    let some : 0 < length c.unwrap-escrows.result.now = search rules in
    let are = rw c.unwrap-escrows.ensures at c.escrows.ensures.value in
    record {
      ranges = commit_fits c.self.invariant c.self.view_is c.args.txn c.requires.unrefused c.unwrap-escrows.result.now are some;
    }

pub spend-requires : goal.spend-requires
spend-requires g c =
    let some : 0 < length c.unwrap-escrows.result.now = search rules in
    let are = rw c.unwrap-escrows.ensures at c.escrows.ensures.value in
    record { can = can_spend c.self.invariant c.self.view_is c.args.txn c.requires.unrefused c.unwrap-escrows.result.now are some }

pub extend-requires : goal.extend-requires
extend-requires g c =
    let some : 0 < length c.unwrap-escrows.result.now = search rules in
    let are = rw c.unwrap-escrows.ensures at c.escrows.ensures.value in
    let i = c.self.inside in
    record {
      few = omega (
        arith,
        few_committed c.self.invariant c.self.view_is c.args.txn c.requires.unrefused c.unwrap-escrows.result.now are some c.self.inside.past.items
            c.self.inside.based.list.items c.self.inside.extent refl refl,
        length-reverse (g.H.History.items i.history),
        g.met.H.History.few i.history,
        i.based.counted,
        i.based.small,
      );
    }

pub invariant_of-self-in-Ok : goal.invariant_of-self-in-Ok
invariant_of-self-in-Ok g c =
    let some : 0 < length c.unwrap-escrows.result.now = search rules in
    let are = rw c.unwrap-escrows.ensures at c.escrows.ensures.value in
    let undue : nat_le max_behind (c.self.inside.extent.behind + 1) ≡ false = sym c.is_due.ensures.value ∙ c.if-is_due.false in
    let long : c.len.result ≡ length (text (records.Commit c.args.txn c.unwrap-escrows.result.now)) =
    omega (arith, c.len.ensures, c.append_commit.new.line.ok, ap length c.in_ok-append_commit.ensures.line) in
    (commits c.self.invariant c.self.view_is c.args.txn c.requires.unrefused c.unwrap-escrows.result.now are some undue
    (g.M.Medium.bytes c.self.inside.medium) refl c.spend.ensures.spent (rw c.in-Ok.is at c.in_ok-append_commit.ensures.added) (rw c.in-Ok.is at c.in_ok-append_commit.ensures.fate)
    (grew c.push_reserved.ensures.items c.in_ok-reserve.ensures.items) long
    (longer_counted (length (plain c.self.inside.past.items)) c.len.result c.self.inside.extent c.extend.ensures.extended)).sound

pub returns-in-Ok-clause-ok : goal.returns-in-Ok-clause-ok
returns-in-Ok-clause-ok g c =
    let some : 0 < length c.unwrap-escrows.result.now = search rules in
    let are = rw c.unwrap-escrows.ensures at c.escrows.ensures.value in
    let undue : nat_le max_behind (c.self.inside.extent.behind + 1) ≡ false = sym c.is_due.ensures.value ∙ c.if-is_due.false in
    let long : c.len.result ≡ length (text (records.Commit c.args.txn c.unwrap-escrows.result.now)) =
    omega (arith, c.len.ensures, c.append_commit.new.line.ok, ap length c.in_ok-append_commit.ensures.line) in
    (commits c.self.invariant c.self.view_is c.args.txn c.requires.unrefused c.unwrap-escrows.result.now are some undue
    (g.M.Medium.bytes c.self.inside.medium) refl c.spend.ensures.spent (rw c.in-Ok.is at c.in_ok-append_commit.ensures.added) (rw c.in-Ok.is at c.in_ok-append_commit.ensures.fate)
    (grew c.push_reserved.ensures.items c.in_ok-reserve.ensures.items) long
    (longer_counted (length (plain c.self.inside.past.items)) c.len.result c.self.inside.extent c.extend.ensures.extended)).applies

pub invariant_of-self-in-Err : goal.invariant_of-self-in-Err
invariant_of-self-in-Err g c =
    let some : 0 < length c.unwrap-escrows.result.now = search rules in
    let are = rw c.unwrap-escrows.ensures at c.escrows.ensures.value in
    let undue : nat_le max_behind (c.self.inside.extent.behind + 1) ≡ false = sym c.is_due.ensures.value ∙ c.if-is_due.false in
    (commit_unsure c.self.invariant c.self.view_is c.args.txn c.requires.unrefused c.unwrap-escrows.result.now are some undue
    c.in-Err.field-0 (g.M.Medium.bytes c.self.inside.medium) refl (rw c.in-Err.is at c.in_ok-append_commit.ensures.added) (rw c.in-Err.is at c.in_ok-append_commit.ensures.fate)
    (grew c.push_reserved-in-Err.ensures.items c.in_ok-reserve.ensures.items)).sound

pub returns-in-Err-clause-ok : goal.returns-in-Err-clause-ok
returns-in-Err-clause-ok g c =
    let some : 0 < length c.unwrap-escrows.result.now = search rules in
    let are = rw c.unwrap-escrows.ensures at c.escrows.ensures.value in
    let undue : nat_le max_behind (c.self.inside.extent.behind + 1) ≡ false = sym c.is_due.ensures.value ∙ c.if-is_due.false in
    (commit_unsure c.self.invariant c.self.view_is c.args.txn c.requires.unrefused c.unwrap-escrows.result.now are some undue
    c.in-Err.field-0 (g.M.Medium.bytes c.self.inside.medium) refl (rw c.in-Err.is at c.in_ok-append_commit.ensures.added) (rw c.in-Err.is at c.in_ok-append_commit.ensures.fate)
    (grew c.push_reserved-in-Err.ensures.items c.in_ok-reserve.ensures.items)).applies

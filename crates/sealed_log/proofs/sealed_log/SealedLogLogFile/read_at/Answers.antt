use Rattle.std.proofs.Common.{◌-◌, ◌+◌, ◌<◌, ◌≤◌, length, Some, sym, subst, arith}
use Rattle.file_medium.specs.Files.{ReadsAt}
use Rattle.file_medium.specs.Copies.{IsFrontOf}
use Rattle.sealed_log.specs.Sealed.{closed_of}
use Rattle.sealed_log.proofs.Closing.{file-closed, within-all}
use Rattle.sealed_log.proofs.Readings.{read-open, read-closed}
use Rattle.sealed_log.proofs.sealed_log.SealedLogLogFile.read_at.Goals as goal

pub returns-then-at-self-clause-read : goal.returns-then-at-self-clause-read
returns-then-at-self-clause-read g c =
    let l = c.self.inside in
    let n = c.copy_behind.result in
    let buffer = c.copy_behind.new.buffer in
    let file = g.F.LogFile.bytes l.file in
    let reads = subst (λ b. ReadsAt (Some b) (c.args.at - l.closed) n buffer) c.deref.ensures.value c.copy_behind.ensures.read in
    subst (λ v. ReadsAt v.bytes c.args.at n buffer) c.self.view_is
    (read-open l.closed c.args.at n l.is_ended file l.batch.items buffer
    (file-closed l.closed l.is_lost l.is_ended file (g.F.LogFile.safe l.file) l.records.items l.batch.items _ _ c.self.invariant c.if-self.false)
    (omega arith) reads)

pub returns-then-at-count-clause-read : goal.returns-then-at-count-clause-read
returns-then-at-count-clause-read g c =
    let l = c.self.inside in
    let n = c.copy_behind-count.result in
    let buffer = c.copy_behind-count.new.buffer in
    let file = g.F.LogFile.bytes l.file in
    let safe = g.F.LogFile.safe l.file in
    let few : c.args.at < length l.records.items = omega (arith, c.if-at-len.false, c.len.ensures, l.records.ok.0) in
    let fits = subst (λ b. 0 < n → c.args.at + n ≤ length b) c.deref-2.ensures.value c.copy_behind-count.ensures.within in
    let reads = subst (λ b. ReadsAt (Some b) c.args.at n buffer) c.deref-2.ensures.value c.copy_behind-count.ensures.read in
    let front = subst (λ k. IsFrontOf (closed_of l.closed k) l.records.items) (sym (c.self.invariant.is_safe c.if-self.false)) c.self.invariant.front in
    subst (λ v. ReadsAt v.bytes c.args.at n buffer) c.self.view_is
    (read-closed l.closed c.args.at n file l.records.items l.batch.items buffer front few (within-all c.args.at n (length l.records.items) few fits) reads)

pub returns-else-at-count-clause-read : goal.returns-else-at-count-clause-read
returns-else-at-count-clause-read g c =
    let l = c.self.inside in
    let n = c.copy_behind-count.result in
    let buffer = c.copy_behind-count.new.buffer in
    let file = g.F.LogFile.bytes l.file in
    let safe = g.F.LogFile.safe l.file in
    let few : c.args.at < length l.records.items = omega (arith, c.if-at-len.false, c.len.ensures, l.records.ok.0) in
    let fits = subst (λ b. 0 < n → c.args.at + n ≤ length b) c.deref-2.ensures.value c.copy_behind-count.ensures.within in
    let reads = subst (λ b. ReadsAt (Some b) c.args.at n buffer) c.deref-2.ensures.value c.copy_behind-count.ensures.read in
    let front = subst (λ k. IsFrontOf (closed_of l.closed k) l.records.items) (sym (c.self.invariant.is_safe c.if-self.false)) c.self.invariant.front in
    subst (λ v. ReadsAt v.bytes c.args.at n buffer) c.self.view_is
    (read-closed l.closed c.args.at n file l.records.items l.batch.items buffer front few (within-all c.args.at n (length l.records.items) few fits) reads)

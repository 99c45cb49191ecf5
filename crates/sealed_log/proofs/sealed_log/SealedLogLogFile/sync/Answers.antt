use Rattle.std.proofs.Common.{◌≡◌, ◌+◌, length, bytes_eq, [], subst, ap, ◌∙◌, arith}
use Rattle.sealed_text.specs.Seals.{end_batch, IsRecords}
use Rattle.std.specs.Io.KnownBytes.{append_known}
use Rattle.file_medium.specs.Files.{KeepsFront}
use Rattle.sealed_log.specs.Sealed.{closed_of, log_of, sealed_open}
use Rattle.sealed_log.proofs.Closing.{sealed-closed, view-closed, kept-closed, open-records, some-bytes, not-same}
use Rattle.sealed_log.proofs.sealed_log.SealedLogLogFile.sync.Goals as goal

pub invariant_of-self : goal.invariant_of-self
invariant_of-self g c =
    let l = c.self.inside in
    let some = some-bytes _ c.is_empty.result l.batch.items l.batch.ok.0 c.is_empty.ensures c.if-is_empty.false in
    let one : IsRecords l.batch.items = open-records l.batch.items c.self.invariant.whole some (not-same c.eq.result l.batch.items end_batch
    (c.eq.ensures ∙ ap (λ x. bytes_eq x c.end_batch.result.now) c.as_slice.ensures.value ∙ ap (bytes_eq l.batch.items) c.end_batch.ensures.batch) c.if-eq.false) in
    let count : c.in-Some.closed ≡ l.closed + length l.batch.items = omega (arith, c.in-Some.ensures, c.len.ensures, l.batch.ok.0) in
    sealed-closed l.closed c.in-Some.closed l.is_lost l.is_ended (g.F.LogFile.bytes l.file) (g.F.LogFile.safe l.file)
    (g.F.LogFile.bytes c.add_sealed.new.file) (g.F.LogFile.safe c.add_sealed.new.file) l.records.items l.batch.items c.add_sealed.new.batch.items _ _ _
    c.self.invariant c.if-self.false c.if-self-2.false one c.in-Ok.ensures.added c.in-Ok.ensures.safe c.in-Ok.ensures.none count

pub returns-in-Ok-clause-ok : goal.returns-in-Ok-clause-ok
returns-in-Ok-clause-ok g c =
    let l = c.self.inside in
    let some = some-bytes _ c.is_empty.result l.batch.items l.batch.ok.0 c.is_empty.ensures c.if-is_empty.false in
    let one : IsRecords l.batch.items = open-records l.batch.items c.self.invariant.whole some (not-same c.eq.result l.batch.items end_batch
    (c.eq.ensures ∙ ap (λ x. bytes_eq x c.end_batch.result.now) c.as_slice.ensures.value ∙ ap (bytes_eq l.batch.items) c.end_batch.ensures.batch) c.if-eq.false) in
    let count : c.in-Some.closed ≡ l.closed + length l.batch.items = omega (arith, c.in-Some.ensures, c.len.ensures, l.batch.ok.0) in
    let new_file = g.F.LogFile.bytes c.add_sealed.new.file in
    let new_safe = g.F.LogFile.safe c.add_sealed.new.file in
    subst (λ v. log_of c.in-Some.closed l.is_lost l.is_ended new_file new_safe c.add_sealed.new.batch.items l.opened (g.F.LogFile.least c.add_sealed.new.file) (g.F.HeadedLog.head c.add_sealed.new.file)
    ≡ record v { safe = v.bytes; closed = v.closed + length v.batch; batch = []; file = append_known v.file (sealed_open v.batch); file_safe = new_file; head = g.F.HeadedLog.head c.add_sealed.new.file }) c.self.view_is
    (view-closed l.closed c.in-Some.closed l.is_lost l.is_ended (g.F.LogFile.bytes l.file) (g.F.LogFile.safe l.file) new_file new_safe
    l.records.items l.batch.items c.add_sealed.new.batch.items _ _ _ _ (g.F.HeadedLog.head l.file) (g.F.HeadedLog.head c.add_sealed.new.file)
    c.self.invariant c.if-self.false c.if-self-2.false one c.in-Ok.ensures.added c.in-Ok.ensures.safe c.in-Ok.ensures.none count c.in-Ok.ensures.least)

pub returns-in-Ok-clause-kept : goal.returns-in-Ok-clause-kept
returns-in-Ok-clause-kept g c =
    let l = c.self.inside in
    let some = some-bytes _ c.is_empty.result l.batch.items l.batch.ok.0 c.is_empty.ensures c.if-is_empty.false in
    let one : IsRecords l.batch.items = open-records l.batch.items c.self.invariant.whole some (not-same c.eq.result l.batch.items end_batch
    (c.eq.ensures ∙ ap (λ x. bytes_eq x c.end_batch.result.now) c.as_slice.ensures.value ∙ ap (bytes_eq l.batch.items) c.end_batch.ensures.batch) c.if-eq.false) in
    let count : c.in-Some.closed ≡ l.closed + length l.batch.items = omega (arith, c.in-Some.ensures, c.len.ensures, l.batch.ok.0) in
    let new_safe = g.F.LogFile.safe c.add_sealed.new.file in
    subst (λ v. KeepsFront v.safe (closed_of c.in-Some.closed new_safe)) c.self.view_is
    (kept-closed l.closed c.in-Some.closed l.is_lost l.is_ended (g.F.LogFile.bytes l.file) (g.F.LogFile.safe l.file) (g.F.LogFile.bytes c.add_sealed.new.file) new_safe
    l.records.items l.batch.items c.add_sealed.new.batch.items _ _ _ _ (g.F.HeadedLog.head l.file) (g.F.HeadedLog.head c.add_sealed.new.file)
    c.self.invariant c.if-self.false c.if-self-2.false one c.in-Ok.ensures.added c.in-Ok.ensures.safe c.in-Ok.ensures.none count c.in-Ok.ensures.least)

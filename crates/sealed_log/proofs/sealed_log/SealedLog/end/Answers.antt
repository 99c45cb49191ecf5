use Rattle.std.proofs.Common.{◌≡◌, ◌++◌, [], ap, subst, rules, ◌∙◌}
use Rattle.std.specs.Prelude.{true}
use Rattle.std.specs.Io.KnownBytes.{append_known}
use Rattle.sealed_text.specs.Seals.{sealed_batch, end_batch}
use Rattle.sealed_log.specs.Sealed.{log_of}
use Rattle.sealed_log.proofs.Closing.{sealed-ended, view-ended, no-bytes}
use Rattle.sealed_log.proofs.sealed_log.SealedLog.end.Goals as goal

pub invariant_of-self-in-Ok : goal.invariant_of-self-in-Ok
invariant_of-self-in-Ok g c =
    let l = c.self.inside in
    let none : l.batch.items ≡ [] = no-bytes _ c.is_empty.result l.batch.items l.batch.ok.0 c.is_empty.ensures (let h = c.if-not-is_empty in search (rules, h.false)) in
    let piece : c.add_piece.new.batch.items ≡ end_batch = c.in_ok-add_piece.ensures.ok ∙ ap (λ x. x ++ c.end_batch.result.now) none ∙ c.end_batch.ensures.batch in
    let added = c.in-Ok.ensures.added ∙ ap (λ b. append_known (g.F.LogFile.bytes l.file) (sealed_batch b)) piece in
    sealed-ended l.closed l.is_lost l.is_ended (g.F.LogFile.bytes l.file) (g.F.LogFile.safe l.file) (g.F.LogFile.bytes c.add_sealed-ended.new.file) (g.F.LogFile.safe c.add_sealed-ended.new.file)
    l.records.items l.batch.items c.add_sealed-ended.new.batch.items _ _ _ c.self.invariant c.if-self.false c.if-self-2.false added c.in-Ok.ensures.safe c.in-Ok.ensures.none

pub returns-in-Ok-clause-ok : goal.returns-in-Ok-clause-ok
returns-in-Ok-clause-ok g c =
    let l = c.self.inside in
    let none : l.batch.items ≡ [] = no-bytes _ c.is_empty.result l.batch.items l.batch.ok.0 c.is_empty.ensures (let h = c.if-not-is_empty in search (rules, h.false)) in
    let piece : c.add_piece.new.batch.items ≡ end_batch = c.in_ok-add_piece.ensures.ok ∙ ap (λ x. x ++ c.end_batch.result.now) none ∙ c.end_batch.ensures.batch in
    let added = c.in-Ok.ensures.added ∙ ap (λ b. append_known (g.F.LogFile.bytes l.file) (sealed_batch b)) piece in
    let new_file = g.F.LogFile.bytes c.add_sealed-ended.new.file in
    let new_safe = g.F.LogFile.safe c.add_sealed-ended.new.file in
    let view = view-ended l.closed l.is_lost l.is_ended (g.F.LogFile.bytes l.file) (g.F.LogFile.safe l.file) new_file new_safe
    l.records.items l.batch.items c.add_sealed-ended.new.batch.items _ _ _ _ (g.F.HeadedLog.head l.file) (g.F.HeadedLog.head c.add_sealed-ended.new.file) c.self.invariant c.if-self.false c.if-self-2.false added c.in-Ok.ensures.safe c.in-Ok.ensures.none none c.in-Ok.ensures.least in
    rw c.in-Ok.is (subst (λ v. log_of l.closed l.is_lost true new_file new_safe c.add_sealed-ended.new.batch.items l.opened (g.F.LogFile.least c.add_sealed-ended.new.file) (g.F.HeadedLog.head c.add_sealed-ended.new.file)
    ≡ record v { is_ended = true; file = append_known v.file (sealed_batch end_batch); file_safe = new_file; head = g.F.HeadedLog.head c.add_sealed-ended.new.file }) c.self.view_is view)

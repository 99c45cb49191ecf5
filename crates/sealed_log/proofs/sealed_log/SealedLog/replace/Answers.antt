use Rattle.std.proofs.Common.{◌≡◌, [], refl, subst, rules, sym, ◌∙◌}
use Rattle.file_medium.specs.Copies.{IsCopyOf}
use Rattle.sealed_text.specs.Seals.{sealed_batch}
use Rattle.sealed_log.proofs.Closing.{no-bytes}
use Rattle.sealed_log.proofs.Replacing.{one-bytes, one-records, sealed-one}
use Rattle.sealed_log.proofs.sealed_log.SealedLog.replace.Goals as goal

pub invariant_of-self : goal.invariant_of-self
invariant_of-self g c =
    let l = c.self.inside in
    let none : l.batch.items ≡ [] = no-bytes _ c.is_empty.result l.batch.items l.batch.ok.0 c.is_empty.ensures (let h = c.if-not-is_empty in search (rules, h.false)) in
    let text = c.as_slice.ensures.value ∙ c.in-Some.ensures.text in
    let copy = subst (IsCopyOf (g.F.LogFile.bytes c.replace.new.self)) text c.in-Ok.ensures.bytes in
    sealed-one _ _ l.is_lost l.is_ended (g.F.LogFile.bytes c.replace.new.self) (g.F.LogFile.safe c.replace.new.self) c.args.held.now
    c.new.result.items l.batch.items _ copy c.in-Ok.ensures.safe c.in-Some.ensures.records c.if-self.false refl refl c.new.ensures.items none

pub returns-in-Ok-clause-bytes : goal.returns-in-Ok-clause-bytes
returns-in-Ok-clause-bytes g c =
    let l = c.self.inside in
    let none : l.batch.items ≡ [] = no-bytes _ c.is_empty.result l.batch.items l.batch.ok.0 c.is_empty.ensures (let h = c.if-not-is_empty in search (rules, h.false)) in
    let text = c.as_slice.ensures.value ∙ c.in-Some.ensures.text in
    let copy = subst (IsCopyOf (g.F.LogFile.bytes c.replace.new.self)) text c.in-Ok.ensures.bytes in
    one-bytes (g.F.LogFile.bytes c.replace.new.self) c.args.held.now l.batch.items _ copy c.in-Some.ensures.records refl none

pub returns-in-Ok-clause-safe : goal.returns-in-Ok-clause-safe
returns-in-Ok-clause-safe g c =
    let text = c.as_slice.ensures.value ∙ c.in-Some.ensures.text in
    let copy = subst (IsCopyOf (g.F.LogFile.bytes c.replace.new.self)) text c.in-Ok.ensures.bytes in
    let same = subst (λ k. IsCopyOf k (sealed_batch c.args.held.now)) (sym c.in-Ok.ensures.safe) copy in
    one-records (g.F.LogFile.safe c.replace.new.self) c.args.held.now _ same c.in-Some.ensures.records refl

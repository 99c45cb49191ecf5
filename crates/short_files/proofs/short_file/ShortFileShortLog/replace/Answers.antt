use Rattle.std.proofs.Common.{◌≡◌, ◌++◌, true, refl, inr, ap, subst, ◌∙◌}
use Rattle.file_medium.specs.Copies.{IsCopyOf}
use Rattle.file_swap.specs.Heads.{LeavesEither, joined}
use Rattle.sealed_text.specs.Seals.{sealed_batch}
use Rattle.log_head.specs.Heads.{shortened_name}
use Rattle.short_files.specs.Short.{IsInDoubt, ShortValue}
use Rattle.short_files.proofs.Begins.{joined-copy}
use Rattle.short_files.proofs.short_file.ShortFileShortLog.replace.Goals as goal

pub returns-in-Ok-replace-clause-file : goal.returns-in-Ok-replace-clause-file
returns-in-Ok-replace-clause-file g c =
    let new = c.replace.new.self in
    let name = shortened_name c.self.inside.identity.now c.args.front.now in
    let first = subst (IsCopyOf new.head) (c.as_slice.ensures.value ∙ c.in-Ok.ensures.text) c.in-Ok-replace.ensures.head in
    let whole = joined-copy new.head new.file name (sealed_batch c.args.held.now) first c.in-Ok-replace.ensures.file in
    subst (λ (w : ShortValue). IsCopyOf (joined new.head new.file) (shortened_name w.identity c.args.front.now ++ sealed_batch c.args.held.now))
    c.self.view_is whole

pub returns-clause-left : goal.returns-clause-left
returns-clause-left g c same =
    let old = c.self.inside.log in
    let new = c.replace.new.self in
    let doubt = c.in-Err-Failed.ensures.failed c.in-Err-Failed.field-0-is in
    let after : ShortValue = record { log = new; identity = c.self.inside.identity.now; gone = c.self.inside.gone; in_doubt = true } in
    let left = subst (λ l. LeavesEither old.head old.file_safe new.head new.file_safe (l ++ sealed_batch c.args.held.now))
    (c.as_slice.ensures.value ∙ c.in-Ok.ensures.text) doubt.left in
    subst (λ (w : ShortValue). IsInDoubt w after (shortened_name w.identity c.args.front.now ++ sealed_batch c.args.held.now)) c.self.view_is
    (record { same = refl; lost = ap (λ l. l.is_lost) doubt.same; left = left })

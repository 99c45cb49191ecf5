use Rattle.std.proofs.Common.{◌≡◌, length, refl, sym, ap, subst, ◌∙◌}
use Rattle.named_log.specs.Names.{behind}
use Rattle.short_files.specs.Short.{Refuses}
use Rattle.short_files.proofs.Begins.{kept-batches, opens-behind, refuses-behind}
use Rattle.short_files.proofs.short_file.ShortFile.open.Goals as goal

pub returns-in-Ok-open-2-clause-opens : goal.returns-in-Ok-open-2-clause-opens
returns-in-Ok-open-2-clause-opens g c =
    let file = g.F.LogFile.bytes c.args.file in
    let name = c.as_slice.result.now in
    let is = c.in-Ok-open.ensures.ok.bytes ∙ ap (behind (length name)) c.in-Ok.ensures.bytes in
    opens-behind c.args.identity.now file c.in-Ok-open.named.bytes name c.in-Ok.found.gone _ c.in-Ok.ensures.begins
    (c.as_slice.ensures.value ∙ c.in-Ok.ensures.name) is refl c.in-Ok-open-2.ensures.opens

pub returns-clause-err : goal.returns-clause-err
returns-clause-err g c =
    let file = g.F.LogFile.bytes c.args.file in
    let name = c.as_slice.result.now in
    let is = c.in-Ok-open.ensures.ok.bytes ∙ ap (behind (length name)) c.in-Ok.ensures.bytes in
    subst (Refuses c.args.identity.now file) (sym c.of_seal.ensures)
    (refuses-behind c.args.identity.now file c.in-Ok-open.named.bytes name c.in-Ok.found.gone c.in-Err-open-2.fault c.in-Ok.ensures.begins
    (c.as_slice.ensures.value ∙ c.in-Ok.ensures.name) is c.in-Err-open-2.ensures.err)

pub returns-clause-kept : goal.returns-clause-kept
returns-clause-kept g c =
    let file = g.F.LogFile.bytes c.args.file in
    let name = c.as_slice.result.now in
    let is = c.in-Ok-open.ensures.ok.safe ∙ ap (behind (length name)) c.in-Ok.ensures.bytes in
    kept-batches c.args.identity.now file (g.F.LogFile.safe c.args.file) c.in-Ok-open.named.safe c.in-Err-open-2.named.safe
    (g.F.LogFile.safe c.into_file.result) name c.in-Err-open-2.named.name_size c.in-Ok.found.gone c.in-Ok.ensures.begins
    (c.as_slice.ensures.value ∙ c.in-Ok.ensures.name) is c.in-Err-open-2.ensures.safe_still c.into_file.ensures.safe

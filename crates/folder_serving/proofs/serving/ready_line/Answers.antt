use Rattle.std.proofs.Common.{◌≡◌, ◌∙◌}
use Rattle.std.specs.Prelude.{string_bytes}
use Rattle.site_service.specs.Answers.{held_in, site_of}
use Rattle.folder_serving.proofs.Ready.{have_come, held_medium, ready_line}
use Rattle.folder_serving.proofs.serving.ready_line.Goals as goal

pub returns : goal.returns
returns g c =
    let held : c.bytes.result.now ≡ held_in c.args.service.now.served =
    c.bytes.ensures.bytes ∙ held_medium c.site.result.now (site_of c.args.service.now.served) c.medium.result.now.bytes
    c.medium.ensures.bytes c.site.ensures.value in
    record {
      line = ready_line c.args.shortens c.args.service.now c.gone.result.now c.gone-2.result.now c.bytes.result.now c.in_ok-stand.stand
          c.version_of-version.result (string_bytes c.in_ok-line.line) c.gone.ensures.value c.gone-2.ensures.value held
          (have_come c.gone.result.now c.bytes.result.now c.in_ok-stand.stand c.in_ok-stand.ensures.whole c.in_ok-stand.ensures.behind)
          c.version_of-version.ensures c.in_ok-line.ensures.text;
    }

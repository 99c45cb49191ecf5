use Rattle.std.proofs.Common.{◌∙◌}
use Rattle.site_folder.specs.Identity.{trace_name}
use Rattle.folder_logs.proofs.Names.{by_name}
use Rattle.folder_logs.proofs.records.trace_text.Goals as goal

pub returns : goal.returns
returns c = record {
  text =
      by_name c.args.bytes.now c.as_slice.result.now (trace_name c.args.identity.now) c.behind.result
      (c.as_slice.ensures.value ∙ c.in_ok-name.ensures.name) c.behind.ensures.rest;
}

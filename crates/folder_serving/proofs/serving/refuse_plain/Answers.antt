use Rattle.std.specs.Prelude.{string_bytes}
use Rattle.folder_serving.proofs.Ready.{no_plain, plain}
use Rattle.folder_serving.proofs.serving.refuse_plain.Goals as goal

pub returns-clause-other : goal.returns-clause-other
returns-clause-other g c =
    no_plain (g.R.ReadsFiles.holds c.args.files.now) (string_bytes c.args.paths.now.log) c.as_str.result.now c.args.identity.now
    c.in_ok-bytes.bytes.items c.in_ok-name.name.items c.as_slice.result.now c.as_slice-2.result.now c.in_ok-bytes.ensures.read
    c.as_str.ensures.value c.in_ok-name.ensures.name c.as_slice.ensures.value c.as_slice-2.ensures.value c.in-None.ensures.rest

pub returns-in-Some-clause-fault : goal.returns-in-Some-clause-fault
returns-in-Some-clause-fault g c =
    plain (g.R.ReadsFiles.fails c.args.files.now) (g.R.ReadsFiles.holds c.args.files.now) (string_bytes c.args.paths.now.log)
    c.as_str.result.now c.as_str-in-Some.result.now c.args.identity.now c.in_ok-bytes.bytes.items c.in_ok-name.name.items
    c.as_slice.result.now c.as_slice-2.result.now c.in-Some.field-0.now c.refused.result c.in_ok-bytes.ensures.read c.as_str.ensures.value
    c.in_ok-name.ensures.name c.as_slice.ensures.value c.as_slice-2.ensures.value c.in-Some.ensures.rest c.as_str-in-Some.ensures.value
    c.refused.ensures

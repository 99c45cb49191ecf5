use Rattle.std.proofs.Common.{refl, string_bytes}
use Rattle.world_folders.proofs.MarkFaults.{marked_older, no_mark}
use Rattle.world_folders.proofs.marks.check_mark.Goals as goal

pub returns-in_default-mark_told-clause-fault : goal.returns-in_default-mark_told-clause-fault
returns-in_default-mark_told-clause-fault g c =
    no_mark (g.R.ReadsFiles.fails c.args.files.now) (g.R.ReadsFiles.holds c.args.files.now) c.as_str-path.result.now
    (string_bytes c.args.paths.now.not_before) (string_bytes c.args.paths.now.log) c.args.identity.now c.in-Some.bytes.items
    c.as_slice.result.now c.refused.result c.as_str-path.ensures.value c.as_slice.ensures.value
    (rw c.in-Some.is at c.in_ok-bytes.ensures.read) (rw c.in_default-mark_told.is at c.mark_told.ensures.told) c.refused.ensures

pub returns-then-is_before-clause-fault : goal.returns-then-is_before-clause-fault
returns-then-is_before-clause-fault g c =
    marked_older (g.R.ReadsFiles.fails c.args.files.now) (g.R.ReadsFiles.holds c.args.files.now) c.as_str-path.result.now
    (string_bytes c.args.paths.now.not_before) c.as_str.result.now (string_bytes c.args.paths.now.log) c.args.identity.now
    c.in-Some.bytes.items c.as_slice.result.now c.in-Some-mark_told.mark c.in_ok-stand.stand c.why_marked.result
    c.refused-then-is_before.result c.as_str-path.ensures.value c.as_str.ensures.value c.as_slice.ensures.value c.why_marked.ensures.why
    (rw c.in-Some.is at c.in_ok-bytes.ensures.read) c.in-Some-mark_told.ensures.told c.in_ok-stand.ensures.stand
    (c.if-is_before.ensures.value.0 refl) c.refused-then-is_before.ensures

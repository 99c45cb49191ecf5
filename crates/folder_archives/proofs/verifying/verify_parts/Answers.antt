use Rattle.std.proofs.Common.{string_bytes, ◌∙◌}
use Rattle.std.proofs.lemmas.Result.{err_from_is_err_and}
use Rattle.folder_archives.proofs.Chained.{part_all, part_next}
use Rattle.folder_archives.proofs.Whys.{is_fault}
use Rattle.folder_archives.proofs.verifying.verify_parts.Goals as goal

pub returns-in_err-part-clause-fault : goal.returns-in_err-part-clause-fault
returns-in_err-part-clause-fault g c =
    let told = err_from_is_err_and c.from_residual-in_err-part.result c.from_residual-in_err-part.ensures.1 in
    rw told.1 (is_fault (g.R.ReadsFiles.fails c.args.files.now) (g.R.ReadsFiles.holds c.args.files.now) (string_bytes c.args.paths.now.log) c.args.identity.now c.args.totals
    c.parts.next c.as_str.result.now told.0 c.parts.invariant.behind (c.as_str.ensures.value ∙ c.in_ok-path.ensures.path)
    (rw told.2 c.in_err-part.ensures.fault))

pub returns-in-None-clause-verified : goal.returns-in-None-clause-verified
returns-in-None-clause-verified g c =
    part_all (g.R.ReadsFiles.holds c.args.files.now) (string_bytes c.args.paths.now.log) c.args.identity.now c.args.totals c.parts.next
    c.as_str.result.now c.parts.invariant.behind (c.as_str.ensures.value ∙ c.in_ok-path.ensures.path)
    (rw c.in-None.is at c.in_ok-part.ensures.part)

pub parts-preserved : goal.parts-preserved
parts-preserved g c =
    record {
      behind = part_next (g.R.ReadsFiles.holds c.args.files.now) (string_bytes c.args.paths.now.log) c.args.identity.now c.args.totals
          c.parts.next c.as_str.result.now c.in-Some.part c.parts.invariant.behind (c.as_str.ensures.value ∙ c.in_ok-path.ensures.path)
          (rw c.in-Some.is at c.in_ok-part.ensures.part);
    }

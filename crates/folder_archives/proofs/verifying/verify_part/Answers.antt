use Rattle.std.proofs.Common.{ℕ, List, refl, subst}
use Rattle.std.proofs.lemmas.Result.{err_from_is_err_and}
use Rattle.folder_logs.specs.Files.{bytes_of}
use Rattle.held_logs.specs.Held.{IsHeldFault}
use Rattle.folder_archives.proofs.Chained.{of_log}
use Rattle.folder_archives.proofs.Whys.{as_fault, held_tells, joint_tells, unread_tells}
use Rattle.folder_archives.proofs.verifying.verify_part.Goals as goal

pub returns-in_err-bytes-clause-fault : goal.returns-in_err-bytes-clause-fault
returns-in_err-bytes-clause-fault g c =
    let told = err_from_is_err_and c.from_residual.result c.from_residual.ensures.1 in
    rw told.1 (unread_tells (g.R.ReadsFiles.fails c.args.files.now) (g.R.ReadsFiles.holds c.args.files.now) c.args.identity.now
    c.args.path.now c.args.next.now told.0 (rw told.2 c.in_err-bytes.ensures.fault))

pub returns-in-Err-clause-fault : goal.returns-in-Err-clause-fault
returns-in-Err-clause-fault g c =
    let identity = c.args.identity.now in
    let fault = c.in-Err.fault in
    held_tells (g.R.ReadsFiles.fails c.args.files.now) (g.R.ReadsFiles.holds c.args.files.now) identity c.args.path.now c.args.next.now fault c.held_fault.result
    c.held_fault.ensures.told (record {
      file = c.in_ok-bytes.bytes.items;
      read = c.in_ok-bytes.ensures.read;
      why = subst (λ (f : List ℕ). IsHeldFault identity f fault) c.as_slice.ensures.value c.in-Err.ensures.fault;
    })

pub returns-in-Some-clause-fault : goal.returns-in-Some-clause-fault
returns-in-Some-clause-fault g c =
    let holds = g.R.ReadsFiles.holds c.args.files.now in
    let identity = c.args.identity.now in
    let path = c.args.path.now in
    let next = c.args.next.now in
    let gone = c.in-Ok.part.gone in
    let held = bytes_of c.in-Ok.part.records in
    let fault = rw c.in-Some.is at c.in_ok-fault.ensures.fault in
    joint_tells (g.R.ReadsFiles.fails c.args.files.now) holds identity path next c.in-Some.fault c.in_ok-joint_fault-in-Some.field-0 c.in_ok-joint_fault-in-Some.ensures.told (record {
      gone = gone;
      held = held;
      log = of_log holds path path identity c.in_ok-bytes.bytes.items c.as_slice.result.now gone held refl c.as_slice.ensures.value
          c.in_ok-bytes.ensures.read c.in-Ok.ensures.held;
      why = as_fault identity c.schema-schema.result.now c.number.result gone held c.as_slice-base.result.now next.base.items next.told
          c.in-Some.fault c.schema-schema.ensures.value c.number.ensures.value c.as_slice-base.ensures.value fault;
    })

use Rattle.std.proofs.Common.{◌≡◌, ◌≢◌, List, ◌++◌, ◌∙◌, length, arith}
use Rattle.site_folder.specs.Identity.{log_name, sealed_log_name}
use Rattle.log_head.proofs.HeadsRead.{begins_sealed, begins_plain, not_named, refused_then, only_by}
use Rattle.log_head.proofs.reading.read_head.Goals as goal

pub returns-in-Some-clause-found : goal.returns-in-Some-clause-found
returns-in-Some-clause-found c =
    begins_sealed c.args.identity.now c.args.bytes.now c.in_ok-name.name.items c.in-Some._rest.now c.len.result c.in_ok-name.ensures.name
    (rw c.as_slice.ensures.value at c.in-Some.ensures.rest) (omega (arith, c.len.ensures, c.in_ok-name.name.ok.0))

pub returns-in-Some-behind-clause-found : goal.returns-in-Some-behind-clause-found
returns-in-Some-behind-clause-found c =
    begins_plain c.args.identity.now c.args.bytes.now c.in_ok-name-2.name.items c.in-Some-behind._rest.now c.len-in-Some-behind.result
    c.in_ok-name-2.ensures.name (rw c.as_slice-2.ensures.value at c.in-Some-behind.ensures.rest)
    (omega (arith, c.len-in-Some-behind.ensures, c.in_ok-name-2.name.ok.0))

pub returns-clause-refused : goal.returns-clause-refused
returns-clause-refused c =
    let v = c.args.identity.now in
    refused_then v c.args.bytes.now c.read_shortened.result
    (not_named c.args.bytes.now c.as_slice.result.now (sealed_log_name v) (c.as_slice.ensures.value ∙ c.in_ok-name.ensures.name) c.in_default.ensures.rest)
    (not_named c.args.bytes.now c.as_slice-2.result.now (log_name v) (c.as_slice-2.ensures.value ∙ c.in_ok-name-2.ensures.name)
    c.in_default-behind.ensures.rest)
    c.read_shortened.ensures.refused

pub returns-clause-only : goal.returns-clause-only
returns-clause-only c =
    only_by c.args.identity.now c.args.bytes.now c.read_shortened.result c.read_shortened.ensures.found (returns-clause-refused c)

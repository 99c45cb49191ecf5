use Rattle.std.proofs.Common.{◌<◌, length, rules}
use Rattle.central_rules.proofs.ladder.fits_read.Goals as goal

pub returns : goal.returns
returns g c = λ at is.
    let up = c.is_up.ensures at is in
    let inside : c.args.field.0 < length at.schema.fields = search rules in
    let lower = c.rights_guarded-lower.ensures.value at is inside in
    let raise = c.rights_guarded-raise.ensures.value at is inside in
    let floor = c.bounds-bounds.ensures.floor at is inside in
    let ceiling = c.bounds-bounds.ensures.ceiling at is inside in
    search rules

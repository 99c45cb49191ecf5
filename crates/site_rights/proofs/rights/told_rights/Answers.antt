use Rattle.std.proofs.Common.{◌≡◌, refl, rules}
use Rattle.field_bounds.specs.Parts.{field_at, width_of}
use Rattle.site_rights.specs.declared.field_rights.FieldRights.{FieldRights}
use Rattle.site_rights.specs.Rights.{amounts_of, told_of}
use Rattle.site_rights.proofs.RightsLaws.{by_kind}
use Rattle.site_rights.proofs.rights.told_rights.Goals as goal

pub returns-clause-told : goal.returns-clause-told
returns-clause-told c =
    let schema = c.args.schema.now in
    let row : FieldRights = record {
      width = c.abs_diff.result;
      lower = record { free = c.args.free.0; held = 0; cut = c.args.cut.0 };
      raise = record { free = c.args.free.1; held = 0; cut = c.args.cut.1 };
    } in
    let width : c.abs_diff.result ≡ width_of (field_at schema c.args.field.0) = search rules in
    record {
      width = width;
      free = by_kind (λ k. (amounts_of row k).free ≡ told_of c.args.free k) refl refl;
      held = by_kind (λ k. (amounts_of row k).held ≡ 0) refl refl;
      cut = by_kind (λ k. (amounts_of row k).cut ≡ told_of c.args.cut k) refl refl;
    }

use Rattle.std.proofs.Common.{◌≡◌, refl, rules}
use Rattle.field_bounds.specs.Parts.{field_at, width_of, part_of}
use Rattle.site_rights.specs.declared.field_rights.FieldRights.{FieldRights}
use Rattle.site_rights.specs.Rights.{amounts_of}
use Rattle.site_rights.proofs.RightsLaws.{by_kind}
use Rattle.site_rights.proofs.rights.first_rights.Goals as goal

pub returns-clause-fresh : goal.returns-clause-fresh
returns-clause-fresh c =
    let schema = c.args.schema.now in
    let row : FieldRights = record {
      width = c.abs_diff.result;
      lower = record { free = c.part.result; held = 0; cut = 0 };
      raise =
          record { free = c.part-2.result; held = 0; cut = 0 };
    } in
    let width : c.abs_diff.result ≡ width_of (field_at schema c.args.field.0) = search rules in
    record {
      width = width;
      free = by_kind (λ k. (amounts_of row k).free
          ≡ part_of schema c.args.site.0 c.args.field.0 k) c.part.ensures.value c.part-2.ensures.value;
      held = by_kind (λ k. (amounts_of row k).held ≡ 0) refl refl;
      cut = by_kind (λ k. (amounts_of row k).cut ≡ 0) refl refl;
    }

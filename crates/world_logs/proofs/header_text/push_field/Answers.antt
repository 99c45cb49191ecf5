use Rattle.std.proofs.Common.{◌≡◌, ◌++◌, ◌∙◌, ap, codes, string_bytes, arith, w64, to_z, of_z}
use Rattle.std.specs.Prelude.{ℤ}
use Rattle.std.proofs.lemmas.Int.{ints}
use Rattle.field_bounds.specs.Parts.{field_at}
use Rattle.world_logs.specs.HeaderText.{number_text}
use Rattle.world_logs.proofs.HeaderLines.{six_pieces}
use Rattle.world_logs.proofs.header_text.push_field.Goals as goal

pub returns : goal.returns
returns c =
    let field = field_at c.args.schema.now c.args.field.0 in
    let h = string_bytes c.args.header.now in
    let h1 = string_bytes c.push_str.new.self in
    let h2 = string_bytes c.push_str-2.new.self in
    let h3 = string_bytes c.push_number.new.header in
    let h4 = string_bytes c.push_number-2.new.header in
    let h5 = string_bytes c.push_number-3.new.header in
    let h6 = string_bytes c.push_str-3.new.self in
    let bounds = c.bounds-floor.ensures.value in
    let limits = c.bounds-floor.ensures.limits in
    let b = c.bounds-floor.result in
    let floor_is : to_z w64 (of_z w64 b.0) ≡ field.floor =
    omega (arith, ints, ap (λ (x : ℤ × ℤ × ℤ). x.0) bounds, limits.least, limits.floor, limits.ceiling, limits.most) in
    let ceiling_is : to_z w64 (of_z w64 b.1) ≡ field.ceiling =
    omega (arith, ints, ap (λ (x : ℤ × ℤ × ℤ). x.1) bounds, limits.least, limits.floor, limits.ceiling, limits.most) in
    let value_is : to_z w64 (of_z w64 b.2) ≡ field.value =
    omega (arith, ints, ap (λ (x : ℤ × ℤ × ℤ). x.2) bounds, limits.least, limits.floor, limits.ceiling, limits.most) in
    let name : h2 ≡ h1 ++ field.name = c.in_ok-push_str-2.ensures.bytes ∙ ap (λ l. h1 ++ l) c.name.ensures.value in
    let floor : h3 ≡ h2 ++ number_text (codes "\",\"floor\":") field.floor =
    c.in_ok-push_number.ensures.ok
    ∙ ap (λ (z : ℤ). h2 ++ number_text (codes "\",\"floor\":") z) floor_is in
    let ceiling : h4 ≡ h3 ++ number_text (codes ",\"ceiling\":") field.ceiling =
    c.in_ok-push_number-2.ensures.ok
    ∙ ap (λ (z : ℤ). h3 ++ number_text (codes ",\"ceiling\":") z) ceiling_is in
    let value : h5 ≡ h4 ++ number_text (codes ",\"value\":") field.value =
    c.in_ok-push_number-3.ensures.ok
    ∙ ap (λ (z : ℤ). h4 ++ number_text (codes ",\"value\":") z) value_is in
    record {
      ok = six_pieces h h1 h2 h3 h4 h5 h6 (codes "{\"name\":\"") field.name (number_text (codes "\",\"floor\":") field.floor)
          (number_text (codes ",\"ceiling\":") field.ceiling) (number_text (codes ",\"value\":") field.value) (codes "}")
          c.in_ok-push_str.ensures.bytes name floor ceiling value c.in_ok-push_str-3.ensures.bytes;
    }

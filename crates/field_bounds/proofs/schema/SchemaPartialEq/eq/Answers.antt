use Rattle.std.proofs.Common.{◌≡◌, ℕ, List, ◌∙◌, ap, sym, subst, Bool, String}
use Rattle.std.specs.Bool.{Decides}
use Rattle.std.specs.Cmp.Lexicographic.{pointwise}
use Rattle.std.specs.declared.alloc.Global.{Global}
use Rattle.field_bounds.specs.declared.schema.FieldBounds.{FieldBounds}
use Rattle.field_bounds.specs.Schema.{FieldValue, SchemaValue, same_schema}
use Rattle.field_bounds.proofs.Equal.{kept_alike, alike_is_same, schema_decides}
use Rattle.field_bounds.proofs.schema.SchemaPartialEq.eq.Goals as goal

pub returns-then-self-other : goal.returns-then-self-other
returns-then-self-other c =
    let es = c.deref.result.now.entries in
    let fs = c.deref-then-self-other.result.now.entries in
    let seen : c.eq.result ≡ pointwise kept_alike es fs =
    c.eq.ensures
    ∙ ap (λ (xs : List (String Global × FieldBounds)). pointwise kept_alike xs c.as_slice-then-self-other.result) c.as_slice.ensures.entries
    ∙ ap (λ (xs : List (String Global × FieldBounds)). pointwise kept_alike es xs) c.as_slice-then-self-other.ensures.entries in
    let sites_of : SchemaValue → ℕ = λ s. s.sites in
    let fields_of : SchemaValue → List FieldValue = λ s. s.fields in
    let sites = sym (ap sites_of c.self.view_is) ∙ c.if-self-other.true ∙ ap sites_of c.other.view_is in
    let is : c.eq.result ≡ same_schema c.args.self.now c.args.other.now =
    seen ∙ alike_is_same c.args.self.now c.args.other.now es fs sites
    (rw (c.deref.ensures) (sym (ap fields_of c.self.view_is)))
    (rw (c.deref-then-self-other.ensures) (sym (ap fields_of c.other.view_is))) in
    record {
      value = is;
      same = subst (λ (b : Bool). Decides b (c.args.self.now ≡ c.args.other.now)) (sym is)
          (schema_decides c.args.self.now c.args.other.now);
    }

use Rattle.std.proofs.Common.{◌≡◌, ℕ, ◌+◌, ◌<◌, ◌++◌, ◌∷◌, [], Some, List, length, map, get_or, sym, ◌∙◌, ap, inl, inr, arith}
use Rattle.std.specs.Prelude.{pos}
use Rattle.std.specs.List.{slice_get}
use Rattle.std.proofs.lemmas.Bool.{cases_eq}
use Rattle.std.proofs.lemmas.Grind.{common_steps}
use Rattle.std.proofs.lemmas.List.{map_push, length-map}
use Rattle.std.proofs.lemmas.Option.{slice_get_within, get_or_from_slice_get}
use Rattle.field_bounds.specs.declared.field.FieldSpec.{FieldSpec}
use Rattle.field_bounds.specs.Schema.{FieldValue, spec_value}
use Rattle.field_bounds.specs.Parts.{field_at}
use Rattle.world_logs.specs.declared.field_state.FieldState.{FieldState}
use Rattle.world_logs.specs.States.{with_state}
use Rattle.world_logs.proofs.Lists.{slice_get_before, slice_get_last}
use Rattle.world_logs.proofs.settle.settled_fields.Goals as goal

-- one field more
one_more : (states : List FieldState) (specs : List FieldSpec) (spec : FieldSpec) (field : ℕ → FieldValue) (n f : ℕ) (at state d : FieldState)
    → length specs ≡ n
    → (f < n → slice_get states f ≡ Some state → slice_get (map spec_value specs) f ≡ Some (with_state (field f) state))
    → at ≡ get_or states n d → spec_value spec ≡ with_state (field n) at
    → f < n + 1 → slice_get states f ≡ Some state
    → slice_get (map spec_value (specs ++ spec ∷ [])) f ≡ Some (with_state (field f) state)
one_more states specs spec field n f at state d count was at_is here below is =
    rw (map_push spec_value specs spec) (
    elim (cases_eq f n) [
      | inl same ↦
          let stands : at ≡ state =
          at_is ∙ ap (λ (i : ℕ). get_or states i d) (sym same) ∙ get_or_from_slice_get states f state d is in
          slice_get_last (map spec_value specs) (spec_value spec) f (length-map specs spec_value ∙ count ∙ sym same)
          ∙ ap (λ (v : FieldValue). Some v) (here ∙ ap (λ (i : ℕ). with_state (field i) at) (sym same)
          ∙ ap (λ (s : FieldState). with_state (field f) s) stands)
      | inr apart ↦
          let less : f < n = omega (arith, below, apart) in
          slice_get_before (map spec_value specs) (spec_value spec) f (omega (arith, less, count, length-map specs spec_value))
          ∙ was less is
    ]
    )

pub loop-number-preserved : goal.loop-number-preserved
loop-number-preserved c =
    let specs = c.loop-number.specs.items in
    let spec = c.in_ok-settled_field.field-0 in
    let n = c.loop-number.number in
    let none : FieldState = record { value = pos 0; floor = pos 0; ceiling = pos 0 } in
    let states = c.args.states.now in
    let grown : c.push.new.self.items ≡ specs ++ spec ∷ [] = c.in_ok-push.ensures.items in
    record {
      count = grind (arith, common_steps);
      each = λ f state below is.
          rw grown
          (one_more states specs spec (field_at c.args.schema.now) n f (get_or states c.from.result none) state none
          c.loop-number.invariant.count (λ less at. c.loop-number.invariant.each f state less at)
          (ap (λ (i : ℕ). get_or states i none) c.from.ensures) c.in_ok-settled_field.ensures.value below is);
    }

pub returns-clause-each : goal.returns-clause-each
returns-clause-each c = λ f state is.
    c.loop-number.invariant.each f state
    (omega (
      arith,
      slice_get_within c.args.states.now f state is,
      c.requires.count,
      c.fields-number-end.ensures.value,
      c.loop-number-test.false,
    )) is

use Rattle.std.proofs.Common.{◌≡◌, ℕ, ◌+◌, ◌-◌, ◌^◌, ◌<◌, ◌≤◌, min, List, length, ◌∙◌, ap, arith}
use Rattle.std.specs.Prelude.{ℤ, pos, ◌≤ℤ◌, neg_ℤ}
use Rattle.std.proofs.lemmas.Int.{ints}
use Rattle.field_bounds.specs.declared.kind.Kind.TheVariants.{Lower}
use Rattle.field_bounds.specs.Schema.{SchemaValue}
use Rattle.field_bounds.specs.Limits.{max_quantity, IsSchema}
use Rattle.field_bounds.specs.Owed.{max_change}
use Rattle.field_bounds.specs.Parts.{field_at}
use Rattle.kept_records.specs.declared.record.Record.{Record}
use Rattle.world_logs.specs.declared.field_state.FieldState.{FieldState}
use Rattle.world_logs.specs.Logs.{AreLawful, AcceptedWithin, all_rights, all_cuts, in_flight, floor_in, value_in, ceiling_in}
use Rattle.world_logs.specs.Lost.{guarded_known, flight_known}
use Rattle.world_logs.specs.States.{state_of}
use Rattle.world_logs.proofs.Conserved.{is_conserved}
use Rattle.world_logs.proofs.Totals.{all_few}
use Rattle.world_logs.proofs.AllKnown.{all_known, stand_for_all, guarded_all, flight_all}
use Rattle.world_logs.proofs.sums.state_of.Goals as goal

same_state : (a b : FieldState) → a.value ≡ b.value → a.floor ≡ b.floor → a.ceiling ≡ b.ceiling → a ≡ b
same_state a b value floor ceiling =
    ap (λ (x : ℤ). record a { value = x }) value
    ∙ ap (λ (x : ℤ). record a { value = b.value; floor = x }) floor
    ∙ ap (λ (x : ℤ). record b { ceiling = x }) ceiling

-- what all sites guard of rights to lower, and what is in flight of them, is no more than a field is wide
above_is : (schema : SchemaValue) (logs : List (List Record)) (f x : ℕ) → IsSchema schema → AreLawful schema logs → AcceptedWithin schema logs
    → f < length schema.fields
    → x ≡ min (guarded_known schema (all_known logs) f Lower + flight_known schema (all_known logs) f Lower) (2 ^ 64 - 1)
    → (x ≡ all_rights schema logs f Lower + all_cuts schema logs f Lower + in_flight schema logs f Lower) × (x ≤ max_change)
above_is schema logs f x good lawful within field_in is =
    let few = all_few schema good logs lawful within f Lower field_in in
    let rights = guarded_all schema logs lawful.count f Lower in
    let flight = flight_all schema logs lawful.count f Lower in
    (omega (arith, is, few, rights, flight), omega (arith, is, few, rights, flight))

pub rights_known-above-requires : goal.rights_known-above-requires
rights_known-above-requires c =
    record {
      of_known = (
        all_known c.requires.of_world.0,
        stand_for_all c.args.schema.now c.requires.of_world.0 c.args.standings.now c.requires.of_world.1.stand,
      );
      field_in = c.requires.field_in;
    }

pub state_above-requires-clause-few : goal.state_above-requires-clause-few
state_above-requires-clause-few c =
    let schema = c.args.schema.now in
    let logs = c.requires.of_world.0 in
    let is = c.requires.of_world.1 in
    let all = above_is schema logs c.args.field.0 c.rights_known-above.result c.requires.limits is.stand.lawful is.within c.requires.field_in
    (c.rights_known-above.ensures.value (all_known logs) (stand_for_all schema logs c.args.standings.now is.stand)) in
    (c.all_cuts-raised.ensures.most, c.all_cuts-lowered.ensures.most, all.1)

pub returns : goal.returns
returns c =
    record {
      state = λ logs is.
          let schema = c.args.schema.now in
          let f = c.args.field.0 in
          let field = c.bounds-floor.ensures.limits in
          let told = c.state_above.ensures in
          let floor_is = ap (λ (b : ℤ × ℤ × ℤ). b.0) c.bounds-floor.ensures.value in
          let ceiling_is = ap (λ (b : ℤ × ℤ × ℤ). b.1) c.bounds-floor.ensures.value in
          let low : (field_at schema f).floor ≤ℤ pos max_quantity = omega (arith, ints, field.floor, field.ceiling, field.most) in
          let high : neg_ℤ (pos max_quantity) ≤ℤ (field_at schema f).ceiling =
          omega (arith, ints, field.least, field.floor, field.ceiling) in
          let floor : c.state_above.result.floor ≡ floor_in schema logs f =
          omega (arith, ints, told.floor, floor_is, field.least, low, c.all_cuts-raised.ensures.value logs is) in
          let ceiling : c.state_above.result.ceiling ≡ ceiling_in schema logs f =
          omega (arith, ints, told.ceiling, ceiling_is, field.most, high, c.all_cuts-lowered.ensures.value logs is) in
          let all = above_is schema logs f c.rights_known-above.result c.requires.limits is.stand.lawful is.within c.requires.field_in
          (c.rights_known-above.ensures.value (all_known logs) (stand_for_all schema logs c.args.standings.now is.stand)) in
          let above = (is_conserved schema c.requires.limits logs is.stand.lawful is.within).lowering f c.requires.field_in in
          let value : c.state_above.result.value ≡ value_in schema logs f =
          omega (arith, ints, told.value, floor_is, field.least, low, above, all.0, all.1) in
          same_state c.state_above.result (state_of schema logs f) value floor ceiling;
    }

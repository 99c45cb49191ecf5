use Rattle.std.proofs.Common.{◌≡◌, ◌<◌, ◌++◌, ◌∷◌, [], None, ℕ, List, Option, length, sym, ap, ◌∙◌, inl, inr, arith, append_assoc}
use Rattle.std.proofs.lemmas.Bool.{cases_eq}
use Rattle.std.proofs.lemmas.List.{get_or_push, get_or_append_left, length-append}
use Rattle.field_bounds.specs.Schema.{SchemaValue}
use Rattle.log_replay.specs.declared.standing.Standing.{Standing}
use Rattle.world_logs.specs.LostBody.{IsFilled, AreFilled}
use Rattle.world_logs.proofs.lost.filled.Goals as goal

-- one site more
one_more : (schema : SchemaValue) (told : List (Option Standing)) (all : List Standing) (next : Option Standing) (new : Standing) (n : ℕ)
    → AreFilled schema told all → n ≡ length told → IsFilled schema n next new → AreFilled schema (told ++ next ∷ []) (all ++ new ∷ [])
one_more schema told all next new n was count is = record {
  count = omega (arith, was.count, length-append told (next ∷ []), length-append all (new ∷ []));
  each = λ s d less.
      elim (cases_eq s n) [
        | inl same ↦
            rw (get_or_push told next None s (sym count ∙ sym same), get_or_push all new d s (was.count ∙ sym count ∙ sym same), same) is
        | inr apart ↦
            let there : s < length told = omega (arith, less, apart, count, length-append told (next ∷ [])) in
            rw (get_or_append_left told (next ∷ []) None s there, get_or_append_left all (new ∷ []) d s (omega (arith, there, was.count)))
            (was.each s d there)
      ];
}

pub overflow_add-number : goal.overflow_add-number
overflow_add-number c =
    let told = c.loop-standing.yielded in
    omega (
      arith,
      c.loop-standing.invariant.count,
      ap length c.loop-standing.invariant.whole,
      ap length c.in-Some.ensures.steps.0,
      length-append told c.loop-standing.standing-iterator.rest.items,
      c.requires.count,
      c.sites-sites.ensures.limits.few_sites,
    )

pub loop-standing-preserved : goal.loop-standing-preserved
loop-standing-preserved c =
    let schema = c.args.schema.now in
    let told = c.loop-standing.yielded in
    let next = c.in-Some.standing in
    let rest = c.next.new.self.rest.items in
    let all = c.loop-standing.all.items in
    let new = c.in_ok-or_none.field-0 in
    record {
      count = omega (arith, c.loop-standing.invariant.count, length-append told (next ∷ []));
      whole = append_assoc told (next ∷ []) rest ∙ ap (λ (l : List (Option Standing)). told ++ l) (sym c.in-Some.ensures.steps.0)
          ∙ c.loop-standing.invariant.whole;
      filled = rw c.in_ok-push.ensures.items
          (one_more schema told all next new c.loop-standing.number c.loop-standing.invariant.filled c.loop-standing.invariant.count
          c.in_ok-or_none.ensures);
    }

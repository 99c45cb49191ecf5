use Rattle.std.proofs.Common.{◌≡◌, ◌≤◌, ◌<◌, ◌∙◌, List, length, take, get_or, pos, true, false, rules, sym, ap, subst, SFits, w64}
use Rattle.std.specs.Prelude.{unsigned_abs, is_ok}
use Rattle.std.proofs.lemmas.Int.{to_z-of_z}
use Rattle.std.proofs.lemmas.List.Sums.{fold_more}
use Rattle.field_bounds.specs.declared.entry.Escrow.{Escrow}
use Rattle.field_bounds.specs.Kind.{kind_of}
use Rattle.site_rights.specs.declared.field_rights.FieldRights.{FieldRights}
use Rattle.site_rights.specs.Rights.{by_escrow, by_escrows, after_take, free_at}
use Rattle.log_replay.proofs.StandingLaws.{next_in_range, next_is_free, next_free, ok_gives}
use Rattle.log_replay.proofs.standing.take_all.Goals as goal

pub take-requires : goal.take-requires
take-requires c =
    let es = c.args.escrows.now in
    let i = c.loop-escrow.escrow-index in
    let d : Escrow = record { field = record { 0 = 0 }; change = pos 0 } in
    let so_far = c.loop-escrow.invariant.taken_so_far in
    record {
      in_schema = subst (λ (rows : List FieldRights). (get_or es i d).field.0 < length rows) (sym so_far)
          (next_in_range c.args.rights.now es i d c.requires.in_range c.loop-escrow-test.true);
    }

pub returns-then-is_err-clause-enough : goal.returns-then-is_err-clause-enough
returns-then-is_err-clause-enough c =
    let rows = c.args.rights.now in
    let es = c.args.escrows.now in
    let i = c.loop-escrow.escrow-index in
    let d : Escrow = record { field = record { 0 = 0 }; change = pos 0 } in
    let e = get_or es i d in
    let so_far = c.loop-escrow.invariant.taken_so_far in
    let fits : SFits w64 e.change = search rules in
    let z = to_z-of_z w64 e.change fits in
    let a : c.unsigned_abs-amount.result ≡ unsigned_abs e.change = c.unsigned_abs-amount.ensures.value ∙ ap unsigned_abs z in
    let k : c.of-kind.result ≡ kind_of e.change = c.of-kind.ensures.value ∙ ap kind_of z in
    let refused : is_ok c.take.result ≡ false = c.if-is_err.ensures.negation in (
      (λ none. absurd cc),
      λ free.
          let next = next_is_free rows es i d c.requires.in_range c.loop-escrow-test.true free in
          let there : unsigned_abs e.change ≤ free_at c.loop-escrow.rights e.field.0 (kind_of e.change) =
          subst (λ (x : List FieldRights). unsigned_abs e.change ≤ free_at x e.field.0 (kind_of e.change)) (sym so_far) next in
          let can : c.unsigned_abs-amount.result ≤ free_at c.loop-escrow.rights e.field.0 c.of-kind.result = rw (a, k) there in
          sym refused ∙ c.take.ensures.enough.1 can,
    )

pub loop-escrow-preserved : goal.loop-escrow-preserved
loop-escrow-preserved c =
    let rows = c.args.rights.now in
    let es = c.args.escrows.now in
    let i = c.loop-escrow.escrow-index in
    let d : Escrow = record { field = record { 0 = 0 }; change = pos 0 } in
    let e = get_or es i d in
    let now = c.loop-escrow.rights in
    let so_far = c.loop-escrow.invariant.taken_so_far in
    let fits : SFits w64 e.change = search rules in
    let z = to_z-of_z w64 e.change fits in
    let a : c.unsigned_abs-amount.result ≡ unsigned_abs e.change = c.unsigned_abs-amount.ensures.value ∙ ap unsigned_abs z in
    let k : c.of-kind.result ≡ kind_of e.change = c.of-kind.ensures.value ∙ ap kind_of z in
    let took : is_ok c.take.result ≡ true = c.if-is_err.ensures.negation in
    let got = ok_gives c.take.result took c.take.ensures.ok in
    let made : c.take.new.self ≡ by_escrow after_take now e = rw (a, k) at got in
    let enough = c.take.ensures.enough.0 took in
    let within : unsigned_abs e.change ≤ free_at now e.field.0 (kind_of e.change) = rw (a, k) at enough in
    let next : unsigned_abs e.change ≤ free_at (by_escrows after_take rows (take i es)) e.field.0 (kind_of e.change) =
    subst (λ (x : List FieldRights). unsigned_abs e.change ≤ free_at x e.field.0 (kind_of e.change)) so_far within in
    record {
      taken_so_far = made ∙ ap (λ (x : List FieldRights). by_escrow after_take x e) so_far
          ∙ sym (fold_more (by_escrow after_take) rows es i d c.loop-escrow-test.true);
      free_so_far = next_free rows es i d c.requires.in_range c.loop-escrow-test.true c.loop-escrow.invariant.free_so_far next;
    }

use Rattle.std.proofs.Common.{rules, ◌≡◌, ap, ◌∙◌, ℕ, ◌++◌, ◌∷◌, get_or, pos, refl, w64, to_z, of_z, ℤ}
use mir.Val.{SFits}
use Rattle.std.specs.Fmt.{decimal, signed_decimal}
use Rattle.std.proofs.lemmas.Int.{to_z-of_z}
use Rattle.field_bounds.specs.declared.entry.Escrow.{Escrow}
use Rattle.kept_records.proofs.Spaced.{escrow_pushed}
use Rattle.kept_records.proofs.writing.push_escrows.Goals as goal

pub loop-escrow-preserved : goal.loop-escrow-preserved
loop-escrow-preserved c =
    let none : Escrow = record { field = record { 0 = 0 }; change = pos 0 } in
    let es = c.args.escrows.now in
    let i = c.loop-escrow.escrow-index in
    let e : Escrow = get_or es i none in
    let number : c.push_number.new.line.items ≡ c.loop-escrow.line.items ++ 32 ∷ decimal e.field.0 =
    c.in_ok-push_number.ensures ∙ ap (λ (n : ℕ). c.loop-escrow.line.items ++ 32 ∷ decimal n) c.from.ensures in
    let fits : SFits w64 e.change = search rules in
    let back : to_z w64 (of_z w64 e.change) ≡ e.change = to_z-of_z w64 e.change fits in
    let change : c.push_signed.new.line.items ≡ c.push_number.new.line.items ++ 32 ∷ signed_decimal e.change =
    c.in_ok-push_signed.ensures ∙ ap (λ (z : ℤ). c.push_number.new.line.items ++ 32 ∷ signed_decimal z) back in
    escrow_pushed c.args.line.now.items c.loop-escrow.line.items c.push_number.new.line.items c.push_signed.new.line.items es i e none
    c.loop-escrow-test.true refl c.loop-escrow.invariant number change

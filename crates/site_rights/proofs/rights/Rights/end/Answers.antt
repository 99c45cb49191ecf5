use Rattle.std.proofs.Common.{List, get_or, pos, arith, refl, sym, subst}
use Rattle.field_bounds.specs.declared.entry.Escrow.{Escrow}
use Rattle.site_rights.specs.declared.field_rights.FieldRights.{FieldRights}
use Rattle.site_rights.specs.Rights.{CanEnd}
use Rattle.site_rights.proofs.RightsLaws.{can_end}
use Rattle.site_rights.proofs.rights.Rights.end.Goals as goal

pub end_one-requires : goal.end_one-requires
end_one-requires c =
    let d : Escrow = record { field = record { 0 = 0 }; change = pos 0 } in
    let e : Escrow = get_or c.args.escrows.now c.loop-escrow.escrow-index d in
    let can = can_end c.args.outcome c.args.self.now c.args.escrows.now c.loop-escrow.escrow-index e d c.requires.in_schema c.requires.there
    (omega arith) refl in
    record { can = subst (λ (rows : List FieldRights). CanEnd rows e) (sym c.loop-escrow.invariant) can }

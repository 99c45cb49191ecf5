use Rattle.std.proofs.Common.{◌≡◌, ◌≤◌, rules, ap, ◌∙◌, SFits, w64}
use Rattle.std.specs.Prelude.{unsigned_abs}
use Rattle.std.proofs.lemmas.Int.{to_z-of_z}
use Rattle.field_bounds.specs.declared.entry.Escrow.{Escrow}
use Rattle.field_bounds.specs.Kind.{kind_of}
use Rattle.site_rights.specs.Rights.{free_at, by_escrow, after_take}
use Rattle.site_step.proofs.Calls.{grew, grant_opened, grant_has_room, grant_has_rights, grants}
use Rattle.site_step.proofs.Settling.{ok_gives}
use Rattle.site_step.proofs.site.Site.grant.Goals as goal

pub add-requires-clause-open : goal.add-requires-clause-open
add-requires-clause-open g c = grant_opened c.self.invariant c.self.view_is c.args.txn
    (record { field = c.args.field; change = c.args.change }) c.requires.unrefused

pub add-requires-clause-room : goal.add-requires-clause-room
add-requires-clause-room g c = grant_has_room c.self.invariant c.self.view_is c.args.txn
    (record { field = c.args.field; change = c.args.change }) c.requires.unrefused

pub unwrap-requires : goal.unwrap-requires
unwrap-requires g c =
    let fits : SFits w64 c.args.change = search rules in
    let z = to_z-of_z w64 c.args.change fits in
    let a : c.unsigned_abs.result ≡ unsigned_abs c.args.change = c.unsigned_abs.ensures.value ∙ ap unsigned_abs z in
    let k : c.of.result ≡ kind_of c.args.change = c.of.ensures.value ∙ ap kind_of z in
    let can : c.unsigned_abs.result ≤ free_at c.self.inside.accounts.standing.rights c.args.field.0 c.of.result =
    rw (a, k) (grant_has_rights c.self.invariant c.self.view_is c.args.txn
    (record { field = c.args.field; change = c.args.change }) c.requires.unrefused) in
    c.take.ensures.enough.1 can

pub invariant_of-self-2 : goal.invariant_of-self-2
invariant_of-self-2 g c =
    let x : Escrow = record { field = c.args.field; change = c.args.change } in
    let fits : SFits w64 c.args.change = search rules in
    let z = to_z-of_z w64 c.args.change fits in
    let a : c.unsigned_abs.result ≡ unsigned_abs c.args.change = c.unsigned_abs.ensures.value ∙ ap unsigned_abs z in
    let k : c.of.result ≡ kind_of c.args.change = c.of.ensures.value ∙ ap kind_of z in
    let can : c.unsigned_abs.result ≤ free_at c.self.inside.accounts.standing.rights c.args.field.0 c.of.result =
    rw (a, k) (grant_has_rights c.self.invariant c.self.view_is c.args.txn x c.requires.unrefused) in
    let got = ok_gives c.take.result (c.take.ensures.enough.1 can) c.take.ensures.ok in
    let rows : c.take.new.self ≡ by_escrow after_take c.self.inside.accounts.standing.rights x = rw (a, k) at got in
    (grants c.self.invariant c.self.view_is c.args.txn x c.requires.unrefused rows (rw z at c.in_ok-add.ensures.ok)
    (grew (rw z at c.push_reserved.ensures.items) c.in_ok-reserve.ensures.items)).sound

pub returns-clause-ok : goal.returns-clause-ok
returns-clause-ok g c =
    let x : Escrow = record { field = c.args.field; change = c.args.change } in
    let fits : SFits w64 c.args.change = search rules in
    let z = to_z-of_z w64 c.args.change fits in
    let a : c.unsigned_abs.result ≡ unsigned_abs c.args.change = c.unsigned_abs.ensures.value ∙ ap unsigned_abs z in
    let k : c.of.result ≡ kind_of c.args.change = c.of.ensures.value ∙ ap kind_of z in
    let can : c.unsigned_abs.result ≤ free_at c.self.inside.accounts.standing.rights c.args.field.0 c.of.result =
    rw (a, k) (grant_has_rights c.self.invariant c.self.view_is c.args.txn x c.requires.unrefused) in
    let got = ok_gives c.take.result (c.take.ensures.enough.1 can) c.take.ensures.ok in
    let rows : c.take.new.self ≡ by_escrow after_take c.self.inside.accounts.standing.rights x = rw (a, k) at got in
    (grants c.self.invariant c.self.view_is c.args.txn x c.requires.unrefused rows (rw z at c.in_ok-add.ensures.ok)
    (grew (rw z at c.push_reserved.ensures.items) c.in_ok-reserve.ensures.items)).applies

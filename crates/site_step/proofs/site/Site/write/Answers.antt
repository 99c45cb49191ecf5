use Rattle.std.proofs.Common.{◌≡◌, length, refl, ap, arith}
use Rattle.std.proofs.lemmas.List.{length-reverse}
use Rattle.std.specs.List.{flat_map}
use Rattle.kept_records.specs.Text.{text}
use Rattle.kept_records.specs.Keeping.{with_due}
use Rattle.kept_records.specs.Stands.{plain}
use Rattle.site_step.proofs.Extents.{longer_counted}
use Rattle.site_step.proofs.Calls.{grew, record_fits, can_write, few_written, wrote, unsure}
use Rattle.site_step.proofs.site.Site.write.Goals as goal

pub carry_out-requires : goal.carry_out-requires
carry_out-requires g c =
    record {
      can = can_write c.self.invariant c.self.view_is c.args.command c.requires.unrefused c.requires.kept;
      ranges = record_fits c.self.invariant c.self.view_is c.args.command c.requires.unrefused c.requires.kept;
    }

pub extend-requires : goal.extend-requires
extend-requires g c =
    let i = c.self.inside in
    record {
      few = omega (
        arith,
        few_written c.self.invariant c.self.view_is c.args.command c.requires.unrefused c.requires.kept c.self.inside.past.items
            c.self.inside.based.list.items c.self.inside.extent refl refl,
        length-reverse (g.H.History.items i.history),
        g.met.H.History.few i.history,
        i.based.counted,
        i.based.small,
      );
    }

pub invariant_of-self-in-Ok : goal.invariant_of-self-in-Ok
invariant_of-self-in-Ok g c =
    let long : c.len.result ≡ length (flat_map text (with_due c.args.kept.now c.in_ok-due.due)) =
    omega (arith, c.len.ensures, c.append_piece.new.line.ok, ap length c.in_ok-append_piece.ensures.line) in
    (wrote c.self.invariant c.self.view_is c.args.command c.requires.unrefused c.requires.kept c.args.reply c.in_ok-due.due
    (g.M.Medium.bytes c.self.inside.medium) refl c.requires.owed c.in_ok-due.ensures.due c.carry_out.ensures.took c.carry_out.ensures.journal
    c.carry_out.ensures.last
    (rw c.in-Ok.is at c.in_ok-append_piece.ensures.added) (rw c.in-Ok.is at c.in_ok-append_piece.ensures.fate)
    (grew c.push_reserved.ensures.items c.in_ok-reserve.ensures.items) long
    (longer_counted (length (plain c.self.inside.past.items)) c.len.result c.self.inside.extent c.extend.ensures.extended)).sound

pub returns-in-Ok-clause-ok : goal.returns-in-Ok-clause-ok
returns-in-Ok-clause-ok g c =
    let long : c.len.result ≡ length (flat_map text (with_due c.args.kept.now c.in_ok-due.due)) =
    omega (arith, c.len.ensures, c.append_piece.new.line.ok, ap length c.in_ok-append_piece.ensures.line) in
    (wrote c.self.invariant c.self.view_is c.args.command c.requires.unrefused c.requires.kept c.args.reply c.in_ok-due.due
    (g.M.Medium.bytes c.self.inside.medium) refl c.requires.owed c.in_ok-due.ensures.due c.carry_out.ensures.took c.carry_out.ensures.journal
    c.carry_out.ensures.last
    (rw c.in-Ok.is at c.in_ok-append_piece.ensures.added) (rw c.in-Ok.is at c.in_ok-append_piece.ensures.fate)
    (grew c.push_reserved.ensures.items c.in_ok-reserve.ensures.items) long
    (longer_counted (length (plain c.self.inside.past.items)) c.len.result c.self.inside.extent c.extend.ensures.extended)).applies

pub invariant_of-self-in-Err : goal.invariant_of-self-in-Err
invariant_of-self-in-Err g c =
    (unsure c.self.invariant c.self.view_is c.args.command c.requires.unrefused c.requires.kept c.in_ok-due.due
    c.in-Err.field-0 (g.M.Medium.bytes c.self.inside.medium) refl c.in_ok-due.ensures.due
    (rw c.in-Err.is at c.in_ok-append_piece.ensures.added) (rw c.in-Err.is at c.in_ok-append_piece.ensures.fate)
    (grew c.push_reserved-in-Err.ensures.items c.in_ok-reserve.ensures.items)).sound

pub returns-in-Err-clause-ok : goal.returns-in-Err-clause-ok
returns-in-Err-clause-ok g c =
    (unsure c.self.invariant c.self.view_is c.args.command c.requires.unrefused c.requires.kept c.in_ok-due.due
    c.in-Err.field-0 (g.M.Medium.bytes c.self.inside.medium) refl c.in_ok-due.ensures.due
    (rw c.in-Err.is at c.in_ok-append_piece.ensures.added) (rw c.in-Err.is at c.in_ok-append_piece.ensures.fate)
    (grew c.push_reserved-in-Err.ensures.items c.in_ok-reserve.ensures.items)).applies

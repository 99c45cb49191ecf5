use Rattle.field_bounds.specs.Central.{own}
use Rattle.central_machine.proofs.Row.{found_at}
use Rattle.central_machine.proofs.totals.FrontTotals.reply_holds.Goals as goal

pub returns-in-Some : goal.returns-in-Some
returns-in-Some c = λ t is.
    let look = c.in-Some.ensures.lookup in
    let at = found_at c.deref.result.now c.args.self.now.sites.items c.from.result c.args.entry.now.site.0 c.in-Some.totals.now
    c.deref.ensures.value c.from.ensures look.0 look.1 in
    c.reply_fits.ensures (own c.args.entry.now.site.0 t) (is.sites c.args.entry.now.site.0 c.in-Some.totals.now at)

use Rattle.site_handle.proofs.Calls.{told_by}
use Rattle.site_handle.proofs.session.Session.tell.Goals as goal

pub returns-in-Ok-clause-ok : goal.returns-in-Ok-clause-ok
returns-in-Ok-clause-ok c =
    told_by c.args.self.now c.ask.new.self c.args.line.now c.in_ok-command.command c.in_ok-reply.reply c.in_ok-text.text.items
    c.add_told.new.text.items c.in_ok-command.ensures.ok c.in_ok-reply.ensures.ok c.in_ok-text.ensures.items c.in-Ok.ensures.ok

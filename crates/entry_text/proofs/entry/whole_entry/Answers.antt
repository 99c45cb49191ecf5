use Rattle.entry_text.proofs.Entries.{entry_cut}
use Rattle.entry_text.proofs.entry.whole_entry.Goals as goal

pub returns-clause-text : goal.returns-clause-text
returns-clause-text c =
    entry_cut c.args.fields.now c.args.line.now c.in_ok-site.rest.now c.in_ok-behind.field-0.now
    (record { site = c.in_ok-site.site; command = c.in_ok-site.command; reply = c.in_ok-reply.reply }) c.in_ok-site.ensures.cut
    c.in_ok-behind.ensures.cut c.in_ok-reply.ensures.text

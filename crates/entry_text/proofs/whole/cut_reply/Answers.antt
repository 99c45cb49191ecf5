use Rattle.std.proofs.Common.{ap, sym, ◌∙◌}
use Rattle.entry_text.specs.Replies.{reply_at}
use Rattle.entry_text.proofs.Replies.{reply_cut}
use Rattle.entry_text.proofs.whole.cut_reply.Goals as goal

pub returns-then-is_empty : goal.returns-then-is_empty
returns-then-is_empty c =
    let says = reply_cut c.args.bytes.now c.in_ok-reply.reply _ (ap reply_at (sym c.new-words.ensures.cut) ∙ c.in_ok-reply.ensures)
    c.if-is_empty.ensures.none in
    record { text = says.0; fits = says.1 }

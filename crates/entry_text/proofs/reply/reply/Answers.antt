use Rattle.std.proofs.Common.{◌∙◌}
use Rattle.entry_text.specs.Replies.{reply_at}
use Rattle.entry_text.proofs.Taken.{past_row, gives_past}
use Rattle.entry_text.proofs.reply.reply.Goals as goal

pub returns-else-named-9 : goal.returns-else-named-9
unfolding reply_at
returns-else-named-9 c = gives_past _ _ _ _ (past_row _ _ _ _ _ c.if-named.ensures ∙ past_row _ _ _ _ _ c.if-named-2.ensures ∙ past_row _ _ _ _ _ c.if-named-3.ensures ∙ past_row _ _ _ _ _ c.if-named-4.ensures ∙ past_row _ _ _ _ _ c.if-named-5.ensures ∙ past_row _ _ _ _ _ c.if-named-6.ensures ∙ past_row _ _ _ _ _ c.if-named-7.ensures ∙ past_row _ _ _ _ _ c.if-named-8.ensures ∙ past_row _ _ _ _ _ c.if-named-9.ensures) c.right_reply.ensures

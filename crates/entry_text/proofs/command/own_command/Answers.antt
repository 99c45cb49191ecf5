use Rattle.std.proofs.Common.{◌∙◌}
use Rattle.entry_text.proofs.Taken.{past_row, past_all}
use Rattle.entry_text.proofs.command.own_command.Goals as goal

pub returns-else-named-5 : goal.returns-else-named-5
returns-else-named-5 c = past_row _ _ _ _ _ c.if-named.ensures ∙ past_row _ _ _ _ _ c.if-named-2.ensures ∙ past_row _ _ _ _ _ c.if-named-3.ensures ∙ past_row _ _ _ _ _ c.if-named-4.ensures ∙ past_row _ _ _ _ _ c.if-named-5.ensures ∙ past_all c.named-else-named-4.new.line

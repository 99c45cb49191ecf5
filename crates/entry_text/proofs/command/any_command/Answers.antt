use Rattle.std.proofs.Common.{◌∙◌}
use Rattle.entry_text.proofs.Taken.{past_row, gives_past}
use Rattle.entry_text.proofs.command.any_command.Goals as goal

pub returns-else-named-4 : goal.returns-else-named-4
returns-else-named-4 c = gives_past _ _ _ _ (past_row _ _ _ _ _ c.if-named.ensures ∙ past_row _ _ _ _ _ c.if-named-2.ensures ∙ past_row _ _ _ _ _ c.if-named-3.ensures ∙ past_row _ _ _ _ _ c.if-named-4.ensures) c.gift_or_own_command.ensures

use Rattle.std.proofs.Common.{◌∙◌}
use Rattle.entry_text.proofs.Taken.{past_row, gives_past}
use Rattle.entry_text.proofs.command.gift_or_own_command.Goals as goal

pub returns-else-named-3 : goal.returns-else-named-3
returns-else-named-3 c = gives_past _ _ _ _ (past_row _ _ _ _ _ c.if-named.ensures ∙ past_row _ _ _ _ _ c.if-named-2.ensures ∙ past_row _ _ _ _ _ c.if-named-3.ensures) c.own_command.ensures

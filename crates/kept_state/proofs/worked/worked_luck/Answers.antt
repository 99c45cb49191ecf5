use Rattle.kept_state.proofs.LuckRows as rows
use Rattle.kept_state.proofs.worked.worked_luck.Goals as goal

pub returns-clause-lost : goal.returns-clause-lost
returns-clause-lost c = rows.lost

pub returns-clause-kept : goal.returns-clause-kept
returns-clause-kept c = rows.kept

pub returns-clause-used : goal.returns-clause-used
returns-clause-used c = rows.used

pub returns-clause-unused : goal.returns-clause-unused
returns-clause-unused c = rows.unused

pub returns-clause-gift_lost : goal.returns-clause-gift_lost
returns-clause-gift_lost c = rows.gift_lost

pub returns-clause-gift_kept : goal.returns-clause-gift_kept
returns-clause-gift_kept c = rows.gift_kept

pub returns-clause-cut_lost : goal.returns-clause-cut_lost
returns-clause-cut_lost c = rows.cut_lost

pub returns-clause-cut_kept : goal.returns-clause-cut_kept
returns-clause-cut_kept c = rows.cut_kept

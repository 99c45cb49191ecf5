use Rattle.std.proofs.Common.{rules}
use Rattle.central_machine.proofs.totals.FrontTotals.take_in.Goals as goal

pub take_by-requires : goal.take_by-requires
take_by-requires c = search rules

pub take_by-requires-in-Escrow-Granted : goal.take_by-requires-in-Escrow-Granted
take_by-requires-in-Escrow-Granted c = search rules

pub take_by-requires-in-Commit-Committed : goal.take_by-requires-in-Commit-Committed
take_by-requires-in-Commit-Committed c = search rules

pub take_by-requires-in-Read-Between : goal.take_by-requires-in-Read-Between
take_by-requires-in-Read-Between c = search rules

pub take_by-requires-in-Share-Shares : goal.take_by-requires-in-Share-Shares
take_by-requires-in-Share-Shares c = search rules

pub take_by-requires-in-Give-Given : goal.take_by-requires-in-Give-Given
take_by-requires-in-Give-Given c = search rules

pub take_by-requires-in-Accept-Accepted : goal.take_by-requires-in-Accept-Accepted
take_by-requires-in-Accept-Accepted c = search rules

pub returns-in-Begin-Begun-clause-rule : goal.returns-in-Begin-Begun-clause-rule
returns-in-Begin-Begun-clause-rule c = search rules

pub returns-in-Begin-Begun-clause-totals : goal.returns-in-Begin-Begun-clause-totals
returns-in-Begin-Begun-clause-totals c = search rules

pub returns-in-Escrow-Granted-clause-rule : goal.returns-in-Escrow-Granted-clause-rule
returns-in-Escrow-Granted-clause-rule c = search rules

pub returns-in-Escrow-Granted-clause-totals : goal.returns-in-Escrow-Granted-clause-totals
returns-in-Escrow-Granted-clause-totals c = search rules

pub returns-in-Commit-Committed-clause-rule : goal.returns-in-Commit-Committed-clause-rule
returns-in-Commit-Committed-clause-rule c = search rules

pub returns-in-Commit-Committed-clause-totals : goal.returns-in-Commit-Committed-clause-totals
returns-in-Commit-Committed-clause-totals c = search rules

pub returns-in-Read-Between-clause-rule : goal.returns-in-Read-Between-clause-rule
returns-in-Read-Between-clause-rule c = search rules

pub returns-in-Read-Between-clause-totals : goal.returns-in-Read-Between-clause-totals
returns-in-Read-Between-clause-totals c = search rules

pub returns-in-Share-Shares-clause-rule : goal.returns-in-Share-Shares-clause-rule
returns-in-Share-Shares-clause-rule c = search rules

pub returns-in-Share-Shares-clause-totals : goal.returns-in-Share-Shares-clause-totals
returns-in-Share-Shares-clause-totals c = search rules

pub returns-in-Give-Given-clause-rule : goal.returns-in-Give-Given-clause-rule
returns-in-Give-Given-clause-rule c = search rules

pub returns-in-Give-Given-clause-totals : goal.returns-in-Give-Given-clause-totals
returns-in-Give-Given-clause-totals c = search rules

pub returns-in-Accept-Accepted-clause-rule : goal.returns-in-Accept-Accepted-clause-rule
returns-in-Accept-Accepted-clause-rule c = search rules

pub returns-in-Accept-Accepted-clause-totals : goal.returns-in-Accept-Accepted-clause-totals
returns-in-Accept-Accepted-clause-totals c = search rules

use Rattle.std.proofs.Common.{◌≤◌, length, sym, rules}
use Rattle.reaching_steps.proofs.Table.{told_of}
use Rattle.reaching_steps.proofs.trial.Trial.standing_at.Goals as goal

pub returns-clause-value : goal.returns-clause-value
returns-clause-value c =
    let short : length c.trace-trace.result.now ≤ 18446744073709551615 = search rules in
    rw (← c.if-known-field.false)
    (told_of c.self.inside.field.0 c.self.inside.told.items c.trace-trace.result.now (sym c.self.view_is) c.self.invariant
    c.if-not-self.false c.requires.in_schema c.from.ensures c.index.ensures short c.trace-trace.ensures.world)

use Rattle.std.proofs.Common.{rules}
use Rattle.std.proofs.lemmas.Fn.{filter_same}
use Rattle.reaching_steps.proofs.standing.end.Goals as goal

pub returns-clause-ids : goal.returns-clause-ids
returns-clause-ids c = filter_same _ _ _ (λ x b f' k. search rules) _ _ c.retain.ensures.filtered

pub returns-clause-held : goal.returns-clause-held
returns-clause-held c = filter_same _ _ _ (λ x b f' k. search rules) _ _ c.retain-2.ensures.filtered

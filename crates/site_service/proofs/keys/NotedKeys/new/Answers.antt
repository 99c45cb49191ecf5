use Rattle.std.proofs.Common.{ap, ◌∙◌}
use Rattle.site_service.specs.Kept.{LastNotes, last_of}
use Rattle.site_service.proofs.keys.NotedKeys.new.Goals as goal

pub returns-clause-last : goal.returns-clause-last
returns-clause-last c = λ key. ap (λ (l : LastNotes). last_of l key) c.of_table.ensures.last ∙ c.new.ensures.tells key

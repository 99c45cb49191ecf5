use Rattle.line_serving.proofs.LessHeld.{shortens_so}
use Rattle.line_serving.proofs.keeping.shorten_if_due.Goals as goal

pub returns-clause-shortens : goal.returns-clause-shortens
returns-clause-shortens g c =
    shortens_so c.args.due.now.keep c.shorten-looked.result c.args.service.now.served c.shorten-looked.new.self.served c.shorten-looked.ensures.let_go
    c.shorten-looked.ensures.open

use Rattle.std.proofs.Common.{◌∙◌}
use Rattle.site_service.proofs.Notes.{behind_more}
use Rattle.site_service.proofs.keyed.end_draft.Goals as goal

pub returns-then-keeps-clause-behind : goal.returns-then-keeps-clause-behind
returns-then-keeps-clause-behind c = λ notes lines size is is_note behind.
    behind_more notes lines c.keep_draft.new.self.lines c.args.keys.now.last c.keep_draft.new.self.last c.args.key.bytes.now c.args.txn behind is_note
    (c.keep_draft.ensures.lines ∙ is) c.keep_draft.ensures.last

use Rattle.std.proofs.Common.{[], ap, ◌∙◌}
use Rattle.site_service.specs.Kept.{LastNotes, noted}
use Rattle.site_service.proofs.Notes.{behind_more}
use Rattle.site_service.proofs.keyed.note_held.Goals as goal

pub returns-in_ok-draft-in-Some-clause-behind : goal.returns-in_ok-draft-in-Some-clause-behind
returns-in_ok-draft-in-Some-clause-behind c = λ behind.
    behind_more [] c.args.noted.now.lines c.keep_draft.new.self.lines c.args.noted.now.last c.keep_draft.new.self.last c.args.key.bytes.now
    c.in-Some.txn behind c.in_ok-draft-in-Some.ensures.is_note (c.keep_draft.ensures.lines ∙ c.in_ok-draft-in-Some.ensures.line)
    (λ other. c.keep_draft.ensures.last other
    ∙ ap (λ (last : LastNotes). noted last c.args.key.bytes.now c.in-Some.txn other) c.draft.ensures.last)

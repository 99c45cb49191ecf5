use Rattle.std.proofs.Common.{◌∙◌, inl, inr}
use Rattle.std.proofs.lemmas.Result.{on_ok_weaker}
use Rattle.field_bounds.specs.declared.entry.Command.TheVariants.{Commit}
use Rattle.site_service.proofs.Held.{goes_by, goes_same}
use Rattle.site_service.proofs.Told.{commits_with, any_err, spells_as}
use Rattle.site_service.proofs.answering.commit_spelled.Goals as goal

pub add_spelled-requires : goal.add_spelled-requires
add_spelled-requires c = record {
  spelled = spells_as c.schema.result.now c.site-number.result c.args.site.now c.args.commit.spelled.now (Commit c.args.commit.txn)
      (c.schema.ensures.value ∙ c.in_ok-reply.ensures.ok.same.schema) c.site-number.ensures.value c.requires.spelled;
}

pub returns-in_err-reply-clause-left : goal.returns-in_err-reply-clause-left
returns-in_err-reply-clause-left c = any_err _ _ (inl (c.in_err-reply.ensures.err, c.in_err-reply.ensures.same))

pub returns-in_err-reply-clause-grows : goal.returns-in_err-reply-clause-grows
returns-in_err-reply-clause-grows c = λ stands. goes_same c.args.site.now c.commit_and_note.new.site c.in_err-reply.ensures.err stands

pub returns-clause-ok : goal.returns-clause-ok
returns-clause-ok c =
    on_ok_weaker c.add_spelled.result
    (λ added. (
      _,
      commits_with c.schema.result.now c.site-number.result c.args.site.now c.commit_and_note.new.site (c.schema.ensures.value ∙ c.in_ok-reply.ensures.ok.same.schema) c.site-number.ensures.value
          c.args.commit.txn c.in_ok-reply.reply c.in_ok-reply.ensures.ok c.args.keys.now.last c.commit_and_note.new.keys.last c.args.commit.key.bytes.now
          c.in_ok-reply.ensures.noted,
      added,
    )) c.add_spelled.ensures.ok

pub returns-clause-left : goal.returns-clause-left
returns-clause-left c =
    any_err _ _
    (inr (
      _,
      commits_with c.schema.result.now c.site-number.result c.args.site.now c.commit_and_note.new.site (c.schema.ensures.value ∙ c.in_ok-reply.ensures.ok.same.schema) c.site-number.ensures.value
          c.args.commit.txn c.in_ok-reply.reply c.in_ok-reply.ensures.ok c.args.keys.now.last c.commit_and_note.new.keys.last c.args.commit.key.bytes.now
          c.in_ok-reply.ensures.noted,
    ))

pub returns-clause-grows : goal.returns-clause-grows
returns-clause-grows c = λ stands.
    goes_by c.args.site.now c.commit_and_note.new.site (Commit c.args.commit.txn) c.in_ok-reply.reply c.in_ok-reply.ensures.ok stands

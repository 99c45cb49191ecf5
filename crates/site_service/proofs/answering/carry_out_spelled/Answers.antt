use Rattle.std.proofs.Common.{inl, ◌∙◌}
use Rattle.std.proofs.lemmas.Result.{on_ok_weaker}
use Rattle.site_service.proofs.Held.{goes_by, goes_same}
use Rattle.site_service.proofs.Told.{told_entry, left_entry, any_err, spells_as}
use Rattle.site_service.proofs.answering.carry_out_spelled.Goals as goal

pub add_spelled-requires : goal.add_spelled-requires
add_spelled-requires c = record {
  spelled = spells_as c.schema.result.now c.site-number.result c.args.site.now c.args.line.now c.args.command
      (c.schema.ensures.value ∙ c.in_ok-reply.ensures.ok.same.schema) c.site-number.ensures.value c.requires.spelled;
}

pub returns-in_err-reply-clause-grows : goal.returns-in_err-reply-clause-grows
returns-in_err-reply-clause-grows c = λ stands. goes_same c.args.site.now c.apply.new.self c.in_err-reply.ensures.err stands

pub returns-in_err-reply-clause-left : goal.returns-in_err-reply-clause-left
returns-in_err-reply-clause-left c = any_err _ _ (inl c.in_err-reply.ensures.err)

pub returns-clause-ok : goal.returns-clause-ok
returns-clause-ok c =
    on_ok_weaker c.add_spelled.result
    (told_entry c.schema.result.now c.site-number.result c.args.site.now c.apply.new.self (c.schema.ensures.value ∙ c.in_ok-reply.ensures.ok.same.schema) c.site-number.ensures.value c.args.command
    c.in_ok-reply.reply c.in_ok-reply.ensures.ok c.args.out.now.items c.add_spelled.new.out.items) c.add_spelled.ensures.ok

pub returns-clause-left : goal.returns-clause-left
returns-clause-left c =
    any_err _ _
    (left_entry c.schema.result.now c.site-number.result c.args.site.now c.apply.new.self (c.schema.ensures.value ∙ c.in_ok-reply.ensures.ok.same.schema) c.site-number.ensures.value c.args.command
    c.in_ok-reply.reply c.in_ok-reply.ensures.ok)

pub returns-clause-grows : goal.returns-clause-grows
returns-clause-grows c = λ stands.
    goes_by c.args.site.now c.apply.new.self c.args.command c.in_ok-reply.reply c.in_ok-reply.ensures.ok stands

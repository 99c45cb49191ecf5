use Rattle.std.proofs.Common.{◌∙◌}
use Rattle.std.proofs.lemmas.Result.{on_ok_weaker}
use Rattle.site_service.proofs.Held.{goes_by, goes_same}
use Rattle.site_service.proofs.Told.{told_entry}
use Rattle.site_service.proofs.answering.carry_out.Goals as goal

pub returns-in_err-reply-clause-grows : goal.returns-in_err-reply-clause-grows
returns-in_err-reply-clause-grows c = λ stands. goes_same c.args.site.now c.apply.new.self c.in_err-reply.ensures.err stands

pub returns-clause-ok : goal.returns-clause-ok
returns-clause-ok c =
    on_ok_weaker c.add_entry.result
    (told_entry c.schema.result.now c.site-number.result c.args.site.now c.apply.new.self (c.schema.ensures.value ∙ c.in_ok-reply.ensures.ok.same.schema) c.site-number.ensures.value c.args.command
    c.in_ok-reply.reply c.in_ok-reply.ensures.ok c.args.out.now.items c.add_entry.new.out.items) c.add_entry.ensures.ok

pub returns-clause-grows : goal.returns-clause-grows
returns-clause-grows c = λ stands.
    goes_by c.args.site.now c.apply.new.self c.args.command c.in_ok-reply.reply c.in_ok-reply.ensures.ok stands

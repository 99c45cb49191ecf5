use Rattle.std.proofs.Common.{◌++◌, ap, ◌∙◌}
use Rattle.std.proofs.lemmas.Result.{on_ok_weaker}
use Rattle.field_bounds.specs.declared.entry.Entry.{Entry}
use Rattle.field_bounds.specs.Schema.{SchemaValue}
use Rattle.kept_state.specs.declared.luck.Luck.TheVariants.{Fine}
use Rattle.world_steps.specs.declared.step.WorldStep.TheVariants.{Do}
use Rattle.world_steps.specs.View.{WorldValue}
use Rattle.entry_text.specs.Spelling.{entry_text}
use Rattle.escrow_run.specs.Text.{line_text}
use Rattle.escrow_run.proofs.AnswerLemmas.{took_made}
use Rattle.escrow_run.proofs.machine.Machine.take_spelled.Goals as goal

pub returns-clause-ok : goal.returns-clause-ok
returns-clause-ok c =
    let e : Entry = record { site = c.args.site; command = c.args.command; reply = c.in_ok-reply.reply } in
    let same = c.schema.ensures.value ∙ ap (λ (w : WorldValue). w.schema) c.in_ok-reply.ensures.steps in
    on_ok_weaker c.add_answered.result
    (λ added. took_made c.args.self.now.world c.do_fine.new.self (Do c.args.site c.args.command Fine) e c.args.out.now.items
    c.add_answered.new.out.items c.in_ok-reply.ensures.steps c.in_ok-reply.ensures.answers
    (added ∙ ap (λ (s : SchemaValue). c.args.out.now.items ++ line_text (entry_text s e)) same)) c.add_answered.ensures.ok

use Rattle.std.proofs.Common.{sym, ◌∙◌}
use Rattle.std.proofs.lemmas.Option.{none-some}
use Rattle.entry_text.specs.Spelling.{command_text}
use Rattle.escrow_run.proofs.LuckLemmas.{if_none, luck_one, no_command}
use Rattle.escrow_run.proofs.line.command_step.Goals as goal

pub returns-in_err-plain-clause-none : goal.returns-in_err-plain-clause-none
returns-in_err-plain-clause-none c =
    if_none c.from_residual.result _
    (no_command c.args.schema.now c.args.line.now
    (λ site command f g e. none-some (site, command) (c.in_default.ensures.only site command f g e))
    (λ site command n f g small e. c.in_err-plain.ensures.none (command_text c.args.schema.now site command) n small e))

pub returns-in_err-site-clause-none : goal.returns-in_err-site-clause-none
returns-in_err-site-clause-none c =
    let split = c.in_ok-plain.ensures.found in
    if_none c.from_residual-in_err-site.result _
    (no_command c.args.schema.now c.args.line.now
    (λ site command f g e. none-some (site, command) (c.in_default.ensures.only site command f g e))
    (λ site command n f g small e.
    none-some (site, command) (c.in_err-site.ensures.only site command f g
    (luck_one c.in_ok-plain.plain.now (command_text c.args.schema.now site command) c.in_ok-plain.bytes n split.1 small (sym split.0 ∙ e)).0)))

use Rattle.std.proofs.lemmas.Bool.{false≢true}
use Rattle.std.proofs.Common.{◌∙◌, sym}
use Rattle.log_bases.proofs.AllFields.{past_is}
use Rattle.log_bases.proofs.Needed.{past_balances, past_tells}
use Rattle.log_bases.proofs.standing.stand_on.Goals as goal

pub returns-then-not-is_balanced-clause-none : goal.returns-then-not-is_balanced-clause-none
returns-then-not-is_balanced-clause-none c =
    let schema = c.args.schema.now in
    let s = c.args.site.0 in
    let base = c.args.base.now in λ past is.
    let balanced = past_balances schema c.sites-sites.ensures.limits s c.requires.site_in base past is in
    absurd (false≢true (sym c.if-not-is_balanced.true ∙ c.is_balanced.ensures.is.1 balanced))

pub of_summary-requires-clause-tells : goal.of_summary-requires-clause-tells
of_summary-requires-clause-tells c =
    let schema = c.args.schema.now in
    let s = c.args.site.0 in
    let base = c.args.base.now in
    let good = c.sites-sites.ensures.limits in
    let is = past_is schema good s c.requires.site_in base (c.is_balanced.ensures.is.0 c.if-not-is_balanced.false) in
    (_, is.lawful, past_tells schema good s c.requires.site_in base _ is)

pub returns-clause-stands : goal.returns-clause-stands
returns-clause-stands c =
    let schema = c.args.schema.now in
    let s = c.args.site.0 in
    let base = c.args.base.now in
    let good = c.sites-sites.ensures.limits in λ past is.
    c.in_ok-standing.ensures.stands past (past_tells schema good s c.requires.site_in base past is)

pub returns-clause-some : goal.returns-clause-some
returns-clause-some c =
    past_is c.args.schema.now c.sites-sites.ensures.limits c.args.site.0 c.requires.site_in c.args.base.now
    (c.is_balanced.ensures.is.0 c.if-not-is_balanced.false)

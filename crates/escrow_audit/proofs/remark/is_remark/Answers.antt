use Rattle.std.proofs.Common.{sym, ap, ◌∙◌, arith}
use Rattle.std.proofs.lemmas.Option.{none-some, same_Some}
use Rattle.escrow_audit.specs.Remarks.{is_in_schema}
use Rattle.escrow_audit.proofs.remark.is_remark.Goals as goal

pub returns-in-Some : goal.returns-in-Some
returns-in-Some c = (
  λ t. record {
    remark = c.in-Some.remark;
    fits = c.in-Some.ensures.fits;
    named = sym c.is_in_schema.ensures ∙ t;
    text = c.in-Some.ensures.found;
    short = omega (arith, c.if-line-gt-MAX_LINE.false);
  },
  λ is. c.is_in_schema.ensures ∙ ap (is_in_schema c.args.schema.now)
      (same_Some c.in-Some.remark is.remark (c.in-Some.ensures.only is.remark is.fits is.text)) ∙ is.named,
)

pub returns-in-None : goal.returns-in-None
returns-in-None c = (λ t. cc, λ is. absurd (none-some is.remark (c.in-None.ensures.only is.remark is.fits is.text)))

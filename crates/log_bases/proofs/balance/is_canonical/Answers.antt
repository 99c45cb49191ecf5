use Rattle.std.proofs.Common.{◌≡◌, ◌∙◌, ℕ, List, length, ap, sym}
use Rattle.std.specs.List.{list_all}
use Rattle.std.proofs.lemmas.Bool.{false≢true}
use Rattle.kept_records.specs.declared.total.Total.{Total}
use Rattle.kept_records.specs.declared.total.Cut.{Cut}
use Rattle.log_bases.specs.Numbers.{is_due, is_cut_due}
use Rattle.log_bases.proofs.Formed.{formed, form_count, form_gifts, form_accepts, form_cuts}
use Rattle.log_bases.proofs.balance.is_canonical.Goals as goal

pub returns-then-rights-from : goal.returns-then-rights-from
returns-then-rights-from c = record {
  is = (
    (λ no. absurd (false≢true no)),
    λ form.
        let count = form_count c.args.schema.now c.fields.ensures.limits c.args.site.0 c.args.base.now c.requires.in_range form in
        absurd (c.if-rights-from.true
        (ap (λ (l : List (ℕ × ℕ)). length l) c.rights.ensures.all ∙ count ∙ sym (c.from.ensures ∙ c.fields.ensures.value))),
  );
}

pub returns-then-not-are_due : goal.returns-then-not-are_due
returns-then-not-are_due c = record {
  is = (
    (λ no. absurd (false≢true no)),
    λ form.
        sym c.if-not-are_due.true ∙ c.are_due.ensures
        ∙ ap (λ (l : List Total). list_all (is_due c.args.schema.now c.args.site.0) l) c.gifts.ensures.all
        ∙ form_gifts c.args.schema.now c.fields.ensures.limits c.args.site.0 c.args.base.now c.requires.in_range form,
  );
}

pub returns-then-not-are_due-2 : goal.returns-then-not-are_due-2
returns-then-not-are_due-2 c = record {
  is = (
    (λ no. absurd (false≢true no)),
    λ form.
        sym c.if-not-are_due-2.true ∙ c.are_due-2.ensures
        ∙ ap (λ (l : List Total). list_all (is_due c.args.schema.now c.args.site.0) l) c.accepts.ensures.all
        ∙ form_accepts c.args.schema.now c.fields.ensures.limits c.args.site.0 c.args.base.now c.requires.in_range form,
  );
}

pub returns : goal.returns
returns c =
    let schema = c.args.schema.now in
    let s = c.args.site.0 in
    let base = c.args.base.now in
    let fits = c.requires.in_range in
    let good = c.fields.ensures.limits in
    let cuts : c.are_cuts_due.result ≡ list_all (is_cut_due schema) base.tightenings =
    c.are_cuts_due.ensures ∙ ap (λ (l : List Cut). list_all (is_cut_due schema) l) c.tightenings.ensures.all in
    record {
      is = (
        (λ yes.
            formed schema good s base fits
            (ap (λ (l : List (ℕ × ℕ)). length l) (sym c.rights.ensures.all) ∙ c.if-rights-from.false ∙ c.from.ensures
            ∙ c.fields.ensures.value)
            (ap (λ (l : List Total). list_all (is_due schema s) l) (sym c.gifts.ensures.all) ∙ sym c.are_due.ensures
            ∙ c.if-not-are_due.false)
            (ap (λ (l : List Total). list_all (is_due schema s) l) (sym c.accepts.ensures.all) ∙ sym c.are_due-2.ensures
            ∙ c.if-not-are_due-2.false)
            (sym cuts ∙ yes)),
        λ form. cuts ∙ form_cuts schema good s base fits form,
      );
    }

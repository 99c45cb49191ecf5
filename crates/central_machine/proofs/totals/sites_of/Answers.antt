use Rattle.std.proofs.Common.{◌≡◌, ◌∙◌, arith, List, [], ap, subst, inl, inr, length, ◌∷◌, Some}
use Rattle.std.specs.Prelude.{slice_get}
use Rattle.std.proofs.lemmas.List.{length-append}
use Rattle.central_machine.specs.declared.site_totals.SiteTotals.{SiteTotals}
use Rattle.central_machine.proofs.Row.{one_behind}
use Rattle.central_machine.proofs.totals.sites_of.Goals as goal

pub returns-clause-count : goal.returns-clause-count
returns-clause-count c =
    let done : c.loop-site.site ≡ c.args.schema.now.sites = omega arith in
    c.loop-site.invariant.count ∙ done

pub loop-site-preserved : goal.loop-site-preserved
loop-site-preserved c =
    let was = c.loop-site.invariant in
    let longer = c.in_ok-push.ensures.items in
    record {
      count = omega (arith, was.count, ap length longer, length-append c.loop-site.sites.items (c.in_ok-new.field-0 ∷ []));
      each = λ s y at.
          elim (one_behind c.loop-site.sites.items c.in_ok-new.field-0 y s
          (subst (λ (xs : List SiteTotals). slice_get xs s ≡ Some y) longer at)) [
            | inl there ↦ was.each s y there
            | inr last ↦ rw (last.0, was.count, last.1) c.in_ok-new.ensures
          ];
    }

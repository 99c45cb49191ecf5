use Rattle.std.proofs.Common.{◌∙◌, Some, arith}
use Rattle.field_bounds.specs.declared.kind.Kind.{Kind}
use Rattle.field_bounds.specs.declared.kind.Kind.TheVariants.{Lower, Raise}
use Rattle.reaching_steps.specs.FieldHoldings.{is_of}
use Rattle.reaching_steps.proofs.Standings.{notes_commit, held_same}
use Rattle.reaching_steps.proofs.standing.commit.Goals as goal

pub returns : goal.returns
returns c =
    let had = c.args.standing.now in
    let q = is_of (Some c.args.txn) in
    let same = λ (k : Kind). held_same q k c.deref.ensures.value in
    record {
      noted = λ f. notes_commit f had c.end.new.standing c.args.txn c.end.ensures.ids c.end.ensures.held c.end.ensures.gifts
          (λ fits. c.end.ensures.sums.0
          ∙ omega (arith, same Raise, c.saturating_add-standing-2.ensures, c.held_by-lower.ensures.raise (omega (arith, same Raise))))
          (λ fits. c.end.ensures.sums.1
          ∙ omega (arith, same Lower, c.saturating_add-standing.ensures, c.held_by-lower.ensures.lower (omega (arith, same Lower))));
    }

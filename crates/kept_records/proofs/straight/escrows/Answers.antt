use Rattle.std.proofs.Common.{◌≡◌, ◌∷◌, [], ◌++◌, List, sym, ap, subst, ◌∙◌, rules}
use Rattle.std.specs.List.{AllByRecursion}
use Rattle.field_bounds.specs.declared.entry.Escrow.{Escrow}
use Rattle.kept_records.specs.Text.{IsEscrow, escrow_words, words_spaced}
use Rattle.kept_records.proofs.AtFront.{escrow_more, escrows_push}
use Rattle.kept_records.proofs.straight.escrows.Goals as goal

pub loop-escrow-preserved : goal.loop-escrow-preserved
loop-escrow-preserved c =
    let es = c.loop-escrow.held.items in
    let e = c.in-Some.escrow in
    let more : c.push_reserved.new.self.items ≡ es ++ e ∷ [] = c.push_reserved.ensures.items in
    record {
      parts = escrow_more c.args.bytes.now c.loop-escrow.left.now c.in-Some.more.now es e c.loop-escrow.invariant.parts c.in-Some.ensures.spelled
          ∙ ap (λ (l : List Escrow). words_spaced (escrow_words l) ++ c.in-Some.more.now) (sym more);
      ranges = subst (AllByRecursion IsEscrow) (sym more) (escrows_push es e c.loop-escrow.invariant.ranges c.in-Some.ensures.range);
    }

pub clear-requires : goal.clear-requires
clear-requires c κs = search rules

pub loop-escrow-init : goal.loop-escrow-init
loop-escrow-init c = search rules

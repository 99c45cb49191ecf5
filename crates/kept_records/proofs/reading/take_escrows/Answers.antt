use Rattle.std.proofs.Common.{rules, ◌≡◌, ◌∷◌, [], ◌++◌, List, sym, ap, ◌∙◌, Some, ℤ, w64, to_z, of_z}
use mir.Val.{SFits}
use Rattle.std.proofs.lemmas.Int.{to_z-of_z}
use Rattle.field_bounds.specs.declared.entry.Escrow.{Escrow}
use Rattle.kept_records.specs.Reading.{escrows_from}
use Rattle.kept_records.proofs.Pairs.{step, ends_field, ends_word, ends_change, ends_all, with_front, pair}
use Rattle.kept_records.proofs.reading.take_escrows.Goals as goal

pub returns-in_default-number : goal.returns-in_default-number
returns-in_default-number c = ends_field c.loop-first.escrows.items c.loop-first.words c.next.new.self c.in-Some.first.now _
    c.loop-first.invariant c.in-Some.ensures.first (sym c.in_default-number.ensures.value)

pub returns-in_default-next : goal.returns-in_default-next
returns-in_default-next c = ends_word c.loop-first.escrows.items c.loop-first.words c.next.new.self c.in-Some.first.now _
    c.loop-first.invariant c.in-Some.ensures.first c.in_default-next.ensures.first

pub returns-in_default-change : goal.returns-in_default-change
returns-in_default-change c = ends_change c.loop-first.escrows.items c.loop-first.words c.next.new.self c.in-Some.first.now
    c.in-Some-next.second.now c.next-in-Some.new.self c.in-Some-number.field _ c.loop-first.invariant c.in-Some.ensures.first
    c.in-Some-next.ensures.first (sym c.in-Some-number.ensures.value) (sym c.in_default-change.ensures)

pub loop-first-preserved : goal.loop-first-preserved
loop-first-preserved c =
    let z = c.in-Some-change.change in
    let fits : SFits w64 z = search rules in
    let back : to_z w64 (of_z w64 z) ≡ z = to_z-of_z w64 z fits in
    let rest = c.next-in-Some.new.self in
    let field = c.in-Some-number.field in
    ap (λ (l : List Escrow). with_front l (escrows_from rest)) c.in_ok-push.ensures.items
    ∙ ap (λ (y : ℤ). with_front (c.loop-first.escrows.items ++ pair field y ∷ []) (escrows_from rest)) back
    ∙ step c.loop-first.escrows.items c.loop-first.words c.next.new.self c.in-Some.first.now c.in-Some-next.second.now rest field z _
    c.loop-first.invariant c.in-Some.ensures.first c.in-Some-next.ensures.first (sym c.in-Some-number.ensures.value)
    (sym c.in-Some-change.ensures)

pub returns : goal.returns
returns c = ends_all c.loop-first.escrows.items c.loop-first.words _ c.loop-first.invariant c.in_default.ensures.first
    ∙ ap (λ (l : List Escrow). Some l) (sym c.new-read.ensures.all)

pub clear-requires : goal.clear-requires
clear-requires c κs = search rules

pub loop-first-init : goal.loop-first-init
loop-first-init c = search rules

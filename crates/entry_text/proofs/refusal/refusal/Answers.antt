use Rattle.std.proofs.Common.{rules, ℕ, List, Option, sym, subst}
use Rattle.field_bounds.specs.declared.entry.Refusal.{Refusal}
use Rattle.line_words.specs.Reading.{Gives}
use Rattle.entry_text.proofs.RefusalNumbers.{without_number, by_number}
use Rattle.entry_text.proofs.refusal.refusal.Goals as goal

pub returns-in_err-number : goal.returns-in_err-number
returns-in_err-number c =
    let none = without_number c.args.line.now c.in_err-number.ensures.word in
    search (rules, none)

pub returns : goal.returns
returns c =
    subst (λ (o : Option (Refusal × List (List ℕ))). Gives c.numbered.result c.numbered.new.line o)
    (sym (by_number c.args.line.now _ _ c.in_ok-number.ensures.word)) c.numbered.ensures

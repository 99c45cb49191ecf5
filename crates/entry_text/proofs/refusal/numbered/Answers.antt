use Rattle.std.proofs.Common.{ℕ, List, Option, sym, subst, arith}
use Rattle.std.specs.Fmt.{decimal, digits}
use Rattle.field_bounds.specs.declared.entry.Refusal.{Refusal}
use Rattle.line_words.specs.Reading.{Gives}
use Rattle.entry_text.specs.Reading.{read_beside}
use Rattle.entry_text.specs.Replies.{refusal_table}
use Rattle.entry_text.proofs.RefusalNumbers.{unnumbered}
use Rattle.entry_text.proofs.refusal.numbered.Goals as goal

abbrev Reads : Option Refusal → List (List ℕ) → List (List ℕ) → ℕ → Type 0
Reads r left ws n = Gives r left (read_beside refusal_table (decimal n) ws)

pub returns-in-1 : goal.returns-in-1
unfolding digits
returns-in-1 c = subst (Reads c.one.result c.one.new.line c.args.line.now) (sym c.in-1.is) c.one.ensures

pub returns-in-2 : goal.returns-in-2
unfolding digits
returns-in-2 c = subst (Reads c.two.result c.two.new.line c.args.line.now) (sym c.in-2.is) c.two.ensures

pub returns-in-3 : goal.returns-in-3
unfolding digits
returns-in-3 c = subst (Reads c.two-in-3.result c.two-in-3.new.line c.args.line.now) (sym c.in-3.is) c.two-in-3.ensures

pub returns-in-4 : goal.returns-in-4
unfolding digits
returns-in-4 c = subst (Reads c.two-in-4.result c.two-in-4.new.line c.args.line.now) (sym c.in-4.is) c.two-in-4.ensures

pub returns-in-5 : goal.returns-in-5
unfolding digits
returns-in-5 c = subst (Reads c.one-in-5.result c.one-in-5.new.line c.args.line.now) (sym c.in-5.is) c.one-in-5.ensures

pub returns-in-6 : goal.returns-in-6
unfolding digits
returns-in-6 c = subst (Reads c.two-in-6.result c.two-in-6.new.line c.args.line.now) (sym c.in-6.is) c.two-in-6.ensures

pub returns-in-7 : goal.returns-in-7
unfolding digits
returns-in-7 c = subst (Reads c.short.result c.short.new.line c.args.line.now) (sym c.in-7.is) c.short.ensures

pub returns-in-8 : goal.returns-in-8
unfolding digits
returns-in-8 c = subst (Reads c.two-in-8.result c.two-in-8.new.line c.args.line.now) (sym c.in-8.is) c.two-in-8.ensures

pub returns-in-9 : goal.returns-in-9
unfolding digits
returns-in-9 c = subst (Reads c.ledger_full.result c.ledger_full.new.line c.args.line.now) (sym c.in-9.is) c.ledger_full.ensures

pub returns-in-10 : goal.returns-in-10
unfolding digits
returns-in-10 c = subst (Reads c.two-in-10.result c.two-in-10.new.line c.args.line.now) (sym c.in-10.is) c.two-in-10.ensures

pub returns-in-11 : goal.returns-in-11
unfolding digits
returns-in-11 c = subst (Reads c.forged.result c.forged.new.line c.args.line.now) (sym c.in-11.is) c.forged.ensures

pub returns-in-12 : goal.returns-in-12
unfolding digits
returns-in-12 c = subst (Reads c.three.result c.three.new.line c.args.line.now) (sym c.in-12.is) c.three.ensures

pub returns-in-13 : goal.returns-in-13
unfolding digits
returns-in-13 c = subst (Reads c.three-in-13.result c.three-in-13.new.line c.args.line.now) (sym c.in-13.is) c.three-in-13.ensures

pub returns-in-14 : goal.returns-in-14
unfolding digits
returns-in-14 c = subst (Reads c.two-in-14.result c.two-in-14.new.line c.args.line.now) (sym c.in-14.is) c.two-in-14.ensures

pub returns-in-15 : goal.returns-in-15
unfolding digits
returns-in-15 c = subst (Reads c.two-in-15.result c.two-in-15.new.line c.args.line.now) (sym c.in-15.is) c.two-in-15.ensures

pub returns-in_default : goal.returns-in_default
returns-in_default c = unnumbered c.args.number (omega arith) (λ from. omega arith) c.args.line.now

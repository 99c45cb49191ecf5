use Rattle.std.proofs.Common.{◌*◌, ◌<◌, ◌≤◌, ℕ, ap, sym, subst, length, arith}
use Rattle.statement_set.proofs.rows.Rows.made_for.Goals as goal

pub returns-in_err-open-clause-little : goal.returns-in_err-open-clause-little
returns-in_err-open-clause-little c = c.open.ensures.little c.args.in_no_row c.requires.little

pub returns-then-not-is_taken-clause-little : goal.returns-then-not-is_taken-clause-little
returns-then-not-is_taken-clause-little c =
    let few = c.open.ensures.little c.args.in_no_row c.requires.little in
    let as_many = ap (λ rows. length rows.items) c.open.ensures.same in
    record {
      few_slots = subst (λ (slots : ℕ). 16 < slots → slots ≤ 2 * c.args.in_no_row) (sym c.add.ensures.slots) few.few_slots;
      few_rows = omega (arith, c.add.ensures.rows, as_many, c.len.ensures, c.args.self.now.rows.ok.0, c.if-in_no_row-len.false);
    }

pub returns-else-len-in_no_row-clause-little : goal.returns-else-len-in_no_row-clause-little
returns-else-len-in_no_row-clause-little c = c.open.ensures.little c.args.in_no_row c.requires.little

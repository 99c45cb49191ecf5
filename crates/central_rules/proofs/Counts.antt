-- Where a site stands after one more entry, with counts that stop at the greatest number that fits.
use Rattle.std.proofs.Common.{ℕ, ◌+◌, ◌≤◌, Bool, true, false, cond, List, [], ◌∷◌, length, arith}
use Rattle.field_bounds.specs.declared.entry.Entry.{Entry}
use Rattle.field_bounds.specs.declared.entry.Reply.{Reply}
use Rattle.field_bounds.specs.declared.entry.Reply.TheVariants.{Restarted}
use Rattle.field_bounds.specs.Owed.{count_after, count_since}

one_at_most : (b : Bool) (n : ℕ) → cond b 1 0 + n ≤ n + 1
one_at_most true n = omega arith
one_at_most false n = omega arith

count_step : (p : Reply → Bool) (n m : ℕ) (r : Reply) → n ≤ m → count_after p n r ≤ m + 1
count_step p n m (Restarted epoch found) h = omega arith
count_step p n m r h = omega (arith, h, one_at_most (p r) n)

-- no more replies pass than there are
pub count_few : (p : Reply → Bool) (o : List Entry) → count_since p o ≤ length o
count_few p [] = omega arith
count_few p (e ∷ o) = omega (arith, count_step p (count_since p o) (length o) e.reply (count_few p o))

-- What a set has that the statement was put into which an entry accepts.
use Rattle.std.proofs.Common.{◌≡◌, ◌↔◌, ◌⊎◌, ◌∙◌, sym, ap, inl, inr, List, Contains}
use Rattle.field_bounds.specs.declared.entry.Statement.{Statement}
use Rattle.field_bounds.specs.declared.entry.Command.{Command}
use Rattle.field_bounds.specs.declared.entry.Command.TheVariants.{Accept}

pub accepted_put : (old new : List Statement) {command : Command} {put_in : Statement} → command ≡ Accept put_in
    → ((other : Statement) → Contains new other ↔ ((put_in ≡ other) ⊎ Contains old other))
    → (other : Statement) → Contains new other ↔ ((command ≡ Accept other) ⊎ Contains old other)
accepted_put old new {command = command} {put_in = put_in} is put other =
    (λ has. named ((put other).0 has), λ has. (put other).1 (back has))
  where
    named : (put_in ≡ other) ⊎ Contains old other → (command ≡ Accept other) ⊎ Contains old other
    named (inl same) = inl (is ∙ ap (λ (x : Statement). Accept x) same)
    named (inr before) = inr before

    accept_is : Accept put_in ≡ Accept other → put_in ≡ other
    accept_is e = cc

    back : (command ≡ Accept other) ⊎ Contains old other → (put_in ≡ other) ⊎ Contains old other
    back (inl now) = inl (accept_is (sym is ∙ now))
    back (inr before) = inr before

-- The statements that entries issue, as a set (Balegas and others 2015 for statements, this project for the set).
use Rattle.std.specs.Prelude.{◌↔◌, List, Contains}
use Rattle.field_bounds.specs.declared.entry.Statement.{Statement}
use Rattle.field_bounds.specs.declared.entry.Entry.{Entry}
use Rattle.field_bounds.specs.Statements.{IsIssued}

-- The set has the statements that some entry issues, and no other.
abbrev pub HasIssued : List Statement → List Entry → Type 0
HasIssued told t = (statement : Statement) → Contains told statement ↔ IsIssued statement t

-- Statements and the keys by which a set orders them (this project).
use Rattle.std.specs.Prelude.{List, map}
use Rattle.field_bounds.specs.declared.entry.Statement.{Statement}
use Rattle.statement_set.specs.declared.set.StatementKey.{StatementKey}

-- The key of a statement: the same numbers, the total first.
abbrev pub key_of : Statement → StatementKey
key_of told = record { total = told.total; from = told.from; to = told.to; field = told.field; kind = told.kind }

-- The statement of a key.
abbrev pub statement_of_key : StatementKey → Statement
statement_of_key key = record { from = key.from; to = key.to; field = key.field; kind = key.kind; total = key.total }

-- The statements of some keys.
abbrev pub statements_of : List StatementKey → List Statement
statements_of keys = map statement_of_key keys

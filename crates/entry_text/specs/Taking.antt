-- What a reader takes of a line, number by number and word by word (this project).
use Rattle.std.specs.Prelude.{ℕ, ◌^◌, List, ◌∷◌, ◌≢◌, Option, Some, None, if◌then◌else◌, nat_lt}
use Rattle.field_bounds.specs.declared.id.TxnId.{TxnId}
use Rattle.line_words.specs.Reading.{◌>>=◌}

-- The words don't begin with this one.
abbrev pub IsOther : List ℕ → List (List ℕ) → Type 0
IsOther k ws = (rest : List (List ℕ)) → ws ≢ k ∷ rest

-- The number, where it is below a limit.
abbrev pub limited : ℕ → ℕ → Option ℕ
limited limit n = if nat_lt n limit then Some n else None

-- The transaction of an epoch and a number, where it has both.
abbrev pub id_from : ℕ × ℕ → Option TxnId
id_from p = do
  e ← limited (2 ^ 32) p.0
  n ← limited (2 ^ 32) p.1
  Some (record { epoch = e; number = n })

-- What a word spells, and reading words one after another, as functions on bytes (this project).
use Rattle.std.specs.Prelude.{◌≡◌, ℕ, ℤ, pos, negsuc, ◌-◌, ◌^◌, List, [], ◌∷◌, Option, Some, None, nat_lt, ◌==◌, if◌then◌else◌, ◌&&◌, bytes_eq}
use Rattle.std.specs.Str.Parse.{digits_value}
use Rattle.std.specs.Fmt.{decimal}

-- One reading after another, up to the first that gives nothing.
infixl 10 ◌>>=◌
abbrev pub ◌>>=◌ : {A B : Type 0} → Option A → (A → Option B) → Option B
(Some x) >>= f = f x
None >>= f = None

-- The number below a limit whose decimal digits the word is.
unfoldable pub number_of : ℕ → List ℕ → Option ℕ
number_of limit w = if nat_lt (digits_value 10 w) limit && bytes_eq (decimal (digits_value 10 w)) w then Some (digits_value 10 w) else None

-- The i64 below 0 that the digits spell without its sign.
unfoldable pub negative_of : List ℕ → Option ℤ
negative_of digits = do
  n ← number_of (2 ^ 64) digits
  if n == 0 then None else (if nat_lt (2 ^ 63) n then None else Some (negsuc (n - 1)))

-- The i64 from 0 on that the word spells.
unfoldable pub positive_of : List ℕ → Option ℤ
positive_of w = do
  n ← number_of (2 ^ 64) w
  if nat_lt (2 ^ 63 - 1) n then None else Some (pos n)

-- The i64 that the word spells: a number, or a minus (45) and a number other than 0.
unfoldable pub signed_of : List ℕ → Option ℤ
signed_of [] = None
signed_of (c ∷ w) = if c == 45 then negative_of w else positive_of (c ∷ w)

-- The number below a limit that the word spells, by way of a u64.
abbrev pub below : ℕ → List ℕ → Option ℕ
below limit w = do
  n ← number_of (2 ^ 64) w
  if nat_lt n limit then Some n else None

-- What stands beside the word in a table.
abbrev pub beside : {A : Type 0} → List (List ℕ × A) → List ℕ → Option A
beside [] w = None
beside (e ∷ table) w = if bytes_eq w e.0 then Some e.1 else beside table w

-- Something where the word is this one, and nothing where it is another.
unfoldable pub only_of : List ℕ → List ℕ → Option (Unit {0})
only_of k w = if bytes_eq w k then Some tt else None

-- What a reader gives of the first word, and the words after it.
unfoldable pub word_at : {A : Type 0} → (List ℕ → Option A) → List (List ℕ) → Option (A × List (List ℕ))
word_at read [] = None
word_at read (w ∷ ws) = do
  v ← read w
  Some (v, ws)

-- What a call returned, and the words that it left, are what reading gives.
abbrev pub Gives : {A : Type 0} → Option A → List (List ℕ) → Option (A × List (List ℕ)) → Type 0
Gives None left read = read ≡ None
Gives (Some x) left read = read ≡ Some (x, left)

-- The value, where no word is left.
abbrev pub only_value : {A : Type 0} → A × List (List ℕ) → Option A
only_value (v, []) = Some v
only_value (v, w ∷ ws) = None

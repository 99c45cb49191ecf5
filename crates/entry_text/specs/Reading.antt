-- What a word names, as functions on bytes (this project).
use Rattle.std.specs.Prelude.{ℕ, ◌+◌, ◌^◌, List, [], ◌∷◌, length, Option, Some, None, nat_lt, ◌==◌, if◌then◌else◌, take, drop, position, codes, bytes_eq, option_map}
use Rattle.field_bounds.specs.Schema.{SchemaValue}
use Rattle.field_bounds.specs.declared.kind.Kind.{Kind}
use Rattle.field_bounds.specs.declared.kind.Kind.TheVariants.{Lower, Raise}
use Rattle.field_bounds.specs.declared.id.SiteNo.{SiteNo}
use Rattle.field_bounds.specs.declared.id.FieldNo.{FieldNo}
use Rattle.field_bounds.specs.declared.id.TxnId.{TxnId}
use Rattle.line_words.specs.Reading.{◌>>=◌, below, beside, only_of, word_at}

-- The site that the word names.
unfoldable pub site_of : List ℕ → Option SiteNo
site_of w = do
  n ← below (2 ^ 16) w
  Some (record { 0 = n })

-- The transaction that the word names: two numbers with a point (46) between them.
unfoldable pub id_of : List ℕ → Option TxnId
id_of w = do
  at ← position (λ b. b == 46) w
  e ← below (2 ^ 32) (take at w)
  n ← below (2 ^ 32) (drop (at + 1) w)
  Some (record { epoch = e; number = n })

-- The kinds by their words.
abbrev pub kind_table : List (List ℕ × Kind)
kind_table = (codes "lower", Lower) ∷ (codes "raise", Raise) ∷ []

-- The kind that the word names.
unfoldable pub kind_of : List ℕ → Option Kind
kind_of w = beside kind_table w

-- The field of a name.
abbrev pub field_named : SchemaValue → List ℕ → Option FieldNo
field_named schema w = option_map (λ k. record { 0 = k }) (position (λ f. bytes_eq w f.name) schema.fields)

-- The field that the word names: a name, or a sharp (35) and a number that is no field's.
unfoldable pub field_of : SchemaValue → List ℕ → Option FieldNo
field_of schema [] = field_named schema []
field_of schema (c ∷ w) = if c == 35
    then (do
      n ← below (2 ^ 16) w
      if nat_lt n (length schema.fields) then None else Some (record { 0 = n }))
    else field_named schema (c ∷ w)

-- ---- readers of words

-- A reader of a word gives what the word names, or nothing.
abbrev pub WordReader : Type 0 → Type 0
WordReader A = List ℕ → Option A

-- A reader of words gives a value and the words after those that tell it, or nothing.
abbrev pub Reader : Type 0 → Type 0
Reader A = List (List ℕ) → Option (A × List (List ℕ))

-- A value that no word tells.
abbrev pub no_word : {A : Type 0} → A → Reader A
no_word value ws = Some (value, ws)

-- What is made of what a reader gives.
abbrev pub map_at : {A B : Type 0} → Reader A → (A → B) → Reader B
map_at at make ws = do
  a ← at ws
  Some (make a.0, a.1)

-- What is made of what one word names.
abbrev pub one_word : {A B : Type 0} → WordReader A → (A → B) → Reader B
one_word first make ws = map_at (word_at first) make ws

-- The same of two words.
abbrev pub two_words : {A B C : Type 0} → WordReader A → WordReader B → (A → B → C) → Reader C
two_words first second make ws = do
  a ← word_at first ws
  one_word second (make a.0) a.1

-- Of three words.
abbrev pub three_words : {A B C D : Type 0} → WordReader A → WordReader B → WordReader C → (A → B → C → D) → Reader D
three_words first second third make ws = do
  a ← word_at first ws
  two_words second third (make a.0) a.1

-- Of four words.
abbrev pub four_words : {A B C D E : Type 0} → WordReader A → WordReader B → WordReader C → WordReader D → (A → B → C → D → E) → Reader E
four_words first second third fourth make ws = do
  a ← word_at first ws
  three_words second third fourth (make a.0) a.1

-- Of five words.
abbrev pub five_words : {A B C D E F : Type 0} → WordReader A → WordReader B → WordReader C → WordReader D → WordReader E
    → (A → B → C → D → E → F) → Reader F
five_words first second third fourth fifth make ws = do
  a ← word_at first ws
  four_words second third fourth fifth (make a.0) a.1

-- The value that a phrase tells: these words, and no others.
abbrev pub phrase : {A : Type 0} → List (List ℕ) → A → Reader A
phrase [] value ws = Some (value, ws)
phrase (k ∷ ks) value ws = do
  word ← word_at (only_of k) ws
  phrase ks value word.1

-- ---- tables of readers, each beside the word before what it reads

-- What the reader beside the word gives of the words after it.
abbrev pub read_beside : {A : Type 0} → List (List ℕ × Reader A) → List ℕ → Reader A
read_beside [] w ws = None
read_beside (e ∷ table) w ws = if bytes_eq w e.0 then e.1 ws else read_beside table w ws

-- What a table gives of words of which the first is one of the table's.
unfoldable pub table_at : {A : Type 0} → List (List ℕ × Reader A) → Reader A
table_at table [] = None
table_at table (w ∷ ws) = read_beside table w ws

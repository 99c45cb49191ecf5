-- Keys of callers, the lines that note them, and texts of such lines and records (this project).
use Rattle.std.specs.Prelude.{◌≡◌, ◌≢◌, ◌<◌, ◌≤◌, ◌^◌, ◌⊎◌, ◌==◌, ◌&&◌, ◌||◌, nat_le, ℕ, Bool, false, List, [], ◌∷◌, ◌++◌, length, take, fold, Option, None, Some, if◌then◌else◌, bytes_eq, codes}
use Rattle.std.specs.List.{AllPass, AllByRecursion, flat_map, list_any}
use Rattle.std.specs.Fmt.{decimal}
use Rattle.hex.specs.Hex.{encode_upper}
use Rattle.field_bounds.specs.declared.id.TxnId.{TxnId}

-- ---- keys, and the notes of their transactions

-- One of the bytes `A-Z`, `a-z`, `0-9`, `.`, `_` and `-`.
unfoldable pub is_key_byte : ℕ → Bool
is_key_byte b =
    (nat_le 65 b && nat_le b 90) || (nat_le 97 b && nat_le b 122) || (nat_le 48 b && nat_le b 57) || (b == 46) || (b == 95) || (b == 45)

-- The bytes are a key: 1 to 64 of those bytes.
pub record IsKey (key : List ℕ) : Type 0 where
  pub some : 1 ≤ length key
  pub few : length key ≤ 64
  pub letters : AllPass is_key_byte key

-- A key, and a transaction that was committed with it.
pub record KeyNote : Type 0 where
  pub key : List ℕ
  pub txn : TxnId

-- The note of this key and this transaction.
abbrev pub note_of : List ℕ → TxnId → KeyNote
note_of key txn = record { key = key; txn = txn }

-- Its key is a key, and the numbers of its transaction are numbers of 32 bits.
pub record IsNote (n : KeyNote) : Type 0 where
  pub key : IsKey n.key
  pub epoch : n.txn.epoch < 2 ^ 32
  pub number : n.txn.number < 2 ^ 32

-- The line of a note: `K`, the epoch and the number of its transaction, and its key as hexadecimal digits of upper case, one space
-- (32) between them, and a line feed (10).
abbrev pub note_line : KeyNote → List ℕ
note_line n = codes "K " ++ decimal n.txn.epoch ++ 32 ∷ decimal n.txn.number ++ 32 ∷ encode_upper n.key ++ 10 ∷ []

-- One of the bytes `A-Z`, `0-9`, space and line feed, with which the line of a note is spelled.
unfoldable pub is_note_byte : ℕ → Bool
is_note_byte b = (nat_le 65 b && nat_le b 90) || (nat_le 48 b && nat_le b 57) || (b == 32) || (b == 10)

-- The transaction of the last note with this key.
abbrev pub last_txn : List ℕ → List KeyNote → Option TxnId
last_txn key notes = fold (λ found n. if bytes_eq n.key key then Some n.txn else found) None notes

-- ---- texts of notes and records

-- No line ends in the bytes: they have no line feed (10).
abbrev pub HasNoLf : List ℕ → Type 0
HasNoLf bytes = list_any (λ b. b == 10) bytes ≡ false

-- A line of a text: that of a note, or another one, of which these are the bytes before its line feed.
pub data KeyedLine : Type 0 where
  noted : KeyNote → KeyedLine
  other : List ℕ → KeyedLine

-- The line with its line feed.
abbrev pub line_text : KeyedLine → List ℕ
line_text (noted n) = note_line n
line_text (other bytes) = bytes ++ 10 ∷ []

-- The bytes are a line without its line feed, and with it not the line of a note.
pub record IsOther (bytes : List ℕ) : Type 0 where
  pub one_line : HasNoLf bytes
  pub none : (n : KeyNote) → IsNote n → note_line n ≢ bytes ++ 10 ∷ []

-- The line is told as what it is.
abbrev pub IsLine : KeyedLine → Type 0
IsLine (noted n) = IsNote n
IsLine (other bytes) = IsOther bytes

-- The note of a line, where it is a note's.
abbrev pub notes_in : KeyedLine → List KeyNote
notes_in (noted n) = n ∷ []
notes_in (other bytes) = []

-- The line itself, where it isn't a note's.
abbrev pub records_in : KeyedLine → List ℕ
records_in (noted n) = []
records_in (other bytes) = bytes ++ 10 ∷ []

-- The text is lines, and a rest in which no line ends. The notes are those of its lines, in order; the records are its other lines,
-- one behind another in order, and the rest.
pub record IsKeyed (text : List ℕ) (notes : List KeyNote) (records : List ℕ) : Type 0 where
  pub lines : List KeyedLine
  pub rest : List ℕ
  pub each : AllByRecursion IsLine lines
  pub no_lf : HasNoLf rest
  pub text_is : text ≡ flat_map line_text lines ++ rest
  pub notes_are : notes ≡ flat_map notes_in lines
  pub records_are : records ≡ flat_map records_in lines ++ rest

-- The bytes end in a line feed.
pub record EndsInLineFeed (bytes : List ℕ) : Type 0 where
  pub before : List ℕ
  pub ends : bytes ≡ before ++ 10 ∷ []

-- The bytes are whole lines, or nothing.
abbrev pub AreLines : List ℕ → Type 0
AreLines bytes = (bytes ≡ []) ⊎ EndsInLineFeed bytes

-- A front of a text of these notes and records: it is keyed, with a front of the notes, and a front of the records of whole lines
-- alone, behind which stands what the front has of a line that doesn't end in it.
pub record LeavesFront (notes : List KeyNote) (records front : List ℕ) : Type 0 where
  pub count : ℕ
  pub bytes : ℕ
  pub torn : List ℕ
  pub whole : AreLines (take bytes records)
  pub no_lf : HasNoLf torn
  pub keyed : IsKeyed front (take count notes) (take bytes records ++ torn)

-- The records without what stands behind their last line feed, as those of a front of the text, which has all of the notes.
pub record CutsRest (text : List ℕ) (notes : List KeyNote) (before rest : List ℕ) : Type 0 where
  pub front : List ℕ
  pub text_is : text ≡ front ++ rest
  pub whole : AreLines front
  pub keyed : IsKeyed front notes before

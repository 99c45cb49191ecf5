-- What a line of a site's trace is (this project).
use Rattle.std.specs.Prelude.{◌≡◌, ◌≢◌, ◌⊎◌, ◌<◌, ◌^◌, ℕ, List, [], ◌∷◌, ◌++◌, codes}
use Rattle.std.specs.Fmt.{decimal}
use Rattle.field_bounds.specs.Schema.{SchemaValue}
use Rattle.field_bounds.specs.declared.id.TxnId.{TxnId}
use Rattle.field_bounds.specs.declared.entry.Entry.{Entry}
use Rattle.caller_keys.specs.Keys.{IsKey}
use Rattle.entry_text.specs.Spelling.{id_text, entry_text}
use Rattle.entry_text.specs.Ranges.{IdFits, EntryFits}

-- The line is the text of this entry.
pub record IsEntry (schema : SchemaValue) (line : List ℕ) (entry : Entry) : Type 0 where
  pub fits : EntryFits entry
  pub text : line ≡ entry_text schema entry

-- It is the text of no entry.
abbrev pub IsNoEntry : SchemaValue → List ℕ → Type 0
IsNoEntry schema line = (entry : Entry) → EntryFits entry → line ≢ entry_text schema entry

-- It tells, in these words, whether the commit of a transaction is in the log, or that it can't be told: they stand behind the
-- question for it.
pub record AnswersKept (line words : List ℕ) : Type 0 where
  pub txn : TxnId
  pub fits : IdFits txn
  pub text : line ≡ codes "kept " ++ (id_text txn ++ words)

-- It tells that a line asked nothing: the number of that line, a u64, a space (32) and, in whatever words, why.
pub record AnswersBad (line : List ℕ) : Type 0 where
  pub number : ℕ
  pub why : List ℕ
  pub fits : number < 2 ^ 64
  pub text : line ≡ codes "bad line " ++ (decimal number ++ 32 ∷ why)

-- The word is a transaction.
pub record IsTxn (word : List ℕ) : Type 0 where
  pub txn : TxnId
  pub fits : IdFits txn
  pub text : word ≡ id_text txn

-- It is a transaction, `no`, or `forgotten`.
abbrev pub IsTold : List ℕ → Type 0
IsTold word = (word ≡ codes "no") ⊎ ((word ≡ codes "forgotten") ⊎ IsTxn word)

-- Behind a key stands nothing; or since when it is asked for, a position, which is spelled as a transaction.
abbrev pub IsSince : List ℕ → Type 0
IsSince since = (since ≡ []) ⊎ ((position : List ℕ) × IsTxn position × (since ≡ codes " since " ++ position))

-- It tells of a key the transaction that is kept with it, or that there is none, or that it can't be told any more.
pub record AnswersKey (line : List ℕ) : Type 0 where
  pub key : List ℕ
  pub since : List ℕ
  pub told : List ℕ
  pub is_key : IsKey key
  pub is_since : IsSince since
  pub is_told : IsTold told
  pub text : line ≡ codes "kept key " ++ (key ++ (since ++ (codes " -> " ++ told)))

-- A remark: an answer of a served site that is no entry. It is to a question for a commit or for a key, or to a line that asked
-- nothing.
abbrev pub IsKeptAnswer : List ℕ → Type 0
IsKeptAnswer line =
    AnswersKept line (codes " -> yes") ⊎ (AnswersKept line (codes " -> no") ⊎ AnswersKept line (codes " -> forgotten"))

abbrev pub IsRemark : List ℕ → Type 0
IsRemark line = IsKeptAnswer line ⊎ (AnswersKey line ⊎ AnswersBad line)

-- The line is neither.
pub record IsOtherLine (schema : SchemaValue) (line : List ℕ) : Type 0 where
  pub no_entry : IsNoEntry schema line
  pub no_remark : IsRemark line → ⊥

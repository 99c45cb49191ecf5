-- What the reading of a trace does at one line (this project). No public clause cites this module.
use Rattle.std.specs.Prelude.{◌≡◌, ◌⊎◌, ◌<◌, ◌^◌, ℕ, List, [], ◌∷◌, ◌++◌, codes}
use Rattle.std.specs.Fmt.{decimal}
use Rattle.field_bounds.specs.Schema.{SchemaValue}
use Rattle.field_bounds.specs.declared.entry.Entry.{Entry}
use Rattle.caller_keys.specs.Keys.{IsKey}
use Rattle.site_trace.specs.declared.fault.TraceFault.{TraceFault}
use Rattle.site_trace.specs.declared.fault.TraceFault.TheVariants.{Line, NoMemory}
use Rattle.site_trace.specs.declared.line.TraceLine.{TraceLine}
use Rattle.site_trace.specs.declared.line.TraceLine.TheVariants as lines
use Rattle.site_trace.specs.declared.reading.TracedEntry.{TracedEntry}
use Rattle.site_trace.specs.Lines.{IsEntry, IsNoEntry, IsTold, IsTxn, IsRemark, IsOtherLine}

-- What the line is.
abbrev pub IsLineRead : SchemaValue → List ℕ → TraceLine → Type 0
IsLineRead schema line (lines.Entry entry) = IsEntry schema line entry
IsLineRead schema line lines.Remark = IsNoEntry schema line × IsRemark line
IsLineRead schema line lines.Bad = IsOtherLine schema line

-- A line that begins behind so many bytes was read: its entry stands behind the others, or it is a remark.
abbrev pub Adds : SchemaValue → List ℕ → ℕ → List TracedEntry → List TracedEntry → Type 0
Adds schema line start old new =
    (IsNoEntry schema line × (IsRemark line × (new ≡ old)))
    ⊎ ((entry : Entry) × (IsEntry schema line entry × (new ≡ old ++ record { entry = entry; start = start } ∷ [])))

-- Why the line of this number wasn't read.
abbrev pub TellsOtherLine : SchemaValue → List ℕ → ℕ → TraceFault → Type 0
TellsOtherLine schema line number (Line told) = (told ≡ number) × IsOtherLine schema line
TellsOtherLine schema line number NoMemory = Unit {0}

-- The word is a number, a u64.
pub record IsNumber (word : List ℕ) : Type 0 where
  pub number : ℕ
  pub fits : number < 2 ^ 64
  pub text : word ≡ decimal number

-- A number, a u64, and a space (32) stand at the front of the bytes.
pub record StartsWithNumber (bytes : List ℕ) : Type 0 where
  pub number : ℕ
  pub rest : List ℕ
  pub fits : number < 2 ^ 64
  pub text : bytes ≡ decimal number ++ 32 ∷ rest

-- What is told of a key stands behind an arrow.
pub record TellsBehind (bytes : List ℕ) : Type 0 where
  pub told : List ℕ
  pub is_told : IsTold told
  pub text : bytes ≡ codes "-> " ++ told

-- A word of this kind, and behind a space (32) bytes of that kind.
pub record StandsInFront (P Q : List ℕ → Type 0) (bytes : List ℕ) : Type 0 where
  pub word : List ℕ
  pub behind : List ℕ
  pub is : P word
  pub tells : Q behind
  pub text : bytes ≡ word ++ 32 ∷ behind

-- A position, and what is told since then.
abbrev pub TellsPosition : List ℕ → Type 0
TellsPosition bytes = StandsInFront IsTxn TellsBehind bytes

-- So behind the word `since`.
pub record TellsSince (bytes : List ℕ) : Type 0 where
  pub rest : List ℕ
  pub tells : TellsPosition rest
  pub text : bytes ≡ codes "since " ++ rest

-- What is told of a key, maybe since a position.
abbrev pub TellsAnswer : List ℕ → Type 0
TellsAnswer bytes = TellsBehind bytes ⊎ TellsSince bytes

-- A key, and what is told of it.
abbrev pub TellsKey : List ℕ → Type 0
TellsKey bytes = StandsInFront IsKey TellsAnswer bytes

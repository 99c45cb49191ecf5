-- Whose folder it is, and the text that tells it (this project).
use Rattle.std.specs.Prelude.{◌≡◌, ◌≢◌, ◌<◌, ◌≤◌, ◌==◌, ◌&&◌, ◌||◌, nat_le, ℕ, Bool, List, [], ◌∷◌, ◌++◌, length, Option, Some, None, IfSome, All, codes, Ok}
use Rattle.std.specs.List.{AllPass}
use Rattle.std.specs.Fmt.{decimal}
use Rattle.hex.specs.Hex.{encode_lower}
use Rattle.sha2.specs.Sha256.{sha256}
use Rattle.sealed_text.specs.Seals.{sealed_batch}
use Rattle.field_bounds.specs.Schema.{SchemaValue}
use Rattle.field_bounds.specs.Header.{schema_of}
use Rattle.field_bounds.specs.declared.id.SiteNo.{SiteNo}

-- The number of a site, the name that its world has of its own, the header line of the world, and the schema that the line
-- tells. None: the world has no name of its own, and its texts are of version 1.
pub record IdentityValue : Type 0 where
  pub number : SiteNo
  pub name : Option (List ℕ)
  pub header : List ℕ
  pub schema : SchemaValue

-- The bytes are a line: no line feed (10) is among them.
abbrev pub IsOneLine : List ℕ → Type 0
IsOneLine bytes = All (λ b. b ≢ 10) bytes

-- One of the bytes `a-z`, `A-Z`, `0-9`, `.`, `_` and `-`.
unfoldable pub is_name_byte : ℕ → Bool
is_name_byte b =
    (nat_le 97 b && nat_le b 122) || (nat_le 65 b && nat_le b 90) || (nat_le 48 b && nat_le b 57) || (b == 46) || (b == 95) || (b == 45)

-- A world can have this name of its own: it is 1 to 64 of those bytes.
pub record IsWorldName (name : List ℕ) : Type 0 where
  pub some : 1 ≤ length name
  pub few : length name ≤ 64
  pub letters : AllPass is_name_byte name

-- If there is a name, then a world can have it.
abbrev pub IsNamed : Option (List ℕ) → Type 0
IsNamed name = IfSome name IsWorldName

-- If there is a name, then a world can have it; the header is one line, it tells the schema, and the number is one of its sites.
pub record IsIdentity (v : IdentityValue) : Type 0 where
  pub named : IsNamed v.name
  pub line : IsOneLine v.header
  pub schema : schema_of v.header ≡ Ok v.schema
  pub number : v.number.0 < v.schema.sites

-- A line, its line feed (10), and the bytes behind it.
abbrev pub line_then : List ℕ → List ℕ → List ℕ
line_then line rest = line ++ 10 ∷ rest

-- The text of a world: its header, behind a line for its own name where it has one.
abbrev pub world_text : Option (List ℕ) → List ℕ → List ℕ
world_text None header = header
world_text (Some name) header = line_then name header

-- The name of a world, of its own name and its header: the SHA-256 of its text, in hexadecimal digits of lower case.
abbrev pub world_digest : Option (List ℕ) → List ℕ → List ℕ
world_digest name header = encode_lower (sha256 (world_text name header))

-- The name of the world of a site.
abbrev pub world_name : IdentityValue → List ℕ
world_name v = world_digest v.name v.header

-- The first line: the name of the format, and its version.
abbrev pub version_line : Option (List ℕ) → List ℕ
version_line None = codes "escrow site 1"
version_line (Some name) = codes "escrow site 2"

-- A line for the own name of a world that has one, and the bytes behind it.
abbrev pub name_then : Option (List ℕ) → List ℕ → List ℕ
name_then None rest = rest
name_then (Some name) rest = line_then (codes "name " ++ name) rest

-- The same line as it stands behind a line of which the line feed is still to come.
abbrev pub name_behind : Option (List ℕ) → List ℕ
name_behind None = []
name_behind (Some name) = 10 ∷ codes "name " ++ name

-- The last lines: one for the name of a world, and a header.
abbrev pub last_text : List ℕ → List ℕ → List ℕ
last_text world header = line_then (codes "world " ++ world) (line_then header [])

-- What stands behind the first line: a line for a number, one for the own name of a world that has one, one for the name of
-- the world, and a header.
abbrev pub told_text : Option (List ℕ) → ℕ → List ℕ → List ℕ → List ℕ
told_text name number world header = line_then (codes "number " ++ decimal number) (name_then name (last_text world header))

-- The text of an identity: the version, the number, the own name where there is one, the name of the world, and the header, each
-- a line.
abbrev pub identity_text : IdentityValue → List ℕ
identity_text v = line_then (version_line v.name) (told_text v.name v.number.0 (world_name v) v.header)

-- The name with which a file of a site begins: three lines, of this version of its format, of the number of its site, and
-- of the name of its world.
abbrev pub file_name : List ℕ → IdentityValue → List ℕ
file_name version v =
    line_then version (line_then (codes "number " ++ decimal v.number.0) (line_then (codes "world " ++ world_name v) []))

-- The name of a log of version 1.
abbrev pub log_name : IdentityValue → List ℕ
log_name v = file_name (codes "escrow log 1") v

-- The first four lines of a log of version 2. The last of them tells how many bytes and how many records were let go of in front of
-- what stands behind the name: none.
abbrev pub sealed_head : IdentityValue → List ℕ
sealed_head v = file_name (codes "escrow log 2") v ++ line_then (codes "head 0 0") []

-- The name of a log of version 2: those lines, and a fifth that tells their sum.
abbrev pub sealed_log_name : IdentityValue → List ℕ
sealed_log_name v = sealed_batch (sealed_head v)

-- The name of a trace.
abbrev pub trace_name : IdentityValue → List ℕ
trace_name v = file_name (codes "escrow trace 1") v

-- Two sites have one name for their logs of a version, and one for their traces: they are one site of worlds that have one name.
pub record HaveOneName (v w : IdentityValue) : Type 0 where
  pub number : v.number ≡ w.number
  pub world : world_name v ≡ world_name w

-- Two worlds are one: they have the same name of their own, or both none, and the same header.
pub record AreOneWorld (v w : IdentityValue) : Type 0 where
  pub name : v.name ≡ w.name
  pub header : v.header ≡ w.header

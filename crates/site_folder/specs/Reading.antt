-- What a text tells that is no identity's (this project).
use Rattle.std.specs.Prelude.{◌≡◌, ◌≢◌, ◌≤◌, ◌<◌, ◌^◌, ◌⊎◌, ℕ, List, Option, IfSome, Ok, Err, codes}
use Rattle.field_bounds.specs.Schema.{SchemaValue}
use Rattle.field_bounds.specs.Header.{schema_of}
use Rattle.field_bounds.specs.declared.fault.SchemaFault.{SchemaFault}
use Rattle.field_bounds.specs.declared.fault.SchemaFault.TheVariants as schema
use Rattle.site_folder.specs.declared.fault.IdentityFault.{IdentityFault}
use Rattle.site_folder.specs.declared.fault.IdentityFault.TheVariants.{Version, NoIdentity, World, Name, Lines, Header, Number, NoMemory}
use Rattle.site_folder.specs.Identity.{IdentityValue, IsOneLine, IsNamed, world_digest, version_line, line_then, last_text, told_text}

-- The fault of a header as one of an identity: want of memory is the same for both.
abbrev pub fault_of : SchemaFault → IdentityFault
fault_of schema.NoMemory = NoMemory
fault_of schema.NotJson = Header schema.NotJson
fault_of schema.Shape = Header schema.Shape
fault_of schema.SiteCount = Header schema.SiteCount
fault_of schema.FieldCount = Header schema.FieldCount
fault_of schema.Name = Header schema.Name
fault_of schema.NameUsed = Header schema.NameUsed
fault_of schema.Bounds = Header schema.Bounds
fault_of schema.TooLong = Header schema.TooLong

-- A name, a number and a header make this identity. None: a world of version 1, which has no name.
pub record Makes (name : Option (List ℕ)) (number : ℕ) (header : List ℕ) (v : IdentityValue) : Type 0 where
  pub same_name : v.name ≡ name
  pub same_number : v.number.0 ≡ number
  pub same_header : v.header ≡ header

-- The header tells a schema, of which no site has the number.
pub record HasNoSite (number : ℕ) (header : List ℕ) : Type 0 where
  pub schema : SchemaValue
  pub tells : schema_of header ≡ Ok schema
  pub beyond : schema.sites ≤ number

-- Why a name, a number and a header make no identity. Of want of memory nothing can be said.
abbrev pub MakesNone : Option (List ℕ) → ℕ → List ℕ → IdentityFault → Type 0
MakesNone name number header Name = IsNamed name → ⊥
MakesNone name number header Lines = IsNamed name × (IsOneLine header → ⊥)
MakesNone name number header (Header fault) = IsNamed name × IsOneLine header × (schema_of header ≡ Err fault)
MakesNone name number header Number = IsNamed name × IsOneLine header × HasNoSite number header
MakesNone name number header NoMemory = Unit {0}
MakesNone name number header Version = ⊥
MakesNone name number header NoIdentity = ⊥
MakesNone name number header World = ⊥

-- The bytes are the last two lines: the name of a world and a header, both one line.
pub record AreLast (bytes world header : List ℕ) : Type 0 where
  pub text : bytes ≡ last_text world header
  pub world_line : IsOneLine world
  pub header_line : IsOneLine header

-- The bytes are these lines behind that of the version: a number of 64 bits, the own name of a world that has one, the name
-- of the world and a header, all one line.
pub record Tells (bytes : List ℕ) (name : Option (List ℕ)) (number : ℕ) (world header : List ℕ) : Type 0 where
  pub text : bytes ≡ told_text name number world header
  pub fits : number < 2 ^ 64
  pub name_line : IfSome name IsOneLine
  pub world_line : IsOneLine world
  pub header_line : IsOneLine header

-- The first line of the text is that of the version, and these lines stand behind it.
pub record TellsLines (text : List ℕ) (name : Option (List ℕ)) (number : ℕ) (world header : List ℕ) : Type 0 where
  pub rest : List ℕ
  pub version : text ≡ line_then (version_line name) rest
  pub lines : Tells rest name number world header

-- The line is that of one of the two versions.
abbrev pub IsVersion : List ℕ → Type 0
IsVersion line = (line ≡ codes "escrow site 1") ⊎ (line ≡ codes "escrow site 2")

-- The first line is another one, or there is no line.
abbrev pub HasOtherVersion : List ℕ → Type 0
HasOtherVersion text = (line rest : List ℕ) → IsVersion line → text ≢ line_then line rest

-- The first line is that of a version, and what stands behind it isn't the other lines of this version.
pub record HasOtherLines (text : List ℕ) : Type 0 where
  pub line : List ℕ
  pub rest : List ℕ
  pub version : IsVersion line
  pub first : text ≡ line_then line rest
  pub none : (name : Option (List ℕ)) (number : ℕ) (world header : List ℕ) → TellsLines text name number world header → ⊥

-- The name of the world isn't that of its own name and its header.
pub record HasOtherWorld (text : List ℕ) : Type 0 where
  pub name : Option (List ℕ)
  pub number : ℕ
  pub world : List ℕ
  pub header : List ℕ
  pub lines : TellsLines text name number world header
  pub other : world ≢ world_digest name header

-- The lines and the world's name are right, and the own name, the number and the header make no identity, for this fault.
pub record TellsNone (text : List ℕ) (fault : IdentityFault) : Type 0 where
  pub name : Option (List ℕ)
  pub number : ℕ
  pub header : List ℕ
  pub lines : TellsLines text name number (world_digest name header) header
  pub none : MakesNone name number header fault

-- Why a text is no identity's. Of want of memory nothing can be said.
abbrev pub IsRefused : List ℕ → IdentityFault → Type 0
IsRefused text Version = HasOtherVersion text
IsRefused text NoIdentity = HasOtherLines text
IsRefused text World = HasOtherWorld text
IsRefused text Name = TellsNone text Name
IsRefused text (Header fault) = TellsNone text (Header fault)
IsRefused text Number = TellsNone text Number
IsRefused text Lines = ⊥
IsRefused text NoMemory = Unit {0}

-- Worked rows: what sites were asked and the replies that they owed, in the order in which they came (this project).
use Rattle.std.specs.Prelude.{ℕ, zero, suc, ℤ, pos, neg_ℤ, List, [], ◌∷◌, ◌++◌, reverse, replicate, codes}
use Rattle.field_bounds.specs.declared.id.TxnId.{TxnId}
use Rattle.field_bounds.specs.declared.id.FieldNo.{FieldNo}
use Rattle.field_bounds.specs.declared.entry.Command.{Command}
use Rattle.field_bounds.specs.declared.entry.Command.TheVariants.{Begin, Escrow, Commit, Abort, Read, Share}
use Rattle.field_bounds.specs.declared.entry.Reply.{Reply}
use Rattle.field_bounds.specs.declared.entry.Reply.TheVariants.{Begun, Granted, Committed, Aborted, Between, Shares, Refused}
use Rattle.field_bounds.specs.declared.entry.Refusal.TheVariants.{NoField, NoTransaction, Zero, TooLarge, Short, TooManyOpen, TooManyEscrows}
use Rattle.field_bounds.specs.declared.entry.Entry.{Entry}
use Rattle.field_bounds.specs.Schema.{SchemaValue}
use Rattle.field_bounds.specs.Effects.{fresh}
use Rattle.field_bounds.specs.Owed.{place, Fits, IsRun}

-- ---- schemas

-- A schema of so many sites and one field, named stock.
abbrev pub divided_among : ℕ → ℤ → ℤ → ℤ → SchemaValue
divided_among sites floor ceiling value =
    record { sites = sites; fields = record { name = codes "stock"; floor = floor; ceiling = ceiling; value = value } ∷ [] }

-- A schema of one site, which has all rights.
abbrev pub alone : ℤ → ℤ → ℤ → SchemaValue
alone floor ceiling value = divided_among 1 floor ceiling value

-- From 0 to 100, at 40.
abbrev pub shelf : SchemaValue
shelf = alone (pos 0) (pos 100) (pos 40)

-- From 7 to 7: it has no rights.
abbrev pub fixed : SchemaValue
fixed = alone (pos 7) (pos 7) (pos 7)

-- The widest field, at its ceiling.
abbrev pub widest : SchemaValue
widest = alone (neg_ℤ (pos 1_000_000_000_000_000)) (pos 1_000_000_000_000_000) (pos 1_000_000_000_000_000)

-- Two sites, and a field from 0 to 100 at 40: each site has 20 rights to lower it and 30 to raise it.
abbrev pub halved_shelf : SchemaValue
halved_shelf = divided_among 2 (pos 0) (pos 100) (pos 40)

-- The same at 41, where one right of each kind is left over.
abbrev pub uneven : SchemaValue
uneven = divided_among 2 (pos 0) (pos 100) (pos 41)

-- One site and two fields, each from 0 to 10, at 5.
abbrev pub twins : SchemaValue
twins =
    record {
      sites = 1;
      fields =
          record { name = codes "a"; floor = pos 0; ceiling = pos 10; value = pos 5 }
          ∷ record { name = codes "b"; floor = pos 0; ceiling = pos 10; value = pos 5 }
          ∷ [];
    }

-- ---- how a row is written

-- The first field of a schema.
abbrev pub stock : FieldNo
stock = record { 0 = 0 }

-- A field that isn't in the schemas of one field.
abbrev pub unknown : FieldNo
unknown = record { 0 = 1 }

-- The second field of `twins`.
abbrev pub second : FieldNo
second = record { 0 = 1 }

-- The transaction of a number, in the first epoch.
abbrev pub txn : ℕ → TxnId
txn n = record { epoch = 0; number = n }

-- An escrow that lowers the field.
abbrev pub lower_by : ℕ → ℕ → Command
lower_by n change = Escrow (txn n) stock (neg_ℤ (pos change))

-- An escrow that raises the field.
abbrev pub raise_by : ℕ → ℕ → Command
raise_by n change = Escrow (txn n) stock (pos change)

-- An entry of a site.
abbrev pub row_entry_at : ℕ → Command → Reply → Entry
row_entry_at s command reply = record { site = record { 0 = s }; command = command; reply = reply }

-- An entry of site 0.
abbrev pub row_entry : Command → Reply → Entry
row_entry command reply = row_entry_at 0 command reply

-- The field was read to be exactly this.
abbrev pub read_as : ℤ → Entry
read_as n = row_entry (Read stock) (Between n n)

-- Each reply of the row was owed, at site 0 on its fresh base.
abbrev pub IsOwed : SchemaValue → List Entry → Type 0
IsOwed schema row = IsRun schema 0 (fresh schema 0) (reverse row)

-- After this row the reply is not owed.
abbrev pub IsWrong : SchemaValue → List Entry → Command → Reply → Type 0
IsWrong schema row command reply = ¬ Fits (place schema 0 (fresh schema 0) (reverse row)) command reply

-- ---- rows

-- 20 are taken from 40: the value is still 40 until the commit, and then 20.
abbrev pub row_lowered : List Entry
row_lowered =
    row_entry Begin (Begun (txn 1))
    ∷ row_entry (lower_by 1 20) Granted
    ∷ read_as (pos 40)
    ∷ row_entry (Commit (txn 1)) Committed
    ∷ read_as (pos 20)
    ∷ []

-- 41 can't be taken from 40; 60 are added, up to the ceiling.
abbrev pub row_raised : List Entry
row_raised =
    row_entry Begin (Begun (txn 1))
    ∷ row_entry (lower_by 1 41) (Refused (Short 40))
    ∷ row_entry (raise_by 1 60) Granted
    ∷ read_as (pos 40)
    ∷ row_entry (Commit (txn 1)) Committed
    ∷ read_as (pos 100)
    ∷ []

-- A field without rights grants nothing, either way.
abbrev pub row_unmoved : List Entry
row_unmoved =
    read_as (pos 7)
    ∷ row_entry Begin (Begun (txn 1))
    ∷ row_entry (raise_by 1 1) (Refused (Short 0))
    ∷ row_entry (lower_by 1 1) (Refused (Short 0))
    ∷ []

-- The widest field is lowered by all of its width at once; one more is too large, before it is short.
abbrev pub row_emptied : List Entry
row_emptied =
    row_entry Begin (Begun (txn 1))
    ∷ row_entry (lower_by 1 2_000_000_000_000_000) Granted
    ∷ row_entry (Commit (txn 1)) Committed
    ∷ read_as (neg_ℤ (pos 1_000_000_000_000_000))
    ∷ row_entry Begin (Begun (txn 2))
    ∷ row_entry (lower_by 2 2_000_000_000_000_001) (Refused TooLarge)
    ∷ row_entry (lower_by 2 2_000_000_000_000_000) (Refused (Short 0))
    ∷ []

-- What an abort gives back is taken again; a change of 0, an unknown transaction and an unknown field are refused.
abbrev pub row_given_back : List Entry
row_given_back =
    row_entry Begin (Begun (txn 1))
    ∷ row_entry (lower_by 1 20) Granted
    ∷ row_entry (Abort (txn 1)) Aborted
    ∷ row_entry Begin (Begun (txn 2))
    ∷ row_entry (lower_by 2 20) Granted
    ∷ row_entry (raise_by 2 0) (Refused Zero)
    ∷ row_entry (Commit (txn 7)) (Refused NoTransaction)
    ∷ row_entry (Read unknown) (Refused NoField)
    ∷ row_entry (Share unknown) (Refused NoField)
    ∷ []

-- A transaction has sixteen escrows; one more is refused, and as short where the share is less.
abbrev pub sixteen : List Entry
sixteen =
    row_entry Begin (Begun (txn 1))
    ∷ replicate 16 (row_entry (lower_by 1 1) Granted)
    ++ row_entry (lower_by 1 1) (Refused TooManyEscrows)
    ∷ row_entry (lower_by 1 25) (Refused (Short 24))
    ∷ []

-- So many transactions are begun, none of them ended.
abbrev pub begins : ℕ → List Entry
begins zero = []
begins (suc n) = begins n ++ row_entry Begin (Begun (txn (suc n))) ∷ []

-- 64 transactions are open; one more is refused.
abbrev pub row_crowded : List Entry
row_crowded = begins 64 ++ row_entry Begin (Refused TooManyOpen) ∷ []

-- ---- rows of site 0 of two

-- A site lowers by all that it may, 20 of the 40, and what it spent turns into rights to raise.
abbrev pub half_lowered : List Entry
half_lowered =
    row_entry Begin (Begun (txn 1))
    ∷ row_entry (lower_by 1 20) Granted
    ∷ row_entry (Read stock) (Between (pos 20) (pos 70))
    ∷ row_entry (Commit (txn 1)) Committed
    ∷ row_entry (Share stock) (Shares 0 50)
    ∷ row_entry (Read stock) (Between (pos 0) (pos 50))
    ∷ []

-- 21 are more than the site's share, though the field stands at 40.
abbrev pub half_short : List Entry
half_short =
    row_entry Begin (Begun (txn 1))
    ∷ row_entry (lower_by 1 21) (Refused (Short 20))
    ∷ []

-- One transaction raises by 5 and lowers by 3.
abbrev pub half_both : List Entry
half_both =
    row_entry Begin (Begun (txn 1))
    ∷ row_entry (raise_by 1 5) Granted
    ∷ row_entry (lower_by 1 3) Granted
    ∷ row_entry (Commit (txn 1)) Committed
    ∷ row_entry (Share stock) (Shares 22 28)
    ∷ row_entry (Read stock) (Between (pos 22) (pos 72))
    ∷ []

-- ---- a row of two fields

-- The first field is lowered to its floor; the second is raised and lowered by as much.
abbrev pub two_fields : List Entry
two_fields =
    row_entry Begin (Begun (txn 1))
    ∷ row_entry (lower_by 1 5) Granted
    ∷ row_entry (Escrow (txn 1) second (pos 5)) Granted
    ∷ row_entry (Escrow (txn 1) second (neg_ℤ (pos 5))) Granted
    ∷ row_entry (Commit (txn 1)) Committed
    ∷ row_entry (Share stock) (Shares 0 10)
    ∷ row_entry (Share second) (Shares 5 5)
    ∷ []

-- ---- a row of two sites

-- Site 0 lowers by its 20 and site 1 raises by its 30, in turns. Each numbers its own transactions, and reads from its
-- own rights alone.
abbrev pub in_turns : List Entry
in_turns =
    row_entry_at 0 Begin (Begun (txn 1))
    ∷ row_entry_at 1 Begin (Begun (txn 1))
    ∷ row_entry_at 0 (lower_by 1 20) Granted
    ∷ row_entry_at 1 (raise_by 1 30) Granted
    ∷ row_entry_at 0 (Commit (txn 1)) Committed
    ∷ row_entry_at 1 (Read stock) (Between (pos 20) (pos 70))
    ∷ row_entry_at 1 (Commit (txn 1)) Committed
    ∷ row_entry_at 0 (Share stock) (Shares 0 50)
    ∷ row_entry_at 1 (Share stock) (Shares 50 0)
    ∷ []

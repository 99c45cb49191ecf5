-- Worked rows of gifts between two sites (this project).
use Rattle.std.specs.Prelude.{ℕ, pos, List, [], ◌∷◌, reverse, true}
use Rattle.field_bounds.specs.declared.kind.Kind.TheVariants.{Lower, Raise}
use Rattle.field_bounds.specs.declared.id.SiteNo.{SiteNo}
use Rattle.field_bounds.specs.declared.entry.Statement.{Statement}
use Rattle.field_bounds.specs.declared.entry.Command.{Command}
use Rattle.field_bounds.specs.declared.entry.Command.TheVariants.{Begin, Give, Restate, Spare, Accept, Read, Share}
use Rattle.field_bounds.specs.declared.entry.Reply.{Reply}
use Rattle.field_bounds.specs.declared.entry.Reply.TheVariants.{Begun, Granted, Given, Stated, Spared, Accepted, Between, Shares, Refused}
use Rattle.field_bounds.specs.declared.entry.Refusal.TheVariants.{NoSite, NoField, Zero, TooLarge, Short, SelfGift, LedgerFull, NotYours, Forged, NothingGiven}
use Rattle.field_bounds.specs.declared.entry.Entry.{Entry}
use Rattle.field_bounds.specs.Effects.{Base, fresh}
use Rattle.field_bounds.specs.Owed.{place, Fits, IsRun}
use Rattle.field_bounds.specs.Worked.{halved_shelf, stock, unknown, txn, lower_by, row_entry_at, row_entry}

-- ---- how a row is written

-- The site of a number.
abbrev pub site : ℕ → SiteNo
site n = record { 0 = n }

-- A gift of lowering rights to a site.
abbrev pub give_lower : ℕ → ℕ → Command
give_lower to amount = Give (site to) stock Lower amount

-- Lowering rights, or raising ones, spared for a site that wants so many.
abbrev pub spare_lower : ℕ → ℕ → Command
spare_lower to want = Spare (site to) stock Lower want

abbrev pub spare_raise : ℕ → ℕ → Command
spare_raise to want = Spare (site to) stock Raise want

-- What site 0 tells site 1 of the lowering rights that it gave.
abbrev pub statement_to : ℕ → Statement
statement_to total = record { from = site 0; to = site 1; field = stock; kind = Lower; total = total }

-- What site 0 tells itself.
abbrev pub statement_to_itself : ℕ → Statement
statement_to_itself total = record { from = site 0; to = site 0; field = stock; kind = Lower; total = total }

-- Site 1 takes in what site 0 tells.
abbrev pub takes_in : ℕ → Reply → Entry
takes_in total reply = row_entry_at 1 (Accept (statement_to total)) reply

-- Each reply of the row was owed, at a site of the two on its fresh base.
abbrev pub IsOwedAt : ℕ → List Entry → Type 0
IsOwedAt s row = IsRun halved_shelf s (fresh halved_shelf s) (reverse row)

-- After this row the reply is not owed, at a site of the two.
abbrev pub IsWrongAt : ℕ → List Entry → Command → Reply → Type 0
IsWrongAt s row command reply = ¬ Fits (place halved_shelf s (fresh halved_shelf s) (reverse row)) command reply

-- ---- rows of the giver, site 0

-- More than the share, an unknown site or field, nothing, too much, and itself are refused, and nothing is stated where
-- nothing was given.
abbrev pub not_given : List Entry
not_given =
    row_entry (give_lower 1 21) (Refused (Short 20))
    ∷ row_entry (give_lower 2 1) (Refused NoSite)
    ∷ row_entry (Give (site 1) unknown Lower 1) (Refused NoField)
    ∷ row_entry (give_lower 1 0) (Refused Zero)
    ∷ row_entry (give_lower 1 2_000_000_000_000_001) (Refused TooLarge)
    ∷ row_entry (give_lower 0 1) (Refused SelfGift)
    ∷ row_entry (Restate (site 1) stock Raise) (Refused NothingGiven)
    ∷ row_entry (Restate (site 0) stock Raise) (Refused SelfGift)
    ∷ []

-- The site gives all its 20 away; its interval becomes the wider for it.
abbrev pub given_away : List Entry
given_away =
    row_entry (give_lower 1 20) (Given 20)
    ∷ row_entry (Share stock) (Shares 0 30)
    ∷ row_entry (Read stock) (Between (pos 0) (pos 70))
    ∷ row_entry (give_lower 1 1) (Refused (Short 0))
    ∷ []

-- A second gift is stated with the first, and each kind has its own total.
abbrev pub given_twice : List Entry
given_twice =
    row_entry (give_lower 1 3) (Given 3)
    ∷ row_entry (give_lower 1 2) (Given 5)
    ∷ row_entry (Restate (site 1) stock Lower) (Stated 5)
    ∷ row_entry (Restate (site 1) stock Raise) (Refused NothingGiven)
    ∷ row_entry (Share stock) (Shares 15 30)
    ∷ []

-- Of 30 rights the site spares half, of the 15 left half rounded up, and no more than is wanted: each is a gift as any other.
abbrev pub spared_twice : List Entry
spared_twice =
    row_entry (spare_raise 1 100) (Spared 15 15)
    ∷ row_entry (spare_raise 1 100) (Spared 8 23)
    ∷ row_entry (spare_raise 1 2) (Spared 2 25)
    ∷ row_entry (Restate (site 1) stock Raise) (Stated 25)
    ∷ row_entry (Share stock) (Shares 20 5)
    ∷ []

-- An unknown site or field, nothing, too much, and itself are refused, and so is all once no share is left.
abbrev pub not_spared : List Entry
not_spared =
    row_entry (spare_lower 2 1) (Refused NoSite)
    ∷ row_entry (Spare (site 1) unknown Lower 1) (Refused NoField)
    ∷ row_entry (spare_lower 1 0) (Refused Zero)
    ∷ row_entry (spare_lower 1 2_000_000_000_000_001) (Refused TooLarge)
    ∷ row_entry (spare_lower 0 1) (Refused SelfGift)
    ∷ row_entry (give_lower 1 19) (Given 19)
    ∷ row_entry (spare_lower 1 5) (Spared 1 20)
    ∷ row_entry (spare_lower 1 5) (Refused (Short 0))
    ∷ []

-- A base with 10 rights of each kind, whose totals lack 1 of the greatest.
abbrev pub nearly_full : Base
nearly_full =
    record {
      up = true;
      epoch = 0;
      rights = λ _ _. 10;
      cut = λ _ _. 0;
      given = λ _ _ _. 999_999_999_999_999_999;
      accepted = λ _ _ _. 0;
    }

-- The greatest total is reached, and not passed.
abbrev pub row_filled : List Entry
row_filled =
    row_entry (give_lower 1 2) (Refused (LedgerFull 999_999_999_999_999_999))
    ∷ row_entry (give_lower 1 1) (Given 1_000_000_000_000_000_000)
    ∷ row_entry (give_lower 1 1) (Refused (LedgerFull 1_000_000_000_000_000_000))
    ∷ []

-- A spare passes the greatest total by what it would spare, and not by what is wanted: of one right left it spares that one.
abbrev pub spare_filled : List Entry
spare_filled =
    row_entry (spare_lower 1 2) (Refused (LedgerFull 999_999_999_999_999_999))
    ∷ row_entry Begin (Begun (txn 1))
    ∷ row_entry (lower_by 1 9) Granted
    ∷ row_entry (spare_lower 1 100) (Spared 1 1_000_000_000_000_000_000)
    ∷ row_entry (spare_lower 1 1) (Refused (Short 0))
    ∷ []

-- ---- rows of the receiver, site 1

-- Its room is 50: it takes that in, and then not 1 more.
abbrev pub room_filled : List Entry
room_filled = takes_in 51 (Refused (Forged 50)) ∷ takes_in 50 (Accepted 50) ∷ takes_in 51 (Refused (Forged 0)) ∷ []

-- A total that comes late or twice brings nothing.
abbrev pub late_and_twice : List Entry
late_and_twice =
    takes_in 5 (Accepted 5)
    ∷ takes_in 3 (Accepted 0)
    ∷ takes_in 5 (Accepted 0)
    ∷ row_entry_at 1 (Share stock) (Shares 25 30)
    ∷ []

-- What is told to another site, what it would tell itself, nothing and too much are refused.
abbrev pub not_taken_in : List Entry
not_taken_in =
    row_entry_at 1 (Accept (statement_to_itself 5)) (Refused NotYours)
    ∷ row_entry_at 1 (Accept (record { from = site 1; to = site 0; field = stock; kind = Lower; total = 5 })) (Refused SelfGift)
    ∷ row_entry_at 1 (Accept (record { from = site 2; to = site 1; field = stock; kind = Lower; total = 5 })) (Refused NoSite)
    ∷ row_entry_at 1 (Accept (record { from = site 0; to = site 2; field = stock; kind = Lower; total = 5 })) (Refused NoSite)
    ∷ row_entry_at 1 (Accept (record { from = site 0; to = site 1; field = unknown; kind = Lower; total = 5 })) (Refused NoField)
    ∷ takes_in 0 (Refused Zero)
    ∷ takes_in 1_000_000_000_000_000_001 (Refused TooLarge)
    ∷ []

-- ---- a row of both sites

-- Site 0 gives 5 to site 1, whose 20 were short of 25: once it takes the 5 in, 25 are granted. Told again, the gift brings
-- nothing.
abbrev pub passed_on : List Entry
passed_on =
    row_entry_at 0 (give_lower 1 5) (Given 5)
    ∷ row_entry_at 1 Begin (Begun (txn 1))
    ∷ row_entry_at 1 (lower_by 1 25) (Refused (Short 20))
    ∷ takes_in 5 (Accepted 5)
    ∷ row_entry_at 1 (lower_by 1 25) Granted
    ∷ takes_in 5 (Accepted 0)
    ∷ []

-- Site 1 takes in what nobody gave.
abbrev pub made_up : List Entry
made_up = takes_in 5 (Accepted 5) ∷ []

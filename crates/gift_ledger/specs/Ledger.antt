-- The ledger of a site: by number of the other site, number of field and kind, the total given and the greatest total
-- accepted (Balegas and others 2015 for totals that only grow; this project for their limit).
use Rattle.std.specs.Prelude.{◌≢◌, ℕ, ◌-◌, ◌<◌, ◌≤◌, List, [], ◌++◌, length, replicate, slice_index_or, slice_set}
use Rattle.field_bounds.specs.declared.kind.Kind.{Kind}
use Rattle.field_bounds.specs.declared.kind.Kind.TheVariants.{Lower, Raise}
use Rattle.field_bounds.specs.Schema.{SchemaValue}
use Rattle.field_bounds.specs.Owed.{max_total}
use Rattle.gift_ledger.specs.declared.account.Account.{Account}
use Rattle.gift_ledger.specs.declared.account.FieldAccounts.{FieldAccounts}

-- ---- with one other site

-- The account of a kind.
abbrev pub account_of : FieldAccounts → Kind → Account
account_of accounts Lower = accounts.lower
account_of accounts Raise = accounts.raise

-- The same accounts with another of a kind.
abbrev pub with_account : FieldAccounts → Kind → Account → FieldAccounts
with_account accounts Lower account = record accounts { lower = account }
with_account accounts Raise account = record accounts { raise = account }

-- Nothing was given or accepted.
abbrev pub no_accounts : FieldAccounts
no_accounts = record { lower = record { given = 0; accepted = 0 }; raise = record { given = 0; accepted = 0 } }

-- The account of a kind on a field, where there is one for each field.
abbrev pub account_in : List FieldAccounts → ℕ → Kind → Account
account_in fields f k = account_of (slice_index_or fields f no_accounts) k

-- The same with another account of a kind on a field.
abbrev pub put_in : List FieldAccounts → ℕ → Kind → Account → List FieldAccounts
put_in fields f k account = slice_set fields f (with_account (slice_index_or fields f no_accounts) k account)

-- The accounts on so many fields, where those on the first are given: on all others nothing was given or accepted.
abbrev pub of_fields : ℕ → List FieldAccounts → List FieldAccounts
of_fields n first = first ++ replicate (n - length first) no_accounts

-- ---- with all sites

-- Whose ledger it is, and its accounts by number of the other site and number of field.
pub record LedgerValue : Type 0 where
  pub site : ℕ
  pub rows : List (List FieldAccounts)

-- The accounts with a site.
abbrev pub accounts_with : List (List FieldAccounts) → ℕ → List FieldAccounts
accounts_with rows s = slice_index_or rows s []

-- The account with a site, of a kind on a field.
abbrev pub account_at : LedgerValue → ℕ → ℕ → Kind → Account
account_at ledger s f k = account_in (accounts_with ledger.rows s) f k

-- The total given to a site, and the greatest total accepted from it.
abbrev pub total_at : LedgerValue → ℕ → ℕ → Kind → ℕ
total_at ledger to f k = (account_at ledger to f k).given

abbrev pub accepted_at : LedgerValue → ℕ → ℕ → Kind → ℕ
accepted_at ledger from f k = (account_at ledger from f k).accepted

-- The ledger with another account; all others stay.
abbrev pub put_at : LedgerValue → ℕ → ℕ → Kind → Account → LedgerValue
put_at ledger s f k account = record ledger { rows = slice_set ledger.rows s (put_in (accounts_with ledger.rows s) f k account) }

-- The ledger with another total given to a site; all other totals stay.
abbrev pub with_total : LedgerValue → ℕ → ℕ → Kind → ℕ → LedgerValue
with_total ledger to f k n = put_at ledger to f k (record { given = n; accepted = accepted_at ledger to f k })

-- The ledger with another greatest total accepted from a site; all other totals stay.
abbrev pub with_accepted : LedgerValue → ℕ → ℕ → Kind → ℕ → LedgerValue
with_accepted ledger from f k n = put_at ledger from f k (record { given = total_at ledger from f k; accepted = n })

-- Another site and a field, both of the schema that the ledger was made for.
pub record IsSlot (ledger : LedgerValue) (s f : ℕ) : Type 0 where
  pub other : s ≢ ledger.site
  pub site_in : s < length ledger.rows
  pub field_in : f < length (accounts_with ledger.rows s)

-- No total given is above the greatest.
abbrev pub IsWithinTotal : List (List FieldAccounts) → Type 0
IsWithinTotal rows = (s f : ℕ) (k : Kind) → (account_in (accounts_with rows s) f k).given ≤ max_total

-- The ledger of a site that has given and accepted nothing: an account of each kind for each site and field of the schema.
abbrev pub fresh_ledger : SchemaValue → ℕ → LedgerValue
fresh_ledger schema site = record { site = site; rows = replicate schema.sites (replicate (length schema.fields) no_accounts) }

-- What one more gift or acceptance does to the totals.
use Rattle.std.proofs.Common.{◌≡◌, ◌≢◌, ℕ, zero, suc, ◌==◌, ◌&&◌, ◌<◌, ◌≤◌, Bool, true, false, cond, List, [], length, refl, ap, sym, ◌∙◌, subst, arith, set, get_or, inl, inr, get_or-set_other, get_or-set_same}
use Rattle.std.specs.Prelude.{replicate}
use Rattle.std.proofs.Math.ListN.{length-set}
use Rattle.std.proofs.lemmas.Bool.{cases_Bool, and_parts, eqb-true, eqb-false}
use Rattle.std.proofs.lemmas.List.{get_or-replicate, length-replicate}
use Rattle.field_bounds.specs.declared.kind.Kind.{Kind}
use Rattle.field_bounds.specs.declared.kind.Kind.TheVariants.{Lower, Raise}
use Rattle.field_bounds.specs.Kind.{same_kind}
use Rattle.field_bounds.specs.Schema.{SchemaValue}
use Rattle.field_bounds.specs.Owed.{max_total}
use Rattle.field_bounds.proofs.Lawful.{same_kind-true}
use Rattle.gift_ledger.specs.declared.account.Account.{Account}
use Rattle.gift_ledger.specs.declared.account.FieldAccounts.{FieldAccounts}
use Rattle.gift_ledger.specs.Ledger.{account_of, with_account, no_accounts, account_in, put_in, LedgerValue, accounts_with, account_at, total_at, accepted_at, put_at, with_total, with_accepted, IsSlot, IsWithinTotal, fresh_ledger}

-- what stands in a list after a write
at-set : {X : Type 0} (xs : List X) (i j : ℕ) (x d : X) → i < length xs → get_or (set xs i x) j d ≡ cond (i == j) x (get_or xs j d)
at-set xs i j x d h =
    elim (cases_Bool (i == j)) [
      | inl same ↦ rw same (subst (λ n. get_or (set xs i x) n d ≡ x) (eqb-true i j same) (get_or-set_same xs i x d h))
      | inr differs ↦ rw differs (get_or-set_other xs i j x d (λ e. eqb-false i j differs (sym e)))
    ]

-- the account of a kind after one was replaced
of-with : (accounts : FieldAccounts) (kind k : Kind) (account : Account)
    → account_of (with_account accounts kind account) k ≡ cond (same_kind kind k) account (account_of accounts k)
of-with accounts Lower Lower account = refl
of-with accounts Lower Raise account = refl
of-with accounts Raise Lower account = refl
of-with accounts Raise Raise account = refl

-- the account of a kind on a field after one was replaced
in-put : (fields : List FieldAccounts) (f g : ℕ) (kind k : Kind) (account : Account) → f < length fields
    → account_in (put_in fields f kind account) g k ≡ cond ((f == g) && same_kind kind k) account (account_in fields g k)
in-put fields f g kind k account h =
    ap (λ (x : FieldAccounts). account_of x k) (at-set fields f g (with_account (get_or fields f no_accounts) kind account) no_accounts h)
    ∙ elim (cases_Bool (f == g)) [
      | inl same ↦
          rw same (subst (λ n. account_of (with_account (get_or fields f no_accounts) kind account) k
          ≡ cond (same_kind kind k) account (account_of (get_or fields n no_accounts) k)) (eqb-true f g same)
          (of-with (get_or fields f no_accounts) kind k account))
      | inr differs ↦ rw differs refl
    ]

-- an account after one was replaced: that one is the new one, all others are as they were
pub account_at-put_at : (ledger : LedgerValue) (s f r g : ℕ) (kind k : Kind) (account : Account) → IsSlot ledger s f
    → account_at (put_at ledger s f kind account) r g k ≡ cond ((s == r) && (f == g) && same_kind kind k) account (account_at ledger r g k)
account_at-put_at ledger s f r g kind k account place =
    ap (λ (fields : List FieldAccounts). account_in fields g k)
    (at-set ledger.rows s r (put_in (accounts_with ledger.rows s) f kind account) [] place.site_in)
    ∙ elim (cases_Bool (s == r)) [
      | inl same ↦
          rw same (subst (λ n. account_in (put_in (accounts_with ledger.rows s) f kind account) g k
          ≡ cond ((f == g) && same_kind kind k) account (account_in (accounts_with ledger.rows n) g k)) (eqb-true s r same)
          (in-put (accounts_with ledger.rows s) f g kind k account place.field_in))
      | inr differs ↦ rw differs refl
    ]

-- no account is more or fewer
pub sites-put_at : (ledger : LedgerValue) (s f : ℕ) (kind : Kind) (account : Account)
    → length (put_at ledger s f kind account).rows ≡ length ledger.rows
sites-put_at ledger s f kind account = length-set ledger.rows s _

pub fields-put_at : (ledger : LedgerValue) (s f r : ℕ) (kind : Kind) (account : Account) → IsSlot ledger s f
    → length (accounts_with (put_at ledger s f kind account).rows r) ≡ length (accounts_with ledger.rows r)
fields-put_at ledger s f r kind account place =
    ap length (at-set ledger.rows s r (put_in (accounts_with ledger.rows s) f kind account) [] place.site_in)
    ∙ elim (cases_Bool (s == r)) [
      | inl same ↦
          rw same (subst (λ n. length (put_in (accounts_with ledger.rows s) f kind account) ≡ length (accounts_with ledger.rows n))
          (eqb-true s r same) (length-set (accounts_with ledger.rows s) f _))
      | inr differs ↦ rw differs refl
    ]

-- so a place stays one
pub place_stays : (ledger : LedgerValue) (s f r g : ℕ) (kind : Kind) (account : Account) → IsSlot ledger s f → IsSlot ledger r g
    → IsSlot (put_at ledger s f kind account) r g
place_stays ledger s f r g kind account place there =
    record {
      other = there.other;
      site_in = omega (arith, there.site_in, sites-put_at ledger s f kind account);
      field_in = omega (arith, there.field_in, fields-put_at ledger s f r kind account place);
    }

-- what stands in copies of one thing, or in its place past their end
replicate-or : {X : Type 0} (P : X → Type 0) (n i : ℕ) (a d : X) → P a → P d → P (get_or (replicate n a) i d)
replicate-or P zero i a d pa pd = pd
replicate-or P (suc n) zero a d pa pd = pa
replicate-or P (suc n) (suc i) a d pa pd = replicate-or P n i a d pa pd

-- a fresh ledger has no total above the greatest
pub within-fresh : (n m : ℕ) → IsWithinTotal (replicate n (replicate m no_accounts))
within-fresh n m s f k =
    replicate-or (λ fields. (account_in fields f k).given ≤ max_total) n s (replicate m no_accounts) []
    (replicate-or (λ accounts. (account_of accounts k).given ≤ max_total) m f no_accounts no_accounts (nothing k) (nothing k))
    (nothing k)
  where
    nothing : (k : Kind) → (account_of no_accounts k).given ≤ max_total
    nothing Lower = omega arith
    nothing Raise = omega arith

chosen_given : (b : Bool) (a c : Account) → a.given ≤ max_total → c.given ≤ max_total → (cond b a c).given ≤ max_total
chosen_given true a c h g = h
chosen_given false a c h g = g

-- a total within the greatest leaves all within it
pub within-put_at : (ledger : LedgerValue) (s f : ℕ) (kind : Kind) (account : Account) → IsSlot ledger s f → account.given ≤ max_total
    → IsWithinTotal ledger.rows → IsWithinTotal (put_at ledger s f kind account).rows
within-put_at ledger s f kind account place small within r g k =
    subst (λ (x : Account). x.given ≤ max_total) (sym (account_at-put_at ledger s f r g kind k account place))
    (chosen_given ((s == r) && (f == g) && same_kind kind k) account (account_at ledger r g k) small (within r g k))

-- what is read of an account after one was replaced
read_at-put_at : (read : Account → ℕ) (ledger : LedgerValue) (s f r g : ℕ) (kind k : Kind) (account : Account) → IsSlot ledger s f
    → read (account_at (put_at ledger s f kind account) r g k)
    ≡ cond ((s == r) && (f == g) && same_kind kind k) (read account) (read (account_at ledger r g k))
read_at-put_at read ledger s f r g kind k account place =
    ap read (account_at-put_at ledger s f r g kind k account place) ∙ chosen ((s == r) && (f == g) && same_kind kind k)
  where
    chosen : (b : Bool) → read (cond b account (account_at ledger r g k)) ≡ cond b (read account) (read (account_at ledger r g k))
    chosen true = refl
    chosen false = refl

pub total_at-with_total : (ledger : LedgerValue) (s f r g : ℕ) (kind k : Kind) (n : ℕ) → IsSlot ledger s f
    → total_at (with_total ledger s f kind n) r g k ≡ cond ((s == r) && (f == g) && same_kind kind k) n (total_at ledger r g k)
total_at-with_total ledger s f r g kind k n place =
    read_at-put_at (λ x. x.given) ledger s f r g kind k (record { given = n; accepted = accepted_at ledger s f kind }) place

pub accepted_at-with_accepted : (ledger : LedgerValue) (s f r g : ℕ) (kind k : Kind) (n : ℕ) → IsSlot ledger s f
    → accepted_at (with_accepted ledger s f kind n) r g k ≡ cond ((s == r) && (f == g) && same_kind kind k) n (accepted_at ledger r g k)
accepted_at-with_accepted ledger s f r g kind k n place =
    read_at-put_at (λ x. x.accepted) ledger s f r g kind k (record { given = total_at ledger s f kind; accepted = n }) place

-- what was given stays where a total is accepted, and the reverse
same_place : (s r f g : ℕ) (kind k : Kind) → ((s == r) && (f == g) && same_kind kind k) ≡ true → (s ≡ r) × (f ≡ g) × (kind ≡ k)
same_place s r f g kind k h =
    let both = and_parts ((s == r) && (f == g)) (same_kind kind k) h in
    let places = and_parts (s == r) (f == g) both.0 in
    (eqb-true s r places.0, eqb-true f g places.1, same_kind-true kind k both.1)

stays-put_at : (read : Account → ℕ) (ledger : LedgerValue) (s f r g : ℕ) (kind k : Kind) (account : Account) → IsSlot ledger s f
    → read account ≡ read (account_at ledger s f kind)
    → read (account_at (put_at ledger s f kind account) r g k) ≡ read (account_at ledger r g k)
stays-put_at read ledger s f r g kind k account place same =
    read_at-put_at read ledger s f r g kind k account place
    ∙ elim (cases_Bool ((s == r) && (f == g) && same_kind kind k)) [
      | inl here ↦ let at = same_place s r f g kind k here in rw here (cc (same, at.0, at.1, at.2))
      | inr there ↦ rw there refl
    ]

pub accepted_at-with_total : (ledger : LedgerValue) (s f r g : ℕ) (kind k : Kind) (n : ℕ) → IsSlot ledger s f
    → accepted_at (with_total ledger s f kind n) r g k ≡ accepted_at ledger r g k
accepted_at-with_total ledger s f r g kind k n place =
    stays-put_at (λ x. x.accepted) ledger s f r g kind k (record { given = n; accepted = accepted_at ledger s f kind }) place refl

pub total_at-with_accepted : (ledger : LedgerValue) (s f r g : ℕ) (kind k : Kind) (n : ℕ) → IsSlot ledger s f
    → total_at (with_accepted ledger s f kind n) r g k ≡ total_at ledger r g k
total_at-with_accepted ledger s f r g kind k n place =
    stays-put_at (λ x. x.given) ledger s f r g kind k (record { given = total_at ledger s f kind; accepted = n }) place refl

-- ---- a fresh ledger

-- every other site and every field of the schema has a place
pub fresh_place : (schema : SchemaValue) (site s f : ℕ) → s ≢ site → s < schema.sites → f < length schema.fields
    → IsSlot (fresh_ledger schema site) s f
fresh_place schema site s f other site_in field_in =
    let row = get_or-replicate schema.sites s (replicate (length schema.fields) no_accounts) [] site_in in
    record {
      other = other;
      site_in = omega (arith, site_in, length-replicate schema.sites (replicate (length schema.fields) no_accounts));
      field_in = omega (arith, field_in, ap length row, length-replicate (length schema.fields) no_accounts);
    }

-- and nothing is given or accepted at any
pub fresh_account : (schema : SchemaValue) (site s f : ℕ) (k : Kind)
    → account_at (fresh_ledger schema site) s f k ≡ record { given = 0; accepted = 0 }
fresh_account schema site s f k =
    replicate-or (λ fields. account_in fields f k ≡ record { given = 0; accepted = 0 }) schema.sites s
    (replicate (length schema.fields) no_accounts) []
    (replicate-or (λ accounts. account_of accounts k ≡ record { given = 0; accepted = 0 }) (length schema.fields) f no_accounts no_accounts
    (nothing k) (nothing k))
    (nothing k)
  where
    nothing : (k : Kind) → account_of no_accounts k ≡ record { given = 0; accepted = 0 }
    nothing Lower = refl
    nothing Raise = refl

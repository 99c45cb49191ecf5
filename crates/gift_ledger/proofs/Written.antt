-- Accounts of which those on the first fields are written out.
use Rattle.std.proofs.Common.{◌≡◌, ℕ, zero, suc, ◌+◌, ◌-◌, ◌<◌, ◌≤◌, List, [], ◌∷◌, ◌++◌, length, refl, ap, sym, ◌∙◌, arith, set, get_or, append_assoc}
use Rattle.std.specs.Prelude.{replicate}
use Rattle.std.proofs.Math.ListN.{length-set}
use Rattle.std.proofs.lemmas.List.{length-append, length-replicate, replicate-append-replicate, set-append_left}
use Rattle.field_bounds.specs.declared.kind.Kind.{Kind}
use Rattle.gift_ledger.specs.declared.account.Account.{Account}
use Rattle.gift_ledger.specs.declared.account.FieldAccounts.{FieldAccounts}
use Rattle.gift_ledger.specs.Ledger.{account_of, with_account, no_accounts, account_in, put_in, of_fields}

-- what is read behind copies of what is read past the end
or-copies : {X : Type 0} (m i : ℕ) (d : X) → get_or (replicate m d) i d ≡ d
or-copies zero i d = refl
or-copies (suc m) zero d = refl
or-copies (suc m) (suc i) d = or-copies m i d

or-padded : {X : Type 0} (xs : List X) (m i : ℕ) (d : X) → get_or (xs ++ replicate m d) i d ≡ get_or xs i d
or-padded [] m i d = or-copies m i d
or-padded (x ∷ xs) m zero d = refl
or-padded (x ∷ xs) m (suc i) d = or-padded xs m i d

-- all accounts are read as those on the first fields are
pub account_in-of_fields : (n : ℕ) (first : List FieldAccounts) (f : ℕ) (k : Kind)
    → account_in (of_fields n first) f k ≡ account_in first f k
account_in-of_fields n first f k =
    ap (λ (x : FieldAccounts). account_of x k) (or-padded first (n - length first) f no_accounts)

-- there is one for each field
pub length-of_fields : (n : ℕ) (first : List FieldAccounts) → length first ≤ n → length (of_fields n first) ≡ n
length-of_fields n first within =
    omega (arith, within, length-append first (replicate (n - length first) no_accounts), length-replicate (n - length first) no_accounts)

-- more written out are the same accounts
pub of_fields-twice : (n m : ℕ) (first : List FieldAccounts) → length first ≤ n → m ≤ n
    → of_fields n (of_fields m first) ≡ of_fields n first
of_fields-twice n m first within fewer =
    append_assoc first (replicate (m - length first) no_accounts) _
    ∙ ap (λ xs. first ++ xs) (replicate-append-replicate (m - length first) (n - length (of_fields m first)) no_accounts)
    ∙ ap (λ k. first ++ replicate k no_accounts)
    (omega (
      arith,
      within,
      fewer,
      length-append first (replicate (m - length first) no_accounts),
      length-replicate (m - length first) no_accounts,
    ))

-- an account replaced among those written out is that of its field
pub put_in-of_fields : (n f : ℕ) (first : List FieldAccounts) (k : Kind) (account : Account) → length first ≤ n → f < n
    → of_fields n (put_in (of_fields (f + 1) first) f k account) ≡ put_in (of_fields n first) f k account
put_in-of_fields n f first k account within in_fields =
    let out = of_fields (f + 1) first in
    let there : f < length out = omega (
      arith,
      length-append first (replicate (f + 1 - length first) no_accounts),
      length-replicate (f + 1 - length first) no_accounts,
    ) in
    let row = with_account (get_or out f no_accounts) k account in
    ap (λ m. set out f row ++ replicate (n - m) no_accounts) (length-set out f row)
    ∙ sym (set-append_left out (replicate (n - length out) no_accounts) f row there)
    ∙ ap (λ xs. set xs f row) (of_fields-twice n (f + 1) first within (omega (arith, in_fields)))
    ∙ ap (λ (x : FieldAccounts). set (of_fields n first) f (with_account x k account))
    (or-padded first (f + 1 - length first) f no_accounts ∙ sym (or-padded first (n - length first) f no_accounts))

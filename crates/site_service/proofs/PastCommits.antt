-- The commits among the records that a base may stand behind, as `past_of` makes them, are of epoch 0.
use Rattle.std.proofs.Common.{◌≡◌, ◌⊎◌, ◌≤◌, ◌==◌, ◌||◌, ℕ, zero, suc, ◌+◌, Bool, true, false, cond, List, [], ◌∷◌, ◌++◌, length, Option, Some, None, refl, sym, ◌∙◌, inl, inr, arith}
use Rattle.std.specs.Prelude.{nat_lt}
use Rattle.std.specs.List.{AllByRecursion}
use Rattle.std.proofs.lemmas.Bool.{and_parts, eqb-true, lt-ltb}
use Rattle.field_bounds.specs.declared.id.TxnId.{TxnId}
use Rattle.field_bounds.specs.declared.kind.Kind.{Kind}
use Rattle.field_bounds.specs.declared.kind.Kind.TheVariants.{Lower, Raise}
use Rattle.field_bounds.specs.Schema.{SchemaValue}
use Rattle.field_bounds.specs.Kind.{other}
use Rattle.kept_records.specs.declared.record.Record.{Record}
use Rattle.kept_records.specs.declared.record.Record.TheVariants.{Commit, Gift, Accept, Tighten, Restart, Summary}
use Rattle.kept_records.specs.Summary.{SummaryValue, cut_told}
use Rattle.kept_records.specs.Stands.{own_in}
use Rattle.log_bases.specs.Bases.{given_told, accepted_told}
use Rattle.log_bases.specs.Pasts.{commit_of, short_of_gifts, short_of_accepts, turned, accept_by, give_by, next, moved, wanted, to_kind, given_up, field_past, fields_past, past_of}
use Rattle.log_head.specs.Horizons.{HorizonValue, is_passed}
use Rattle.site_step.specs.Shortening.{is_commit_of, has_commit}

-- if it is a commit, of epoch 0
abbrev IsEarly : Record → Type 0
IsEarly (Commit txn escrows) = txn.epoch ≡ 0
IsEarly (Gift to field kind total) = Unit {0}
IsEarly (Accept from field kind total) = Unit {0}
IsEarly (Tighten field kind total) = Unit {0}
IsEarly (Restart epoch) = Unit {0}
IsEarly (Summary epoch rights gifts accepts tightenings) = Unit {0}

abbrev AreEarly : List Record → Type 0
AreEarly rs = AllByRecursion IsEarly rs

more : (rs : List Record) (r : Record) → AreEarly rs → IsEarly r → AreEarly (rs ++ r ∷ [])
more [] r all one = (one, tt)
more (x ∷ rs) r all one = (all.0, more rs r all.1 one)

either : (b : Bool) (xs ys : List Record) → AreEarly xs → AreEarly ys → AreEarly (cond b xs ys)
either true xs ys x y = x
either false xs ys x y = y

turned_early : (schema : SchemaValue) (s f : ℕ) (k : Kind) (rs : List Record) → AreEarly rs → AreEarly (turned schema s f k rs)
turned_early schema s f k rs all =
    either (own_in schema s rs f k == 0) (rs ++ commit_of f (other k) 0 ∷ []) rs (more rs (commit_of f (other k) 0) all refl) all

accept_early : (f : ℕ) (rs : List Record) (a b : Option ℕ) → AreEarly rs → AreEarly (accept_by f rs a b)
accept_early f rs (Some from) b all = more rs _ all tt
accept_early f rs None (Some from) all = more rs _ all tt
accept_early f rs None None all = all

give_early : (schema : SchemaValue) (s f : ℕ) (rs : List Record) (a b c d : Option ℕ) → AreEarly rs → AreEarly (give_by schema s f rs a b c d)
give_early schema s f rs (Some to) b c d all = more (turned schema s f Lower rs) _ (turned_early schema s f Lower rs all) tt
give_early schema s f rs None (Some to) c d all = more (turned schema s f Raise rs) _ (turned_early schema s f Raise rs all) tt
give_early schema s f rs None None c d all = accept_early f rs c d all

next_early : (schema : SchemaValue) (s : ℕ) (base : SummaryValue) (f : ℕ) (rs : List Record) → AreEarly rs → AreEarly (next schema s base f rs)
next_early schema s base f rs all =
    either (nat_lt 0 (own_in schema s rs f Lower + own_in schema s rs f Raise)) _ _
    (give_early schema s f rs (short_of_gifts schema base f Lower rs) (short_of_gifts schema base f Raise rs)
    (short_of_accepts schema base f Lower rs) (short_of_accepts schema base f Raise rs) all)
    (accept_early f rs (short_of_accepts schema base f Lower rs) (short_of_accepts schema base f Raise rs) all)

moved_early : (n : ℕ) (schema : SchemaValue) (s : ℕ) (base : SummaryValue) (f : ℕ) (rs : List Record) → AreEarly rs
    → AreEarly (moved n schema s base f rs)
unfolding moved
moved_early zero schema s base f rs all = all
moved_early (suc n) schema s base f rs all = moved_early n schema s base f (next schema s base f rs) (next_early schema s base f rs all)

kind_early : (schema : SchemaValue) (s : ℕ) (base : SummaryValue) (f : ℕ) (k : Kind) (rs : List Record) → AreEarly rs
    → AreEarly (to_kind schema s base f k rs)
kind_early schema s base f k rs all =
    either (nat_lt (wanted base f k) (own_in schema s rs f k)) _ rs (more rs _ all refl) all

up_early : (base : SummaryValue) (f : ℕ) (k : Kind) (rs : List Record) → AreEarly rs → AreEarly (given_up base f k rs)
up_early base f k rs all = either (cut_told base.tightenings f k == 0) rs _ all (more rs _ all tt)

field_early : (schema : SchemaValue) (s : ℕ) (base : SummaryValue) (f : ℕ) (rs : List Record) → AreEarly rs
    → AreEarly (field_past schema s base f rs)
unfolding field_past
field_early schema s base f rs all =
    up_early base f Raise _ (up_early base f Lower _ (kind_early schema s base f Raise _ (kind_early schema s base f Lower _
    (moved_early (given_told schema base f + accepted_told schema base f) schema s base f rs all))))

fields_early : (n : ℕ) (schema : SchemaValue) (s : ℕ) (base : SummaryValue) → AreEarly (fields_past n schema s base)
unfolding fields_past
fields_early zero schema s base = tt
fields_early (suc n) schema s base = field_early schema s base n (fields_past n schema s base) (fields_early n schema s base)

pub past_early : (schema : SchemaValue) (s : ℕ) (base : SummaryValue) → AreEarly (past_of schema s base)
unfolding past_of
past_early schema s base =
    either (base.epoch == 0) (fields_past (length schema.fields) schema s base) _ (fields_early (length schema.fields) schema s base)
    (more _ (Restart base.epoch) (fields_early (length schema.fields) schema s base) tt)

-- a commit among early ones is early
or_parts : (a b : Bool) → (a || b) ≡ true → (a ≡ true) ⊎ (b ≡ true)
or_parts true b h = inl refl
or_parts false b h = inr h

one_early : (r : Record) (txn : TxnId) → IsEarly r → is_commit_of txn r ≡ true → txn.epoch ≡ 0
one_early (Commit other escrows) txn early is =
    sym (eqb-true other.epoch txn.epoch (and_parts (other.epoch == txn.epoch) (other.number == txn.number) is).0) ∙ early
one_early (Gift to field kind total) txn early is = absurd cc
one_early (Accept from field kind total) txn early is = absurd cc
one_early (Tighten field kind total) txn early is = absurd cc
one_early (Restart epoch) txn early is = absurd cc
one_early (Summary epoch rights gifts accepts tightenings) txn early is = absurd cc

pub early_commit : (rs : List Record) (txn : TxnId) → AreEarly rs → has_commit txn rs ≡ true → txn.epoch ≡ 0
early_commit [] txn all has = absurd cc
early_commit (r ∷ rs) txn all has = elim (or_parts (is_commit_of txn r) (has_commit txn rs) has) [
  | inl here ↦ one_early r txn all.0 here
  | inr there ↦ early_commit rs txn all.1 there
]

-- a horizon of epoch 1 or later passes such a transaction
pub early_passes : (h : HorizonValue) → 1 ≤ h.epoch → (txn : TxnId) → txn.epoch ≡ 0 → is_passed h txn ≡ true
early_passes h late txn early = rw (lt-ltb txn.epoch h.epoch (omega (arith, late, early))) refl

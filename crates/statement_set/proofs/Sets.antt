-- A set has the statements of its keys.
use Rattle.std.proofs.Common.{rules, subst, Option, Some, ◌≡◌, ◌↔◌, ◌⊎◌, ◌∙◌, refl, sym, ap, inl, inr, length, arith, IsTrue, List, ◌∷◌, Contains, true, false, Bool, cond, ◌<◌}
use Rattle.std.proofs.lemmas.List.{get_or-map, length-map}
use Rattle.std.proofs.lemmas.Option.{same_Some}
use Rattle.std.specs.BTreeSet.{BTreeSet, contains, Updates}
use Rattle.std.specs.Ordering.{is_eq}
use Rattle.std.proofs.lemmas.Map.Lookups.{CmpEqualImpliesEq}
use Rattle.std.proofs.lemmas.Map.Views.{btree_set_contains_iff, tells_apart}
use Rattle.field_bounds.specs.declared.entry.Statement.{Statement}
use Rattle.field_bounds.specs.declared.entry.Entry.{Entry}
use Rattle.field_bounds.specs.Statements.{statement_of, IsIssued}
use Rattle.statement_set.specs.declared.set.StatementKey.{StatementKey}
use Rattle.statement_set.specs.contracts.set.StatementKeyOrd.TheImpl as order
use Rattle.statement_set.specs.contracts.set.StatementKeyOrd.TheImpl.Laws as laws
use Rattle.statement_set.specs.Keys.{key_of, statement_of_key, statements_of}
use Rattle.statement_set.specs.Issued.{HasIssued}

-- ---- the keys and the statements are the same in number and in place

pub told_by_keys : (keys : List StatementKey) (told : Statement) → Contains (statements_of keys) told → Contains keys (key_of told)
told_by_keys keys told has =
    let below : has.0 < length keys = omega (arith, length-map keys statement_of_key, has.1) in
    (has.0, below, ap key_of (sym (get_or-map statement_of_key keys has.0 (key_of told) told below) ∙ has.2))

pub keys_tell : (keys : List StatementKey) (told : Statement) → Contains keys (key_of told) → Contains (statements_of keys) told
keys_tell keys told has = (
  has.0,
  omega (arith, length-map keys statement_of_key, has.1),
  get_or-map statement_of_key keys has.0 (key_of told) told has.1 ∙ ap statement_of_key has.2,
)

-- ---- keys that compare as equal are the same

exact : CmpEqualImpliesEq (order.ghosts).cmp
exact x y same = search rules

pub contains_told : (s : BTreeSet StatementKey) (told : Statement)
    → IsTrue (contains (order.ghosts).cmp s (key_of told)) ↔ Contains (statements_of s.keys) told
contains_told s told =
    let both = btree_set_contains_iff laws.total-law exact s (key_of told) in
    (λ found. keys_tell s.keys told (both.0 found), λ has. both.1 (told_by_keys s.keys told has))

-- ---- what a set has that one statement was put into

module _ (s n : BTreeSet StatementKey) (put_in : Statement) (put : Updates (order.ghosts).cmp s n (key_of put_in) true) (other : Statement) where
  one_of : (b : Bool) → is_eq ((order.ghosts).cmp (key_of put_in) (key_of other)) ≡ b
      → cond b true (contains (order.ghosts).cmp s (key_of other)) ≡ true → (put_in ≡ other) ⊎ Contains (statements_of s.keys) other
  one_of true same found = inl (ap statement_of_key (tells_apart exact (key_of put_in) (key_of other) same))
  one_of false apart found = inr ((contains_told s other).0 found)

  still : (b : Bool) → contains (order.ghosts).cmp s (key_of other) ≡ true
      → cond b true (contains (order.ghosts).cmp s (key_of other)) ≡ true
  still true found = refl
  still false found = found

  there : (put_in ≡ other) ⊎ Contains (statements_of s.keys) other → Contains (statements_of n.keys) other
  there (inl now) = subst (λ (x : Statement). Contains (statements_of n.keys) x) now ((contains_told n put_in).0 put.1)
  there (inr before) = (contains_told n other).0 (put.0 (key_of other) ∙ still _ ((contains_told s other).1 before))

  pub put_told : Contains (statements_of n.keys) other ↔ ((put_in ≡ other) ⊎ Contains (statements_of s.keys) other)
  put_told = (λ has. one_of _ refl (sym (put.0 (key_of other)) ∙ (contains_told n other).1 has), there)

-- what a set has that the statement issued was put into
pub issued_put : (old new : List Statement) {issued : Option Statement} {put_in : Statement} → issued ≡ Some put_in
    → ((other : Statement) → Contains new other ↔ ((put_in ≡ other) ⊎ Contains old other))
    → (other : Statement) → Contains new other ↔ ((issued ≡ Some other) ⊎ Contains old other)
issued_put old new {issued = issued} {put_in = put_in} is put other = (λ has. named ((put other).0 has), λ has. (put other).1 (back has))
  where
    named : (put_in ≡ other) ⊎ Contains old other → (issued ≡ Some other) ⊎ Contains old other
    named (inl same) = inl (is ∙ ap (λ (x : Statement). Some x) same)
    named (inr before) = inr before

    back : (issued ≡ Some other) ⊎ Contains old other → (put_in ≡ other) ⊎ Contains old other
    back (inl now) = inl (same_Some put_in other (sym is ∙ now))
    back (inr before) = inr before

-- the set of what some entries issue, and one entry more
pub issued_more : (old new : List Statement) (t : List Entry) (e : Entry) → HasIssued old t
    → ((other : Statement) → Contains new other ↔ ((statement_of e ≡ Some other) ⊎ Contains old other)) → HasIssued new (e ∷ t)
issued_more old new t e was put statement = (λ has. forth ((put statement).0 has), λ issued. (put statement).1 (back issued))
  where
    forth : (statement_of e ≡ Some statement) ⊎ Contains old statement → IsIssued statement (e ∷ t)
    forth (inl now) = inl now
    forth (inr before) = inr ((was statement).0 before)

    back : IsIssued statement (e ∷ t) → (statement_of e ≡ Some statement) ⊎ Contains old statement
    back (inl now) = inl now
    back (inr before) = inr ((was statement).1 before)

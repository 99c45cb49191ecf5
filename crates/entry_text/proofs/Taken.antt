-- Words read as they are cut.
use Rattle.std.proofs.Common.{◌≡◌, ℕ, ◌+◌, ◌^◌, Bool, true, false, cond, List, [], ◌∷◌, ◌++◌, take, drop, Option, Some, None, refl, sym, ap, subst, ◌∙◌}
use Rattle.std.specs.Prelude.{position, ◌==◌, MatchBool, ◌≢◌, bytes_eq}
use Rattle.std.proofs.lemmas.Slice.Eq.{bytes_eq-Decides}
use Rattle.field_bounds.specs.declared.id.SiteNo.{SiteNo}
use Rattle.field_bounds.specs.declared.id.TxnId.{TxnId}
use Rattle.line_words.specs.Reading.{◌>>=◌, number_of, below, word_at, only_of, Gives}
use Rattle.line_words.specs.Fronts.{dotted_of}
use Rattle.line_words.proofs.Forms.{found}
use Rattle.line_words.proofs.FrontLemmas.{word_at_more}
use Rattle.entry_text.specs.Reading.{site_of, id_of, Reader, read_beside, table_at}
use Rattle.entry_text.specs.Taking.{IsOther, limited, id_from}

-- a number below a limit, from the number of the word
pub below_at : (limit : ℕ) (ws : List (List ℕ)) → word_at (below limit) ws
    ≡ (word_at (number_of (2 ^ 64)) ws >>= λ p. limited limit p.0 >>= λ n. found n p.1)
below_at limit ws = word_at_more (number_of (2 ^ 64)) (limited limit) ws

abbrev pub as_site : ℕ → SiteNo
as_site n = record { 0 = n }

pub site_at_is : (ws : List (List ℕ)) → word_at site_of ws
    ≡ (word_at (below (2 ^ 16)) ws >>= λ p. found (as_site p.0) p.1)
unfolding site_of
site_at_is ws = word_at_more (below (2 ^ 16)) (λ n. Some (as_site n)) ws

abbrev pair : ℕ → ℕ → Option (ℕ × ℕ)
pair x y = Some (x, y)

abbrev to_id : ℕ → ℕ → Option TxnId
to_id e n = Some (record { epoch = e; number = n })

abbrev no_id : ℕ → Option TxnId
no_id n = None

none_after : (o : Option ℕ) → (o >>= no_id) ≡ None
none_after None = refl
none_after (Some a) = refl

two_numbers : (a b : Option ℕ) → ((a >>= limited (2 ^ 32)) >>= λ e. (b >>= limited (2 ^ 32)) >>= λ n. to_id e n)
    ≡ ((a >>= λ x. b >>= λ y. pair x y) >>= id_from)
two_numbers None b = refl
two_numbers (Some x) None = none_after (limited (2 ^ 32) x)
two_numbers (Some x) (Some y) = refl

-- a transaction, from the two numbers of the word
pub id_is : (w : List ℕ) → id_of w ≡ (dotted_of w >>= id_from)
unfolding id_of dotted_of
id_is w = by_place (position (λ b. b == 46) w)
  where
    by_place : (p : Option ℕ) → (p >>= λ at. below (2 ^ 32) (take at w) >>= λ e. below (2 ^ 32) (drop (at + 1) w) >>= λ n. to_id e n)
        ≡ ((p >>= λ at. number_of (2 ^ 64) (take at w) >>= λ x. number_of (2 ^ 64) (drop (at + 1) w) >>= λ y. pair x y) >>= id_from)
    by_place None = refl
    by_place (Some at) = two_numbers (number_of (2 ^ 64) (take at w)) (number_of (2 ^ 64) (drop (at + 1) w))

pub id_at_is : (ws : List (List ℕ)) → word_at id_of ws ≡ (word_at dotted_of ws >>= λ p. id_from p.0 >>= λ t. found t p.1)
unfolding word_at
id_at_is [] = refl
id_at_is (w ∷ ws) = rw (id_is w) (word_at_more dotted_of id_from (w ∷ ws))

-- ---- what a call gives

pub gives_none : {A : Type 0} (r : Option A) (new : List (List ℕ)) (read : Option (A × List (List ℕ))) → r ≡ None → read ≡ None
    → Gives r new read
gives_none None new read e is = is
gives_none (Some x) new read e is = absurd cc

gives_from : {A : Type 0} (o : Option A) (new : List (List ℕ)) (read : Option (A × List (List ℕ))) → read ≡ (o >>= λ v. found v new)
    → Gives o new read
gives_from None new read e = e
gives_from (Some x) new read e = e

-- what is made of the value of a word
pub gives_more : {A B : Type 0} (r : Option B) (new ws : List (List ℕ)) (v : A) (more : A → Option B) (first : Option (A × List (List ℕ)))
    (read : Option (B × List (List ℕ))) → read ≡ (first >>= λ p. more p.0 >>= λ x. found x p.1) → first ≡ found v new → r ≡ more v
    → Gives r new read
gives_more r new ws v more first read is e made =
    subst (λ (o : Option _). Gives o new read) (sym made)
    (gives_from (more v) new read (is ∙ ap (λ (o : Option _). o >>= λ p. more p.0 >>= λ x. found x p.1) e))

pub none_more : {A B : Type 0} (more : A → Option B) (first : Option (A × List (List ℕ))) (read : Option (B × List (List ℕ)))
    → read ≡ (first >>= λ p. more p.0 >>= λ x. found x p.1) → first ≡ None → read ≡ None
none_more more first read is e = is ∙ ap (λ (o : Option _). o >>= λ p. more p.0 >>= λ x. found x p.1) e

-- what a test for a word says
pub named_says : (b : Bool) (old new ks : List (List ℕ)) (k : List ℕ) → ks ≡ k ∷ []
    → MatchBool b (old ≡ ks ++ new) ((new ≡ old) × ((ws : List (List ℕ)) → old ≢ ks ++ ws))
    → MatchBool b (old ≡ k ∷ new) ((new ≡ old) × IsOther k old)
named_says true old new ks k one h = h ∙ ap (λ (l : List (List ℕ)). l ++ new) one
named_says false old new ks k one h = (h.0, λ ws e. h.1 ws (e ∙ ap (λ (l : List (List ℕ)). l ++ ws) (sym one)))

-- ---- tables

-- the word of a row is none of the words in front
pub past_row : {A : Type 0} (k : List ℕ) (at : Reader A) (table : List (List ℕ × Reader A)) (ws next : List (List ℕ))
    → (next ≡ ws) × IsOther k ws → table_at ((k, at) ∷ table) ws ≡ table_at table next
unfolding table_at
past_row k at table [] next h = ap (table_at table) (sym h.0)
past_row k at table (w ∷ ws) next h = by_test (bytes_eq w k) refl
  where
    by_test : (b : Bool) → bytes_eq w k ≡ b → cond (bytes_eq w k) (at ws) (read_beside table w ws) ≡ table_at table next
    by_test true e = absurd (h.1 ws (ap (λ (u : List ℕ). u ∷ ws) ((bytes_eq-Decides w k).0 e)))
    by_test false e = rw e (ap (table_at table) (sym h.0))

pub gives_past : {A : Type 0} (r : Option A) (new : List (List ℕ)) (read later : Option (A × List (List ℕ))) → read ≡ later → Gives r new later
    → Gives r new read
gives_past r new read later e h = subst (λ (o : Option _). Gives r new o) (sym e) h

pub past_all : {A : Type 0} (ws : List (List ℕ)) → table_at {A = A} [] ws ≡ None
unfolding table_at
past_all [] = refl
past_all (w ∷ ws) = refl

-- ---- a word that is asked for

pub asked_none : (k : List ℕ) (ws : List (List ℕ)) → IsOther k ws → word_at (only_of k) ws ≡ None
unfolding word_at only_of
asked_none k [] other = refl
asked_none k (w ∷ ws) other = by_test (bytes_eq w k) refl
  where
    by_test : (b : Bool) → bytes_eq w k ≡ b → word_at (only_of k) (w ∷ ws) ≡ None
    by_test true e = absurd (other ws (ap (λ (u : List ℕ). u ∷ ws) ((bytes_eq-Decides w k).0 e)))
    by_test false e = rw e refl

pub asked_some : (k : List ℕ) (ws new : List (List ℕ)) → ws ≡ k ∷ new → word_at (only_of k) ws ≡ Some (tt, new)
unfolding word_at only_of
asked_some k ws new e = ap (word_at (only_of k)) e ∙ rw ((bytes_eq-Decides k k).1 refl) refl

-- The last word of a line, and the key of a commit.
use Rattle.std.proofs.Common.{◌≡◌, ◌≢◌, ℕ, ◌+◌, ◌-◌, true, false, eqb, List, [], ◌∷◌, ◌++◌, length, get_or, take, drop, codes, bytes_eq, Option, Some, None, refl, sym, ap, ◌∙◌, subst, append_assoc}
use Rattle.std.specs.List.{list_any}
use Rattle.std.proofs.lemmas.Bool.{eqb-true, ne_eqb}
use Rattle.std.proofs.lemmas.List.Folds.{list_any_none}
use Rattle.std.proofs.lemmas.List.{take-append-drop, drop_more, append_cancel_right}
use Rattle.std.proofs.lemmas.Option.{same_Some}
use Rattle.std.proofs.lemmas.Slice.Eq.{bytes_eq-Decides}
use Rattle.memchr.specs.Find.{IsLastByte, is_byte}
use Rattle.field_bounds.specs.Schema.{SchemaValue}
use Rattle.field_bounds.specs.declared.id.SiteNo.{SiteNo}
use Rattle.field_bounds.specs.declared.id.TxnId.{TxnId}
use Rattle.field_bounds.specs.declared.entry.Command.{Command}
use Rattle.field_bounds.specs.declared.entry.Command.TheVariants.{Commit}
use Rattle.entry_text.specs.Spelling.{command_text}
use Rattle.entry_text.specs.Ranges.{SiteFits, IdFits, CommandFits}
use Rattle.kept_records.proofs.Bytes.{has_it}
use Rattle.caller_keys.specs.Keys.{is_key_byte, IsKey}
use Rattle.request_lines.specs.Requests.{commit_text}
use Rattle.request_lines.specs.Asking.{HasNoSpace, IsCutAtKey}
use Rattle.request_lines.proofs.NoBytes.{none_from}

-- ---- the last space

pub last_space : (bytes : List ℕ) (k : ℕ) → IsLastByte (is_byte 32) bytes (Some k)
    → (bytes ≡ take k bytes ++ 32 ∷ drop (k + 1) bytes) × HasNoSpace (drop (k + 1) bytes)
last_space bytes k found =
    let is : get_or bytes k 0 ≡ 32 = eqb-true _ _ found.1 in (
      sym (take-append-drop k bytes) ∙ ap (λ (l : List ℕ). take k bytes ++ l)
          (drop_more bytes k 0 found.0.high ∙ ap (λ (x : ℕ). x ∷ drop (k + 1) bytes) is),
      none_from 32 bytes (k + 1) found.0.after,
    )

pub no_space : (bytes : List ℕ) → IsLastByte (is_byte 32) bytes None → HasNoSpace bytes
no_space bytes none = none_from 32 bytes 0 none

-- two cuts at the last space are one
pub record OneCut (a b x y : List ℕ) : Type 0 where
  pub front : a ≡ b
  pub rest : x ≡ y

pub one_last : (a b x y : List ℕ) → HasNoSpace x → HasNoSpace y → a ++ 32 ∷ x ≡ b ++ 32 ∷ y → OneCut a b x y
one_last [] [] x y p q e = record { front = refl; rest = cc }
one_last [] (b ∷ bs) x y p q e =
    let is : x ≡ bs ++ 32 ∷ y = cc in
    let has = has_it 32 bs y in
    absurd (let no : list_any (λ (c : ℕ). eqb c 32) (bs ++ 32 ∷ y) ≡ false = subst HasNoSpace is p in cc)
one_last (a ∷ as1) [] x y p q e =
    let is : as1 ++ 32 ∷ x ≡ y = cc in
    let has = has_it 32 as1 x in
    absurd (let no : list_any (λ (c : ℕ). eqb c 32) (as1 ++ 32 ∷ x) ≡ false = subst HasNoSpace (sym is) q in cc)
one_last (a ∷ as1) (b ∷ bs) x y p q e =
    let tails : as1 ++ 32 ∷ x ≡ bs ++ 32 ∷ y = cc in
    let heads : a ≡ b = cc in
    let r = one_last as1 bs x y p q tails in
    record { front = ap (λ (z : ℕ). z ∷ as1) heads ∙ ap (λ (l : List ℕ). b ∷ l) r.front; rest = r.rest }

-- a line of one word has no last space
pub no_last : (line a x : List ℕ) → HasNoSpace line → line ≡ a ++ 32 ∷ x → ⊥
no_last line a x none is =
    let has = has_it 32 a x in
    let no : list_any (λ (c : ℕ). eqb c 32) (a ++ 32 ∷ x) ≡ false = subst HasNoSpace is none in
    cc

-- ---- the word `key`

key_word : (front word : List ℕ) → front ++ (codes " key " ++ word) ≡ (front ++ codes " key") ++ 32 ∷ word
key_word front word = sym (append_assoc front (codes " key") (32 ∷ word))

pub cut_some : (line front before word : List ℕ) → line ≡ front ++ 32 ∷ word → front ≡ before ++ codes " key" → HasNoSpace word
    → IsCutAtKey line before word
cut_some line front before word parts is one = record {
  parts = parts ∙ ap (λ (l : List ℕ). l ++ 32 ∷ word) is ∙ sym (key_word before word);
  one_word = one;
}

pub cut_none : (line front word : List ℕ) → line ≡ front ++ 32 ∷ word → HasNoSpace word
    → ((before : List ℕ) → front ≢ before ++ codes " key") → (before other : List ℕ) → IsCutAtKey line before other → ⊥
cut_none line front word parts one none before other cut =
    let same = one_last front (before ++ codes " key") word other one cut.one_word (sym parts ∙ cut.parts ∙ key_word before other) in
    none before same.front

pub cut_nowhere : (line : List ℕ) → HasNoSpace line → (before other : List ℕ) → IsCutAtKey line before other → ⊥
cut_nowhere line none before other cut = no_last line (before ++ codes " key") other none (cut.parts ∙ key_word before other)

-- one cut of a line
pub cut_once : (line a b x y : List ℕ) → IsCutAtKey line a x → IsCutAtKey line b y → OneCut a b x y
cut_once line a b x y first second =
    let same = one_last (a ++ codes " key") (b ++ codes " key") x y first.one_word second.one_word
    (sym (key_word a x) ∙ sym first.parts ∙ second.parts ∙ key_word b y) in
    record { front = append_cancel_right a b (codes " key") same.front; rest = same.rest }

-- ---- keys

key_byte : (b : ℕ) → is_key_byte b ≡ true → b ≢ 32
unfolding is_key_byte
key_byte b is e = let no : is_key_byte 32 ≡ true = subst (λ (x : ℕ). is_key_byte x ≡ true) e is in cc

pub key_one_word : (key : List ℕ) → IsKey key → HasNoSpace key
key_one_word key is =
    list_any_none (λ (b : ℕ). eqb b 32) key (λ k d lt. ne_eqb _ 32 (key_byte _ (is.letters k d lt)))

-- a commit with a key is cut at its key
pub commit_cut : (schema : SchemaValue) (site : SiteNo) (order : List ℕ) (txn : TxnId) (key : List ℕ) → IsKey key
    → order ≡ commit_text schema site txn key → IsCutAtKey order (command_text schema site (Commit txn)) key
commit_cut schema site order txn key is_key is = record { parts = is; one_word = key_one_word key is_key }

-- ---- what is read

module _ (schema : SchemaValue) (order front word : List ℕ) (cut : IsCutAtKey order front word) where
  front_cut : (site : SiteNo) (txn : TxnId) (key : List ℕ) → IsKey key → order ≡ commit_text schema site txn key
      → OneCut front (command_text schema site (Commit txn)) word key
  front_cut site txn key is_key is =
      cut_once order front (command_text schema site (Commit txn)) word key cut (commit_cut schema site order txn key is_key is)

  -- the last word is no key
  pub no_key : (IsKey word → ⊥) → (site : SiteNo) (txn : TxnId) (key : List ℕ) → IsKey key → order ≡ commit_text schema site txn key → ⊥
  no_key none site txn key is_key is = none (subst IsKey (sym (front_cut site txn key is_key is).rest) is_key)

  -- the front is the text of the commit
  pub front_is : (site : SiteNo) (txn : TxnId) (key : List ℕ) → IsKey key → order ≡ commit_text schema site txn key
      → front ≡ command_text schema site (Commit txn)
  front_is site txn key is_key is = (front_cut site txn key is_key is).front

  pub spells_order : (site : SiteNo) (txn : TxnId) (key : List ℕ) → key ≡ word → front ≡ command_text schema site (Commit txn)
      → order ≡ commit_text schema site txn key
  spells_order site txn key same read =
      cut.parts ∙ ap (λ (l : List ℕ). l ++ (codes " key " ++ word)) read
      ∙ ap (λ (l : List ℕ). command_text schema site (Commit txn) ++ (codes " key " ++ l)) (sym same)

-- no command was read
pub read_none : (schema : SchemaValue) (text : List ℕ) (read : Option (SiteNo × Command)) → read ≡ None
    → ((site : SiteNo) (command : Command) → SiteFits site → CommandFits command → text ≡ command_text schema site command
    → read ≡ Some (site, command)) → (site : SiteNo) (txn : TxnId) → SiteFits site → IdFits txn
    → text ≡ command_text schema site (Commit txn) → ⊥
read_none schema text read none only site txn fits id is =
    let found : read ≡ Some (site, Commit txn) = only site (Commit txn) fits id is in cc

-- the command that was read
pub read_some : (schema : SchemaValue) (text : List ℕ) (read : Option (SiteNo × Command)) (at : SiteNo) (command : Command)
    → read ≡ Some (at, command) → ((site : SiteNo) (command : Command) → SiteFits site → CommandFits command
    → text ≡ command_text schema site command → read ≡ Some (site, command)) → (site : SiteNo) (txn : TxnId) → SiteFits site → IdFits txn
    → text ≡ command_text schema site (Commit txn) → (at ≡ site) × (command ≡ Commit txn)
read_some schema text read at command is only site txn fits id same =
    let pair : (at, command) ≡ (site, Commit txn) = same_Some (at, command) (site, Commit txn) (sym is ∙ only site (Commit txn) fits id same) in
    (ap (λ (p : SiteNo × Command). p.0) pair, ap (λ (p : SiteNo × Command). p.1) pair)

-- the transaction of the commit that was read
pub commit_is : (command : Command) (found txn : TxnId) → command ≡ Commit found → command ≡ Commit txn → found ≡ txn
commit_is command found txn is same = let both : Commit found ≡ Commit txn = sym is ∙ same in cc

pub ends_with : (front before word : List ℕ) → bytes_eq (drop (length front - length word) front) word ≡ true
    → before ≡ take (length front - length word) front → front ≡ before ++ word
ends_with front before word same is =
    let n = length front - length word in
    sym (take-append-drop n front) ∙ ap (λ (l : List ℕ). take n front ++ l) ((bytes_eq-Decides (drop n front) word).0 same)
    ∙ ap (λ (l : List ℕ). l ++ word) (sym is)

-- Where a line tells since when its key is looked for.
use Rattle.std.proofs.Common.{◌≡◌, ◌≢◌, ℕ, List, [], ◌∷◌, ◌++◌, length, codes, Option, None, Some, IfNone, refl, sym, ap, ◌∙◌, subst, append_assoc, arith}
use Rattle.std.specs.Fmt.{decimal}
use Rattle.std.proofs.lemmas.List.{length-append, append_cancel_left, append_cancel_right}
use Rattle.std.proofs.lemmas.List.Elements.{All-append, All-cons}
use Rattle.std.proofs.lemmas.Option.{same_Some}
use Rattle.field_bounds.specs.Schema.{SchemaValue}
use Rattle.field_bounds.specs.declared.id.SiteNo.{SiteNo}
use Rattle.field_bounds.specs.declared.id.TxnId.{TxnId}
use Rattle.entry_text.specs.Spelling.{id_text}
use Rattle.entry_text.specs.Ranges.{IdFits}
use Rattle.entry_text.specs.Reading.{id_of}
use Rattle.entry_text.proofs.WordKinds.{id_read}
use Rattle.caller_keys.specs.Keys.{IsKey}
use Rattle.caller_keys.proofs.Lines.{tested, number_without}
use Rattle.request_lines.specs.Requests.{kept_key_text, with_since, SinceFits, commit_text, AsksCommit, IsBehindSince}
use Rattle.request_lines.specs.Asking.{AsksKey, HasNoSpace, IsCutAtSince}
use Rattle.request_lines.proofs.LastWords.{one_last, no_last, key_one_word}

-- where nothing is found anything holds of it that holds
pub if_none : {T : Type 0} (r : Option T) (P : Type 0) → P → IfNone r P
if_none None P p = p
if_none (Some x) P p = tt

-- the word of a position has no space
pub id_one_word : (t : TxnId) → IdFits t → HasNoSpace (id_text t)
id_one_word t fits =
    tested 32 (id_text t)
    (All-append (λ (b : ℕ). b ≢ 32) (decimal t.epoch) (46 ∷ decimal t.number)
    (number_without 32 t.epoch (omega arith) (omega (arith, fits.0)))
    (All-cons (λ (b : ℕ). b ≢ 32) 46 (decimal t.number) (λ e. omega (arith, e))
    (number_without 32 t.number (omega arith) (omega (arith, fits.1)))))

since_word : (front word : List ℕ) → front ++ (codes " since " ++ word) ≡ (front ++ codes " since") ++ 32 ∷ word
since_word front word = sym (append_assoc front (codes " since") (32 ∷ word))

-- ---- what is told

pub told_at : (line front before word : List ℕ) (since : TxnId) → line ≡ front ++ 32 ∷ word → front ≡ before ++ codes " since"
    → word ≡ id_text since → line ≡ before ++ (codes " since " ++ id_text since)
told_at line front before word since parts is told =
    parts ∙ ap (λ (l : List ℕ). l ++ 32 ∷ word) is ∙ sym (since_word before word)
    ∙ ap (λ (l : List ℕ). before ++ (codes " since " ++ l)) told

-- in front of the position stands another word
pub told_not : (line front word : List ℕ) → line ≡ front ++ 32 ∷ word → HasNoSpace word
    → ((before : List ℕ) → front ≢ before ++ codes " since") → (other : List ℕ) (since : TxnId) → IdFits since
    → line ≢ other ++ (codes " since " ++ id_text since)
told_not line front word parts one none other since fits is =
    let same = one_last front (other ++ codes " since") word (id_text since) one (id_one_word since fits)
    (sym parts ∙ is ∙ since_word other (id_text since)) in
    none other same.front

-- the last word is no position
pub told_none : (line front word : List ℕ) (read : Option TxnId) → line ≡ front ++ 32 ∷ word → HasNoSpace word → read ≡ None
    → ((t : TxnId) → IdFits t → word ≡ id_text t → read ≡ Some t) → (other : List ℕ) (since : TxnId) → IdFits since
    → line ≢ other ++ (codes " since " ++ id_text since)
told_none line front word read parts one none only other since fits is =
    let same = one_last front (other ++ codes " since") word (id_text since) one (id_one_word since fits)
    (sym parts ∙ is ∙ since_word other (id_text since)) in
    let found : read ≡ Some since = only since fits same.rest in
    cc

-- the line has one word
pub told_nowhere : (line : List ℕ) → HasNoSpace line → (other : List ℕ) (since : TxnId) → IdFits since
    → line ≢ other ++ (codes " since " ++ id_text since)
told_nowhere line one other since fits is = no_last line (other ++ codes " since") (id_text since) one (is ∙ since_word other (id_text since))

-- ---- a line that ends in a key, and maybe in a position

same_end : (a b : List ℕ) (x y : ℕ) → a ++ x ∷ [] ≡ b ++ y ∷ [] → x ≡ y
same_end [] [] x y e = cc
same_end [] (b ∷ bs) x y e = absurd (omega (arith, ap length e, length-append bs (y ∷ [])))
same_end (a ∷ as1) [] x y e = absurd (omega (arith, ap length e, length-append as1 (x ∷ [])))
same_end (a ∷ as1) (b ∷ bs) x y e = let tails : as1 ++ x ∷ [] ≡ bs ++ y ∷ [] = cc in same_end as1 bs x y tails

-- a word isn't another
apart : (front before : List ℕ) → front ++ codes " since" ≡ before ++ codes " key" → ⊥
apart front before is =
    let end : 101 ≡ 121 = same_end (front ++ codes " sinc") (before ++ codes " ke") 101 121
    (append_assoc front (codes " sinc") (101 ∷ []) ∙ is ∙ sym (append_assoc before (codes " ke") (121 ∷ []))) in
    omega (arith, end)

-- behind a front of the line stands a key, and maybe a position: it is cut in front of that
pub record EndsInKey (text key : List ℕ) : Type 0 where
  pub is_key : IsKey key
  pub before : List ℕ
  pub parts : text ≡ before ++ (codes " key " ++ key)

front_by : (line front text key : List ℕ) (found since : Option TxnId) → IsCutAtSince line front found → EndsInKey text key
    → SinceFits since → line ≡ with_since text since → front ≡ text
front_by line front text key None None cut ends fits is = sym cut.parts ∙ is
front_by line front text key None (Some since) cut ends fits is = absurd (cut.none refl text since fits is)
front_by line front text key (Some found) None cut ends fits is =
    let same = one_last (front ++ codes " since") (ends.before ++ codes " key") (id_text found) key (id_one_word found cut.fits)
    (key_one_word key ends.is_key)
    (sym (since_word front (id_text found)) ∙ sym cut.parts ∙ is ∙ ends.parts ∙ sym (append_assoc ends.before (codes " key") (32 ∷ key))) in
    absurd (apart front ends.before same.front)
front_by line front text key (Some found) (Some since) cut ends fits is =
    let same = one_last (front ++ codes " since") (text ++ codes " since") (id_text found) (id_text since)
    (id_one_word found cut.fits) (id_one_word since fits)
    (sym (since_word front (id_text found)) ∙ sym cut.parts ∙ is ∙ since_word text (id_text since)) in
    append_cancel_right front text (codes " since") same.front

-- a text tells one position
id_same : (a b : TxnId) → IdFits a → IdFits b → id_text a ≡ id_text b → a ≡ b
id_same a b first second same = same_Some a b (sym (id_read.again a first) ∙ ap id_of same ∙ id_read.again b second)

since_by : (line front text key : List ℕ) (found since : Option TxnId) → IsCutAtSince line front found → EndsInKey text key
    → SinceFits since → line ≡ with_since text since → found ≡ since
since_by line front text key None None cut ends fits is = refl
since_by line front text key None (Some since) cut ends fits is = absurd (cut.none refl text since fits is)
since_by line front text key (Some found) None cut ends fits is =
    let same = one_last (front ++ codes " since") (ends.before ++ codes " key") (id_text found) key (id_one_word found cut.fits)
    (key_one_word key ends.is_key)
    (sym (since_word front (id_text found)) ∙ sym cut.parts ∙ is ∙ ends.parts ∙ sym (append_assoc ends.before (codes " key") (32 ∷ key))) in
    absurd (apart front ends.before same.front)
since_by line front text key (Some found) (Some since) cut ends fits is =
    let same = one_last (front ++ codes " since") (text ++ codes " since") (id_text found) (id_text since)
    (id_one_word found cut.fits) (id_one_word since fits)
    (sym (since_word front (id_text found)) ∙ sym cut.parts ∙ is ∙ since_word text (id_text since)) in
    ap (λ (t : TxnId). Some t) (id_same found since cut.fits fits same.rest)

module _ (line front : List ℕ) (found : Option TxnId) (cut : IsCutAtSince line front found) where
  -- of a commit
  pub order_is : (schema : SchemaValue) (site : SiteNo) (txn : TxnId) (key : List ℕ) (since : Option TxnId)
      → AsksCommit schema site line txn key since → front ≡ commit_text schema site txn key
  order_is schema site txn key since asks =
      front_by line front (commit_text schema site txn key) key found since cut
      (record { is_key = asks.is_key; before = _; parts = refl }) asks.since_fits asks.text

  pub since_is : (schema : SchemaValue) (site : SiteNo) (txn : TxnId) (key : List ℕ) (since : Option TxnId)
      → AsksCommit schema site line txn key since → found ≡ since
  since_is schema site txn key since asks =
      since_by line front (commit_text schema site txn key) key found since cut
      (record { is_key = asks.is_key; before = _; parts = refl }) asks.since_fits asks.text

  -- a transaction that isn't behind the position that was found is none that the line asks to commit
  pub late_for : (at : TxnId) → (IsBehindSince found at → ⊥) → (schema : SchemaValue) (site : SiteNo) (txn : TxnId) (key : List ℕ)
      (since : Option TxnId) → at ≡ txn → AsksCommit schema site line txn key since → ⊥
  late_for at late schema site txn key since same asks =
      late (subst (λ (t : TxnId). IsBehindSince found t) (sym same)
      (subst (λ (s : Option TxnId). IsBehindSince s txn) (sym (since_is schema site txn key since asks)) asks.behind))

  -- of a question
  pub question_is : (key : List ℕ) (since : Option TxnId) → AsksKey line key since → front ≡ kept_key_text key
  question_is key since asks =
      front_by line front (kept_key_text key) key found since cut
      (record { is_key = asks.is_key; before = codes "kept"; parts = refl }) asks.since_fits asks.text

  pub asks_key : (rest key : List ℕ) → front ≡ codes "kept key " ++ rest → key ≡ rest → IsKey key → AsksKey line key found
  asks_key rest key is same is_key = record {
    is_key = is_key;
    since_fits = cut.fits;
    text = cut.parts ∙ ap (λ (l : List ℕ). with_since l found) (is ∙ ap (λ (l : List ℕ). codes "kept key " ++ l) (sym same));
  }

  -- no question
  pub asks_no_key : ((rest : List ℕ) → front ≢ codes "kept key " ++ rest) → (key : List ℕ) (since : Option TxnId) → AsksKey line key since
      → ⊥
  asks_no_key none key since asks = none key (question_is key since asks)

  pub asks_bad_key : (rest : List ℕ) → front ≡ codes "kept key " ++ rest → (IsKey rest → ⊥) → (key : List ℕ) (since : Option TxnId)
      → AsksKey line key since → ⊥
  asks_bad_key rest is none key since asks =
      let same : rest ≡ key = append_cancel_left (codes "kept key ") rest key (sym is ∙ question_is key since asks) in
      none (subst IsKey (sym same) asks.is_key)

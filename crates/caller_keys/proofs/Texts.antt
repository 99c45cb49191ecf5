-- Texts of lines: taken one after another, and cut in one way.
use Rattle.std.proofs.Common.{append_assoc, ◌≡◌, ◌≢◌, ℕ, ◌<◌, List, [], ◌∷◌, ◌++◌, length, flat_map, refl, sym, ap, subst, ◌∙◌, arith}
use Rattle.std.specs.List.{AllByRecursion}
use Rattle.std.proofs.lemmas.List.{append-nil, length-append, flat_map_more}
use Rattle.hex.specs.Hex.{encode_upper}
use Rattle.field_bounds.specs.declared.id.TxnId.{TxnId}
use Rattle.caller_keys.specs.Keys.{KeyNote, IsNote, note_of, note_line, KeyedLine, noted, other, line_text, IsLine, notes_in, records_in, IsKeyed}
use Rattle.caller_keys.specs.Tables.{KeyTableValue, Tells, Splits}
use Rattle.caller_keys.specs.Reading.{IsOneLine, Gone, Takes}
use Rattle.caller_keys.proofs.Lines.{Without, no_cut, one_cut, by_test, tested, body_of, body_without, wide, same_spelled}
use Rattle.caller_keys.proofs.Keyed.{key_again, one_key}

-- ---- lists of lines

flat_push : {A B : Type 0} (f : A → List B) (xs : List A) (x : A) → flat_map f xs ++ f x ≡ flat_map f (xs ++ x ∷ [])
flat_push f xs x = flat_map_more f [] xs x

all_push : (ls : List KeyedLine) (l : KeyedLine) → AllByRecursion IsLine ls → IsLine l → AllByRecursion IsLine (ls ++ l ∷ [])
all_push [] l all is = (is, tt)
all_push (m ∷ ls) l all is = (all.0, all_push ls l all.1 is)

pub all_append : (ls ms : List KeyedLine) → AllByRecursion IsLine ls → AllByRecursion IsLine ms → AllByRecursion IsLine (ls ++ ms)
all_append [] ms all also = also
all_append (l ∷ ls) ms all also = (all.0, all_append ls ms all.1 also)

-- ---- lines taken one after another

pub gone_none : (text : List ℕ) (table : KeyTableValue) → Tells table [] → Gone text text table []
gone_none text table tells = record { lines = []; each = tt; text_is = refl; tells = tells; records_are = refl }

pub gone_more : (text left line behind : List ℕ) (old new : KeyTableValue) (before after : List ℕ) → Gone text left old before
    → left ≡ line ++ 10 ∷ behind → Takes old new before after line → Gone text behind new after
gone_more text left line behind old new before after gone cut takes =
    let here : left ≡ line_text takes.told ++ behind =
    cut ∙ sym (append_assoc line (10 ∷ []) behind) ∙ ap (λ (l : List ℕ). l ++ behind) takes.line_is in
    let moved : flat_map line_text gone.lines ++ (line_text takes.told ++ behind) ≡ flat_map line_text (gone.lines ++ takes.told ∷ []) ++ behind =
    sym (append_assoc (flat_map line_text gone.lines) (line_text takes.told) behind)
    ∙ ap (λ (l : List ℕ). l ++ behind) (flat_push line_text gone.lines takes.told) in
    record {
      lines = gone.lines ++ takes.told ∷ [];
      each = all_push gone.lines takes.told gone.each takes.is_line;
      text_is = gone.text_is ∙ ap (λ (l : List ℕ). flat_map line_text gone.lines ++ l) here ∙ moved;
      tells = subst (λ (ns : List KeyNote). Tells new ns) (flat_push notes_in gone.lines takes.told)
          (takes.tells (flat_map notes_in gone.lines) gone.tells);
      records_are = takes.records_are ∙ ap (λ (l : List ℕ). l ++ records_in takes.told) gone.records_are
          ∙ flat_push records_in gone.lines takes.told;
    }

pub gone_all : (text left : List ℕ) (table : KeyTableValue) (records all : List ℕ) → Gone text left table records → IsOneLine left
    → all ≡ records ++ left → Splits text table all
gone_all text left table records all gone one is = record {
  notes = flat_map notes_in gone.lines;
  keyed = record {
    lines = gone.lines;
    rest = left;
    each = gone.each;
    no_lf = tested 10 left one;
    text_is = gone.text_is;
    notes_are = refl;
    records_are = is ∙ ap (λ (l : List ℕ). l ++ left) gone.records_are;
  };
  tells = gone.tells;
}

pub takes_note : (old new : KeyTableValue) (before line key : List ℕ) (txn : TxnId) → IsNote (note_of key txn)
    → line ++ 10 ∷ [] ≡ note_line (note_of key txn)
    → ((notes : List KeyNote) → Tells old notes → Tells new (notes ++ note_of key txn ∷ [])) → Takes old new before before line
takes_note old new before line key txn is line_is tells = record {
  told = noted (note_of key txn);
  is_line = is;
  line_is = line_is;
  tells = tells;
  records_are = sym (append-nil before);
}

pub takes_other : (table : KeyTableValue) (before after line : List ℕ) → IsOneLine line
    → ((n : KeyNote) → IsNote n → note_line n ≢ line ++ 10 ∷ []) → after ≡ before ++ (line ++ 10 ∷ []) → Takes table table before after line
takes_other table before after line one none is = record {
  told = other line;
  is_line = record { one_line = tested 10 line one; none = none };
  line_is = refl;
  tells = λ notes tells. subst (λ (ns : List KeyNote). Tells table ns) (sym (append-nil notes)) tells;
  records_are = is;
}

-- ---- one text of lines

-- a line without its line feed
abbrev pub body : KeyedLine → List ℕ
body (noted n) = body_of n
body (other bytes) = bytes

pub body_free : (l : KeyedLine) → IsLine l → Without 10 (body l)
body_free (noted n) is = body_without n is
body_free (other bytes) is = by_test 10 bytes is.one_line

same_note : (n m : KeyNote) → IsNote n → IsNote m → body_of n ≡ body_of m → n ≡ m
same_note n m is also same =
    let all = same_spelled n.txn.epoch m.txn.epoch n.txn.number m.txn.number (encode_upper n.key) (encode_upper m.key)
    (wide n.txn.epoch is.epoch) (wide m.txn.epoch also.epoch) (wide n.txn.number is.number) (wide m.txn.number also.number) same in
    let key : n.key ≡ m.key = one_key (encode_upper n.key) n.key m.key (key_again n.key is.key) also.key all.digits in
    ap (λ (k : List ℕ). note_of k n.txn) key
    ∙ ap (λ (e : ℕ). note_of m.key (record { epoch = e; number = n.txn.number })) all.epoch
    ∙ ap (λ (k : ℕ). note_of m.key (record { epoch = m.txn.epoch; number = k })) all.number

same_line : (l m : KeyedLine) → IsLine l → IsLine m → body l ≡ body m → l ≡ m
same_line (noted n) (noted m) is also same = ap noted (same_note n m is also same)
same_line (noted n) (other bytes) is also same = absurd (also.none n is (ap (λ (l : List ℕ). l ++ 10 ∷ []) same))
same_line (other bytes) (noted n) is also same = absurd (is.none n also (ap (λ (l : List ℕ). l ++ 10 ∷ []) (sym same)))
same_line (other bytes) (other more) is also same = ap other same

first_line : (l : KeyedLine) (ls : List KeyedLine) (r : List ℕ)
    → flat_map line_text (l ∷ ls) ++ r ≡ body l ++ 10 ∷ (flat_map line_text ls ++ r)
first_line (noted n) ls r =
    append_assoc (note_line n) (flat_map line_text ls) r ∙ append_assoc (body_of n) (10 ∷ []) (flat_map line_text ls ++ r)
first_line (other bytes) ls r =
    append_assoc (bytes ++ 10 ∷ []) (flat_map line_text ls) r ∙ append_assoc bytes (10 ∷ []) (flat_map line_text ls ++ r)

pub record SameLines (ls ms : List KeyedLine) (r s : List ℕ) : Type 0 where
  pub lines : ls ≡ ms
  pub rest : r ≡ s

one_text : (ls ms : List KeyedLine) (r s : List ℕ) → AllByRecursion IsLine ls → AllByRecursion IsLine ms → Without 10 r → Without 10 s
    → flat_map line_text ls ++ r ≡ flat_map line_text ms ++ s → SameLines ls ms r s
one_text [] [] r s all also p q is = record { lines = refl; rest = is }
one_text [] (m ∷ ms) r s all also p q is = absurd (no_cut 10 r (body m) _ p (is ∙ first_line m ms s))
one_text (l ∷ ls) [] r s all also p q is = absurd (no_cut 10 s (body l) _ q (sym is ∙ first_line l ls r))
one_text (l ∷ ls) (m ∷ ms) r s all also p q is =
    let cut = one_cut 10 (body l) (body m) (flat_map line_text ls ++ r) (flat_map line_text ms ++ s) (body_free l all.0) (body_free m also.0)
    (sym (first_line l ls r) ∙ is ∙ first_line m ms s) in
    let more = one_text ls ms r s all.1 also.1 p q cut.rest in
    let first : l ≡ m = same_line l m all.0 also.0 cut.front in
    record { lines = ap (λ (k : KeyedLine). k ∷ ls) first ∙ ap (λ (ks : List KeyedLine). m ∷ ks) more.lines; rest = more.rest }

pub one_keyed : (text : List ℕ) (ns ms : List KeyNote) (r s : List ℕ) → IsKeyed text ns r → IsKeyed text ms s → (ns ≡ ms) × (r ≡ s)
one_keyed text ns ms r s k j =
    let same = one_text k.lines j.lines k.rest j.rest k.each j.each (by_test 10 k.rest k.no_lf) (by_test 10 j.rest j.no_lf)
    (sym k.text_is ∙ j.text_is) in (
      k.notes_are ∙ ap (flat_map notes_in) same.lines ∙ sym j.notes_are,
      k.records_are ∙ ap (λ (ls : List KeyedLine). flat_map records_in ls ++ k.rest) same.lines
          ∙ ap (λ (l : List ℕ). flat_map records_in j.lines ++ l) same.rest ∙ sym j.records_are,
    )

-- fewer bytes are behind a line
pub shorter : (left line behind : List ℕ) → left ≡ line ++ 10 ∷ behind → length behind < length left
shorter left line behind is =
    let sum = length-append line (10 ∷ behind) in
    let all : length left ≡ length (line ++ 10 ∷ behind) = ap length is in
    omega (arith, sum, all)

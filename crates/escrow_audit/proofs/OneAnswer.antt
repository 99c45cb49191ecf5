-- The answer of an audit is the only one.
use Rattle.std.proofs.Common.{◌≡◌, ℕ, suc, ◌+◌, ◌^◌, ◌<◌, List, [], ◌∷◌, ◌++◌, Result, Ok, length, get_or, inl, inr, refl, sym, ap, ◌∙◌, subst, arith}
use Rattle.std.specs.Prelude.{codes}
use Rattle.std.specs.List.{AllByRecursion}
use Rattle.std.specs.Fmt.{decimal, signed_decimal}
use Rattle.std.proofs.lemmas.Option.{same_Some}
use Rattle.std.proofs.lemmas.Str.Parse.{digit_at}
use Rattle.std.proofs.lemmas.Fmt.{decimal_is_IsNumeral}
use Rattle.field_bounds.specs.Schema.{SchemaValue}
use Rattle.field_bounds.specs.Header.{schema_of}
use Rattle.field_bounds.specs.Limits.{IsSchema}
use Rattle.field_bounds.specs.declared.entry.Entry.{Entry}
use Rattle.field_bounds.specs.declared.fault.SchemaFault.{SchemaFault}
use Rattle.field_bounds.proofs.Alone.{schema_of-limits}
use Rattle.line_words.specs.Words.{words, line}
use Rattle.line_words.proofs.WordLemmas.{IsWord, words-join}
use Rattle.entry_text.specs.Spelling.{entry_words, command_words, reply_words, site_text, field_text, kind_text}
use Rattle.entry_text.specs.Ranges.{EntryFits}
use Rattle.entry_text.specs.Entries.{entry_of}
use Rattle.entry_text.proofs.Entries.{entry_form, entry_says}
use Rattle.central_rules.specs.declared.verdict.Verdict.{Verdict}
use Rattle.central_rules.specs.Verdict.{verdict_of}
use Rattle.script_input.specs.Lines.{script_lines}
use Rattle.escrow_audit.specs.declared.answer.AuditEnd.{AuditEnd}
use Rattle.escrow_audit.specs.declared.answer.AuditEnd.TheVariants as ends
use Rattle.escrow_audit.specs.declared.remark.Remark.{Remark}
use Rattle.escrow_audit.specs.declared.remark.Remark.TheVariants as remarks
use Rattle.escrow_audit.specs.Remarks.{outcome_words, remark_words, RemarkFits, IsRemark}
use Rattle.escrow_audit.specs.Audit.{IsEntry, IsBadEntry, AreEntries, IsFirstBad, verdict_text, end_of, bad_entry_text, IsJudged, IsAudit}
use Rattle.escrow_audit.proofs.Remarks.{remark_form}

head_is : {A : Type 0} (x y : A) (xs ys : List A) → x ∷ xs ≡ y ∷ ys → x ≡ y
head_is x y xs ys e = cc

tail_is : {A : Type 0} (x y : A) (xs ys : List A) → x ∷ xs ≡ y ∷ ys → xs ≡ ys
tail_is x y xs ys e = cc

-- ---- a line is one thing

-- a line is one entry
one_entry : (schema : SchemaValue) → IsSchema schema → (bytes : List ℕ) (entry other : Entry) → IsEntry schema bytes entry
    → IsEntry schema bytes other → entry ≡ other
one_entry schema is bytes entry other a b =
    let says = entry_says schema is bytes (entry_of schema bytes) refl in
    same_Some entry other (sym (says.only entry a.fits a.text) ∙ says.only other b.fits b.text)

-- no number begins with a letter
no_letter : (n : ℕ) (c : ℕ) (w : List ℕ) → n < 2 ^ 64 → 57 < c → decimal n ≡ c ∷ w → ⊥
no_letter n c w small letter e =
    let some : 0 < length (decimal n) = rw e (omega arith) in
    let digit = digit_at (decimal n) 0 (decimal_is_IsNumeral n small).0.1 some in
    let first : get_or (decimal n) 0 0 ≡ c = ap (λ (l : List ℕ). get_or l 0 0) e in
    omega (arith, digit, first, letter)

-- the words of a line of words are those words
cut : (w : List ℕ) (ws : List (List ℕ)) → AllByRecursion IsWord (w ∷ ws) → words (line (w ∷ ws)) ≡ w ∷ ws
cut w ws plain = words-join w ws plain.0 plain.1

first_words : (w v : List ℕ) (ws vs : List (List ℕ)) → AllByRecursion IsWord (w ∷ ws) → AllByRecursion IsWord (v ∷ vs)
    → line (w ∷ ws) ≡ line (v ∷ vs) → w ≡ v
first_words w v ws vs a b e = head_is w v ws vs (sym (cut w ws a) ∙ ap words e ∙ cut v vs b)

-- an entry begins with a number
begins : (schema : SchemaValue) → IsSchema schema → (entry : Entry) → EntryFits entry → (v : List ℕ) (vs : List (List ℕ))
    → AllByRecursion IsWord (v ∷ vs)
    → line (entry_words schema entry) ≡ line (v ∷ vs) → decimal entry.site.0 ≡ v
begins schema is entry fits v vs plain e =
    first_words (decimal entry.site.0) v (command_words schema entry.command ++ codes "->" ∷ reply_words entry.reply) vs
    ((entry_form schema is).plain entry fits) plain e

-- and a remark with a letter
apart : (schema : SchemaValue) → IsSchema schema → (entry : Entry) → EntryFits entry → (r : Remark) → RemarkFits r
    → line (entry_words schema entry) ≡ line (remark_words schema r) → ⊥
apart schema is entry is_fit remarks.BadLine fits e =
    no_letter entry.site.0 98 (codes "ad") (omega (arith, is_fit.0)) (omega arith)
    (begins schema is entry is_fit (codes "bad") (codes "line" ∷ []) ((remark_form schema is).plain remarks.BadLine fits) e)
apart schema is entry is_fit (remarks.NoStatement number) fits e =
    no_letter entry.site.0 100 (codes "eliver") (omega (arith, is_fit.0)) (omega arith)
    (begins schema is entry is_fit (codes "deliver")
    (decimal number ∷ codes "->" ∷ codes "refused" ∷ codes "16" ∷ codes "no" ∷ codes "statement" ∷ [])
    ((remark_form schema is).plain (remarks.NoStatement number) fits) e)
apart schema is entry is_fit (remarks.Level field kind moves) fits e =
    no_letter entry.site.0 108 (codes "evel") (omega (arith, is_fit.0)) (omega arith)
    (begins schema is entry is_fit (codes "level")
    (field_text schema field ∷ kind_text kind ∷ codes "->" ∷ codes "moves" ∷ decimal moves ∷ [])
    ((remark_form schema is).plain (remarks.Level field kind moves) fits) e)
apart schema is entry is_fit (remarks.Reach site field target outcome) fits e =
    no_letter entry.site.0 114 (codes "each") (omega (arith, is_fit.0)) (omega arith)
    (begins schema is entry is_fit (codes "reach")
    (site_text site ∷ field_text schema field ∷ signed_decimal target ∷ codes "->" ∷ outcome_words outcome)
    ((remark_form schema is).plain (remarks.Reach site field target outcome) fits) e)

no_both : (schema : SchemaValue) → IsSchema schema → (bytes : List ℕ) (entry : Entry) → IsEntry schema bytes entry → IsRemark schema bytes
    → ⊥
no_both schema is bytes entry a b = apart schema is entry a.fits b.remark b.fits (sym a.text ∙ b.text)

-- ---- lines have one list of entries

one_list : (schema : SchemaValue) → IsSchema schema → (lines : List (List ℕ)) (entries others : List Entry)
    → AreEntries schema lines entries → AreEntries schema lines others → entries ≡ others
one_list schema is [] entries others a b = a ∙ sym b
one_list schema is (bytes ∷ lines) entries others (inl a) (inl b) = one_list schema is lines entries others a.1 b.1
one_list schema is (bytes ∷ lines) entries others (inl a) (inr b) = absurd (no_both schema is bytes b.0 b.1.1.0 a.0)
one_list schema is (bytes ∷ lines) entries others (inr a) (inl b) = absurd (no_both schema is bytes a.0 a.1.1.0 b.0)
one_list schema is (bytes ∷ lines) entries others (inr a) (inr b) =
    a.1.1.1.1 ∙ ap (λ (e : Entry). e ∷ a.1.0) (one_entry schema is bytes a.0 b.0 a.1.1.0 b.1.1.0)
    ∙ ap (λ (l : List Entry). b.0 ∷ l) (one_list schema is lines a.1.0 b.1.0 a.1.1.1.0 b.1.1.1.0) ∙ sym b.1.1.1.1

ok_is : (r : Result SchemaValue SchemaFault) (s t : SchemaValue) → r ≡ Ok s → r ≡ Ok t → s ≡ t
ok_is r s t h g = cc

-- a line among good ones isn't bad
good_is : (schema : SchemaValue) (front : List (List ℕ)) (bytes : List ℕ) (back : List (List ℕ)) (entries : List Entry)
    → AreEntries schema (front ++ bytes ∷ back) entries
    → IsBadEntry schema bytes → ⊥
good_is schema [] bytes back entries (inl a) bad = bad.no_remark a.0
good_is schema [] bytes back entries (inr a) bad = bad.no_entry a.0 a.1.1.0
good_is schema (first ∷ front) bytes back entries (inl a) bad = good_is schema front bytes back entries a.1 bad
good_is schema (first ∷ front) bytes back entries (inr a) bad = good_is schema front bytes back a.1.0 a.1.1.1.0 bad

-- the entries of all lines but the first
later_of : (schema : SchemaValue) (bytes : List ℕ) (lines : List (List ℕ)) (entries : List Entry)
    → AreEntries schema (bytes ∷ lines) entries
    → (later : List Entry) × AreEntries schema lines later
later_of schema bytes lines entries (inl a) = (entries, a.1)
later_of schema bytes lines entries (inr a) = (a.1.0, a.1.1.1.0)

-- two first bad lines stand behind as many good ones
one_front : (schema : SchemaValue) (front fore : List (List ℕ)) (bytes other : List ℕ) (back rest : List (List ℕ))
    (entries others : List Entry)
    → front ++ bytes ∷ back ≡ fore ++ other ∷ rest → AreEntries schema front entries → AreEntries schema fore others
    → IsBadEntry schema bytes → IsBadEntry schema other → length front ≡ length fore
one_front schema [] [] bytes other back rest entries others e a b bad worse = refl
one_front schema [] (first ∷ fore) bytes other back rest entries others e a b bad worse =
    absurd (good_is schema [] first fore others b (subst (IsBadEntry schema) (head_is bytes first back (fore ++ other ∷ rest) e) bad))
one_front schema (first ∷ front) [] bytes other back rest entries others e a b bad worse =
    absurd (good_is schema [] first front entries a
    (subst (IsBadEntry schema) (sym (head_is first other (front ++ bytes ∷ back) rest e)) worse))
one_front schema (first ∷ front) (second ∷ fore) bytes other back rest entries others e a b bad worse =
    let tails = tail_is first second (front ++ bytes ∷ back) (fore ++ other ∷ rest) e in
    let before = later_of schema first front entries a in
    let also = later_of schema second fore others b in
    ap suc (one_front schema front fore bytes other back rest before.0 also.0 tails before.1 also.1 bad worse)

-- ---- the answer

-- a header tells one schema
one_schema : (schema other : SchemaValue) (entries others : List Entry) (header fore : List ℕ) → header ≡ fore
    → schema_of header ≡ Ok schema → schema_of fore ≡ Ok other → schema ≡ other
one_schema schema other entries others header fore e a b = ok_is (schema_of header) schema other a (ap schema_of e ∙ b)

pub one_judged : (lines : List (List ℕ)) (end other : AuditEnd) (text again : List ℕ) → IsJudged lines end text → IsJudged lines other again
    → (end ≡ other) × (text ≡ again)
one_judged lines end other text again a b =
    let both : a.good.header ∷ a.good.behind ≡ b.good.header ∷ b.good.behind = sym a.good.parts ∙ b.good.parts in
    let schemas : a.schema ≡ b.schema =
    one_schema a.schema b.schema a.entries b.entries a.good.header b.good.header (head_is _ _ _ _ both) a.good.start b.good.start in
    let each : AreEntries a.schema a.good.behind b.entries =
    subst (λ (s : SchemaValue). AreEntries s a.good.behind b.entries) (sym schemas)
    (subst (λ (l : List (List ℕ)). AreEntries b.schema l b.entries) (sym (tail_is _ _ _ _ both)) b.good.each) in
    let same : a.entries ≡ b.entries = one_list a.schema
    (schema_of-limits a.good.header a.schema a.good.start) a.good.behind a.entries b.entries a.good.each each in
    let verdicts : verdict_of a.schema a.entries ≡ verdict_of b.schema b.entries =
    ap (λ (s : SchemaValue). verdict_of s a.entries) schemas ∙ ap (verdict_of b.schema) same in (
      a.ended ∙ ap end_of verdicts ∙ sym b.ended,
      a.told ∙ ap (λ (v : Verdict). verdict_text v (length a.entries)) verdicts
          ∙ ap (λ (l : List Entry). verdict_text (verdict_of b.schema b.entries) (length l)) same ∙ sym b.told,
    )

-- good lines have no bad one
judged_or_bad : (lines : List (List ℕ)) (end : AuditEnd) (text : List ℕ) (number : ℕ) → IsJudged lines end text → IsFirstBad lines number
    → ⊥
judged_or_bad lines end text number a b =
    let parts : a.good.header ∷ a.good.behind ≡ b.good.header ∷ (b.good.behind ++ b.line ∷ b.back) =
    sym a.good.parts ∙ b.parts ∙ ap (λ (l : List (List ℕ)). l ++ b.line ∷ b.back) b.good.parts in
    let schemas : a.schema ≡ b.schema =
    one_schema a.schema b.schema a.entries b.entries a.good.header b.good.header (head_is _ _ _ _ parts) a.good.start b.good.start in
    good_is b.schema b.good.behind b.line b.back a.entries
    (subst (λ (s : SchemaValue). AreEntries s (b.good.behind ++ b.line ∷ b.back) a.entries) schemas
    (subst (λ (l : List (List ℕ)). AreEntries a.schema l a.entries) (tail_is _ _ _ _ parts) a.good.each))
    b.bad

one_bad : (lines : List (List ℕ)) (number other : ℕ) → IsFirstBad lines number → IsFirstBad lines other → number ≡ other
one_bad lines number other a b =
    let parts : a.good.header ∷ (a.good.behind ++ a.line ∷ a.back) ≡ b.good.header ∷ (b.good.behind ++ b.line ∷ b.back) =
    sym (a.parts ∙ ap (λ (l : List (List ℕ)). l ++ a.line ∷ a.back) a.good.parts) ∙ b.parts
    ∙ ap (λ (l : List (List ℕ)). l ++ b.line ∷ b.back) b.good.parts in
    let schemas : a.schema ≡ b.schema =
    one_schema a.schema b.schema a.entries b.entries a.good.header b.good.header (head_is _ _ _ _ parts) a.good.start b.good.start in
    let count : length a.good.behind ≡ length b.good.behind =
    one_front a.schema a.good.behind b.good.behind a.line b.line a.back b.back a.entries b.entries (tail_is _ _ _ _ parts) a.good.each
    (subst (λ (s : SchemaValue). AreEntries s b.good.behind b.entries) (sym schemas) b.good.each) a.bad
    (subst (λ (s : SchemaValue). IsBadEntry s b.line) (sym schemas) b.bad) in
    a.place ∙ ap (λ (l : List (List ℕ)). length l + 1) a.good.parts ∙ ap (λ n. suc n + 1) count
    ∙ sym (ap (λ (l : List (List ℕ)). length l + 1) b.good.parts) ∙ sym b.place

pub only_answer : (read : List ℕ) (ended : Type 0) (end other : AuditEnd) (text again : List ℕ) → IsAudit end read ended text
    → IsAudit other read ended again
    → (end ≡ other) × (text ≡ again)
only_answer read ended ends.BadEntry ends.BadEntry text again a b =
    (refl, a.1.1 ∙ ap bad_entry_text (one_bad (script_lines read) a.0 b.0 a.1.0.first b.1.0.first) ∙ sym b.1.1)
only_answer read ended ends.BadEntry ends.Legal text again a b =
    absurd (judged_or_bad (script_lines read) ends.Legal again a.0 b.1 a.1.0.first)
only_answer read ended ends.BadEntry ends.Illegal text again a b =
    absurd (judged_or_bad (script_lines read) ends.Illegal again a.0 b.1 a.1.0.first)
only_answer read ended ends.Legal ends.BadEntry text again a b =
    absurd (judged_or_bad (script_lines read) ends.Legal text b.0 a.1 b.1.0.first)
only_answer read ended ends.Illegal ends.BadEntry text again a b =
    absurd (judged_or_bad (script_lines read) ends.Illegal text b.0 a.1 b.1.0.first)
only_answer read ended ends.Legal ends.Legal text again a b = one_judged (script_lines read) ends.Legal ends.Legal text again a.1 b.1
only_answer read ended ends.Legal ends.Illegal text again a b = one_judged (script_lines read) ends.Legal ends.Illegal text again a.1 b.1
only_answer read ended ends.Illegal ends.Legal text again a b = one_judged (script_lines read) ends.Illegal ends.Legal text again a.1 b.1
only_answer read ended ends.Illegal ends.Illegal text again a b =
    one_judged (script_lines read) ends.Illegal ends.Illegal text again a.1 b.1

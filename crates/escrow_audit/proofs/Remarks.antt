-- Remarks are read as they are spelled.
use Rattle.std.proofs.Common.{◌≡◌, ℕ, List, ◌∷◌, ◌++◌, Option, Some, refl, sym, ap, ◌∙◌}
use Rattle.std.specs.Prelude.{codes, IfSome}
use Rattle.std.specs.List.{AllByRecursion}
use Rattle.field_bounds.specs.Schema.{SchemaValue}
use Rattle.field_bounds.specs.Limits.{IsSchema}
use Rattle.line_words.proofs.Numbers.{some_from}
use Rattle.line_words.proofs.WordLemmas.{IsWord, word_from_test}
use Rattle.line_words.proofs.Forms.{IsRead, IsForm, found, taking, taking_form, word_again, form_again, made_of}
use Rattle.line_words.proofs.WordKinds.{number_read, signed_read, only_read, table_read}
use Rattle.line_words.proofs.Lines.{line_found, line_fits, line_only}
use Rattle.entry_text.proofs.WordKinds.{site_read, kind_read, field_read}
use Rattle.escrow_audit.specs.declared.remark.Reason.{Reason}
use Rattle.escrow_audit.specs.declared.remark.Reason.TheVariants as reasons
use Rattle.escrow_audit.specs.declared.remark.ReachEnd.{ReachEnd}
use Rattle.escrow_audit.specs.declared.remark.ReachEnd.TheVariants as outcomes
use Rattle.escrow_audit.specs.declared.remark.Remark.{Remark}
use Rattle.escrow_audit.specs.declared.remark.Remark.TheVariants as remarks
use Rattle.escrow_audit.specs.declared.remark.RemarkWord.{RemarkWord}
use Rattle.escrow_audit.specs.declared.remark.RemarkWord.TheVariants as openings
use Rattle.escrow_audit.specs.declared.remark.Ending.{Ending}
use Rattle.escrow_audit.specs.declared.remark.Ending.TheVariants as endings
use Rattle.escrow_audit.specs.Remarks.{reason_text, outcome_words, remark_words, remark_text, OutcomeFits, RemarkFits, reason_table, reason_of, opening_table, opening_of, ending_table, ending_of, no_statement_at, level_at, outcome_after, outcome_at, reach_at, remark_after, remark_at, remark_of}

-- ---- single words

reason_again : (r : Reason) → reason_of (reason_text r) ≡ Some r
unfolding reason_of
reason_again reasons.Site = refl
reason_again reasons.Field = refl
reason_again reasons.Down = refl
reason_again reasons.Flight = refl
reason_again reasons.Unstated = refl
reason_again reasons.Tightened = refl
reason_again reasons.Numbers = refl
reason_again reasons.Outside = refl

reason_read : IsRead (λ (r : Reason). Unit {0}) reason_text reason_of
unfolding reason_of
reason_read = table_read reason_text reason_table (refl, (refl, (refl, (refl, (refl, (refl, (refl, (refl, tt)))))))) refl reason_again

abbrev opening_text : RemarkWord → List ℕ
opening_text openings.Bad = codes "bad"
opening_text openings.Deliver = codes "deliver"
opening_text openings.Level = codes "level"
opening_text openings.Reach = codes "reach"

opening_again : (o : RemarkWord) → opening_of (opening_text o) ≡ Some o
unfolding opening_of
opening_again openings.Bad = refl
opening_again openings.Deliver = refl
opening_again openings.Level = refl
opening_again openings.Reach = refl

opening_read : IsRead (λ (o : RemarkWord). Unit {0}) opening_text opening_of
unfolding opening_of
opening_read = table_read opening_text opening_table (refl, (refl, (refl, (refl, tt)))) refl opening_again

abbrev ending_text : Ending → List ℕ
ending_text endings.Steps = codes "steps"
ending_text endings.No = codes "no"

ending_again : (e : Ending) → ending_of (ending_text e) ≡ Some e
unfolding ending_of
ending_again endings.Steps = refl
ending_again endings.No = refl

ending_read : IsRead (λ (e : Ending). Unit {0}) ending_text ending_of
unfolding ending_of
ending_read = table_read ending_text ending_table (refl, (refl, tt)) refl ending_again

-- ---- outcomes

outcome_rest : (ws : List (List ℕ)) (v : ReachEnd) (rest : List (List ℕ)) (ending : Ending) (r : List (List ℕ)) → ws ≡ ending_text ending ∷ r
    → outcome_after ending r ≡ found v rest → OutcomeFits v × (ws ≡ outcome_words v ++ rest)
unfolding outcome_after
outcome_rest ws v rest endings.Steps r w e =
    taking number_read _ r _ e (λ steps r1 f1 w1 e1.
    made_of OutcomeFits outcome_words ws (outcomes.Steps steps) v r1 rest e1 f1 (cc (w, w1)))
outcome_rest ws v rest endings.No r w e =
    taking reason_read _ r _ e (λ reason r1 f1 w1 e1.
    made_of OutcomeFits outcome_words ws (outcomes.Unreached reason) v r1 rest e1 tt (cc (w, w1)))

outcome_takes : (ws : List (List ℕ)) (v : ReachEnd) (rest : List (List ℕ)) → outcome_at ws ≡ found v rest → OutcomeFits v
    × (ws ≡ outcome_words v ++ rest)
unfolding outcome_at
outcome_takes ws v rest e = taking ending_read _ ws _ e (λ ending r f w e1. outcome_rest ws v rest ending r w e1)

outcome_again : (v : ReachEnd) (rest : List (List ℕ)) → OutcomeFits v → outcome_at (outcome_words v ++ rest) ≡ found v rest
unfolding outcome_at outcome_after
outcome_again (outcomes.Steps steps) rest fits = word_again ending_read _ endings.Steps _ tt ∙ word_again number_read _ steps _ fits
outcome_again (outcomes.Unreached reason) rest fits = word_again ending_read _ endings.No _ tt ∙ word_again reason_read _ reason _ tt

outcome_plain : (v : ReachEnd) → OutcomeFits v → AllByRecursion IsWord (outcome_words v)
outcome_plain (outcomes.Steps steps) fits = (word_from_test (codes "steps") refl, (number_read.plain steps fits, tt))
outcome_plain (outcomes.Unreached reason) fits = (word_from_test (codes "no") refl, (reason_read.plain reason tt, tt))

outcome_form : IsForm OutcomeFits outcome_words outcome_at
outcome_form = record { takes = outcome_takes; again = outcome_again; plain = outcome_plain }

-- ---- remarks

made : {ws : List (List ℕ)} (schema : SchemaValue) (b v : Remark) (after rest : List (List ℕ)) → found b after ≡ found v rest → RemarkFits b
    → ws ≡ remark_words schema b ++ after → RemarkFits v × (ws ≡ remark_words schema v ++ rest)
made {ws} schema b v after rest e fits is = made_of RemarkFits (remark_words schema) ws b v after rest e fits is

remark_rest : (schema : SchemaValue) → IsSchema schema → (o : RemarkWord) (ws : List (List ℕ)) (v : Remark) (rest : List (List ℕ))
    → remark_after schema o ws ≡ found v rest → RemarkFits v × (opening_text o ∷ ws ≡ remark_words schema v ++ rest)
unfolding remark_after no_statement_at level_at reach_at
remark_rest schema is openings.Bad ws v rest e =
    taking (only_read (codes "line") refl) _ ws _ e (λ u r1 f1 w1 e1.
    made schema remarks.BadLine v r1 rest e1 tt (cc w1))
remark_rest schema is openings.Deliver ws v rest e =
    taking number_read _ ws _ e (λ number r1 f1 w1 e1.
    taking (only_read (codes "->") refl) _ r1 _ e1 (λ u2 r2 f2 w2 e2.
    taking (only_read (codes "refused") refl) _ r2 _ e2 (λ u3 r3 f3 w3 e3.
    taking (only_read (codes "16") refl) _ r3 _ e3 (λ u4 r4 f4 w4 e4.
    taking (only_read (codes "no") refl) _ r4 _ e4 (λ u5 r5 f5 w5 e5.
    taking (only_read (codes "statement") refl) _ r5 _ e5 (λ u6 r6 f6 w6 e6.
    made schema (remarks.NoStatement number) v r6 rest e6 f1 (cc (w1, w2, w3, w4, w5, w6))))))))
remark_rest schema is openings.Level ws v rest e =
    taking (field_read schema is) _ ws _ e (λ field r1 f1 w1 e1.
    taking kind_read _ r1 _ e1 (λ kind r2 f2 w2 e2.
    taking (only_read (codes "->") refl) _ r2 _ e2 (λ u3 r3 f3 w3 e3.
    taking (only_read (codes "moves") refl) _ r3 _ e3 (λ u4 r4 f4 w4 e4.
    taking number_read _ r4 _ e4 (λ moves r5 f5 w5 e5.
    made schema (remarks.Level field kind moves) v r5 rest e5 (f1, f5) (cc (w1, w2, w3, w4, w5)))))))
remark_rest schema is openings.Reach ws v rest e =
    taking site_read _ ws _ e (λ site r1 f1 w1 e1.
    taking (field_read schema is) _ r1 _ e1 (λ field r2 f2 w2 e2.
    taking signed_read _ r2 _ e2 (λ target r3 f3 w3 e3.
    taking (only_read (codes "->") refl) _ r3 _ e3 (λ u4 r4 f4 w4 e4.
    taking_form outcome_form _ r4 _ e4 (λ outcome r5 f5 w5 e5.
    made schema (remarks.Reach site field target outcome) v r5 rest e5 (f1, f2, f3, f5) (cc (w1, w2, w3, w4, w5)))))))

remark_takes : (schema : SchemaValue) → IsSchema schema → (ws : List (List ℕ)) (v : Remark) (rest : List (List ℕ))
    → remark_at schema ws ≡ found v rest → RemarkFits v × (ws ≡ remark_words schema v ++ rest)
unfolding remark_at
remark_takes schema is ws v rest e =
    taking opening_read _ ws _ e (λ opening r f w e1.
    let t = remark_rest schema is opening r v rest e1 in (t.0, w ∙ t.1))

remark_again : (schema : SchemaValue) → IsSchema schema → (v : Remark) (rest : List (List ℕ)) → RemarkFits v
    → remark_at schema (remark_words schema v ++ rest) ≡ found v rest
unfolding remark_at remark_after no_statement_at level_at reach_at
remark_again schema is remarks.BadLine rest fits =
    word_again opening_read _ openings.Bad _ tt ∙ word_again (only_read (codes "line") refl) _ tt _ tt
remark_again schema is (remarks.NoStatement number) rest fits =
    word_again opening_read _ openings.Deliver _ tt ∙ word_again number_read _ number _ fits
    ∙ word_again (only_read (codes "->") refl) _ tt _ tt ∙ word_again (only_read (codes "refused") refl) _ tt _ tt
    ∙ word_again (only_read (codes "16") refl) _ tt _ tt ∙ word_again (only_read (codes "no") refl) _ tt _ tt
    ∙ word_again (only_read (codes "statement") refl) _ tt _ tt
remark_again schema is (remarks.Level field kind moves) rest fits =
    word_again opening_read _ openings.Level _ tt ∙ word_again (field_read schema is) _ field _ fits.0 ∙ word_again kind_read _ kind _ tt
    ∙ word_again (only_read (codes "->") refl) _ tt _ tt ∙ word_again (only_read (codes "moves") refl) _ tt _ tt
    ∙ word_again number_read _ moves _ fits.1
remark_again schema is (remarks.Reach site field target outcome) rest fits =
    word_again opening_read _ openings.Reach _ tt ∙ word_again site_read _ site _ fits.0
    ∙ word_again (field_read schema is) _ field _ fits.1
    ∙ word_again signed_read _ target _ fits.2 ∙ word_again (only_read (codes "->") refl) _ tt _ tt
    ∙ form_again outcome_form _ outcome rest fits.3

remark_plain : (schema : SchemaValue) → IsSchema schema → (v : Remark) → RemarkFits v → AllByRecursion IsWord (remark_words schema v)
remark_plain schema is remarks.BadLine fits = (word_from_test (codes "bad") refl, (word_from_test (codes "line") refl, tt))
remark_plain schema is (remarks.NoStatement number) fits = (
  word_from_test (codes "deliver") refl,
  (
    number_read.plain number fits,
    (
      word_from_test (codes "->") refl,
      (
        word_from_test (codes "refused") refl,
        (word_from_test (codes "16") refl, (word_from_test (codes "no") refl, (word_from_test (codes "statement") refl, tt))),
      ),
    ),
  ),
)
remark_plain schema is (remarks.Level field kind moves) fits = (
  word_from_test (codes "level") refl,
  (
    (field_read schema is).plain field fits.0,
    (
      kind_read.plain kind tt,
      (
        word_from_test (codes "->") refl,
        (word_from_test (codes "moves") refl, (number_read.plain moves fits.1, tt)),
      ),
    ),
  ),
)
remark_plain schema is (remarks.Reach site field target outcome) fits = (
  word_from_test (codes "reach") refl,
  (
    site_read.plain site fits.0,
    (
      (field_read schema is).plain field fits.1,
      (
        signed_read.plain target fits.2,
        (word_from_test (codes "->") refl, outcome_plain outcome fits.3),
      ),
    ),
  ),
)

pub remark_form : (schema : SchemaValue) → IsSchema schema → IsForm RemarkFits (remark_words schema) (remark_at schema)
remark_form schema is = record { takes = remark_takes schema is; again = remark_again schema is; plain = remark_plain schema is }

-- each has a first word
first_word : (schema : SchemaValue) (v : Remark) → (w : List ℕ) × ((ws : List (List ℕ)) × (remark_words schema v ≡ w ∷ ws))
first_word schema remarks.BadLine = (_, (_, refl))
first_word schema (remarks.NoStatement number) = (_, (_, refl))
first_word schema (remarks.Level field kind moves) = (_, (_, refl))
first_word schema (remarks.Reach site field target outcome) = (_, (_, refl))

remark_only : (schema : SchemaValue) → IsSchema schema → (v : Remark) → RemarkFits v → remark_of schema (remark_text schema v) ≡ Some v
unfolding remark_of
remark_only schema is v fits = let f = first_word schema v in line_only (remark_form schema is) v f.0 f.1.0 f.1.1 fits

-- what the answer of the reader says of the line
pub remark_says : (schema : SchemaValue) → IsSchema schema → (bytes : List ℕ) (r : Option Remark) → r ≡ remark_of schema bytes → record {
  found : IfSome r (λ v. bytes ≡ remark_text schema v);
  fits : IfSome r RemarkFits;
  only : (v : Remark) → RemarkFits v → bytes ≡ remark_text schema v → r ≡ Some v;
}
unfolding remark_of
remark_says schema is bytes r e = record {
  found = some_from r _ (λ v h. line_found (remark_form schema is) bytes v (sym e ∙ h));
  fits = some_from r _ (λ v h. line_fits (remark_form schema is) bytes v (sym e ∙ h));
  only = λ v fits h. e ∙ ap (remark_of schema) h ∙ remark_only schema is v fits;
}

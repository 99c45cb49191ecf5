-- The words of a line, and how it is read by them: a line asks one thing.
use Rattle.std.proofs.Common.{◌≡◌, ◌≢◌, ℕ, ◌^◌, ◌<◌, ◌≤◌, List, [], ◌∷◌, ◌++◌, length, get_or, Option, None, Some, refl, sym, ap, subst, ◌∙◌, append-nil, arith}
use Rattle.std.specs.Prelude.{codes, IfNone, IfSome, option_map}
use Rattle.std.specs.List.{AllByRecursion}
use Rattle.std.specs.Fmt.{decimal, signed_decimal}
use Rattle.std.specs.Str.Parse.{AllDigits}
use Rattle.std.proofs.lemmas.Fmt.{decimal_is_IsNumeral, decimal_nonempty}
use Rattle.std.proofs.lemmas.Str.Parse.{digit_from_value}
use Rattle.std.proofs.lemmas.Option.{same_Some, some_pair_parts}
use Rattle.field_bounds.specs.Schema.{SchemaValue}
use Rattle.field_bounds.specs.Limits.{IsSchema}
use Rattle.field_bounds.specs.declared.id.SiteNo.{SiteNo}
use Rattle.field_bounds.specs.declared.entry.Command.{Command}
use Rattle.line_words.specs.Words.{words, line}
use Rattle.line_words.specs.Reading.{◌>>=◌, only_value}
use Rattle.line_words.proofs.Numbers.{bind_some, some_from}
use Rattle.line_words.proofs.WordLemmas.{IsWord, word_from_test, decimal_word, words-join, join-words, line-append}
use Rattle.line_words.proofs.Forms.{found, taking, word_again, made_of}
use Rattle.line_words.proofs.WordKinds.{all_append, ended_takes, number_read, signed_read}
use Rattle.entry_text.specs.Spelling.{site_text, field_text, kind_text, command_words, command_text}
use Rattle.entry_text.specs.Ranges.{FieldFits}
use Rattle.entry_text.specs.Reading.{table_at}
use Rattle.entry_text.specs.Commands.{command_at}
use Rattle.entry_text.proofs.WordKinds.{site_read, field_read, kind_read}
use Rattle.entry_text.proofs.Tables.{IsRow, IsTable, ◌&◌, table_takes, one_row, two_row, three_row}
use Rattle.entry_text.proofs.Commands.{command_form}
use Rattle.kept_state.specs.declared.luck.Luck.{Luck}
use Rattle.kept_state.specs.declared.luck.Luck.TheVariants.{Fine, Torn}
use Rattle.world_steps.specs.declared.step.WorldStep.{WorldStep}
use Rattle.world_steps.specs.declared.step.WorldStep.TheVariants.{Do, Deliver}
use Rattle.escrow_run.specs.declared.line.Line.{Line}
use Rattle.escrow_run.specs.declared.line.Line.TheVariants.{Step, Level, Reach}
use Rattle.escrow_run.specs.Reach.{AimFits}
use Rattle.escrow_run.specs.Text.{step_text, asked_text, LuckFits, NumbersFit, AskedFits, IsAsked, IsBad, luck_at, luck_table, levelling, reaching, delivery_at, line_table}

-- ---- lists

pub head_is : {A : Type 0} (x y : A) (xs ys : List A) → x ∷ xs ≡ y ∷ ys → x ≡ y
head_is x y xs ys h = cc

pub tail_is : {A : Type 0} (x y : A) (xs ys : List A) → x ∷ xs ≡ y ∷ ys → xs ≡ ys
tail_is x y xs ys h = cc

-- ---- the words of a line

abbrev luck_words : Luck → List (List ℕ)
luck_words Fine = []
luck_words (Torn bytes) = codes "torn" ∷ decimal bytes ∷ []

abbrev first_word : Line → List ℕ
first_word (Step (Do site command luck)) = site_text site
first_word (Step (Deliver k luck)) = codes "deliver"
first_word (Level level) = codes "level"
first_word (Reach aim) = codes "reach"

abbrev words_behind : SchemaValue → Line → List (List ℕ)
words_behind schema (Step (Do site command luck)) = command_words schema command ++ luck_words luck
words_behind schema (Step (Deliver k luck)) = decimal k ∷ luck_words luck
words_behind schema (Level level) = field_text schema level.field ∷ kind_text level.kind ∷ []
words_behind schema (Reach aim) = site_text aim.site ∷ field_text schema aim.field ∷ signed_decimal aim.target ∷ []

abbrev asked_words : SchemaValue → Line → List (List ℕ)
asked_words schema asked = first_word asked ∷ words_behind schema asked

spelled : (schema : SchemaValue) (asked : Line) → asked_text schema asked ≡ line (asked_words schema asked)
spelled schema (Step (Do site command Fine)) = append-nil (command_text schema site command)
    ∙ ap line (sym (append-nil (site_text site ∷ command_words schema command)))
spelled schema (Step (Do site command (Torn bytes))) = sym
    (line-append (site_text site) (command_words schema command) (codes "torn") (decimal bytes ∷ []))
spelled schema (Step (Deliver k Fine)) = append-nil (codes "deliver " ++ decimal k)
spelled schema (Step (Deliver k (Torn bytes))) = sym (line-append (codes "deliver") (decimal k ∷ []) (codes "torn") (decimal bytes ∷ []))
spelled schema (Level level) = refl
spelled schema (Reach aim) = refl

-- each word of it can be read again
abbrev IsReadable : Line → Type 0
IsReadable (Step step) = NumbersFit step
IsReadable (Level level) = FieldFits level.field
IsReadable (Reach aim) = AimFits aim

pub readable : (schema : SchemaValue) → IsSchema schema → (line : List ℕ) (asked : Line) → IsAsked schema line asked → IsReadable asked
readable schema is line (Step step) a = a.numbers
readable schema is line (Level level) a = omega (arith, is.few_fields, a.fits)
readable schema is line (Reach aim) a = a.numbers

fits : (asked : Line) → IsReadable asked → AskedFits asked
fits (Step step) f = f
fits (Level level) f = tt
fits (Reach aim) f = f

luck_plain : (luck : Luck) → LuckFits luck → AllByRecursion IsWord (luck_words luck)
luck_plain Fine f = tt
luck_plain (Torn bytes) f = (word_from_test (codes "torn") refl, (decimal_word bytes f, tt))

plain : (schema : SchemaValue) → IsSchema schema → (asked : Line) → IsReadable asked → AllByRecursion IsWord (asked_words schema asked)
plain schema is (Step (Do site command luck)) f =
    let all = (command_form schema is).plain (site, command) (f.0, f.1) in
    (all.0, all_append (command_words schema command) (luck_words luck) all.1 (luck_plain luck f.2))
plain schema is (Step (Deliver k luck)) f = word_from_test (codes "deliver") refl & decimal_word k f.0 & luck_plain luck f.1
plain schema is (Level level) f =
    word_from_test (codes "level") refl & (field_read schema is).plain level.field f & kind_read.plain level.kind tt & tt
plain schema is (Reach aim) f =
    word_from_test (codes "reach") refl & site_read.plain aim.site f.0 & (field_read schema is).plain aim.field f.1
    & signed_read.plain aim.target f.2 & tt

cut : (schema : SchemaValue) → IsSchema schema → (asked : Line) → IsReadable asked
    → words (asked_text schema asked) ≡ asked_words schema asked
cut schema is asked f =
    let all = plain schema is asked f in
    ap words (spelled schema asked) ∙ words-join (first_word asked) (words_behind schema asked) all.0 all.1

-- ---- its first byte

number_head : (w : List ℕ) (ws : List (List ℕ)) → AllDigits 10 w → 0 < length w → get_or (line (w ∷ ws)) 0 0 ≤ 57
number_head [] ws all some = absurd (omega arith)
number_head (b ∷ w) [] all some = (digit_from_value b all.0).1
number_head (b ∷ w) (v ∷ ws) all some = (digit_from_value b all.0).1

-- a command's line begins with a digit
pub command_head : (schema : SchemaValue) (site : SiteNo) (command : Command) (luck : Luck) → NumbersFit (Do site command luck)
    → get_or (step_text schema (Do site command luck)) 0 0 ≤ 57
command_head schema site command luck f =
    let small : site.0 < 2 ^ 64 = omega (arith, f.0) in
    subst (λ (l : List ℕ). get_or l 0 0 ≤ 57) (sym (spelled schema (Step (Do site command luck))))
    (number_head (site_text site) (command_words schema command ++ luck_words luck) (decimal_is_IsNumeral site.0 small).0.1
    (decimal_nonempty site.0 small))

-- ---- a line that begins with a name

luck_takes : (ws : List (List ℕ)) (luck : Luck) (rest : List (List ℕ)) → luck_at ws ≡ found luck rest
    → LuckFits luck × (ws ≡ luck_words luck ++ rest)
unfolding table_at
luck_takes [] luck rest e = made_of LuckFits luck_words [] Fine luck [] rest e tt refl
luck_takes (w ∷ ws) luck rest e =
    table_takes LuckFits luck_words luck_table (one_row _ _ number_read Torn (λ n f. (f, refl)) & tt) (w ∷ ws) luck rest e

luck_again : (luck : Luck) → LuckFits luck → luck_at (luck_words luck) ≡ found luck []
luck_again Fine f = refl
luck_again (Torn n) f = word_again number_read _ n [] f

abbrev delivered : ℕ → Luck × List (List ℕ) → Option (Line × List (List ℕ))
delivered k luck = Some (Step (Deliver k luck.0), luck.1)

delivery_row : (schema : SchemaValue) → IsRow IsReadable (asked_words schema) (codes "deliver") delivery_at
delivery_row schema ws v rest e =
    taking number_read _ ws _ e (λ k r1 f1 w1 e1.
    let b = bind_some (luck_at r1) (delivered k) (v, rest) e1 in
    let t = luck_takes r1 b.0.0 b.0.1 b.1 in
    made_of IsReadable (asked_words schema) _ (Step (Deliver k b.0.0)) v b.0.1 rest b.2 (f1, t.0) (cc (w1, t.1)))

line_rows : (schema : SchemaValue) → IsSchema schema → IsTable IsReadable (asked_words schema) (line_table schema)
line_rows schema is =
    delivery_row schema
    & two_row IsReadable (asked_words schema) (field_read schema is) kind_read levelling (λ field kind f g. (f, refl))
    & three_row IsReadable (asked_words schema) site_read (field_read schema is) signed_read reaching (λ site field target f g h. ((f, g, h), refl))
    & tt

named_again : (schema : SchemaValue) → IsSchema schema → (asked : Line) → IsReadable asked → 57 < get_or (asked_text schema asked) 0 0
    → table_at (line_table schema) (asked_words schema asked) ≡ found asked []
unfolding table_at
named_again schema is (Step (Do site command luck)) f above = absurd (omega (arith, command_head schema site command luck f))
named_again schema is (Step (Deliver k luck)) f above =
    word_again number_read _ k _ f.0 ∙ ap (λ (o : Option (Luck × List (List ℕ))). o >>= delivered k) (luck_again luck f.1)
named_again schema is (Level level) f above =
    word_again (field_read schema is) _ level.field _ f ∙ word_again kind_read _ level.kind _ tt
named_again schema is (Reach aim) f above =
    word_again site_read _ aim.site _ f.0 ∙ word_again (field_read schema is) _ aim.field _ f.1
    ∙ word_again signed_read _ aim.target _ f.2

-- What a line asks by a name.
abbrev pub named_of : SchemaValue → List ℕ → Option Line
named_of schema bytes = table_at (line_table schema) (words bytes) >>= only_value

named_found : (schema : SchemaValue) → IsSchema schema → (bytes : List ℕ) (asked : Line) → named_of schema bytes ≡ Some asked
    → (bytes ≡ asked_text schema asked) × AskedFits asked
named_found schema is bytes asked e =
    let b = bind_some (table_at (line_table schema) (words bytes)) only_value asked e in
    let t = table_takes IsReadable (asked_words schema) (line_table schema) (line_rows schema is) (words bytes) asked []
    (b.1 ∙ ended_takes b.0 asked b.2) in (
      sym (join-words bytes) ∙ ap line (t.1 ∙ append-nil (asked_words schema asked)) ∙ sym (spelled schema asked),
      fits asked t.0,
    )

named_only : (schema : SchemaValue) → IsSchema schema → (asked : Line) → IsReadable asked → 57 < get_or (asked_text schema asked) 0 0
    → named_of schema (asked_text schema asked) ≡ Some asked
named_only schema is asked f above =
    ap (λ (ws : List (List ℕ)). table_at (line_table schema) ws >>= only_value) (cut schema is asked f)
    ∙ ap (λ (o : Option (Line × List (List ℕ))). o >>= only_value) (named_again schema is asked f above)

-- what the answer of the reader says of the line
pub named_says : (schema : SchemaValue) → IsSchema schema → (bytes : List ℕ) (r : Option Line) → r ≡ named_of schema bytes → record {
  found : IfSome r (λ asked. (bytes ≡ asked_text schema asked) × AskedFits asked);
  only : (asked : Line) → IsAsked schema bytes asked → 57 < get_or bytes 0 0 → r ≡ Some asked;
}
named_says schema is bytes r e = record {
  found = some_from r _ (λ asked h. named_found schema is bytes asked (sym e ∙ h));
  only = λ asked a above.
      e ∙ ap (named_of schema) a.text ∙ named_only schema is asked (readable schema is bytes asked a)
      (subst (λ (l : List ℕ). 57 < get_or l 0 0) a.text above);
}

pub one_named : (schema : SchemaValue) → IsSchema schema → (a b : Line) → IsReadable a → IsReadable b
    → 57 < get_or (asked_text schema a) 0 0 → asked_text schema a ≡ asked_text schema b → a ≡ b
one_named schema is a b f g above e =
    same_Some a b (sym (named_only schema is a f above) ∙ ap (named_of schema) e
    ∙ named_only schema is b g (subst (λ (l : List ℕ). 57 < get_or l 0 0) e above))

-- ---- a line is of one step

one_command : (schema : SchemaValue) → IsSchema schema → (s t : SiteNo) (c d : Command) (luck other : Luck) → NumbersFit (Do s c luck)
    → NumbersFit (Do t d other)
    → asked_words schema (Step (Do s c luck)) ≡ asked_words schema (Step (Do t d other)) → Do s c luck ≡ Do t d other
one_command schema is s t c d luck other f g e =
    let form = command_form schema is in
    let both = some_pair_parts (s, c) (t, d) (luck_words luck) (luck_words other)
    (sym (form.again (s, c) (luck_words luck) (f.0, f.1)) ∙ ap (command_at schema) e ∙ form.again (t, d) (luck_words other) (g.0, g.1)) in
    let lucks = some_pair_parts luck other [] [] (sym (luck_again luck f.2) ∙ ap luck_at both.1 ∙ luck_again other g.2) in
    ap (λ (x : SiteNo × Command). Do x.0 x.1 luck) both.0 ∙ ap (Do t d) lucks.0

pub one_step : (schema : SchemaValue) → IsSchema schema → (a b : WorldStep) → NumbersFit a → NumbersFit b
    → step_text schema a ≡ step_text schema b → a ≡ b
one_step schema is (Do s c luck) (Do t d other) f g e =
    one_command schema is s t c d luck other f g
    (sym (cut schema is (Step (Do s c luck)) f) ∙ ap words e ∙ cut schema is (Step (Do t d other)) g)
one_step schema is (Do s c luck) (Deliver k other) f g e =
    let same : get_or (step_text schema (Do s c luck)) 0 0 ≡ 100 = ap (λ (l : List ℕ). get_or l 0 0) e in
    absurd (omega (arith, same, command_head schema s c luck f))
one_step schema is (Deliver k luck) (Do t d other) f g e =
    let same : 100 ≡ get_or (step_text schema (Do t d other)) 0 0 = ap (λ (l : List ℕ). get_or l 0 0) e in
    absurd (omega (arith, same, command_head schema t d other g))
one_step schema is (Deliver k luck) (Deliver n other) f g e =
    let above : 57 < 100 = omega arith in
    let same = one_named schema is (Step (Deliver k luck)) (Step (Deliver n other)) f g above e in cc

-- ---- what a line asks that begins with no name

pub digit_only : (schema : SchemaValue) → IsSchema schema → (line : List ℕ) (r : Option WorldStep) → get_or line 0 0 ≤ 57
    → IfSome r (λ step. (line ≡ step_text schema step) × NumbersFit step)
    → IfNone r ((site : SiteNo) (command : Command) (luck : Luck) → NumbersFit (Do site command luck)
    → line ≢ step_text schema (Do site command luck))
    → (asked : Line) → IsAsked schema line asked → option_map Step r ≡ Some asked
digit_only schema is line (Some step) low f none (Step other) a =
    ap (λ (x : WorldStep). Some (Step x)) (one_step schema is step other f.1 a.numbers (sym f.0 ∙ a.text))
digit_only schema is line None low f none (Step (Do site command luck)) a = absurd (none site command luck a.numbers a.text)
digit_only schema is line None low f none (Step (Deliver k luck)) a =
    let head : get_or line 0 0 ≡ 100 = ap (λ (l : List ℕ). get_or l 0 0) a.text in absurd (omega (arith, head, low))
digit_only schema is line r low f none (Level level) a =
    let head : get_or line 0 0 ≡ 108 = ap (λ (l : List ℕ). get_or l 0 0) a.text in absurd (omega (arith, head, low))
digit_only schema is line r low f none (Reach aim) a =
    let head : get_or line 0 0 ≡ 114 = ap (λ (l : List ℕ). get_or l 0 0) a.text in absurd (omega (arith, head, low))

-- a line that asks nothing of any kind is bad
pub bad_from : (schema other : SchemaValue) (line : List ℕ) → other ≡ schema → IsSchema schema
    → (IsSchema other → (asked : Line) → IsAsked other line asked → ⊥) → IsBad schema line
bad_from schema other line same is none =
    let all : (asked : Line) → IsAsked schema line asked → ⊥ = subst (λ (s : SchemaValue). (asked : Line) → IsAsked s line asked → ⊥) same
    (none (subst IsSchema (sym same) is)) in (
      (λ step a. all (Step step) a),
      (λ field kind a. all (levelling field kind) a),
      (λ aim a. all (Reach aim) a),
    )

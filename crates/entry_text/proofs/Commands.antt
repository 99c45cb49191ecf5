-- Commands are read as they are spelled.
use Rattle.std.proofs.Common.{◌≡◌, ◌<◌, ℕ, List, length, arith, [], ◌∷◌, ◌++◌, Option, Some, refl, sym, ap, ◌∙◌}
use Rattle.std.specs.Prelude.{codes, IfSome}
use Rattle.std.specs.List.{AllByRecursion}
use Rattle.std.proofs.lemmas.List.{append-nil}
use Rattle.field_bounds.specs.declared.id.SiteNo.{SiteNo}
use Rattle.field_bounds.specs.declared.entry.Command.{Command}
use Rattle.field_bounds.specs.declared.entry.Command.TheVariants.{Begin, Escrow, Commit, Abort, Give, Restate, Spare, Tighten, Accept, Read, Share, Restart}
use Rattle.field_bounds.specs.Schema.{SchemaValue}
use Rattle.field_bounds.specs.Limits.{IsSchema}
use Rattle.line_words.proofs.Numbers.{some_from}
use Rattle.line_words.proofs.WordLemmas.{IsWord, word_from_test}
use Rattle.line_words.proofs.Forms.{IsForm, found, taking, word_again, taking_form, form_again, made_of}
use Rattle.line_words.proofs.WordKinds.{number_read, signed_read}
use Rattle.line_words.proofs.Lines.{line_found, line_fits, line_only}
use Rattle.entry_text.specs.Spelling.{command_words, command_text, site_text}
use Rattle.entry_text.specs.Ranges.{CommandFits, SiteFits}
use Rattle.entry_text.specs.Reading.{table_at}
use Rattle.entry_text.specs.Commands.{accept, command_table, command_at, command_of}
use Rattle.entry_text.proofs.WordKinds.{site_read, id_read, kind_read, field_read}
use Rattle.entry_text.proofs.Tables.{IsTable, ◌&◌, table_takes, phrase_row, one_row, three_row, four_row, five_row}

-- ---- from the name on

command_rows : (schema : SchemaValue) → IsSchema schema → IsTable CommandFits (command_words schema) (command_table schema)
command_rows schema is =
    phrase_row _ _ Begin (codes "begin") [] refl tt refl
    & three_row _ _ id_read (field_read schema is) signed_read Escrow (λ txn field change f g h. ((f, g, h), refl))
    & one_row _ _ id_read Commit (λ txn f. (f, refl))
    & one_row _ _ id_read Abort (λ txn f. (f, refl))
    & four_row _ _ site_read (field_read schema is) kind_read number_read Give (λ to field kind amount f g h i. ((f, g, i), refl))
    & three_row _ _ site_read (field_read schema is) kind_read Restate (λ to field kind f g h. ((f, g), refl))
    & four_row _ _ site_read (field_read schema is) kind_read number_read Spare (λ to field kind want f g h i. ((f, g, i), refl))
    & five_row _ _ site_read site_read (field_read schema is) kind_read number_read accept
    (λ from to field kind total f g h i j. ((f, g, h, j), refl))
    & three_row _ _ (field_read schema is) kind_read number_read Tighten (λ field kind amount f g h. ((f, h), refl))
    & one_row _ _ (field_read schema is) Read (λ field f. (f, refl))
    & one_row _ _ (field_read schema is) Share (λ field f. (f, refl))
    & phrase_row _ _ Restart (codes "restart") [] refl tt refl
    & tt

-- the words of a command give it again
named_again : (schema : SchemaValue) → IsSchema schema → (c : Command) (rest : List (List ℕ)) → CommandFits c
    → table_at (command_table schema) (command_words schema c ++ rest) ≡ found c rest
unfolding table_at
named_again schema is Begin rest fits = refl
named_again schema is (Escrow txn field change) rest fits =
    word_again id_read _ txn _ fits.0 ∙ word_again (field_read schema is) _ field _ fits.1 ∙ word_again signed_read _ change rest fits.2
named_again schema is (Commit txn) rest fits = word_again id_read _ txn rest fits
named_again schema is (Abort txn) rest fits = word_again id_read _ txn rest fits
named_again schema is (Give to field kind amount) rest fits =
    word_again site_read _ to _ fits.0 ∙ word_again (field_read schema is) _ field _ fits.1 ∙ word_again kind_read _ kind _ tt
    ∙ word_again number_read _ amount rest fits.2
named_again schema is (Restate to field kind) rest fits =
    word_again site_read _ to _ fits.0 ∙ word_again (field_read schema is) _ field _ fits.1 ∙ word_again kind_read _ kind rest tt
named_again schema is (Spare to field kind want) rest fits =
    word_again site_read _ to _ fits.0 ∙ word_again (field_read schema is) _ field _ fits.1 ∙ word_again kind_read _ kind _ tt
    ∙ word_again number_read _ want rest fits.2
named_again schema is (Tighten field kind amount) rest fits =
    word_again (field_read schema is) _ field _ fits.0 ∙ word_again kind_read _ kind _ tt ∙ word_again number_read _ amount rest fits.1
named_again schema is (Accept s) rest fits =
    word_again site_read _ s.from _ fits.0 ∙ word_again site_read _ s.to _ fits.1 ∙ word_again (field_read schema is) _ s.field _ fits.2
    ∙ word_again kind_read _ s.kind _ tt ∙ word_again number_read _ s.total rest fits.3
named_again schema is (Read field) rest fits = word_again (field_read schema is) _ field rest fits
named_again schema is (Share field) rest fits = word_again (field_read schema is) _ field rest fits
named_again schema is Restart rest fits = refl

named_plain : (schema : SchemaValue) → IsSchema schema → (c : Command) → CommandFits c → AllByRecursion IsWord (command_words schema c)
named_plain schema is Begin fits = word_from_test (codes "begin") refl & tt
named_plain schema is (Escrow txn field change) fits =
    word_from_test (codes "escrow") refl & id_read.plain txn fits.0 & (field_read schema is).plain field fits.1
    & signed_read.plain change fits.2 & tt
named_plain schema is (Commit txn) fits = word_from_test (codes "commit") refl & id_read.plain txn fits & tt
named_plain schema is (Abort txn) fits = word_from_test (codes "abort") refl & id_read.plain txn fits & tt
named_plain schema is (Give to field kind amount) fits =
    word_from_test (codes "give") refl & site_read.plain to fits.0 & (field_read schema is).plain field fits.1
    & kind_read.plain kind tt & number_read.plain amount fits.2 & tt
named_plain schema is (Restate to field kind) fits =
    word_from_test (codes "restate") refl & site_read.plain to fits.0 & (field_read schema is).plain field fits.1
    & kind_read.plain kind tt & tt
named_plain schema is (Spare to field kind want) fits =
    word_from_test (codes "spare") refl & site_read.plain to fits.0 & (field_read schema is).plain field fits.1
    & kind_read.plain kind tt & number_read.plain want fits.2 & tt
named_plain schema is (Tighten field kind amount) fits =
    word_from_test (codes "tighten") refl & (field_read schema is).plain field fits.0 & kind_read.plain kind tt
    & number_read.plain amount fits.1 & tt
named_plain schema is (Accept s) fits =
    word_from_test (codes "accept") refl & site_read.plain s.from fits.0 & site_read.plain s.to fits.1
    & (field_read schema is).plain s.field fits.2 & kind_read.plain s.kind tt & number_read.plain s.total fits.3 & tt
named_plain schema is (Read field) fits = word_from_test (codes "read") refl & (field_read schema is).plain field fits & tt
named_plain schema is (Share field) fits = word_from_test (codes "share") refl & (field_read schema is).plain field fits & tt
named_plain schema is Restart fits = word_from_test (codes "restart") refl & tt

named_form : (schema : SchemaValue) → IsSchema schema → IsForm CommandFits (command_words schema) (table_at (command_table schema))
named_form schema is = record {
  takes = table_takes CommandFits (command_words schema) (command_table schema) (command_rows schema is);
  again = named_again schema is;
  plain = named_plain schema is;
}

-- ---- a whole command

abbrev pub site_command : SchemaValue → SiteNo × Command → List (List ℕ)
site_command schema x = site_text x.0 ∷ command_words schema x.1

abbrev pub SiteCommandFits : SiteNo × Command → Type 0
SiteCommandFits x = SiteFits x.0 × CommandFits x.1

command_takes : (schema : SchemaValue) → IsSchema schema → (ws : List (List ℕ)) (x : SiteNo × Command) (rest : List (List ℕ))
    → command_at schema ws ≡ found x rest → SiteCommandFits x × (ws ≡ site_command schema x ++ rest)
unfolding command_at
command_takes schema is ws x rest e =
    taking site_read _ ws _ e (λ site r1 f1 w1 e1.
    taking_form (named_form schema is) _ r1 _ e1 (λ c r2 f2 w2 e2.
    made_of SiteCommandFits (site_command schema) ws (site, c) x r2 rest e2 (f1, f2) (cc (w1, w2))))

command_again : (schema : SchemaValue) → IsSchema schema → (x : SiteNo × Command) (rest : List (List ℕ)) → SiteCommandFits x
    → command_at schema (site_command schema x ++ rest) ≡ found x rest
unfolding command_at
command_again schema is x rest fits = word_again site_read _ x.0 _ fits.0 ∙ form_again (named_form schema is) _ x.1 rest fits.1

pub command_form : (schema : SchemaValue) → IsSchema schema → IsForm SiteCommandFits (site_command schema) (command_at schema)
command_form schema is = record {
  takes = command_takes schema is;
  again = command_again schema is;
  plain = λ x fits. (site_read.plain x.0 fits.0, named_plain schema is x.1 fits.1);
}

pub command_only : (schema : SchemaValue) → IsSchema schema → (x : SiteNo × Command) → SiteFits x.0 → CommandFits x.1
    → command_of schema (command_text schema x.0 x.1) ≡ Some x
unfolding command_of
command_only schema is x s c = line_only (command_form schema is) x (site_text x.0) (command_words schema x.1) refl (s, c)

-- what the answer of the reader says of the line
pub command_says : (schema : SchemaValue) → IsSchema schema → (bytes : List ℕ) (r : Option (SiteNo × Command)) → r ≡ command_of schema bytes
    → record {
      found : IfSome r (λ x. bytes ≡ command_text schema x.0 x.1);
      fits : IfSome r (λ x. SiteFits x.0 × CommandFits x.1);
      only : (site : SiteNo) (command : Command) → SiteFits site → CommandFits command → bytes ≡ command_text schema site command
          → r ≡ Some (site, command);
    }
unfolding command_of
command_says schema is bytes r e = record {
  found = some_from r _ (λ x h. line_found (command_form schema is) bytes x (sym e ∙ h));
  fits = some_from r _ (λ x h. line_fits (command_form schema is) bytes x (sym e ∙ h));
  only = λ site command s c h. e ∙ ap (command_of schema) h ∙ command_only schema is (site, command) s c;
}

-- a line that is the text of a command spells it
pub command_spelled : (schema : SchemaValue) → IsSchema schema → (bytes : List ℕ) (site : SiteNo) (command : Command) (rest : List ℕ)
    → SiteFits site × CommandFits command → bytes ≡ command_text schema site command ++ rest → length rest < 1
    → Some (site, command) ≡ command_of schema bytes
command_spelled schema is bytes site command [] fits cut none =
    let whole : bytes ≡ command_text schema site command =
    cut ∙ append-nil (command_text schema site command) in
    sym (ap (command_of schema) whole ∙ command_only schema is (site, command) fits.0 fits.1)
command_spelled schema is bytes site command (b ∷ rest) fits cut none = absurd (omega arith)

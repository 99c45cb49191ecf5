-- Entries are read as they are spelled.
use Rattle.std.proofs.Common.{append_assoc, ◌≡◌, ℕ, List, ◌∷◌, ◌++◌, Option, Some, refl, sym, ap, ◌∙◌}
use Rattle.std.specs.Prelude.{codes, IfSome}
use Rattle.std.specs.List.{AllByRecursion}
use Rattle.field_bounds.specs.declared.entry.Entry.{Entry}
use Rattle.field_bounds.specs.declared.entry.Reply.{Reply}
use Rattle.field_bounds.specs.declared.entry.Reply.TheVariants.{Begun, Granted, Committed, Aborted, Given, Stated, Spared, Tightened, Accepted, Between, Shares, Restarted, Unsure, StillDown, Refused}
use Rattle.field_bounds.specs.Schema.{SchemaValue}
use Rattle.field_bounds.specs.Limits.{IsSchema}
use Rattle.line_words.specs.Words.{line}
use Rattle.line_words.proofs.Numbers.{some_from}
use Rattle.line_words.proofs.WordLemmas.{IsWord, word_from_test, line-append}
use Rattle.line_words.proofs.Forms.{IsForm, found, taking, word_again, taking_form, form_again, made_of}
use Rattle.line_words.proofs.WordKinds.{only_read, all_append}
use Rattle.line_words.proofs.Lines.{line_found, line_fits, line_only}
use Rattle.entry_text.specs.Spelling.{entry_text, entry_words, command_text, site_text, command_words, reply_words, reply_text}
use Rattle.entry_text.specs.Ranges.{EntryFits}
use Rattle.entry_text.specs.Entries.{entry_at, entry_of}
use Rattle.entry_text.proofs.Commands.{command_form, site_command}
use Rattle.entry_text.proofs.Replies.{reply_form}

entry_takes : (schema : SchemaValue) → IsSchema schema → (ws : List (List ℕ)) (v : Entry) (rest : List (List ℕ))
    → entry_at schema ws ≡ found v rest → EntryFits v × (ws ≡ entry_words schema v ++ rest)
unfolding entry_at
entry_takes schema is ws v rest e =
    taking_form (command_form schema is) _ ws _ e (λ c r1 f1 w1 e1.
    taking (only_read (codes "->") refl) _ r1 _ e1 (λ u r2 f2 w2 e2.
    taking_form reply_form _ r2 _ e2 (λ r r3 f3 w3 e3.
    made_of EntryFits (entry_words schema) ws (record { site = c.0; command = c.1; reply = r }) v r3 rest e3 (f1.0, f1.1, f3)
    (w1 ∙ ap (λ (l : List (List ℕ)). site_command schema c ++ l) (w2 ∙ ap (λ (l : List (List ℕ)). codes "->" ∷ l) w3)
    ∙ sym (append_assoc (site_command schema c) (codes "->" ∷ reply_words r) r3)))))

entry_again : (schema : SchemaValue) → IsSchema schema → (v : Entry) (rest : List (List ℕ)) → EntryFits v
    → entry_at schema (entry_words schema v ++ rest) ≡ found v rest
unfolding entry_at
entry_again schema is v rest fits =
    ap (entry_at schema) (append_assoc (site_command schema (v.site, v.command)) (codes "->" ∷ reply_words v.reply) rest)
    ∙ form_again (command_form schema is) _ (v.site, v.command) _ (fits.0, fits.1)
    ∙ word_again (only_read (codes "->") refl) _ tt _ tt
    ∙ form_again reply_form _ v.reply rest fits.2

entry_plain : (schema : SchemaValue) → IsSchema schema → (v : Entry) → EntryFits v → AllByRecursion IsWord (entry_words schema v)
entry_plain schema is v fits =
    all_append (site_command schema (v.site, v.command)) (codes "->" ∷ reply_words v.reply)
    ((command_form schema is).plain (v.site, v.command) (fits.0, fits.1)) (
      word_from_test (codes "->") refl,
      reply_form.plain v.reply fits.2,
    )

pub entry_form : (schema : SchemaValue) → IsSchema schema → IsForm EntryFits (entry_words schema) (entry_at schema)
entry_form schema is = record { takes = entry_takes schema is; again = entry_again schema is; plain = entry_plain schema is }

entry_only : (schema : SchemaValue) → IsSchema schema → (v : Entry) → EntryFits v → entry_of schema (entry_text schema v) ≡ Some v
unfolding entry_of
entry_only schema is v fits =
    line_only (entry_form schema is) v (site_text v.site) (command_words schema v.command ++ codes "->" ∷ reply_words v.reply) refl fits

-- what the answer of the reader says of the line
pub entry_says : (schema : SchemaValue) → IsSchema schema → (bytes : List ℕ) (r : Option Entry) → r ≡ entry_of schema bytes → record {
  found : IfSome r (λ v. bytes ≡ entry_text schema v);
  fits : IfSome r EntryFits;
  only : (v : Entry) → EntryFits v → bytes ≡ entry_text schema v → r ≡ Some v;
}
unfolding entry_of
entry_says schema is bytes r e = record {
  found = some_from r _ (λ v h. line_found (entry_form schema is) bytes v (sym e ∙ h));
  fits = some_from r _ (λ v h. line_fits (entry_form schema is) bytes v (sym e ∙ h));
  only = λ v fits h. e ∙ ap (entry_of schema) h ∙ entry_only schema is v fits;
}

-- ---- an entry is its command, an arrow and its reply

after_arrow : (reply : Reply) → line (codes "->" ∷ reply_words reply) ≡ codes "-> " ++ reply_text reply
after_arrow (Begun txn) = refl
after_arrow Granted = refl
after_arrow Committed = refl
after_arrow Aborted = refl
after_arrow (Given total) = refl
after_arrow (Stated total) = refl
after_arrow (Spared amount total) = refl
after_arrow (Tightened total) = refl
after_arrow (Accepted gain) = refl
after_arrow (Between lo hi) = refl
after_arrow (Shares lower raise) = refl
after_arrow (Restarted epoch found) = refl
after_arrow Unsure = refl
after_arrow StillDown = refl
after_arrow (Refused refusal) = refl

pub entry_line : (schema : SchemaValue) (e : Entry)
    → command_text schema e.site e.command ++ (codes " -> " ++ reply_text e.reply) ≡ entry_text schema e
entry_line schema e = sym (line-append (site_text e.site) (command_words schema e.command) (codes "->") (reply_words e.reply)
    ∙ ap (λ (l : List ℕ). command_text schema e.site e.command ++ (32 ∷ l)) (after_arrow e.reply))

-- a command, an arrow and a reply, cut one after another, are an entry
pub entry_cut : (schema : SchemaValue) (bytes rest reply : List ℕ) (e : Entry) → bytes ≡ command_text schema e.site e.command ++ rest
    → rest ≡ codes " -> " ++ reply → reply ≡ reply_text e.reply → bytes ≡ entry_text schema e
entry_cut schema bytes rest reply e cut arrow is =
    cut ∙ ap (λ (l : List ℕ). command_text schema e.site e.command ++ l) (arrow ∙ ap (λ (l : List ℕ). codes " -> " ++ l) is)
    ∙ entry_line schema e

-- a line that is the text of an entry spells it
pub entry_spelled : (schema : SchemaValue) → IsSchema schema → (bytes : List ℕ) (v : Entry) → EntryFits v → bytes ≡ entry_text schema v
    → Some v ≡ entry_of schema bytes
entry_spelled schema is bytes v fits whole = sym (ap (entry_of schema) whole ∙ entry_only schema is v fits)

-- Texts are lines: no line feed, and at most 256 bytes.
use Rattle.std.proofs.Common.{◌≡◌, ℕ, zero, suc, true, ◌&&◌, ◌+◌, ◌^◌, ◌<◌, ◌≤◌, List, [], ◌∷◌, ◌++◌, length, get_or, ap, arith, inl, inr}
use Rattle.std.specs.Prelude.{◌≢◌, ℤ, pos, negsuc, FitsSigned, nat_le, codes}
use Rattle.std.specs.Int.{w64}
use Rattle.std.specs.List.{AllByRecursion, list_all}
use Rattle.std.specs.Fmt.{decimal, signed_decimal}
use Rattle.std.proofs.lemmas.Int.{ints}
use Rattle.std.proofs.lemmas.Fmt.{length-decimal-le}
use Rattle.std.proofs.lemmas.List.{length-append}
use Rattle.std.proofs.lemmas.Bool.{cases_lt, and_parts}
use Rattle.std.proofs.lemmas.Bool.Decides.{nat_tests}
use Rattle.field_bounds.specs.declared.kind.Kind.{Kind}
use Rattle.field_bounds.specs.declared.kind.Kind.TheVariants.{Lower, Raise}
use Rattle.field_bounds.specs.declared.id.FieldNo.{FieldNo}
use Rattle.field_bounds.specs.declared.id.TxnId.{TxnId}
use Rattle.field_bounds.specs.declared.entry.Command.{Command}
use Rattle.field_bounds.specs.declared.entry.Command.TheVariants.{Begin, Escrow, Commit, Abort, Give, Restate, Spare, Tighten, Accept, Read, Share, Restart}
use Rattle.field_bounds.specs.declared.entry.Last.{Last}
use Rattle.field_bounds.specs.declared.entry.Last.TheVariants.{Nothing, Kept, Lost}
use Rattle.field_bounds.specs.declared.entry.Refusal.{Refusal}
use Rattle.field_bounds.specs.declared.entry.Refusal.TheVariants.{Down, NoSite, NoField, NoTransaction, Zero, TooLarge, Short, SelfGift, LedgerFull, NotYours, Forged, TooManyOpen, TooManyEscrows, NumbersFull, NothingGiven}
use Rattle.field_bounds.specs.declared.entry.Reply.{Reply}
use Rattle.field_bounds.specs.declared.entry.Reply.TheVariants.{Begun, Granted, Committed, Aborted, Given, Stated, Spared, Tightened, Accepted, Between, Shares, Restarted, Unsure, StillDown, Refused}
use Rattle.field_bounds.specs.Schema.{FieldValue, SchemaValue}
use Rattle.field_bounds.specs.Limits.{is_name, is_name_length, is_name_byte, IsField, IsSchema}
use Rattle.field_bounds.specs.Parts.{no_field}
use Rattle.line_words.specs.Words.{line}
use Rattle.line_words.proofs.WordLemmas.{IsWord}
use Rattle.entry_text.specs.Spelling.{id_text, kind_text, found_text, field_text, site_text, command_words, refusal_words, reply_words, entry_words}
use Rattle.entry_text.specs.Ranges.{IdFits, FieldFits, CommandFits, RefusalFits, ReplyFits}
use Rattle.entry_text.specs.Lines.{CommandsAreLines, EntriesAreLines}
use Rattle.entry_text.proofs.FieldLemmas.{in_schema, past_schema}
use Rattle.entry_text.proofs.Commands.{command_form}
use Rattle.entry_text.proofs.Entries.{entry_form}

-- ---- no line feed

word_seen : (w : List ℕ) → IsWord w → AllByRecursion (λ b. b ≢ 10) w
word_seen [] h = tt
word_seen (b ∷ w) h = ((λ e. omega (arith, h.0)), word_seen w h.1)

seen_append : (a b : List ℕ) → AllByRecursion (λ b. b ≢ 10) a → AllByRecursion (λ b. b ≢ 10) b → AllByRecursion (λ b. b ≢ 10) (a ++ b)
seen_append [] b h k = k
seen_append (c ∷ a) b h k = (h.0, seen_append a b h.1 k)

line_seen : (ws : List (List ℕ)) → AllByRecursion IsWord ws → AllByRecursion (λ b. b ≢ 10) (line ws)
line_seen [] h = tt
line_seen (w ∷ []) h = word_seen w h.0
line_seen (w ∷ v ∷ ws) h = seen_append w (32 ∷ line (v ∷ ws)) (word_seen w h.0) ((λ e. omega arith), line_seen (v ∷ ws) h.1)

-- ---- the room that words take, each with a space

abbrev room : List (List ℕ) → ℕ
room [] = 0
room (w ∷ ws) = length w + (1 + room ws)

room_append : (a b : List (List ℕ)) → room (a ++ b) ≡ room a + room b
room_append [] b = omega arith
room_append (w ∷ a) b = omega (arith, room_append a b)

length_line : (ws : List (List ℕ)) → length (line ws) ≤ room ws
length_line [] = omega arith
length_line (w ∷ []) = omega arith
length_line (w ∷ v ∷ ws) = omega (arith, length-append w (32 ∷ line (v ∷ ws)), length_line (v ∷ ws))

-- ---- each word

wide : (n : ℕ) → n < 2 ^ 64 → length (decimal n) ≤ 20
wide n lt = length-decimal-le 20 n (omega arith) (omega arith) lt

middle : (n : ℕ) → n < 2 ^ 32 → length (decimal n) ≤ 10
middle n lt = length-decimal-le 10 n (omega arith) (omega arith) (omega arith)

narrow : (n : ℕ) → n < 2 ^ 16 → length (decimal n) ≤ 5
narrow n lt = length-decimal-le 5 n (omega arith) (omega arith) (omega arith)

signed_width : (z : ℤ) → FitsSigned w64 z → length (signed_decimal z) ≤ 21
signed_width (pos n) fits = omega (arith, wide n (omega (arith, ints, fits)))
signed_width (negsuc n) fits = omega (arith, wide (suc n) (omega (arith, ints, fits)))

id_width : (t : TxnId) → IdFits t → length (id_text t) ≤ 21
id_width t fits = omega (arith, length-append (decimal t.epoch) (46 ∷ decimal t.number), middle t.epoch fits.0, middle t.number fits.1)

kind_width : (k : Kind) → length (kind_text k) ≤ 5
kind_width Lower = omega arith
kind_width Raise = omega arith

last_width : (l : Last) → length (found_text l) ≤ 7
last_width Nothing = omega arith
last_width Kept = omega arith
last_width Lost = omega arith

name_length : (w : List ℕ) → is_name w ≡ true → length w ≤ 32
unfolding is_name is_name_length
name_length w e =
    let p = and_parts (nat_le 1 (length w) && nat_le (length w) 32) (list_all is_name_byte w) e in
    grind (arith, nat_tests, p.0)

name_width : (fs : List FieldValue) (i : ℕ) → AllByRecursion IsField fs → i < length fs → length (get_or fs i no_field).name ≤ 32
name_width [] i all lt = absurd (omega arith)
name_width (f ∷ fs) zero all lt = name_length f.name all.0.name
name_width (f ∷ fs) (suc i) all lt = name_width fs i all.1 (omega arith)

field_width : (schema : SchemaValue) → IsSchema schema → (f : FieldNo) → FieldFits f → length (field_text schema f) ≤ 32
field_width schema is f fits =
    elim (cases_lt f.0 (length schema.fields)) [
      | inl lt ↦ omega (arith, ap length (in_schema schema f lt), name_width schema.fields f.0 is.each lt)
      | inr le ↦ omega (arith, ap length (past_schema schema f le), narrow f.0 (omega arith))
    ]

-- ---- commands, replies and entries

command_room : (schema : SchemaValue) → IsSchema schema → (c : Command) → CommandFits c → room (command_words schema c) ≤ 84
command_room schema is Begin fits = omega arith
command_room schema is (Escrow txn field change) fits =
    omega (arith, id_width txn fits.0, field_width schema is field fits.1, signed_width change fits.2)
command_room schema is (Commit txn) fits = omega (arith, id_width txn fits)
command_room schema is (Abort txn) fits = omega (arith, id_width txn fits)
command_room schema is (Give to field kind amount) fits =
    omega (arith, narrow to.0 fits.0, field_width schema is field fits.1, kind_width kind, wide amount fits.2)
command_room schema is (Restate to field kind) fits = omega (arith, narrow to.0 fits.0, field_width schema is field fits.1, kind_width kind)
command_room schema is (Spare to field kind want) fits =
    omega (arith, narrow to.0 fits.0, field_width schema is field fits.1, kind_width kind, wide want fits.2)
command_room schema is (Tighten field kind amount) fits =
    omega (arith, field_width schema is field fits.0, kind_width kind, wide amount fits.1)
command_room schema is (Accept s) fits = omega (
  arith,
  narrow s.from.0 fits.0,
  narrow s.to.0 fits.1,
  field_width schema is s.field fits.2,
  kind_width s.kind,
  wide s.total fits.3,
)
command_room schema is (Read field) fits = omega (arith, field_width schema is field fits)
command_room schema is (Share field) fits = omega (arith, field_width schema is field fits)
command_room schema is Restart fits = omega arith

refusal_room : (r : Refusal) → RefusalFits r → room (refusal_words r) ≤ 40
refusal_room Down fits = omega arith
refusal_room NoSite fits = omega arith
refusal_room NoField fits = omega arith
refusal_room NoTransaction fits = omega arith
refusal_room Zero fits = omega arith
refusal_room TooLarge fits = omega arith
refusal_room (Short share) fits = omega (arith, wide share fits)
refusal_room SelfGift fits = omega arith
refusal_room (LedgerFull total) fits = omega (arith, wide total fits)
refusal_room NotYours fits = omega arith
refusal_room (Forged room) fits = omega (arith, wide room fits)
refusal_room TooManyOpen fits = omega arith
refusal_room TooManyEscrows fits = omega arith
refusal_room NumbersFull fits = omega arith
refusal_room NothingGiven fits = omega arith

reply_room : (r : Reply) → ReplyFits r → room (reply_words r) ≤ 60
reply_room (Begun txn) fits = omega (arith, id_width txn fits)
reply_room Granted fits = omega arith
reply_room Committed fits = omega arith
reply_room Aborted fits = omega arith
reply_room (Given total) fits = omega (arith, wide total fits)
reply_room (Stated total) fits = omega (arith, wide total fits)
reply_room (Spared amount total) fits = omega (arith, wide amount fits.0, wide total fits.1)
reply_room (Tightened total) fits = omega (arith, wide total fits)
reply_room (Accepted gain) fits = omega (arith, wide gain fits)
reply_room (Between lo hi) fits = omega (arith, signed_width lo fits.0, signed_width hi fits.1)
reply_room (Shares lower raise) fits = omega (arith, wide lower fits.0, wide raise fits.1)
reply_room (Restarted epoch found) fits = omega (arith, middle epoch fits, last_width found)
reply_room Unsure fits = omega arith
reply_room StillDown fits = omega arith
reply_room (Refused refusal) fits = omega (arith, refusal_room refusal fits)

pub commands_are_lines : (schema : SchemaValue) → IsSchema schema → CommandsAreLines schema
commands_are_lines schema is = λ site command s c.
    let ws = site_text site ∷ command_words schema command in
    record {
      one_line = line_seen ws ((command_form schema is).plain (site, command) (s, c));
      short = omega (arith, length_line ws, narrow site.0 s, command_room schema is command c);
    }

pub entries_are_lines : (schema : SchemaValue) → IsSchema schema → EntriesAreLines schema
entries_are_lines schema is = λ e fits.
    let front = command_words schema e.command in
    let back = codes "->" ∷ reply_words e.reply in
    record {
      one_line = line_seen (entry_words schema e) ((entry_form schema is).plain e fits);
      short = omega (
        arith,
        length_line (entry_words schema e),
        room_append front back,
        narrow e.site.0 fits.0,
        command_room schema is e.command fits.1,
        reply_room e.reply fits.2,
      );
    }

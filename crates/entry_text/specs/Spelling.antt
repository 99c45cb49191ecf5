-- The one text of each value under a schema (this project).
use Rattle.std.specs.Prelude.{ℕ, List, [], ◌∷◌, ◌++◌, length, if◌then◌else◌, nat_lt, codes}
use Rattle.std.specs.Fmt.{decimal, signed_decimal}
use Rattle.field_bounds.specs.declared.kind.Kind.{Kind}
use Rattle.field_bounds.specs.declared.kind.Kind.TheVariants.{Lower, Raise}
use Rattle.field_bounds.specs.declared.id.SiteNo.{SiteNo}
use Rattle.field_bounds.specs.declared.id.FieldNo.{FieldNo}
use Rattle.field_bounds.specs.declared.id.TxnId.{TxnId}
use Rattle.field_bounds.specs.declared.entry.Command.{Command}
use Rattle.field_bounds.specs.declared.entry.Command.TheVariants.{Begin, Escrow, Commit, Abort, Give, Restate, Spare, Tighten, Accept, Read, Share, Restart}
use Rattle.field_bounds.specs.declared.entry.Last.{Last}
use Rattle.field_bounds.specs.declared.entry.Last.TheVariants.{Nothing, Kept, Lost}
use Rattle.field_bounds.specs.declared.entry.Refusal.{Refusal}
use Rattle.field_bounds.specs.declared.entry.Refusal.TheVariants.{Down, NoSite, NoField, NoTransaction, Zero, TooLarge, Short, SelfGift, LedgerFull, NotYours, Forged, TooManyOpen, TooManyEscrows, NumbersFull, NothingGiven}
use Rattle.field_bounds.specs.declared.entry.Reply.{Reply}
use Rattle.field_bounds.specs.declared.entry.Reply.TheVariants.{Begun, Granted, Committed, Aborted, Given, Stated, Spared, Tightened, Accepted, Between, Shares, Restarted, Unsure, StillDown, Refused}
use Rattle.field_bounds.specs.declared.entry.Entry.{Entry}
use Rattle.field_bounds.specs.Schema.{SchemaValue}
use Rattle.field_bounds.specs.Parts.{field_at}
use Rattle.line_words.specs.Words.{line}

-- ---- words

-- A site: its number.
abbrev pub site_text : SiteNo → List ℕ
site_text s = decimal s.0

-- A transaction: epoch and number with a point (46) between them.
abbrev pub id_text : TxnId → List ℕ
id_text t = decimal t.epoch ++ (46 ∷ decimal t.number)

-- A kind of right.
abbrev pub kind_text : Kind → List ℕ
kind_text Lower = codes "lower"
kind_text Raise = codes "raise"

-- What a restart found.
abbrev pub found_text : Last → List ℕ
found_text Nothing = codes "nothing"
found_text Kept = codes "kept"
found_text Lost = codes "lost"

-- A field: its name, or a sharp (35) and its number where the schema has no field of the number.
abbrev pub field_text : SchemaValue → FieldNo → List ℕ
field_text schema f = if nat_lt f.0 (length schema.fields) then (field_at schema f.0).name else (35 ∷ decimal f.0)

-- ---- commands

-- The words of a command, after that of its site.
abbrev pub command_words : SchemaValue → Command → List (List ℕ)
command_words schema Begin = codes "begin" ∷ []
command_words schema (Escrow txn field change) = codes "escrow" ∷ id_text txn ∷ field_text schema field ∷ signed_decimal change ∷ []
command_words schema (Commit txn) = codes "commit" ∷ id_text txn ∷ []
command_words schema (Abort txn) = codes "abort" ∷ id_text txn ∷ []
command_words schema (Give to field kind amount) =
    codes "give" ∷ site_text to ∷ field_text schema field ∷ kind_text kind ∷ decimal amount ∷ []
command_words schema (Restate to field kind) = codes "restate" ∷ site_text to ∷ field_text schema field ∷ kind_text kind ∷ []
command_words schema (Spare to field kind want) = codes "spare" ∷ site_text to ∷ field_text schema field ∷ kind_text kind ∷ decimal want
    ∷ []
command_words schema (Tighten field kind amount) = codes "tighten" ∷ field_text schema field ∷ kind_text kind ∷ decimal amount ∷ []
command_words schema (Accept statement) = codes "accept" ∷ site_text statement.from ∷ site_text statement.to
    ∷ field_text schema statement.field ∷ kind_text statement.kind ∷ decimal statement.total ∷ []
command_words schema (Read field) = codes "read" ∷ field_text schema field ∷ []
command_words schema (Share field) = codes "share" ∷ field_text schema field ∷ []
command_words schema Restart = codes "restart" ∷ []

-- A command at a site.
abbrev pub command_text : SchemaValue → SiteNo → Command → List ℕ
command_text schema site command = line (site_text site ∷ command_words schema command)

-- ---- replies

-- The words of a refusal: its number first.
abbrev pub refusal_words : Refusal → List (List ℕ)
refusal_words Down = codes "1" ∷ codes "down" ∷ []
refusal_words NoSite = codes "2" ∷ codes "no" ∷ codes "site" ∷ []
refusal_words NoField = codes "3" ∷ codes "no" ∷ codes "field" ∷ []
refusal_words NoTransaction = codes "4" ∷ codes "no" ∷ codes "transaction" ∷ []
refusal_words Zero = codes "5" ∷ codes "zero" ∷ []
refusal_words TooLarge = codes "6" ∷ codes "too" ∷ codes "large" ∷ []
refusal_words (Short share) = codes "7" ∷ codes "short" ∷ decimal share ∷ []
refusal_words SelfGift = codes "8" ∷ codes "self" ∷ codes "gift" ∷ []
refusal_words (LedgerFull total) = codes "9" ∷ codes "ledger" ∷ codes "full" ∷ decimal total ∷ []
refusal_words NotYours = codes "10" ∷ codes "not" ∷ codes "yours" ∷ []
refusal_words (Forged room) = codes "11" ∷ codes "forged" ∷ decimal room ∷ []
refusal_words TooManyOpen = codes "12" ∷ codes "too" ∷ codes "many" ∷ codes "open" ∷ []
refusal_words TooManyEscrows = codes "13" ∷ codes "too" ∷ codes "many" ∷ codes "escrows" ∷ []
refusal_words NumbersFull = codes "14" ∷ codes "numbers" ∷ codes "full" ∷ []
refusal_words NothingGiven = codes "15" ∷ codes "nothing" ∷ codes "given" ∷ []

-- The words of a reply.
abbrev pub reply_words : Reply → List (List ℕ)
reply_words (Begun txn) = codes "begun" ∷ id_text txn ∷ []
reply_words Granted = codes "granted" ∷ []
reply_words Committed = codes "committed" ∷ []
reply_words Aborted = codes "aborted" ∷ []
reply_words (Given total) = codes "given" ∷ decimal total ∷ []
reply_words (Stated total) = codes "stated" ∷ decimal total ∷ []
reply_words (Spared amount total) = codes "spared" ∷ decimal amount ∷ decimal total ∷ []
reply_words (Tightened total) = codes "tightened" ∷ decimal total ∷ []
reply_words (Accepted gain) = codes "accepted" ∷ decimal gain ∷ []
reply_words (Between lo hi) = codes "between" ∷ signed_decimal lo ∷ signed_decimal hi ∷ []
reply_words (Shares lower raise) = codes "share" ∷ decimal lower ∷ decimal raise ∷ []
reply_words (Restarted epoch found) = codes "restarted" ∷ decimal epoch ∷ found_text found ∷ []
reply_words Unsure = codes "unsure" ∷ []
reply_words StillDown = codes "still" ∷ codes "down" ∷ []
reply_words (Refused refusal) = codes "refused" ∷ refusal_words refusal

-- A reply.
abbrev pub reply_text : Reply → List ℕ
reply_text reply = line (reply_words reply)

-- ---- entries

-- The words of an entry: site, command, an arrow and the reply.
abbrev pub entry_words : SchemaValue → Entry → List (List ℕ)
entry_words schema e = site_text e.site ∷ (command_words schema e.command ++ codes "->" ∷ reply_words e.reply)

-- An entry.
abbrev pub entry_text : SchemaValue → Entry → List ℕ
entry_text schema e = line (entry_words schema e)

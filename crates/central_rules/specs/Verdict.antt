-- What a judge answers: the first entry that breaks a rule, and the first rule that it breaks (this project).
use Rattle.std.specs.Prelude.{◌≡◌, ℕ, ◌++◌, ◌+◌, ◌==◌, nat_lt, nat_le, pos, ◌+ℤ◌, ◌-ℤ◌, int_le, unsigned_abs, Bool, true, false, ◌&&◌, ◌||◌, if◌then◌else◌, List, [], ◌∷◌, length, reverse, Option, Some, None}
use Rattle.field_bounds.specs.declared.kind.Kind.{Kind}
use Rattle.field_bounds.specs.declared.kind.Kind.TheVariants.{Lower, Raise}
use Rattle.field_bounds.specs.declared.id.FieldNo.{FieldNo}
use Rattle.field_bounds.specs.declared.entry.Statement.{Statement}
use Rattle.field_bounds.specs.declared.entry.Command.{Command}
use Rattle.field_bounds.specs.declared.entry.Command.TheVariants.{Begin, Escrow, Commit, Abort, Give, Restate, Spare, Tighten, Accept, Read, Share, Restart}
use Rattle.field_bounds.specs.declared.entry.Reply.{Reply}
use Rattle.field_bounds.specs.declared.entry.Reply.TheVariants.{Granted, Tightened, Accepted, Between, Unsure, Refused}
use Rattle.field_bounds.specs.declared.entry.Refusal.TheVariants.{Short}
use Rattle.field_bounds.specs.declared.entry.Entry.{Entry}
use Rattle.central_rules.specs.declared.verdict.Rule.{Rule}
use Rattle.central_rules.specs.declared.verdict.Rule.TheVariants.{Site, Grant, Shortage, Interval, Statement as Told, Reply as Owed}
use Rattle.central_rules.specs.declared.verdict.Verdict.{Verdict}
use Rattle.central_rules.specs.declared.verdict.Verdict.TheVariants.{Legal, Illegal}
use Rattle.field_bounds.specs.Schema.{SchemaValue}
use Rattle.field_bounds.specs.Kind.{same_kind, kind_of}
use Rattle.field_bounds.specs.Effects.{fresh, share}
use Rattle.field_bounds.specs.Owed.{place}
use Rattle.field_bounds.specs.Central.{own, at_site, IsSound, IsCentral, committed_value, inf, sup, floor_in, ceiling_in}
use Rattle.field_bounds.specs.Statements.{statement_of}
use Rattle.central_rules.specs.Replies.{reply_test}

-- ---- the rules of one central store, as tests

-- The rules on fields look only at fields of the schema.
abbrev pub on_field : SchemaValue → FieldNo → Bool → Bool
on_field schema field test = nat_le (length schema.fields) field.0 || test

-- Whether one central store may grant a change of a kind on a field, of this size (O'Neil 1986).
abbrev pub within_bound : SchemaValue → List Entry → ℕ → ℕ → Kind → Bool
within_bound schema t f n Lower = int_le (floor_in schema t f) (inf schema t f -ℤ pos n)
within_bound schema t f n Raise = int_le (sup schema t f +ℤ pos n) (ceiling_in schema t f)

-- An escrow is granted, and rights are given up, only where one central store may grant that.
abbrev pub grant_test : SchemaValue → List Entry → Command → Reply → Bool
grant_test schema t Begin reply = true
grant_test schema t (Escrow txn field change) Granted =
    on_field schema field (within_bound schema t field.0 (unsigned_abs change) (kind_of change))
grant_test schema t (Escrow txn field change) reply = true
grant_test schema t (Commit txn) reply = true
grant_test schema t (Abort txn) reply = true
grant_test schema t (Give to field kind amount) reply = true
grant_test schema t (Restate to field kind) reply = true
grant_test schema t (Spare to field kind want) reply = true
grant_test schema t (Tighten field kind amount) (Tightened total) = on_field schema field (within_bound schema t field.0 amount kind)
grant_test schema t (Tighten field kind amount) reply = true
grant_test schema t (Accept told) reply = true
grant_test schema t (Read field) reply = true
grant_test schema t (Share field) reply = true
grant_test schema t Restart reply = true

-- The number told is the site's share of the kind, and less than was asked.
abbrev pub true_share : SchemaValue → List Entry → ℕ → FieldNo → Kind → ℕ → ℕ → Bool
true_share schema t s field k asked told =
    on_field schema field ((told == share (fresh schema s) field.0 k (at_site schema t s)) && nat_lt told asked)

-- What is refused as short is told such a share.
abbrev pub shortage_test : SchemaValue → List Entry → ℕ → Command → Reply → Bool
shortage_test schema t s Begin reply = true
shortage_test schema t s (Escrow txn field change) (Refused (Short told)) =
    true_share schema t s field (kind_of change) (unsigned_abs change) told
shortage_test schema t s (Escrow txn field change) reply = true
shortage_test schema t s (Commit txn) reply = true
shortage_test schema t s (Abort txn) reply = true
shortage_test schema t s (Give to field kind amount) (Refused (Short told)) = true_share schema t s field kind amount told
shortage_test schema t s (Give to field kind amount) reply = true
shortage_test schema t s (Restate to field kind) reply = true
shortage_test schema t s (Spare to field kind want) (Refused (Short told)) = true_share schema t s field kind want told
shortage_test schema t s (Spare to field kind want) reply = true
shortage_test schema t s (Tighten field kind amount) (Refused (Short told)) = true_share schema t s field kind amount told
shortage_test schema t s (Tighten field kind amount) reply = true
shortage_test schema t s (Accept told) reply = true
shortage_test schema t s (Read field) reply = true
shortage_test schema t s (Share field) reply = true
shortage_test schema t s Restart reply = true

-- An interval that was read holds the committed value (O'Neil 1986 for the value).
abbrev pub interval_test : SchemaValue → List Entry → Command → Reply → Bool
interval_test schema t Begin reply = true
interval_test schema t (Escrow txn field change) reply = true
interval_test schema t (Commit txn) reply = true
interval_test schema t (Abort txn) reply = true
interval_test schema t (Give to field kind amount) reply = true
interval_test schema t (Restate to field kind) reply = true
interval_test schema t (Spare to field kind want) reply = true
interval_test schema t (Tighten field kind amount) reply = true
interval_test schema t (Accept told) reply = true
interval_test schema t (Read field) (Between lo hi) =
    on_field schema field (int_le lo (committed_value schema t field.0) && int_le (committed_value schema t field.0) hi)
interval_test schema t (Read field) reply = true
interval_test schema t (Share field) reply = true
interval_test schema t Restart reply = true

abbrev pub same_statement : Statement → Statement → Bool
same_statement a b =
    (a.from.0 == b.from.0) && ((a.to.0 == b.to.0) && ((a.field.0 == b.field.0) && (same_kind a.kind b.kind && (a.total == b.total))))

abbrev pub is_told_by : Statement → Option Statement → Bool
is_told_by statement None = false
is_told_by statement (Some told) = same_statement told statement

-- Whether some entry issues the statement.
abbrev pub is_issued : Statement → List Entry → Bool
is_issued statement [] = false
is_issued statement (e ∷ t) = is_told_by statement (statement_of e) || is_issued statement t

-- A statement that is accepted, or whose acceptance is in doubt, was issued before.
abbrev pub statement_test : List Entry → Command → Reply → Bool
statement_test t Begin reply = true
statement_test t (Escrow txn field change) reply = true
statement_test t (Commit txn) reply = true
statement_test t (Abort txn) reply = true
statement_test t (Give to field kind amount) reply = true
statement_test t (Restate to field kind) reply = true
statement_test t (Spare to field kind want) reply = true
statement_test t (Tighten field kind amount) reply = true
statement_test t (Accept statement) (Accepted gain) = is_issued statement t
statement_test t (Accept statement) Unsure = is_issued statement t
statement_test t (Accept statement) reply = true
statement_test t (Read field) reply = true
statement_test t (Share field) reply = true
statement_test t Restart reply = true

-- ---- the verdict

-- Whether an entry keeps a rule over the front before it.
abbrev pub test_of : SchemaValue → List Entry → Entry → Rule → Bool
test_of schema t e Site = nat_lt e.site.0 schema.sites
test_of schema t e Grant = grant_test schema t e.command e.reply
test_of schema t e Shortage = shortage_test schema t e.site.0 e.command e.reply
test_of schema t e Interval = interval_test schema t e.command e.reply
test_of schema t e Told = statement_test t e.command e.reply
test_of schema t e Owed = reply_test (place schema e.site.0 (fresh schema e.site.0) (own e.site.0 t)) e.command e.reply

-- The rules with their tests, in the order in which they are tested.
abbrev pub rules : SchemaValue → List Entry → Entry → List (Bool × Rule)
rules schema t e =
    (test_of schema t e Site, Site) ∷ (test_of schema t e Grant, Grant) ∷ (test_of schema t e Shortage, Shortage)
    ∷ (test_of schema t e Interval, Interval) ∷ (test_of schema t e Told, Told) ∷ (test_of schema t e Owed, Owed) ∷ []

-- The rule of the first test that fails.
abbrev pub first_broken : List (Bool × Rule) → Option Rule
first_broken [] = None
first_broken (test ∷ rest) = if test.0 then first_broken rest else Some test.1

-- The first rule that an entry breaks over the front before it.
abbrev pub broken_rule : SchemaValue → List Entry → Entry → Option Rule
broken_rule schema t e = first_broken (rules schema t e)

-- The verdict with one more entry, the n-th: the first bad entry stays the first.
abbrev pub verdict_more : Verdict → Option Rule → ℕ → Verdict
verdict_more Legal None n = Legal
verdict_more Legal (Some rule) n = Illegal n rule
verdict_more (Illegal at rule) found n = Illegal at rule

-- The verdict on a trace, the newest entry first.
unfoldable pub verdict_back : SchemaValue → List Entry → Verdict
verdict_back schema [] = Legal
verdict_back schema (e ∷ t) = verdict_more (verdict_back schema t) (broken_rule schema t e) (length t + 1)

-- The verdict on entries, the oldest first: the first bad entry, counted from 1, and the first rule that it breaks.
abbrev pub verdict_of : SchemaValue → List Entry → Verdict
verdict_of schema entries = verdict_back schema (reverse entries)

-- How many entries are read for a verdict over so many: all, or those up to the first bad one.
abbrev pub read_for : Verdict → ℕ → ℕ
read_for Legal n = n
read_for (Illegal at rule) n = at

-- The first bad entry of a trace, the newest entry first, with the front before it.
pub record IsFirstBad (schema : SchemaValue) (trace : List Entry) (at : ℕ) (rule : Rule) : Type 0 where
  pub front : List Entry
  pub entry : Entry
  pub later : List Entry
  pub parts : trace ≡ later ++ (entry ∷ front)
  pub place : at ≡ length front + 1
  pub sound : IsSound schema front × IsCentral schema front
  pub breaks : broken_rule schema front entry ≡ Some rule

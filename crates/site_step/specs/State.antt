-- What ties what a site holds, in memory and on its medium, to its history (this project).
use Rattle.std.specs.Prelude.{◌≡◌, ℕ, ◌+◌, ◌<◌, ◌≤◌, ◌⊎◌, List, [], ◌∷◌, ◌++◌, length, map, reverse, nat_le, if◌then◌else◌, Bool, true, false, not, ◌&&◌, Option, Some, None}
use Rattle.std.specs.List.{flat_map}
use Rattle.field_bounds.specs.declared.kind.Kind.{Kind}
use Rattle.field_bounds.specs.declared.id.TxnId.{TxnId}
use Rattle.field_bounds.specs.declared.id.SiteNo.{SiteNo}
use Rattle.field_bounds.specs.declared.entry.Command.{Command}
use Rattle.field_bounds.specs.declared.entry.Entry.{Entry}
use Rattle.field_bounds.specs.Schema.{SchemaValue}
use Rattle.field_bounds.specs.Limits.{IsSchema}
use Rattle.field_bounds.specs.declared.effect.Effect.{Effect}
use Rattle.field_bounds.specs.Effects.{Base, open_txns, escrows_of, held_rights, effects}
use Rattle.field_bounds.specs.Shape.{asks_restart, txn_ended, grows_journal}
use Rattle.field_bounds.specs.Owed.{count_since, is_begun_reply, is_up, max_epoch, IsRun}
use Rattle.site_rights.specs.declared.field_rights.FieldRights.{FieldRights}
use Rattle.site_rights.specs.declared.field_rights.Outcome.TheVariants.{Committed, Aborted}
use Rattle.site_rights.specs.Rights.{held_at, ending, by_escrows, AreInRange, AreHeld}
use Rattle.escrow_journal.specs.Journal.{Row, is_listed, escrows_at, without}
use Rattle.kept_records.specs.declared.record.Record.{Record}
use Rattle.kept_records.specs.Kinds.{commit_told}
use Rattle.kept_records.specs.Logs.{IsLog}
use Rattle.kept_records.specs.Stands.{Lawful, is_summary, plain, since_summary, max_behind}
use Rattle.kept_records.specs.Text.{text}
use Rattle.kept_records.specs.ReadingBack.{told_length}
use Rattle.kept_state.specs.Keeps.{Keeps, IsBase}
use Rattle.kept_state.specs.Doubt.{IsDoubt}
use Rattle.log_replay.specs.Standing.{HasSlots, Stands, CanTakeIn}
use Rattle.site_step.specs.Replaying.{downs_since, downs_before}
use Rattle.site_step.specs.declared.accounts.SiteAccounts.{SiteAccounts}
use Rattle.site_step.specs.declared.extent.Extent.{Extent}
use Rattle.site_step.specs.Site.{SiteValue, base_of}

-- ---- in memory

-- A transaction with its escrows in order of grant.
abbrev pub row_of : List Effect → TxnId → Row
row_of es t = (t, reverse (escrows_of t es))

-- The open transactions in order of begin, each with its escrows in order of grant.
abbrev pub journal_of : List Effect → List Row
journal_of es = map (row_of es) (reverse (open_txns es))

-- What is held, and which transactions are open, is what took effect.
pub record SetsAside (es : List Effect) (rows : List FieldRights) (open_rows : List Row) : Type 0 where
  pub held : (f : ℕ) (k : Kind) → f < length rows → held_at rows f k ≡ held_rights f k es
  pub journal : open_rows ≡ journal_of es

-- The standing is what the kept records stand for; what is held there and which transactions are open is what took effect
-- in the history; and the last number is the count of the transactions that it begins.
pub record StandsOn (schema : SchemaValue) (s : ℕ) (base : Base) (o : List Entry) (rs : List Record) (a : SiteAccounts) : Type 0 where
  pub standing : Stands schema s rs a.standing
  pub aside : SetsAside (effects base false o) a.standing.rights a.journal
  pub last : a.last ≡ count_since is_begun_reply o

-- ---- what a command does in memory

-- A standing with other rights.
abbrev pub with_rights : List FieldRights → SiteAccounts → SiteAccounts
with_rights rows a = record a { standing = record { rights = rows; ledger = a.standing.ledger; epoch = a.standing.epoch } }

-- A transaction taken out, and what it holds given back.
abbrev pub after_release : TxnId → SiteAccounts → SiteAccounts
after_release txn a =
    record (with_rights (by_escrows (ending Aborted) a.standing.rights (escrows_at txn a.journal)) a) { journal = without txn a.journal }

-- A transaction taken out, and what it holds turned.
abbrev pub after_spending : TxnId → SiteAccounts → SiteAccounts
after_spending txn a =
    record (with_rights (by_escrows (ending Committed) a.standing.rights (escrows_at txn a.journal)) a) { journal = without txn a.journal }

-- A transaction that ends, where one does, taken out, and what it holds given back.
abbrev pub after_end : SiteAccounts → Option TxnId → SiteAccounts
after_end a None = a
after_end a (Some txn) = after_release txn a

-- What a command does that writes no record.
abbrev pub after_settling : SiteAccounts → Command → SiteAccounts
after_settling a c = after_end a (txn_ended c)

-- What is in memory when a record is taken in: a commit's transaction is released.
abbrev pub before_taking_in : SiteAccounts → Record → SiteAccounts
before_taking_in a r = after_end a (commit_told r)

-- The transaction is open, and its escrows are held.
pub record CanClose (a : SiteAccounts) (txn : TxnId) : Type 0 where
  pub opened : is_listed txn a.journal ≡ true
  pub in_range : AreInRange a.standing.rights (escrows_at txn a.journal)
  pub are_held : AreHeld a.standing.rights (escrows_at txn a.journal)

abbrev pub CanEnd : SiteAccounts → Option TxnId → Type 0
CanEnd a None = Unit {0}
CanEnd a (Some txn) = CanClose a txn

abbrev pub CanSettle : SiteAccounts → Command → Type 0
CanSettle a c = CanEnd a (txn_ended c)

abbrev pub CanReady : SiteAccounts → Record → Type 0
CanReady a r = CanEnd a (commit_told r)

-- The record can be taken in, once its transaction is released.
pub record CanCarry (schema : SchemaValue) (a : SiteAccounts) (kept : Record) : Type 0 where
  pub ready : CanReady a kept
  pub places : HasSlots schema (before_taking_in a kept).standing.rights (before_taking_in a kept).standing.ledger
  pub takes_ : CanTakeIn schema (before_taking_in a kept).standing kept

-- The command needs no memory of its own.
abbrev pub is_carried : Command → Bool
is_carried c = not (grows_journal c) && not (asks_restart c)

-- ---- on the medium

-- What no call of a site changes: its number is in the schema, which is within the limits; and its base is what the lawful
-- records stand for over which it was opened, at an epoch that there is.
pub record RestsOn (schema : SchemaValue) (site : SiteNo) (base : Base) (based : List Record) : Type 0 where
  pub site_in : site.0 < schema.sites
  pub limits : IsSchema schema
  pub epoch_in : base.epoch ≤ max_epoch
  pub is_base : IsBase schema site.0 base based
  pub based_on : Lawful schema site.0 based

-- One record more, with lines of this length. Where a summary is due behind it, it stands in them.
abbrev pub one_record_longer : Extent → ℕ → Extent
one_record_longer e size =
    record {
      count = e.count + 1;
      length = told_length (e.length + size);
      behind = if nat_le max_behind (e.behind + 1) then 0 else e.behind + 1;
    }

-- The extent of a site that doesn't count so many of its first records: as if it counted them.
abbrev pub counted_from : ℕ → Extent → Extent
counted_from uncounted e = record { count = uncounted + e.count; length = e.length; behind = e.behind }

-- These are all the records, of which the last ones are held: how many they are, summaries left out, how long the texts of
-- those are that are held, and how many records stand behind the last summary, which are fewer than 1,000.
pub record ReachesAll (e : Extent) (held rs : List Record) : Type 0 where
  pub count : e.count ≡ length (plain rs)
  pub length_is : e.length ≡ told_length (length (flat_map text held))
  pub behind : e.behind ≡ since_summary rs
  pub few : since_summary rs < max_behind

-- The first record is a summary.
abbrev pub starts_with_summary : List Record → Bool
starts_with_summary [] = false
starts_with_summary (r ∷ rs) = is_summary r

-- Records that are held stand behind those that are gone; where any are, a summary is the first that is held.
abbrev pub BeginsHeld : List Record → List Record → Type 0
BeginsHeld gone held = (gone ≡ []) ⊎ (starts_with_summary held ≡ true)

-- The first records are so many, those that are gone with them, summaries left out; and so long are the texts of those of
-- them that are held. No summary stands right behind them.
pub record Reaches (e : Extent) (gone held : List Record) : Type 0 where
  pub before : List Record
  pub behind : List Record
  pub all : held ≡ before ++ behind
  pub count : e.count ≡ length (plain (gone ++ before))
  pub length_is : e.length ≡ told_length (length (flat_map text before))
  pub first_ : starts_with_summary behind ≡ false

-- The history is a run of owed replies on its base, and the log holds the records that it leaves, all of which are lawful,
-- summaries among them; behind them stands nothing while the site is up. Those that aren't gone are held. It is known how
-- many stood when the site was last up, and where they end: these are all while it is up. Where an answer is in doubt, its
-- record stands behind them, if it stands. Few records stand behind the last summary, and few were replayed. While the site
-- is up, it stands on its history in memory too.
pub record IsSoundSite (v : SiteValue) (up : Bool) (extent : Extent) (a : SiteAccounts) : Type 0 where
  pub ground : RestsOn v.schema v.site (base_of v) (plain v.based)
  pub records : List Record
  pub rest : List ℕ
  pub kept : Bool
  pub log : IsLog v.bytes records rest
  pub lawful : Lawful v.schema v.site.0 records
  pub run : IsRun v.schema v.site.0 (base_of v) v.history
  pub keeps : Keeps v.schema v.site.0 (base_of v) (plain v.based) kept v.history (plain records)
  pub up_is : up ≡ is_up (base_of v) v.history
  pub held : List Record
  pub parts : records ≡ v.gone ++ held
  pub begins : BeginsHeld v.gone held
  pub clean : up ≡ true → (rest ≡ []) × ReachesAll extent held records
  pub reaches : Reaches extent v.gone held
  pub place : (n : ℕ) → v.doubt ≡ Some n → n ≡ extent.count
  pub in_doubt : IsDoubt kept v.history (plain records) v.doubt
  pub few : since_summary v.based ≤ max_behind → since_summary records ≤ max_behind + downs_since v.history
  pub replays : since_summary v.based ≤ max_behind → v.replayed ≤ max_behind + downs_before v.history
  pub stands : is_up (base_of v) v.history ≡ true → StandsOn v.schema v.site.0 (base_of v) v.history records a

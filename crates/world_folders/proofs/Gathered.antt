-- What was read of each log, made one list of logs.
use Rattle.std.proofs.Common.{◌≡◌, ℕ, zero, suc, ◌<◌, List, [], ◌∷◌, ◌++◌, length, get_or, map, drop, Option, Some, None, refl, sym, ap, subst, ◌∙◌, arith}
use Rattle.std.specs.Prelude.{Result, Ok, Err}
use Rattle.std.proofs.lemmas.List.{get_or_default, get_or-map, length-map, take-append-drop}
use Rattle.field_bounds.specs.Schema.{SchemaValue}
use Rattle.field_bounds.specs.declared.id.SiteNo.{SiteNo}
use Rattle.kept_records.specs.declared.record.Record.{Record}
use Rattle.kept_records.specs.Logs.{Reads, IsLog}
use Rattle.kept_records.specs.Stands.{Lawful}
use Rattle.kept_records.specs.Summary.{SummaryValue, summary_record}
use Rattle.log_replay.specs.declared.standing.Standing.{Standing}
use Rattle.log_replay.specs.declared.log_bytes.LogReplayed.TheVariants as came
use Rattle.log_replay.specs.LogBytes.{ComesTo}
use Rattle.log_replay.specs.Standing.{IsStandingFor}
use Rattle.log_bases.specs.Bases.{IsPast}
use Rattle.log_bases.specs.Pasts.{past_of}
use Rattle.log_head.specs.declared.gone.Gone.{Gone}
use Rattle.held_logs.specs.Behind.{ComesFrom}
use Rattle.held_logs.proofs.Taken.{for_log}
use Rattle.held_logs.proofs.Spared.{same_base}
use Rattle.world_logs.specs.declared.field_state.FieldState.{FieldState}
use Rattle.world_logs.specs.declared.field_state.FieldRange.{FieldRange}
use Rattle.world_logs.specs.Logs.{AcceptedWithin}
use Rattle.world_logs.specs.Lost.{AreRanges}
use Rattle.world_logs.specs.LostFaults.{KnownWithin}
use Rattle.world_logs.specs.States.{AreStates, Settles}
use Rattle.world_logs.specs.Body.{StandFor, StandsForLog, AreForLogs}
use Rattle.world_logs.specs.LostBody.{StandsWhereKnown, StandsIfKnown, AreForKnown, AreForKnownLogs}
use Rattle.world_folders.specs.declared.worlds.SiteFolder.{SiteFolder}
use Rattle.world_folders.specs.Logs.{AreOutcomesRead, StandsAsRead, StandAsRead, TellsHeld, LogText, IsLogRead, AreLogsRead, AreRecordsOf, AreBehindPast, AreLogsOf, AreSoundAsRead, AccountsFor, SettlesAsRead}
use Rattle.world_folders.specs.Lost.{AreKnownOutcomes, IsKnownOutcome, KnownAsRead, IsKnownRead, AreKnownRecords, AreKnownLogsOf, BoundsAsRead}

-- ---- what there is for each of a list, made one list

record Gathered {A B : Type 0} (P : ℕ → B → A → Type 0) (none : B) (xs : List A) : Type 0 where
  all : List B
  count : length all ≡ length xs
  each : (i : ℕ) (d : A) → i < length xs → P i (get_or all i none) (get_or xs i d)

one_more : {A B : Type 0} (P : ℕ → B → A → Type 0) (none b : B) (x : A) (xs : List A) → P 0 b x
    → (later : Gathered (λ i. P (suc i)) none xs) → (i : ℕ) (d : A) → i < length (x ∷ xs)
    → P i (get_or (b ∷ later.all) i none) (get_or (x ∷ xs) i d)
one_more P none b x xs one later zero d less = one
one_more P none b x xs one later (suc i) d less = later.each i d (omega (arith, less))

gather : {A B : Type 0} (P : ℕ → B → A → Type 0) (none : B) (xs : List A)
    → ((i : ℕ) (d : A) → i < length xs → (b : B) × P i b (get_or xs i d)) → Gathered P none xs
gather P none [] each = record { all = []; count = refl; each = λ i d less. absurd (omega (arith, less)) }
gather P none (x ∷ xs) each =
    let one = each 0 x (omega arith) in
    let later = gather (λ i. P (suc i)) none xs (λ i d less. each (suc i) d (omega (arith, less))) in
    record { all = one.0 ∷ later.all; count = omega (arith, later.count); each = one_more P none one.0 x xs one.1 later }

abbrev ok : (A : Type 0) → A → Result A ℕ
ok A x = Ok x

-- ---- the standings of logs that were read

abbrev Holds : Type 1
Holds = List ℕ → List ℕ → Type 0

-- there are the standings of which none is a broken rule
pub stand_as_read : (holds : Holds) (folders : List SiteFolder) (schema : SchemaValue) (outcomes : List (Result Standing ℕ))
    (standings : List Standing) → AreOutcomesRead holds folders schema outcomes → outcomes ≡ map (ok Standing) standings
    → StandAsRead holds folders schema standings
stand_as_read holds folders schema outcomes standings are same =
    let count : length standings ≡ schema.sites = sym (length-map standings (ok Standing)) ∙ sym (ap length same) ∙ are.count in
    record {
      count = count;
      each = λ s d site_in.
          rw (same, get_or-map (ok Standing) standings s d (Err 0) (omega (arith, site_in, count))) at (are.each s site_in);
    }

-- ---- the records that one standing is for

-- read bytes are a log
log_of_reads : (bytes : List ℕ) (rs : List Record) (n : ℕ) → Reads bytes rs n → IsLog bytes rs (drop n bytes)
log_of_reads bytes rs n reads = record {
  parts = sym (take-append-drop n bytes) ∙ ap (λ (l : List ℕ). l ++ drop n bytes) reads.whole;
  each = reads.each;
  no_lf = reads.rest;
}

-- the standing is for lawful records of a site
for_lawful : (schema : SchemaValue) (s : ℕ) (gone : Option Gone) (bytes : List ℕ) (standing : Standing) (n : ℕ)
    → TellsHeld schema s gone bytes (came.Standing standing n) → StandsForLog schema s standing
for_lawful schema s None bytes standing n tells =
    let comes : ComesTo schema s bytes standing n = tells in
    (comes.records, comes.lawful, comes.stands)
for_lawful schema s (Some gone) bytes standing n tells = for_log tells

-- there are records that may be all of the site
some_records : (schema : SchemaValue) (s : ℕ) (gone : Option Gone) (bytes : List ℕ) (standing : Standing) (n : ℕ)
    → TellsHeld schema s gone bytes (came.Standing standing n) → (rs : List Record) × AreRecordsOf schema s gone bytes rs
some_records schema s None bytes standing n tells =
    let comes : ComesTo schema s bytes standing n = tells in
    (comes.records, (drop n bytes, log_of_reads bytes comes.records n comes.all.0))
some_records schema s (Some gone) bytes standing n tells =
    let from : ComesFrom schema s bytes standing n = tells in
    let all : List Record = summary_record from.base ∷ from.records in
    let past = past_of schema s from.base in (
      past ++ all,
      record {
        base = from.base;
        behind = from.records;
        held = (drop n bytes, log_of_reads bytes all n from.all.0);
        past = past;
        is_past = from.lawful.some;
        all = refl;
      },
    )

-- Records that are lawful, and that the standing is for.
record AreFor (schema : SchemaValue) (s : ℕ) (rs : List Record) (standing : Standing) : Type 0 where
  lawful : Lawful schema s rs
  stands : IsStandingFor schema s rs standing

first_of : Record → List Record → Record
first_of d [] = d
first_of d (r ∷ rs) = r

for_behind : (schema : SchemaValue) (s : ℕ) (bytes : List ℕ) (standing : Standing) (n : ℕ) → ComesFrom schema s bytes standing n
    → (rs : List Record) → AreBehindPast schema s bytes rs → AreFor schema s rs standing
unfolding first_of
for_behind schema s bytes standing n from rs are =
    let all : List Record = summary_record from.base ∷ from.records in
    let own : List Record = summary_record are.base ∷ are.behind in
    let same : all ≡ own = (from.all.1 own are.held.0 are.held.1).0 in
    let first : summary_record from.base ≡ summary_record are.base = ap (first_of (summary_record are.base)) same in
    let past : IsPast schema s from.base are.past =
    subst (λ (b : SummaryValue). IsPast schema s b are.past) (sym (same_base from.base are.base first)) are.is_past in
    let whole : are.past ++ all ≡ rs = ap (λ (l : List Record). are.past ++ l) same ∙ sym are.all in
    record {
      lawful = subst (λ (l : List Record). Lawful schema s l) whole (from.lawful.lawful are.past past);
      stands = subst (λ (l : List Record). IsStandingFor schema s l standing) whole (from.stands are.past past);
    }

-- and whichever are, it is for them
for_each : (schema : SchemaValue) (s : ℕ) (gone : Option Gone) (bytes : List ℕ) (standing : Standing) (n : ℕ)
    → TellsHeld schema s gone bytes (came.Standing standing n) → (rs : List Record) → AreRecordsOf schema s gone bytes rs
    → AreFor schema s rs standing
for_each schema s None bytes standing n tells rs are =
    let comes : ComesTo schema s bytes standing n = tells in
    let same : comes.records ≡ rs = (comes.all.1 rs are.0 are.1).0 in
    record {
      lawful = subst (λ (l : List Record). Lawful schema s l) same comes.lawful;
      stands = subst (λ (l : List Record). IsStandingFor schema s l standing) same comes.stands;
    }
for_each schema s (Some gone) bytes standing n tells rs are = for_behind schema s bytes standing n tells rs are

-- ---- all sites

-- they are for lawful logs
pub are_for_logs : (holds : Holds) (folders : List SiteFolder) (schema : SchemaValue) (standings : List Standing)
    → StandAsRead holds folders schema standings → AreForLogs schema standings
are_for_logs holds folders schema standings read = record {
  count = read.count;
  each = λ s d site_in. let it = read.each s d site_in in
      for_lawful schema s it.comes.gone it.comes.records (get_or standings s d) it.size it.comes.tells;
}

-- What was read of the log of a site, and what the standing is for.
record OfLog (holds : Holds) (folders : List SiteFolder) (schema : SchemaValue) (s : ℕ) (log : LogText) (standing : Standing) : Type 0 where
  read : IsLogRead holds folders s log
  some : (rs : List Record) × AreRecordsOf schema s log.gone log.records rs
  each : (rs : List Record) → AreRecordsOf schema s log.gone log.records rs → AreFor schema s rs standing

of_log : (holds : Holds) (folders : List SiteFolder) (schema : SchemaValue) (s : ℕ) (standing : Standing)
    → StandsAsRead holds folders schema s standing → (log : LogText) × OfLog holds folders schema s log standing
of_log holds folders schema s standing it =
    let comes = it.comes in (
      record { gone = comes.gone; records = comes.records },
      record {
        read = record { folder = comes.folder; own = comes.own; read = comes.log };
        some = some_records schema s comes.gone comes.records standing it.size comes.tells;
        each = for_each schema s comes.gone comes.records standing it.size comes.tells;
      },
    )

no_text : LogText
no_text = record { gone = None; records = [] }

-- What was read of the logs of all sites, and what the standings are for.
record AreOf (holds : Holds) (folders : List SiteFolder) (schema : SchemaValue) (standings : List Standing) (texts : List LogText) : Type 0 where
  count : length texts ≡ schema.sites
  standings_count : length standings ≡ schema.sites
  each : (s : ℕ) (d : Standing) → s < schema.sites → OfLog holds folders schema s (get_or texts s no_text) (get_or standings s d)

some_of : (xs : List Standing) (i : ℕ) → i < length xs → Standing
some_of [] i less = absurd (omega (arith, less))
some_of (x ∷ xs) i less = x

gathered : (holds : Holds) (folders : List SiteFolder) (schema : SchemaValue) (standings : List Standing)
    → StandAsRead holds folders schema standings → (texts : List LogText) × AreOf holds folders schema standings texts
gathered holds folders schema standings read =
    let P : ℕ → LogText → Standing → Type 0 = λ s log standing. OfLog holds folders schema s log standing in
    let all = gather P no_text standings
    (λ i d less. of_log holds folders schema i (get_or standings i d) (read.each i d (omega (arith, less, read.count)))) in (
      all.all,
      record {
        count = omega (arith, all.count, read.count);
        standings_count = read.count;
        each = λ s d site_in. all.each s d (omega (arith, site_in, read.count));
      },
    )

module _ (holds : Holds) (folders : List SiteFolder) (schema : SchemaValue) (standings : List Standing) (texts : List LogText)
    (of : AreOf holds folders schema standings texts) where
  one : (s : ℕ) → (site_in : s < schema.sites)
      → OfLog holds folders schema s (get_or texts s no_text)
      (get_or standings s (some_of standings s (omega (arith, site_in, of.standings_count))))
  one s site_in = of.each s (some_of standings s (omega (arith, site_in, of.standings_count))) site_in

  -- the logs were read
  are_read : AreLogsRead holds folders schema texts
  are_read = record {
    count = of.count;
    each = λ s d site_in.
        subst (λ (log : LogText). IsLogRead holds folders s log)
        (get_or_default texts s no_text d (omega (arith, site_in, of.count))) (one s site_in).read;
  }

  -- there are logs of which this was read
  some_logs : (logs : List (List Record)) × AreLogsOf schema texts logs
  some_logs =
      let P : ℕ → List Record → LogText → Type 0 = λ s rs log. AreRecordsOf schema s log.gone log.records rs in
      let all = gather P [] texts
      (λ i d less.
      subst (λ (log : LogText). (rs : List Record) × AreRecordsOf schema i log.gone log.records rs)
      (get_or_default texts i no_text d less) (one i (omega (arith, less, of.count))).some) in (
        all.all,
        record {
          count = omega (arith, all.count, of.count);
          each = λ s d site_in. all.each s d (omega (arith, site_in, of.count));
        },
      )

  -- and the standings are for whichever logs
  stand_for : (logs : List (List Record)) → AreLogsOf schema texts logs → StandFor schema logs standings
  stand_for logs are = record {
    lawful = record {
      count = are.count;
      each = λ s site_in. ((one s site_in).each (get_or logs s []) (are.each s no_text site_in)).lawful;
    };
    count = of.standings_count;
    each = λ s d site_in. ((of.each s d site_in).each (get_or logs s []) (are.each s no_text site_in)).stands;
  }

  sound : ((logs : List (List Record)) → StandFor schema logs standings → AcceptedWithin schema logs)
      → AreSoundAsRead holds folders schema texts
  sound within = record {
    read = are_read;
    some = some_logs;
    lawful = λ logs are. (stand_for logs are).lawful;
    within = λ logs are. within logs (stand_for logs are);
  }

pub accounts : (holds : Holds) (folders : List SiteFolder) (schema : SchemaValue) (standings : List Standing) (states : List FieldState)
    → StandAsRead holds folders schema standings
    → ((logs : List (List Record)) → StandFor schema logs standings → AcceptedWithin schema logs)
    → ((logs : List (List Record)) → StandFor schema logs standings → AreStates schema logs states)
    → AccountsFor holds folders schema states
accounts holds folders schema standings states read within are =
    let it = gathered holds folders schema standings read in
    record {
      texts = it.0;
      sound = sound holds folders schema standings it.0 it.1 within;
      stand = λ logs of. are logs (stand_for holds folders schema standings it.0 it.1 logs of);
    }

pub settles : (holds : Holds) (folders : List SiteFolder) (schema : SchemaValue) (standings : List Standing) (new : SchemaValue)
    → StandAsRead holds folders schema standings
    → ((logs : List (List Record)) → StandFor schema logs standings → AcceptedWithin schema logs)
    → ((logs : List (List Record)) → StandFor schema logs standings → Settles schema logs new)
    → SettlesAsRead holds folders schema new
settles holds folders schema standings new read within goes =
    let it = gathered holds folders schema standings read in
    record {
      texts = it.0;
      sound = sound holds folders schema standings it.0 it.1 within;
      settles = λ logs of. goes logs (stand_for holds folders schema standings it.0 it.1 logs of);
    }

-- ---- where logs are lost

pub known_as_read : (holds : Holds) (folders : List SiteFolder) (schema : SchemaValue) (lost : List SiteNo)
    (outcomes : List (Result (Option Standing) ℕ)) (standings : List (Option Standing))
    → AreKnownOutcomes holds folders schema lost outcomes → outcomes ≡ map (ok (Option Standing)) standings
    → KnownAsRead holds folders schema lost standings
known_as_read holds folders schema lost outcomes standings are same =
    let count : length standings ≡ schema.sites = sym (length-map standings (ok (Option Standing))) ∙ sym (ap length same) ∙ are.count in
    record {
      count = count;
      each = λ s site_in.
          rw (same, get_or-map (ok (Option Standing)) standings s None (Err 0) (omega (arith, site_in, count))) at (are.each s site_in);
    }

stands_if_known : (holds : Holds) (folders : List SiteFolder) (schema : SchemaValue) (lost : List SiteNo) (s : ℕ) (standing : Option Standing)
    → IsKnownOutcome holds folders schema lost s (Ok standing) → StandsIfKnown schema s standing
stands_if_known holds folders schema lost s None it = tt
stands_if_known holds folders schema lost s (Some standing) it =
    for_lawful schema s it.comes.gone it.comes.records standing it.size it.comes.tells

pub are_for_known_logs : (holds : Holds) (folders : List SiteFolder) (schema : SchemaValue) (lost : List SiteNo)
    (standings : List (Option Standing)) → KnownAsRead holds folders schema lost standings → AreForKnownLogs schema standings
are_for_known_logs holds folders schema lost standings read = record {
  count = read.count;
  each = λ s site_in. stands_if_known holds folders schema lost s (get_or standings s None) (read.each s site_in);
}

-- The same of one log, or it is lost.
record OfKnown (holds : Holds) (folders : List SiteFolder) (schema : SchemaValue) (lost : List SiteNo) (s : ℕ) (log : Option LogText)
    (standing : Option Standing) : Type 0 where
  read : IsKnownRead holds folders lost s log
  some : (rs : Option (List Record)) × AreKnownRecords schema s log rs
  each : (rs : Option (List Record)) → AreKnownRecords schema s log rs → StandsWhereKnown schema s rs standing

none_stands : (schema : SchemaValue) (s : ℕ) (rs : Option (List Record)) → AreKnownRecords schema s None rs → StandsWhereKnown schema s rs None
none_stands schema s None are = tt
none_stands schema s (Some rs) are = are

one_stands : (holds : Holds) (folders : List SiteFolder) (schema : SchemaValue) (s : ℕ) (log : LogText) (standing : Standing)
    → OfLog holds folders schema s log standing → (rs : Option (List Record)) → AreKnownRecords schema s (Some log) rs
    → StandsWhereKnown schema s rs (Some standing)
one_stands holds folders schema s log standing of None are = are
one_stands holds folders schema s log standing of (Some rs) are = let it = of.each rs are in (it.lawful, it.stands)

of_known : (holds : Holds) (folders : List SiteFolder) (schema : SchemaValue) (lost : List SiteNo) (s : ℕ) (standing : Option Standing)
    → IsKnownOutcome holds folders schema lost s (Ok standing)
    → (log : Option LogText) × OfKnown holds folders schema lost s log standing
of_known holds folders schema lost s None it =
    (None, record { read = it; some = (None, tt); each = none_stands schema s })
of_known holds folders schema lost s (Some standing) it =
    let one = of_log holds folders schema s standing it in (
      Some one.0,
      record {
        read = one.1.read;
        some = (Some one.1.some.0, one.1.some.1);
        each = one_stands holds folders schema s one.0 standing one.1;
      },
    )

record AreOfKnown (holds : Holds) (folders : List SiteFolder) (schema : SchemaValue) (lost : List SiteNo) (standings : List (Option Standing))
    (texts : List (Option LogText)) : Type 0 where
  count : length texts ≡ schema.sites
  standings_count : length standings ≡ schema.sites
  each : (s : ℕ) → s < schema.sites → OfKnown holds folders schema lost s (get_or texts s None) (get_or standings s None)

known_gathered : (holds : Holds) (folders : List SiteFolder) (schema : SchemaValue) (lost : List SiteNo)
    (standings : List (Option Standing)) → KnownAsRead holds folders schema lost standings
    → (texts : List (Option LogText)) × AreOfKnown holds folders schema lost standings texts
known_gathered holds folders schema lost standings read =
    let P : ℕ → Option LogText → Option Standing → Type 0 = λ s log standing. OfKnown holds folders schema lost s log standing in
    let all = gather P None standings
    (λ i d less. of_known holds folders schema lost i (get_or standings i d)
    (rw (get_or_default standings i None d less) at (read.each i (omega (arith, less, read.count))))) in (
      all.all,
      record {
        count = omega (arith, all.count, read.count);
        standings_count = read.count;
        each = λ s site_in. all.each s None (omega (arith, site_in, read.count));
      },
    )

module _ (holds : Holds) (folders : List SiteFolder) (schema : SchemaValue) (lost : List SiteNo) (standings : List (Option Standing))
    (texts : List (Option LogText)) (of : AreOfKnown holds folders schema lost standings texts) where
  some_known : (known : List (Option (List Record))) × AreKnownLogsOf schema texts known
  some_known =
      let P : ℕ → Option (List Record) → Option LogText → Type 0 = λ s rs log. AreKnownRecords schema s log rs in
      let all = gather P None texts
      (λ i d less.
      subst (λ (log : Option LogText). (rs : Option (List Record)) × AreKnownRecords schema i log rs)
      (get_or_default texts i None d less) (of.each i (omega (arith, less, of.count))).some) in (
        all.all,
        record {
          count = omega (arith, all.count, of.count);
          each = λ s site_in. all.each s None (omega (arith, site_in, of.count));
        },
      )

  for_known : (known : List (Option (List Record))) → AreKnownLogsOf schema texts known → AreForKnown schema known standings
  for_known known are = record {
    logs = are.count;
    count = of.standings_count;
    each = λ s site_in. (of.each s site_in).each (get_or known s None) (are.each s site_in);
  }

pub bounds : (holds : Holds) (folders : List SiteFolder) (schema : SchemaValue) (lost : List SiteNo) (standings : List (Option Standing))
    (ranges : List FieldRange) → KnownAsRead holds folders schema lost standings
    → ((known : List (Option (List Record))) → AreForKnown schema known standings → KnownWithin schema known)
    → ((known : List (Option (List Record))) → AreForKnown schema known standings → AreRanges schema known ranges)
    → BoundsAsRead holds folders schema lost ranges
bounds holds folders schema lost standings ranges read within are =
    let it = known_gathered holds folders schema lost standings read in
    record {
      texts = it.0;
      count = it.1.count;
      read = λ s site_in. (it.1.each s site_in).read;
      some = some_known holds folders schema lost standings it.0 it.1;
      within = λ known of. within known (for_known holds folders schema lost standings it.0 it.1 known of);
      bounds = λ known of. are known (for_known holds folders schema lost standings it.0 it.1 known of);
    }

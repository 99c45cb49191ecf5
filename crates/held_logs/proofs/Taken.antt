-- Records that are taken in behind a base, whichever past it has.
use Rattle.std.proofs.Common.{◌≡◌, ℕ, ◌+◌, ◌-◌, true, false, List, [], ◌∷◌, ◌++◌, length, refl, sym, ap, subst, ◌∙◌, arith, append_assoc}
use Rattle.std.specs.List.{flat_map}
use Rattle.std.proofs.lemmas.List.{length-append}
use Rattle.field_bounds.specs.Schema.{SchemaValue}
use Rattle.kept_records.specs.declared.record.Record.{Record}
use Rattle.kept_records.specs.Lines.{IsRecordAt, StartsBad}
use Rattle.kept_records.specs.Logs.{HasNoLf}
use Rattle.kept_records.specs.Stands.{Lawful}
use Rattle.kept_records.specs.Summary.{SummaryValue, summary_record}
use Rattle.kept_records.specs.Text.{text}
use Rattle.kept_records.proofs.Pushes.{lawful_push}
use Rattle.kept_records.proofs.Walks.{begins_none, begins_more, begins_size, ends_there}
use Rattle.log_replay.specs.declared.standing.Standing.{Standing}
use Rattle.log_replay.specs.Standing.{HasSlots, IsStandingFor, TakesIn}
use Rattle.log_replay.proofs.FromSummary.{stands_summary}
use Rattle.log_replay.proofs.StandingLaws.{has_places, after_one}
use Rattle.log_bases.specs.Bases.{IsPast}
use Rattle.log_bases.specs.Pasts.{past_of}
use Rattle.held_logs.specs.Behind.{StartsWith, ComesFrom, IsForLog, IsLineBehind, IsRuleBehind, TakenBehind}

-- ---- the base alone

pub taken_base : (schema : SchemaValue) (s : ℕ) (bytes : List ℕ) (base : SummaryValue) (left : List ℕ) (standing : Standing)
    → IsRecordAt bytes (summary_record base) left → IsPast schema s base (past_of schema s base)
    → ((past : List Record) → IsPast schema s base past → IsStandingFor schema s past standing)
    → TakenBehind schema s bytes standing 1 left
taken_base schema s bytes base left standing at some stands = record {
  base = base;
  records = [];
  begins = begins_more bytes [] bytes (summary_record base) left (begins_none bytes) at;
  lawful = record { some = some; lawful = λ past is. lawful_push schema s past (summary_record base) is.lawful is.told };
  stands = λ past is. record {
    for_ = stands_summary schema s past base standing.rights standing.ledger standing.epoch (stands past is).for_;
    none = (stands past is).none;
  };
  count = refl;
}

-- ---- records behind it

module _ {schema : SchemaValue} {s : ℕ} {bytes : List ℕ} {standing : Standing} {number : ℕ} {left : List ℕ}
    (so_far : TakenBehind schema s bytes standing number left) where
  pub places : HasSlots schema standing.rights standing.ledger
  places =
      let past = past_of schema s so_far.base in
      has_places schema s (past ++ (summary_record so_far.base ∷ so_far.records)) standing.rights standing.ledger standing.epoch
      (so_far.stands past so_far.lawful.some).for_

  -- one more
  pub taken_more : {r : Record} {new behind : List ℕ} {after : Standing} → IsRecordAt left r new → TakesIn schema standing r true after
      → behind ≡ new → TakenBehind schema s bytes after (number + 1) behind
  taken_more {r = r} {new = new} {behind = behind} {after = after} at takes same =
      let all : List Record = summary_record so_far.base ∷ so_far.records in
      let whole : TakenBehind schema s bytes after (number + 1) new = record {
        base = so_far.base;
        records = so_far.records ++ r ∷ [];
        begins = begins_more bytes all left r new so_far.begins at;
        lawful = record {
          some = so_far.lawful.some;
          lawful = λ past is.
              let was = so_far.lawful.lawful past is in
              subst (λ (l : List Record). Lawful schema s l) (append_assoc past all (r ∷ []))
              (lawful_push schema s (past ++ all) r was (sym (takes.answered s (past ++ all) was (so_far.stands past is))));
        };
        stands = λ past is.
            subst (λ (l : List Record). IsStandingFor schema s l after) (append_assoc past all (r ∷ []))
            (after_one schema s (past ++ all) r standing after (so_far.lawful.lawful past is) (so_far.stands past is) takes);
        count = omega (arith, so_far.count, length-append so_far.records (r ∷ []));
      } in
      subst (λ (l : List ℕ). TakenBehind schema s bytes after (number + 1) l) (sym same) whole

  starts : StartsWith bytes so_far.base
  starts = (
    flat_map text so_far.records ++ left,
    record {
      parts = so_far.begins.parts ∙ append_assoc (text (summary_record so_far.base)) (flat_map text so_far.records) left;
      fits = so_far.begins.each.0;
    },
  )

  -- the next may not stand there
  pub broken_rule : {r : Record} {new : List ℕ} {after : Standing} → IsRecordAt left r new → TakesIn schema standing r false after
      → IsRuleBehind schema s bytes (number + 1)
  broken_rule {r = r} {new = new} at takes =
      let all : List Record = summary_record so_far.base ∷ so_far.records in
      record {
        base = so_far.base;
        first = starts;
        some = so_far.lawful.some;
        records = all ++ r ∷ [];
        left = new;
        begins = begins_more bytes all left r new so_far.begins at;
        broken = λ past is. record {
          before = past ++ all;
          breaking = r;
          behind = [];
          place = omega (arith, so_far.count, length-append past all);
          parts = sym (append_assoc past all (r ∷ []));
          lawful = so_far.lawful.lawful past is;
          broken = sym (takes.answered s (past ++ all) (so_far.lawful.lawful past is) (so_far.stands past is));
        };
      }

  -- the next line is no record
  pub bad_line : StartsBad left → IsLineBehind schema s bytes (number + 1)
  bad_line bad =
      let all : List Record = summary_record so_far.base ∷ so_far.records in
      record {
        base = so_far.base;
        first = starts;
        bad = record {
          before = all;
          line = bad.line;
          behind = bad.behind;
          place = omega (arith, so_far.count);
          parts = so_far.begins.parts ∙ ap (λ (l : List ℕ). flat_map text all ++ l) bad.parts;
          each = so_far.begins.each;
          one_line = bad.one_line;
          none = bad.none;
        };
        lawful = so_far.lawful;
      }

  -- no line ends in what is left
  pub comes : (n : ℕ) → n ≡ length bytes - length left → HasNoLf left → ComesFrom schema s bytes standing n
  comes n is none =
      let all : List Record = summary_record so_far.base ∷ so_far.records in
      record {
        base = so_far.base;
        records = so_far.records;
        all = ends_there bytes all left n so_far.begins none (is ∙ begins_size bytes all left so_far.begins);
        lawful = so_far.lawful;
        stands = so_far.stands;
      }

-- ---- what such a standing is for

pub for_log : {schema : SchemaValue} {s : ℕ} {bytes : List ℕ} {standing : Standing} {n : ℕ} → ComesFrom schema s bytes standing n
    → IsForLog schema s standing
for_log {schema = schema} {s = s} from =
    let past = past_of schema s from.base in (
      past ++ (summary_record from.base ∷ from.records),
      from.lawful.lawful past from.lawful.some,
      from.stands past from.lawful.some,
    )

-- Bytes with the texts of records that are gone in front of them.
use Rattle.std.proofs.Common.{◌≡◌, ◌⊎◌, ℕ, ◌+◌, false, List, [], ◌∷◌, ◌++◌, length, take, refl, sym, ◌∙◌, ap, inl, inr, arith, append_assoc, Option, Some, None}
use Rattle.std.specs.Prelude.{Result, Ok, Err}
use Rattle.std.specs.List.{flat_map, AllByRecursion}
use Rattle.std.proofs.Math.Seq.{take-append-add}
use Rattle.std.proofs.lemmas.Bool.{false≢true}
use Rattle.std.proofs.lemmas.List.{append_cancel_left, length-append}
use Rattle.std.proofs.lemmas.List.Concat.{flat_map-append}
use Rattle.field_bounds.specs.Schema.{SchemaValue}
use Rattle.kept_records.specs.declared.medium.Mishap.{Mishap}
use Rattle.kept_records.specs.declared.medium.Mishap.TheVariants.{Never, Append, Cut, Read}
use Rattle.kept_records.specs.declared.record.Record.{Record}
use Rattle.kept_records.specs.Summary.{SummaryValue}
use Rattle.kept_records.specs.Text.{text, IsRecord}
use Rattle.kept_records.specs.Logs.{IsLog}
use Rattle.kept_records.specs.Medium.{IsCutShort, AppendFate}
use Rattle.kept_records.specs.Keeping.{Appends, CutsAndAppends, CutAndAppendFate}
use Rattle.kept_records.specs.ReadingBack.{IsLast, HoldsLast}
use Rattle.kept_records.specs.Stands.{is_summary}
use Rattle.site_step.specs.Site.{SiteValue}
use Rattle.site_step.specs.State.{starts_with_summary, BeginsHeld}
use Rattle.site_step.specs.Resuming.{HoldsBehind, all_bytes}
use Rattle.site_step.proofs.Holding.{all_more}

-- ---- logs

pub all_last : (as1 bs : List Record) → AllByRecursion IsRecord (as1 ++ bs) → AllByRecursion IsRecord bs
all_last [] bs h = h
all_last (r ∷ as1) bs h = all_last as1 bs h.1

pub all_first : (as1 bs : List Record) → AllByRecursion IsRecord (as1 ++ bs) → AllByRecursion IsRecord as1
all_first [] bs h = tt
all_first (r ∷ as1) bs h = (h.0, all_first as1 bs h.1)

-- a log behind records that are gone is one of these and its own
pub with_gone : (gone held : List Record) (bytes rest : List ℕ) → AllByRecursion IsRecord gone → IsLog bytes held rest
    → IsLog (all_bytes gone bytes) (gone ++ held) rest
with_gone gone held bytes rest each log =
    record {
      parts = ap (λ (l : List ℕ). flat_map text gone ++ l) log.parts
          ∙ sym (append_assoc (flat_map text gone) (flat_map text held) rest)
          ∙ ap (λ (l : List ℕ). l ++ rest) (sym (flat_map-append text gone held));
      each = all_more gone held each log.each;
      no_lf = log.no_lf;
    }

-- and its own are a log of what is held
pub without_gone : (gone held : List Record) (bytes rest : List ℕ) → IsLog (all_bytes gone bytes) (gone ++ held) rest → IsLog bytes held rest
without_gone gone held bytes rest log =
    record {
      parts = append_cancel_left (flat_map text gone) bytes (flat_map text held ++ rest)
          (log.parts ∙ ap (λ (l : List ℕ). l ++ rest) (flat_map-append text gone held)
          ∙ append_assoc (flat_map text gone) (flat_map text held) rest);
      each = all_last gone held log.each;
      no_lf = log.no_lf;
    }

pub log_of : {schema : SchemaValue} {s : ℕ} {gone held : List Record} {rest bytes : List ℕ} → HoldsBehind schema s gone held rest bytes
    → IsLog (all_bytes gone bytes) (gone ++ held) rest
log_of {gone = gone} {held = held} {rest = rest} {bytes = bytes} holds = with_gone gone held bytes rest holds.each holds.log

-- more records behind those that are held
pub begins_more : (gone held more : List Record) → BeginsHeld gone held → BeginsHeld gone (held ++ more)
begins_more gone held more (inl none) = inl none
begins_more gone [] more (inr first) = absurd (false≢true first)
begins_more gone (r ∷ held) more (inr first) = inr first

pub parts_more : (gone held rs more : List Record) → rs ≡ gone ++ held → rs ++ more ≡ gone ++ (held ++ more)
parts_more gone held rs more parts = ap (λ (x : List Record). x ++ more) parts ∙ append_assoc gone held more

-- ---- the end of a log

none_gone : (gone held before found : List Record) (summary : Option SummaryValue) → BeginsHeld gone held
    → (last : IsLast held summary found) → last.before ≡ before → summary ≡ None → gone ++ before ≡ []
none_gone gone held before found summary (inl none) last same is = ap (λ (x : List Record). x ++ before) none ∙ sym same ∙ last.all is
none_gone gone held before found None (inr first) last same is =
    absurd (first_found found (ap starts_with_summary (last.parts ∙ ap (λ (x : List Record). x ++ found) (last.all refl))) last.plain)
  where
    first_found : (fs : List Record) → starts_with_summary held ≡ starts_with_summary fs → AllByRecursion (λ r. is_summary r ≡ false) fs → ⊥
    first_found [] is plain = false≢true (sym is ∙ first)
    first_found (f ∷ fs) is plain = false≢true (sym plain.0 ∙ sym is ∙ first)
none_gone gone held before found (Some v) (inr first) last same is = let e : ◌≡◌ {A = Option SummaryValue} (Some v) None = is in absurd cc

-- the last summary is the same where records are gone, for one is held then
pub last_behind : (gone held : List Record) (rest : List ℕ) (summary : Option SummaryValue) (lines : List ℕ) → BeginsHeld gone held
    → HoldsLast held rest summary lines → HoldsLast (gone ++ held) rest summary lines
last_behind gone held rest summary lines begins is =
    record {
      found = is.found;
      last = record {
        before = gone ++ is.last.before;
        parts = ap (λ (x : List Record). gone ++ x) is.last.parts ∙ sym (append_assoc gone is.last.before _);
        all = λ none. none_gone gone held is.last.before is.found summary begins is.last refl none;
        plain = is.last.plain;
      };
      log = is.log;
    }

-- ---- what a medium does

module _ (front : List ℕ) where
  pub cut_short_behind : (old piece new : List ℕ) → IsCutShort old piece new → IsCutShort (front ++ old) piece (front ++ new)
  cut_short_behind old piece new cut =
      (cut.0, ap (λ (l : List ℕ). front ++ l) cut.1 ∙ sym (append_assoc front old (take cut.0 piece)))

  pub appends_behind : {T E : Type 0} (result : Result T E) (old line new : List ℕ) (before after : ℕ)
      → Appends result old line new before after → Appends result (front ++ old) line (front ++ new) before after
  appends_behind (Ok x) old line new before after added =
      (ap (λ (l : List ℕ). front ++ l) added.0 ∙ sym (append_assoc front old line), added.1)
  appends_behind (Err e) old line new before after added = (cut_short_behind old line new added.0, added.1)

  pub append_fate_behind : {E : Type 0} (foretold : Option Mishap) (old piece : List ℕ) (result : Result Unit E) (new : List ℕ)
      (left : Option Mishap)
      → AppendFate foretold old piece result new left → AppendFate foretold (front ++ old) piece result (front ++ new) left
  append_fate_behind None old piece result new left fate = fate
  append_fate_behind (Some (Append n)) old piece result new left fate =
      (fate.0, ap (λ (l : List ℕ). front ++ l) fate.1 ∙ sym (append_assoc front old (take n piece)), fate.2)
  append_fate_behind (Some Never) old piece result new left fate = fate
  append_fate_behind (Some Cut) old piece result new left fate = fate
  append_fate_behind (Some Read) old piece result new left fate = fate

  module _ (whole : ℕ) (old lines new : List ℕ) where
    kept_first : (added : List ℕ) → new ≡ take whole old ++ added
        → front ++ new ≡ take (length front + whole) (front ++ old) ++ added
    kept_first added is =
        ap (λ (l : List ℕ). front ++ l) is ∙ sym (append_assoc front (take whole old) added)
        ∙ ap (λ (l : List ℕ). l ++ added) (sym (take-append-add front old whole))

    cuts_by : ((new ≡ old) ⊎ IsCutShort (take whole old) lines new)
        → ((front ++ new ≡ front ++ old) ⊎ IsCutShort (take (length front + whole) (front ++ old)) lines (front ++ new))
    cuts_by (inl same) = inl (ap (λ (l : List ℕ). front ++ l) same)
    cuts_by (inr cut) = inr (cut.0, kept_first (take cut.0 lines) cut.1)

    pub cuts_behind : {T E : Type 0} (result : Result T E) (before after : ℕ) → CutsAndAppends result whole old lines new before after
        → CutsAndAppends result (length front + whole) (front ++ old) lines (front ++ new) before after
    cuts_behind (Ok x) before after did = (kept_first lines did.0, did.1)
    cuts_behind (Err e) before after did = (cuts_by did.0, did.1)

    pub cut_fate_behind : {E : Type 0} (foretold : Option Mishap) (result : Result Unit E) (left : Option Mishap)
        → CutAndAppendFate foretold whole old lines result new left
        → CutAndAppendFate foretold (length front + whole) (front ++ old) lines result (front ++ new) left
    cut_fate_behind None result left fate = fate
    cut_fate_behind (Some (Append n)) result left fate = (fate.0, kept_first (take n lines) fate.1, fate.2)
    cut_fate_behind (Some Never) result left fate = fate
    cut_fate_behind (Some Read) result left fate = fate
    cut_fate_behind (Some Cut) result left fate =
        let long : length (front ++ old) ≡ length front + length old = length-append front old in (
          λ short.
              let struck = fate.0 (omega (arith, short, long)) in
              (struck.0, ap (λ (l : List ℕ). front ++ l) struck.1, struck.2),
          λ same. fate.1 (omega (arith, same, long)),
        )

-- where nothing is gone, the medium holds all
pub held_whole : (v : SiteValue) {held : List ℕ} → v.gone ≡ [] → v.bytes ≡ all_bytes v.gone held → held ≡ v.bytes
held_whole v {held = held} none is = sym (is ∙ ap (λ (rs : List Record). all_bytes rs held) none)

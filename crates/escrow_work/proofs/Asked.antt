-- What lines ask, one more line at a time, and the first bad one.
use Rattle.std.proofs.Common.{◌≡◌, ◌≢◌, ℕ, ◌+◌, ◌<◌, List, [], ◌∷◌, ◌++◌, Option, length, ◌⊎◌, inl, inr, refl, sym, ap, subst, ◌∙◌, arith}
use Rattle.field_bounds.specs.Schema.{SchemaValue}
use Rattle.field_bounds.specs.declared.id.SiteNo.{SiteNo}
use Rattle.field_bounds.specs.declared.entry.Command.{Command}
use Rattle.entry_text.specs.Lines.{max_line}
use Rattle.site_workers.specs.Scripts.{scripts_of}
use Rattle.script_input.specs.declared.fault.ScriptFault.{ScriptFault}
use Rattle.script_input.specs.declared.fault.ScriptFault.TheVariants as faults
use Rattle.script_input.specs.declared.streams.CallEnd.{CallEnd}
use Rattle.script_input.specs.declared.reader.LineReader.{LineReader}
use Rattle.script_input.specs.Faults.{Explains, HasEndedAt}
use Rattle.script_input.specs.Reader.{Reads, ReadsNoFurther, StopsAt}
use Rattle.script_input.proofs.NextLemmas.{HasNext, next_given, next_long, stops_no_memory}
use Rattle.escrow_work.specs.declared.scripts.Scripts.{Scripts}
use Rattle.escrow_work.specs.Scripts.{IsPlain, IsBadLine, AreAsked, HasScripts, with_command}
use Rattle.escrow_work.specs.Work.{IsGood, FindsBad, FaultIn, TellsOf, FaultsIn}
use Rattle.escrow_work.specs.Reading.{Holds, WantsAt}
use Rattle.escrow_work.proofs.Dealt.{dealt_more}

asked_more : (schema : SchemaValue) (lines : List (List ℕ)) (line : List ℕ) (asked : List (SiteNo × Command))
    (site : SiteNo) (command : Command)
    → AreAsked schema lines asked → IsPlain schema line site command → AreAsked schema (lines ++ line ∷ []) (asked ++ (site, command) ∷ [])
asked_more schema [] line [] site command each plain = (plain, tt)
asked_more schema [] line (a ∷ asked) site command each plain = absurd each
asked_more schema (first ∷ lines) line [] site command each plain = absurd each
asked_more schema (first ∷ lines) line (a ∷ asked) site command each plain = (
  each.0,
  asked_more schema lines line asked site command
      each.1 plain,
)

pub has_more : (schema : SchemaValue) (header : List ℕ) (old : List (List Command)) (lines : List (List ℕ)) (line : List ℕ) (site : SiteNo)
    (command : Command)
    → HasScripts schema header old lines → IsPlain schema line site command → HasScripts schema header (with_command old site.0 command)
    (lines ++ line ∷ [])
has_more schema header old lines line site command has plain = record {
  behind = has.behind ++ line ∷ [];
  asked = has.asked ++ (site, command) ∷ [];
  parts = ap (λ (l : List (List ℕ)). l ++ line ∷ []) has.parts;
  start = has.start;
  each = asked_more schema has.behind line has.asked site command has.each plain;
  dealt = ap (λ (l : List (List Command)). with_command l site.0 command) has.dealt
      ∙ sym (dealt_more schema.sites has.asked site command plain.known);
}

-- ---- where the reading stops

-- a fault behind good lines
pub stops_good : (from to : Option (List ℕ)) (last : CallEnd) (given : List (List ℕ)) (fault : ScriptFault) → IsGood given → fault ≢ faults.Write
    → StopsAt from to last given fault → FaultsIn from to last fault
stops_good from to last given fault good other stops = (stops.front ++ stops.back, (stops.consumed, told fault other stops.why))
  where
    in_front : (fault : ScriptFault) → fault ≢ faults.Write → Explains fault stops.front stops.back (HasEndedAt to last)
        → FaultIn fault (stops.front ++ stops.back) (HasEndedAt to last)
    in_front fault other why = record {
      front = stops.front;
      back = stops.back;
      parts = refl;
      why = why;
      good = subst IsGood (sym stops.whole) good;
      other = other;
    }

    told : (fault : ScriptFault) → fault ≢ faults.Write → Explains fault stops.front stops.back (HasEndedAt to last)
        → TellsOf fault (stops.front ++ stops.back) (HasEndedAt to last)
    told faults.Read other why = in_front faults.Read other why
    told faults.TooLong other why = in_front faults.TooLong other why
    told faults.Write other why = absurd (other refl)
    told (faults.Header e) other why = in_front (faults.Header e) other why
    told (faults.BadLine n) other why = absurd why
    told (faults.Work e) other why = absurd why
    told faults.Stuck other why = absurd why
    told faults.Illegal other why = absurd why
    told faults.NoMemory other why = in_front faults.NoMemory other why

-- want of memory
pub stops_memory : (from to : Option (List ℕ)) (last : CallEnd) → WantsAt from to → FaultsIn from to last faults.NoMemory
stops_memory from to last wants =
    stops_good from to last wants.given faults.NoMemory wants.good (λ h. cc) (stops_no_memory from to last wants.given wants.no_further)

-- for the header
pub wants_header : (from to : Option (List ℕ)) → ReadsNoFurther from to [] → WantsAt from to
wants_header from to reads = record { given = []; good = inl refl; no_further = reads }

-- for a line behind it
pub wants_on : (from was to : Option (List ℕ)) (scripts : Scripts) (given : List (List ℕ)) → Holds scripts given → WantsAt from was
    → (to ≡ was) ⊎ ReadsNoFurther from to given → WantsAt from to
wants_on from was to scripts given holds wants (inl same) = subst (λ (t : Option (List ℕ)). WantsAt from t) (sym same) wants
wants_on from was to scripts given holds wants (inr reads) = record {
  given = given;
  good = inr (scripts.schema, (scripts.header.items, (scripts_of scripts.rows.items, holds)));
  no_further = reads;
}

module _ (from to : Option (List ℕ)) (last : CallEnd) (r : LineReader) (scripts : Scripts) (given : List (List ℕ))
    (holds : Holds scripts given) where
  bad_next : (line : List ℕ) (number : ℕ) → number ≡ length given + 1 → IsBadLine scripts.schema line → HasNext from to last given line max_line
      → FaultsIn from to last (faults.BadLine number)
  bad_next line number place bad next = (
    next.read,
    (
      next.consumed,
      subst (λ n. FindsBad next.read n (HasEndedAt to last)) (sym place) (record {
        first = record {
          schema = scripts.schema;
          header = scripts.header.items;
          scripts = scripts_of scripts.rows.items;
          front = given;
          line = line;
          back = next.later;
          parts = next.parts;
          good = holds;
          bad = bad;
          place = refl;
        };
        reached = next.reached;
      }),
    ),
  )

  pub finds_bad : (line : List ℕ) (number : ℕ) → number ≡ length given + 1 → IsBadLine scripts.schema line → r.passed ≡ 0
      → Reads from to last r (given ++ line ∷ []) → FaultsIn from to last (faults.BadLine number)
  finds_bad line number place bad none reads =
      bad_next line number place bad
      (next_given from to last r scripts.header.items holds.behind given holds.parts line max_line none reads)

  -- a line that is too long is bad, whatever it says
  pub finds_long : (number : ℕ) → number ≡ length given + 1 → max_line < r.passed → Reads from to last r given
      → FaultsIn from to last (faults.BadLine number)
  finds_long number place long reads =
      let (line, (size, next)) = next_long from to last r scripts.header.items holds.behind given holds.parts max_line long reads in
      bad_next line number place (λ site command plain. omega (arith, plain.short, size)) next

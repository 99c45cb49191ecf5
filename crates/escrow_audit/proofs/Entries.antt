-- The entries of lines, one more line at a time, and what the reading finds.
use Rattle.std.proofs.Common.{◌≡◌, ℕ, ◌+◌, ◌<◌, List, [], ◌∷◌, ◌++◌, Option, Bool, true, length, ◌⊎◌, inl, inr, refl, sym, ap, subst, ◌∙◌, arith}
use Rattle.field_bounds.specs.Schema.{SchemaValue}
use Rattle.field_bounds.specs.declared.entry.Entry.{Entry}
use Rattle.entry_text.specs.Lines.{max_line}
use Rattle.script_input.specs.declared.fault.ScriptFault.TheVariants.{NoMemory}
use Rattle.script_input.specs.declared.streams.CallEnd.{CallEnd}
use Rattle.script_input.specs.declared.reader.LineReader.{LineReader}
use Rattle.script_input.specs.Faults.{HasEndedAt}
use Rattle.script_input.specs.Reader.{Reads, ReadsNoFurther}
use Rattle.script_input.proofs.NextLemmas.{HasNext, next_given, next_long, stops_no_memory}
use Rattle.escrow_audit.specs.Audit.{AreEntries, HasEntries, IsBadEntry, FindsBad}
use Rattle.escrow_audit.specs.Reading.{Notes, FindsIn, FaultsIn, WantsAt}
use Rattle.escrow_audit.specs.declared.reading.ReadInput.TheVariants.{BadEntry}

-- a line behind entries that begin with one
notes_behind : (schema : SchemaValue) (line : List ℕ) (entry : Entry) (later old new : List Entry) → old ≡ entry ∷ later
    → Notes schema line old new
    → (rest : List Entry) × (Notes schema line later rest × (new ≡ entry ∷ rest))
notes_behind schema line entry later old new e notes = elim notes [
  | inl remark ↦ (later, (inl (remark.0, refl), remark.1 ∙ e))
  | inr more ↦ (later ++ more.0 ∷ [], (inr (more.0, (more.1.0, refl)), more.1.1 ∙ ap (λ (l : List Entry). l ++ more.0 ∷ []) e))
]

AreEntries-more : (schema : SchemaValue) (lines : List (List ℕ)) (line : List ℕ) (old new : List Entry)
    → AreEntries schema lines old → Notes schema line old new → AreEntries schema (lines ++ line ∷ []) new
AreEntries-more schema [] line old new none notes = elim notes [
  | inl remark ↦ inl (remark.0, remark.1 ∙ none)
  | inr more ↦ inr (more.0, ([], (more.1.0, (refl, more.1.1 ∙ ap (λ (l : List Entry). l ++ more.0 ∷ []) none))))
]
AreEntries-more schema (first ∷ lines) line old new all notes = elim all [
  | inl remark ↦ inl (remark.0, AreEntries-more schema lines line old new remark.1 notes)
  | inr some ↦
      let (entry, (later, (is, (rest, e)))) = some in
      let (more, (noted, whole)) = notes_behind schema line entry later old new e notes in
      inr (entry, (more, (is, (AreEntries-more schema lines line later more rest noted, whole))))
]

pub HasEntries-more : (schema : SchemaValue) (lines : List (List ℕ)) (line : List ℕ) (old new : List Entry)
    → HasEntries schema old lines → Notes schema line old new → HasEntries schema new (lines ++ line ∷ [])
HasEntries-more schema lines line old new has notes = record {
  header = has.header;
  behind = has.behind ++ line ∷ [];
  parts = ap (λ l. l ++ line ∷ []) has.parts;
  start = has.start;
  each = AreEntries-more schema has.behind line old new has.each notes;
}

-- ---- the first bad entry

module _ {E : Type 0} (taken : SchemaValue → List Entry → E → Type 0) (from to : Option (List ℕ)) (last : CallEnd) (r : LineReader)
    (schema : SchemaValue) (entries : List Entry) (given : List (List ℕ)) (has : HasEntries schema entries given) where
  bad_next : (line : List ℕ) (number : ℕ) → number ≡ length given + 1 → IsBadEntry schema line → HasNext from to last given line max_line
      → FindsIn taken from to last (BadEntry number)
  bad_next line number place bad next = (
    next.read,
    (
      next.consumed,
      subst (λ n. FindsBad next.read n (HasEndedAt to last)) (sym place) (record {
        first = record {
          schema = schema;
          entries = entries;
          front = given;
          line = line;
          back = next.later;
          parts = next.parts;
          good = has;
          bad = bad;
          place = refl;
        };
        reached = next.reached;
      }),
    ),
  )

  pub finds_bad : (line : List ℕ) (number : ℕ) → number ≡ length given + 1 → IsBadEntry schema line → r.passed ≡ 0
      → Reads from to last r (given ++ line ∷ []) → FindsIn taken from to last (BadEntry number)
  finds_bad line number place bad none reads =
      bad_next line number place bad (next_given from to last r has.header has.behind given has.parts line max_line none reads)

  -- a line that is too long is bad, whatever it says
  pub finds_long : (number : ℕ) → number ≡ length given + 1 → max_line < r.passed → Reads from to last r given
      → FindsIn taken from to last (BadEntry number)
  finds_long number place long reads =
      let (line, (size, next)) = next_long from to last r has.header has.behind given has.parts max_line long reads in
      bad_next line number place
      (record { no_entry = λ entry is. omega (arith, is.short, size); no_remark = λ is. omega (arith, is.short, size) }) next

-- ---- want of memory

pub faults_no_memory : (keeps : Bool) (from to : Option (List ℕ)) (last : CallEnd) → WantsAt keeps from to → FaultsIn from to last NoMemory
faults_no_memory keeps from to last wants = (wants.given, (wants.good, stops_no_memory from to last wants.given wants.no_further))

-- for the header
pub wants_header : (keeps : Bool) (from to : Option (List ℕ)) → ReadsNoFurther from to [] → WantsAt keeps from to
wants_header keeps from to reads = record { given = []; good = inl refl; header = λ e. refl; no_further = reads }

-- for a line behind it, of which it is known
pub wants_on : (from was to : Option (List ℕ)) (schema : SchemaValue) (entries : List Entry) (given : List (List ℕ)) → HasEntries schema entries given
    → WantsAt true from was → (to ≡ was) ⊎ ReadsNoFurther from to given → WantsAt true from to
wants_on from was to schema entries given has wants (inl same) = subst (λ (t : Option (List ℕ)). WantsAt true from t) (sym same) wants
wants_on from was to schema entries given has wants (inr reads) =
    record { given = given; good = inr (schema, (entries, has)); header = λ e. cc; no_further = reads }

-- and where that entry is kept
pub wants_entry : (keeps : Bool) (from to : Option (List ℕ)) → keeps ≡ true → WantsAt true from to → WantsAt keeps from to
wants_entry keeps from to e wants = subst (λ (k : Bool). WantsAt k from to) (sym e) wants

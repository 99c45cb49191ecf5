-- What is told of a reading.
use Rattle.std.proofs.Common.{◌≡◌, ℕ, ◌+◌, List, [], ◌∷◌, ◌++◌, Option, length, take, get_or, ◌<◌, refl, sym, ap, ◌∙◌, subst, append_assoc}
use Rattle.std.proofs.lemmas.List.{take_more}
use Rattle.field_bounds.specs.Schema.{SchemaValue}
use Rattle.field_bounds.specs.declared.entry.Command.{Command}
use Rattle.field_bounds.specs.declared.entry.Entry.{Entry}
use Rattle.entry_text.specs.Spelling.{entry_text}
use Rattle.script_input.specs.declared.fault.ScriptFault.{ScriptFault}
use Rattle.script_input.specs.declared.fault.ScriptFault.TheVariants as faults
use Rattle.script_input.specs.declared.streams.CallEnd.{CallEnd}
use Rattle.script_input.specs.Lines.{script_lines}
use Rattle.script_input.specs.Faults.{HasEndedAt}
use Rattle.site_workers.specs.Scripts.{scripts_of, ScriptsFit}
use Rattle.escrow_work.specs.declared.scripts.Scripts.{Scripts}
use Rattle.escrow_work.specs.Work.{entries_text, work_text, IsAsked, MakesNone, FaultsIn}
use Rattle.escrow_work.specs.Reading.{Holds, ReadsThrough, WantsAt}
use Rattle.escrow_work.proofs.Dealt.{dealt_fit}
use Rattle.escrow_work.proofs.Asked.{stops_memory}

-- ---- the text

entries_more : (schema : SchemaValue) (es : List Entry) (e : Entry) → entries_text schema (es ++ e ∷ [])
    ≡ entries_text schema es ++ (entry_text schema e ++ 10 ∷ [])
entries_more schema [] e = refl
entries_more schema (f ∷ es) e =
    ap (λ (l : List ℕ). entry_text schema f ++ (10 ∷ l)) (entries_more schema es e)
    ∙ sym (append_assoc (entry_text schema f) (10 ∷ entries_text schema es) (entry_text schema e ++ 10 ∷ []))

-- one entry more
pub text_more : (schema : SchemaValue) (header : List ℕ) (es : List Entry) (i : ℕ) (d : Entry) (out mid next : List ℕ) → i < length es
    → out ≡ work_text schema header (take i es)
    → mid ≡ out ++ entry_text schema (get_or es i d) → next ≡ mid ++ 10 ∷ [] → next ≡ work_text schema header (take (i + 1) es)
text_more schema header es i d out mid next below so_far line ended =
    let e = get_or es i d in
    let front = header ++ (10 ∷ entries_text schema (take i es)) in
    ended ∙ ap (λ (l : List ℕ). l ++ 10 ∷ []) (line ∙ ap (λ (l : List ℕ). l ++ entry_text schema e) so_far)
    ∙ append_assoc front (entry_text schema e) (10 ∷ [])
    ∙ append_assoc header (10 ∷ entries_text schema (take i es)) (entry_text schema e ++ 10 ∷ [])
    ∙ ap (λ (l : List ℕ). header ++ (10 ∷ l)) (sym (entries_more schema (take i es) e)
    ∙ ap (entries_text schema) (sym (take_more es i d below)))

-- ---- what is made

pub fit_through : (from to : Option (List ℕ)) (last : CallEnd) (w : Scripts) → ReadsThrough from to last w
    → ScriptsFit w.schema (scripts_of w.rows.items)
fit_through from to last w through =
    let holds : Holds w (script_lines through.0) = through.1.1.1.1 in
    subst (λ (l : List (List Command)). ScriptsFit w.schema l) (sym holds.dealt)
    (dealt_fit w.schema holds.behind holds.asked holds.each)

pub faults_through : (from to : Option (List ℕ)) (last : CallEnd) (w : Scripts) (fault : ScriptFault) → ReadsThrough from to last w
    → WantsAt from to → MakesNone w.schema (scripts_of w.rows.items) fault → FaultsIn from to last fault
faults_through from to last w fault through wants none = told fault none
  where
    asked : IsAsked w.schema (scripts_of w.rows.items) through.0 (HasEndedAt to last)
    asked = record { header = w.header.items; good = through.1.1.1.1; within = through.1.1.1.0; at = through.1.1.0 }

    told : (fault : ScriptFault) → MakesNone w.schema (scripts_of w.rows.items) fault → FaultsIn from to last fault
    told faults.Read none = absurd none
    told faults.TooLong none = absurd none
    told faults.Write none = absurd none
    told (faults.Header e) none = absurd none
    told (faults.BadLine number) none = absurd none
    told (faults.Work fault) none = (through.0, (through.1.0, (w.schema, (scripts_of w.rows.items, (asked, none)))))
    told faults.Stuck none = (through.0, (through.1.0, (w.schema, (scripts_of w.rows.items, (asked, none)))))
    told faults.Illegal none = absurd none
    told faults.NoMemory none = stops_memory from to last wants

-- The trace is read once, each entry at its site.
use Rattle.std.proofs.Common.{◌≡◌, ◌≢◌, ℕ, ◌+◌, ◌-◌, ◌<◌, ◌≤◌, false, List, [], ◌∷◌, ◌++◌, take, drop, reverse, length, get_or, slice_set, refl, sym, ◌∙◌, ap, subst, arith, inl, inr}
use Rattle.std.proofs.Math.ListN.{drop_of_length-le}
use Rattle.std.proofs.Math.Seq.{take-append_seam}
use Rattle.std.proofs.lemmas.Bool.{cases_eq}
use Rattle.std.proofs.lemmas.List.{get_or_default, take_all, length-append, length-set, get_or-set_same, get_or-set_other, get_or_push, get_or_append_left}
use Rattle.field_bounds.specs.declared.entry.Reply.{Reply}
use Rattle.field_bounds.specs.declared.entry.Reply.TheVariants.{Restarted}
use Rattle.field_bounds.specs.declared.entry.Entry.{Entry}
use Rattle.field_bounds.specs.Schema.{SchemaValue}
use Rattle.field_bounds.specs.Effects.{fresh, after, doubt_kept_before, doubt_kept_in}
use Rattle.field_bounds.specs.Central.{at_site, IsSound}
use Rattle.field_bounds.proofs.Lawful.{IsLawful}
use Rattle.field_bounds.proofs.Traces.{own_here}
use Rattle.world_steps.specs.View.{WorldValue, trace_of}
use Rattle.world_steps.specs.declared.step.StepReply.TheVariants.{Made}
use Rattle.reaching_steps.specs.declared.standing.FieldHoldings.{FieldHoldings}
use Rattle.reaching_steps.specs.FieldHoldings.{Stands}
use Rattle.reaching_steps.specs.Told.{ends_doubt, ReadsOwn, Puts, AllRead, AreReadIn, AllTold, Renews}
use Rattle.reaching_steps.proofs.Reading.{reads_there, reads_here, reads_on, front_at}
use Rattle.reaching_steps.proofs.Table.{told_next, made_is}

-- ---- a table in which nothing took effect

abbrev pub Empties : ℕ → List FieldHoldings → Type 0
Empties f rows = (s : ℕ) (d : FieldHoldings) → s < length rows → Stands f (get_or rows s d) []

pub empty_none : (f : ℕ) (rows : List FieldHoldings) → rows ≡ [] → (length rows ≡ 0) × Empties f rows
empty_none f rows none =
    let short : length rows ≡ 0 = ap (λ (l : List FieldHoldings). length l) none in
    (short, λ s d below. absurd (omega (arith, below, short)))

pub empty_more : (f : ℕ) (rows more : List FieldHoldings) (v : FieldHoldings) (i : ℕ) → length rows ≡ i → more ≡ rows ++ v ∷ [] → Stands f v []
    → Empties f rows → (length more ≡ i + 1) × Empties f more
empty_more f rows more v i long is here empty =
    let longer : length more ≡ i + 1 = ap (λ (l : List FieldHoldings). length l) is ∙ length-append rows (v ∷ []) ∙ omega (arith, long) in (
      longer,
      λ s d below.
          elim (cases_eq s i) [
            | inl same ↦ rw (is, same, get_or_push rows v d i long) here
            | inr other ↦
                let inside : s < length rows = omega (arith, below, longer, long, other) in
                rw (is, get_or_append_left rows (v ∷ []) d s inside) (empty s d inside)
          ],
    )

-- ---- one entry more

pub read_past : (schema : SchemaValue) (f : ℕ) (rows : List FieldHoldings) (e : Entry) (later : List Entry) → length rows ≤ e.site.0
    → AllRead schema f rows e later rows
read_past schema f rows e later past = λ s d below.
    let apart : e.site.0 ≢ s = λ same. omega (arith, past, below, same) in
    reads_there schema s f (get_or rows s d) (get_or rows s d) e later apart refl

pub read_one : (schema : SchemaValue) (f : ℕ) (rows : List FieldHoldings) (v d : FieldHoldings) (e : Entry) (later : List Entry)
    → e.site.0 < length rows → ReadsOwn schema e.site.0 f (get_or rows e.site.0 d) e (doubt_kept_in e.site.0 later) v
    → AllRead schema f rows e later (slice_set rows e.site.0 v)
read_one schema f rows v d e later inside did = λ s x below.
    elim (cases_eq e.site.0 s) [
      | inl same ↦
          rw (← same, get_or-set_same rows e.site.0 v x inside)
          (reads_here schema e.site.0 f (get_or rows e.site.0 x) v e later refl (rw (get_or_default rows e.site.0 d x inside) at did))
      | inr other ↦
          reads_there schema s f (get_or rows s x) (get_or (slice_set rows e.site.0 v) s x) e later other
          (get_or-set_other rows e.site.0 s v x (λ h. other (sym h)))
    ]

-- ---- the whole trace

pub read_start : (schema : SchemaValue) (f : ℕ) (trace : List Entry) (rows : List FieldHoldings) → Empties f rows
    → AreReadIn schema f trace 0 rows
unfolding AreReadIn
read_start schema f trace rows empty = λ s d below. empty s d below

pub read_next : (schema x : SchemaValue) → x ≡ schema → (f : ℕ) (trace t : List Entry) (i : ℕ) (e : Entry) (rows more : List FieldHoldings)
    → i < length trace → length rows ≡ schema.sites → length more ≡ length rows → reverse trace ≡ t → IsSound schema t
    → AllRead x f rows (get_or trace i e) (take (length trace - (i + 1)) (drop (i + 1) trace)) more
    → AreReadIn schema f trace i rows → AreReadIn schema f trace (i + 1) more
unfolding AreReadIn
read_next schema x same f trace t i e rows more below count long is sound read was = λ s d inside.
    let old : s < length rows = omega (arith, inside, long) in
    reads_on schema x same s f i trace t e (get_or rows s d) (get_or more s d) below (omega (arith, old, count)) is sound (read s d old)
    (was s d old)

pub front_whole : (schema : SchemaValue) (s f : ℕ) (trace t : List Entry) (i : ℕ) (had : FieldHoldings) → length trace ≤ i
    → reverse trace ≡ t → Stands f had (front_at schema s trace i) → Stands f had (at_site schema t s)
front_whole schema s f trace t i had past is was =
    rw (drop_of_length-le trace past, take_all i trace past, is) at was

pub read_whole : (schema : SchemaValue) (f : ℕ) (trace t : List Entry) (i : ℕ) (rows : List FieldHoldings) → length trace ≤ i
    → reverse trace ≡ t → AreReadIn schema f trace i rows → AllTold schema f t rows
unfolding AreReadIn AllTold
read_whole schema f trace t i rows past is was = λ s d below.
    front_whole schema s f trace t i (get_or rows s d) past is (was s d below)

-- ---- a step's entry

no_doubt : (r : Reply) → ends_doubt r ≡ false → doubt_kept_before false r ≡ false
no_doubt (Restarted epoch found) h = cc
no_doubt r h = refl

pub renews_put : (v : WorldValue) (f : ℕ) (e : Entry) (rows more : List FieldHoldings) (x d : FieldHoldings) → e.site.0 < length rows
    → ends_doubt e.reply ≡ false → IsLawful v.schema (fresh v.schema e.site.0) (at_site v.schema (trace_of v) e.site.0)
    → Puts f (get_or rows e.site.0 d) e x → more ≡ slice_set rows e.site.0 x → Renews v f (Made e) rows more
unfolding Renews AllTold Puts
renews_put v f e rows more x d inside calm lawful put set = λ w step is same told.
    let s = e.site.0 in
    let base = fresh v.schema s in
    let t = trace_of w in
    let now : trace_of v ≡ e ∷ t = made_is w v step e is in
    let before = subst (λ (y : SchemaValue). AllTold y f t rows) (sym same) told.1 in
    let es = at_site v.schema t s in
    let next : at_site v.schema (trace_of v) s ≡ after base false e.command e.reply es =
    rw (now, own_here s e t refl, no_doubt e.reply calm) refl in
    let here : Stands f x (at_site v.schema (trace_of v) s) = rw next (put v.schema base es (rw next at lawful) (before s d inside)) in
    (rw (set, length-set rows s x, told.0, same) refl, rw set (told_next v.schema f t (trace_of v) e rows x now here before))

pub told_back : (schema : SchemaValue) (f : ℕ) (t : List Entry) (rows all : List FieldHoldings) (n : ℕ) → length rows ≡ n
    → AllTold schema f t rows → AllTold schema f t (take n (rows ++ drop (length rows) all))
told_back schema f t rows all n long told =
    rw (← long, take-append_seam rows (drop (length rows) all)) told

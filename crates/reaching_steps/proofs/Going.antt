-- One more step whose append is whole, and which meets no refusal.
use Rattle.std.proofs.Common.{◌≡◌, ℕ, ◌≢◌, false, List, [], ◌∷◌, ◌++◌, reverse, refl, sym, ◌∙◌, ap, subst, inl, inr, Option, Some, None}
use Rattle.std.proofs.lemmas.List.{reverse-append}
use Rattle.std.proofs.lemmas.Bool.{cases_eq}
use Rattle.field_bounds.specs.declared.id.SiteNo.{SiteNo}
use Rattle.field_bounds.specs.declared.entry.Statement.{Statement}
use Rattle.field_bounds.specs.declared.entry.Command.{Command}
use Rattle.field_bounds.specs.declared.entry.Command.TheVariants.{Restart, Accept}
use Rattle.field_bounds.specs.declared.entry.Reply.{Reply}
use Rattle.field_bounds.specs.declared.entry.Last.{Last}
use Rattle.field_bounds.specs.declared.entry.Refusal.{Refusal}
use Rattle.field_bounds.specs.declared.entry.Entry.{Entry}
use Rattle.field_bounds.specs.Schema.{SchemaValue}
use Rattle.field_bounds.specs.Effects.{fresh}
use Rattle.field_bounds.specs.Owed.{Place, place, first, refusals, answer}
use Rattle.field_bounds.specs.Statements.{IsIssued}
use Rattle.field_bounds.specs.Central.{own}
use Rattle.field_bounds.proofs.Refused.{is_restart}
use Rattle.field_bounds.proofs.Traces.{own_here, own_there}
use Rattle.kept_state.specs.declared.luck.Luck.{Luck}
use Rattle.kept_state.specs.declared.luck.Luck.TheVariants.{Fine}
use Rattle.kept_state.specs.Luck.{Lucky, entries, own_lucky, refused_or, owed_with, lucky_reply}
use Rattle.kept_state.proofs.Lucky.{own_entries}
use Rattle.world_steps.specs.declared.step.WorldStep.{WorldStep}
use Rattle.world_steps.specs.World.{question_of, luck_of, with_entry, world_of, trace_by, statements_issued, statement_at, delivery_of}
use Rattle.world_steps.specs.declared.step.WorldStep.TheVariants.{Do, Deliver}
use Rattle.reaching_steps.proofs.Sites.{Keeps, keeps_refl, keeps_trans}

fine_reply : (at : Place) (epoch : ℕ) (found : Last) (c : Command) → is_restart c ≡ false → first (refusals at c) ≡ None
    → owed_with at epoch found c Fine ≡ answer at c
fine_reply at epoch found Restart plain h = cc
fine_reply at epoch found c plain h = ap (λ (o : Option Refusal). refused_or o (answer at c)) h

module _ (schema : SchemaValue) where
  abbrev pub here : List Entry → ℕ → Place
  here t s = place schema s (fresh schema s) (own s t)

  abbrev pub made : List Entry → SiteNo → Command → Entry
  made t s c = record { site = s; command = c; reply = answer (here t s.0) c }

  lucky_is : (past : List Lucky) (s : ℕ) (c : Command) → is_restart c ≡ false → first (refusals (here (entries past) s) c) ≡ None
      → lucky_reply schema s (fresh schema s) (own_lucky s past) c Fine ≡ answer (here (entries past) s) c
  lucky_is past s c plain h =
      let same = ap (λ (o : List Entry). place schema s (fresh schema s) o) (own_entries s past) in
      fine_reply (place schema s (fresh schema s) (entries (own_lucky s past))) _ _ c plain
      (ap (λ (at : Place). first (refusals at c)) same ∙ h)
      ∙ ap (λ (at : Place). answer at c) same

  -- the trace grows by the one entry with the answer
  pub goes : (steps : List WorldStep) (step : WorldStep) (s : SiteNo) (c : Command) → question_of (trace_by schema steps) step ≡ Some (s, c)
      → luck_of step ≡ Fine → is_restart c ≡ false
      → first (refusals (here (trace_by schema steps) s.0) c) ≡ None
      → trace_by schema (steps ++ step ∷ []) ≡ made (trace_by schema steps) s c ∷ trace_by schema steps
  goes steps step s c asks fine plain h =
      let past : List Lucky = world_of schema (reverse steps) in
      ap (λ (l : List WorldStep). entries (world_of schema l)) (reverse-append steps (step ∷ []))
      ∙ ap (λ (o : Option (SiteNo × Command)). entries (with_entry schema o (luck_of step) past)) asks
      ∙ ap (λ (luck : Luck). entries (with_entry schema (Some (s, c)) luck past)) fine
      ∙ ap (λ (r : Reply). (let e : Entry = record { site = s; command = c; reply = r } in e) ∷ entries past) (lucky_is past s.0 c plain h)

  pub goes_do : (steps : List WorldStep) (s : ℕ) (c : Command) → is_restart c ≡ false
      → first (refusals (here (trace_by schema steps) s) c) ≡ None
      → trace_by schema (steps ++ Do (record { 0 = s }) c Fine ∷ []) ≡ made (trace_by schema steps) (record { 0 = s }) c
      ∷ trace_by schema steps
  goes_do steps s c plain h = goes steps (Do (record { 0 = s }) c Fine) (record { 0 = s }) c refl refl plain h

  pub goes_deliver : (steps : List WorldStep) (which : ℕ) (told : Statement)
      → statement_at which (statements_issued (trace_by schema steps)) ≡ Some told
      → first (refusals (here (trace_by schema steps) told.to.0) (Accept told)) ≡ None
      → trace_by schema (steps ++ Deliver which Fine ∷ []) ≡ made (trace_by schema steps) told.to (Accept told) ∷ trace_by schema steps
  goes_deliver steps which told is h =
      goes steps (Deliver which Fine) told.to (Accept told) (ap (λ (o : Option Statement). delivery_of o) is) refl refl h

  -- ---- what a later trace keeps of an earlier one, of a field, where nothing happens at the named site

  pub record Leaves (named f : ℕ) (t u : List Entry) : Type 0 where
    pub mine : own named u ≡ own named t
    pub sites : (s : ℕ) → Keeps (fresh schema s) f (own s t) (own s u)
    pub issued : (x : Statement) → IsIssued x t → IsIssued x u

  pub leaves_refl : (named f : ℕ) (t : List Entry) → Leaves named f t t
  leaves_refl named f t = record { mine = refl; sites = λ s. keeps_refl (fresh schema s) f (own s t); issued = λ x h. h }

  pub leaves_trans : (named f : ℕ) (t u v : List Entry) → Leaves named f t u → Leaves named f u v → Leaves named f t v
  leaves_trans named f t u v a b =
      record {
        mine = b.mine ∙ a.mine;
        sites = λ s. keeps_trans (fresh schema s) f (own s t) (own s u) (own s v) (a.sites s) (b.sites s);
        issued = λ x h. b.issued x (a.issued x h);
      }

  pub leaves_one : (named f : ℕ) (e : Entry) (t : List Entry) → e.site.0 ≢ named
      → Keeps (fresh schema e.site.0) f (own e.site.0 t) (e ∷ own e.site.0 t) → Leaves named f t (e ∷ t)
  leaves_one named f e t apart keeps =
      record {
        mine = own_there named e t apart;
        sites = λ s.
            elim (cases_eq e.site.0 s) [
              | inl same ↦
                  subst (λ (j : ℕ). Keeps (fresh schema j) f (own j t) (own j (e ∷ t))) same
                  (subst (λ (o : List Entry). Keeps (fresh schema e.site.0) f (own e.site.0 t) o) (sym (own_here e.site.0 e t refl)) keeps)
              | inr other ↦ rw (own_there s e t other) (keeps_refl (fresh schema s) f (own s t))
            ];
        issued = λ x h. inr h;
      }

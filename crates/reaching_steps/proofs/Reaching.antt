-- Where no fault holds, the steps reach the target.
use Rattle.std.proofs.Common.{◌≡◌, ℕ, suc, ◌+◌, ◌-◌, ◌<◌, ◌≤◌, ◌≢◌, Bool, true, false, cond, List, [], ◌∷◌, ◌++◌, length, refl, sym, ◌∙◌, ap, subst, inl, inr, arith, None, All}
use Rattle.std.proofs.lemmas.Bool.{cases_Bool, cases_eq, eq-eqb, eqb-true}
use Rattle.std.proofs.lemmas.Int.{ints}
use Rattle.std.specs.Prelude.{ℤ, pos, negsuc, ◌+ℤ◌, ◌-ℤ◌, ◌≤ℤ◌, unsigned_abs}
use Rattle.field_bounds.specs.declared.kind.Kind.{Kind}
use Rattle.field_bounds.specs.declared.kind.Kind.TheVariants.{Lower, Raise}
use Rattle.field_bounds.specs.declared.id.SiteNo.{SiteNo}
use Rattle.field_bounds.specs.declared.id.FieldNo.{FieldNo}
use Rattle.field_bounds.specs.declared.entry.Entry.{Entry}
use Rattle.field_bounds.specs.Schema.{SchemaValue}
use Rattle.field_bounds.specs.declared.effect.Effect.{Effect}
use Rattle.field_bounds.specs.Limits.{IsSchema}
use Rattle.field_bounds.specs.Parts.{sum_below, field_at}
use Rattle.field_bounds.specs.Effects.{fresh, share, own_rights, cut, effects}
use Rattle.field_bounds.specs.Central.{own, at_site, committed_value}
use Rattle.field_bounds.proofs.Conserved.{lawful_at}
use Rattle.field_bounds.proofs.Sums.{term_below}
use Rattle.world_steps.specs.declared.step.WorldStep.{WorldStep}
use Rattle.world_steps.specs.World.{StepFits, trace_by}
use Rattle.reaching_steps.specs.Reach.{steps_of_tasks, over_sites, aborts, passes_on, moves, tasks, same_value, reach_steps, reach_fault}
use Rattle.reaching_steps.proofs.Sites.{NoneOpen}
use Rattle.reaching_steps.proofs.Plans.{sound_of, Went, went_none, went_as, went_same, Leads, leads_task, leads_on, leads_over, Claim}
use Rattle.reaching_steps.proofs.Going.{Leaves}
use Rattle.reaching_steps.proofs.Aborting.{abort_all}
use Rattle.reaching_steps.proofs.Passing.{Calm, Passed, calm_still, all_passed}
use Rattle.reaching_steps.proofs.Balance.{but, but_here, but_there, below_is, above_is}
use Rattle.reaching_steps.proofs.Moving.{signed, Moving, all_moved}
use Rattle.reaching_steps.proofs.Clear.{is_clear}

none_left : (k : Kind) (all sum : ℕ) (target value : ℤ) → all ≤ sum → target -ℤ value ≡ signed k (all - sum) → value ≡ target
none_left Raise all sum target value h is = omega (arith, ints, h, is)
none_left Lower all sum target value h is =
    let none : all - sum ≡ 0 = omega (arith, h) in
    let zero_is : target -ℤ value ≡ pos 0 = is ∙ ap (λ (n : ℕ). signed Lower n) none in
    omega (arith, ints, zero_is)

module _ (schema : SchemaValue) (good : IsSchema schema) (named f : ℕ) (named_in : named < schema.sites) (known : f < length schema.fields)
    (mine : List Entry) (target : ℤ) where
  -- ---- first

  record Aborting (i : ℕ) (t : List Entry) : Type 0 where
    calm : Calm schema named f t
    mine_is : own named t ≡ mine
    quiet : (s : ℕ) → s < i → s ≢ named → NoneOpen (at_site schema t s)

  abort_one : (i : ℕ) → i < schema.sites → (steps : List WorldStep) → All (StepFits schema) steps → Aborting i (trace_by schema steps)
      → Went schema steps (aborts schema named i (trace_by schema steps)) (Aborting (suc i))
  abort_one i below steps fit a =
      let t : List Entry = trace_by schema steps in
      elim (cases_eq i named) [
        | inl itself ↦
            went_same (rw (eq-eqb i named itself) refl)
            (went_none
            (record { calm = a.calm; mine_is = a.mine_is; quiet = λ s less apart. a.quiet s (omega (arith, less, itself, apart)) apart }))
        | inr other ↦
            went_as
            (abort_all schema named f steps i fit below other (a.calm.ups i below)
            (lawful_at schema good t (sound_of schema good steps fit) i below))
            (λ did.
            let u : List Entry = trace_by schema (steps ++ aborts schema named i t) in
            let leaves : Leaves schema named f t u = did.0 in
            record {
              calm = calm_still schema named f t u leaves a.calm;
              mine_is = leaves.mine ∙ a.mine_is;
              quiet = λ s less apart.
                  elim (cases_eq i s) [
                    | inl same ↦ subst (λ (j : ℕ). NoneOpen (at_site schema u j)) same did.1
                    | inr before ↦ λ id begun opened.
                        (let was = (leaves.sites s).opens id begun opened in a.quiet s (omega (arith, less, before)) apart id was.0 was.1)
                  ];
            })
      ]

  all_aborted : Leads schema (Aborting 0) (Aborting schema.sites) (over_sites schema.sites (λ s. aborts schema named s ∷ []))
  all_aborted =
      leads_over schema Aborting schema.sites (λ s. aborts schema named s ∷ [])
      (λ i below. leads_task schema (Aborting i) (Aborting (suc i)) (aborts schema named i) (abort_one i below))

  -- ---- last

  abbrev pub Reached : Claim
  Reached u = (own named u ≡ mine) × (committed_value schema u f ≡ target)

  -- what takes effect at the named site
  abbrev pub here : List Effect
  here = effects (fresh schema named) false mine

  moved_all : ((k : Kind) → cut (fresh schema named) f k here ≡ 0)
      → ((field_at schema f).floor +ℤ pos (cut (fresh schema named) f Lower here + own_rights (fresh schema named) f Lower here)) ≤ℤ target
      → target ≤ℤ ((field_at schema f).ceiling -ℤ pos (cut (fresh schema named) f Raise here + own_rights (fresh schema named) f Raise here))
      → Leads schema (Passed schema named f good known mine schema.sites) Reached
      (over_sites schema.sites (λ s. moves schema named f target s ∷ []))
  moved_all uncut above below steps fit p =
      let t : List Entry = trace_by schema steps in
      let sound = sound_of schema good steps fit in
      let quiet = p.ready.quiet in
      let arrived = p.arrived in
      let list : List WorldStep = steps_of_tasks schema steps (over_sites schema.sites (λ s. moves schema named f target s ∷ [])) in
      let F : Kind → ℕ → ℕ = λ k. but named (λ s. share (fresh schema s) f k (at_site schema t s)) in
      let rights : (k : Kind) → own_rights (fresh schema named) f k (at_site schema t named)
      ≡ own_rights (fresh schema named) f k (effects (fresh schema named) false mine) =
      λ k. ap (λ (o : List Entry). own_rights (fresh schema named) f k (effects (fresh schema named) false o)) p.ready.mine_is in
      let down = below_is schema good t sound f named named_in p.ready.calm.uncut quiet arrived in
      let up = above_is schema good t sound f named named_in p.ready.calm.uncut quiet arrived in
      let go : (k : Kind) (all : ℕ) → target -ℤ committed_value schema t f ≡ signed k all → all ≤ sum_below schema.sites (F k)
      → Went schema steps list Reached =
      λ k all is within.
      let Mv : ℕ → Claim = Moving schema good named f known target k all (F k) mine
      (but_here named (λ s. share (fresh schema s) f k (at_site schema t s))) in
      let start : Mv 0 t = record {
        mine_is = p.ready.mine_is;
        idle = λ s from small apart. record {
          up = p.ready.calm.ups s small;
          left = p.ready.calm.numbers s small apart;
          none =
              quiet s small apart;
        };
        free_is = λ s from small apart. sym (but_there named (λ j. share (fresh schema j) f k (at_site schema t j)) s apart);
        left = is ∙ ap (λ (n : ℕ). signed k n) (let same : all ≡ all - 0 = omega arith in same);
      } in
      went_as
      (all_moved schema good named f known target k all (F k) mine
      (but_here named (λ s. share (fresh schema s) f k (at_site schema t s))) steps fit start)
      (λ m. (m.mine_is, none_left k all (sum_below schema.sites (F k)) target _ within m.left)) in
      by go (target -ℤ committed_value schema t f) refl
      (omega (arith, ints, down, uncut Lower, above, rights Lower)) (omega (arith, ints, up, uncut Raise, below, rights Raise))
    where
      by : (go : (k : Kind) (all : ℕ) → target -ℤ committed_value schema (trace_by schema steps) f ≡ signed k all
          → all ≤ sum_below schema.sites (but named (λ s. share (fresh schema s) f k (at_site schema (trace_by schema steps) s)))
          → Went schema steps (steps_of_tasks schema steps (over_sites schema.sites (λ s. moves schema named f target s ∷ []))) Reached)
          (d : ℤ) → target -ℤ committed_value schema (trace_by schema steps) f ≡ d
          → committed_value schema (trace_by schema steps) f ≤ℤ
          (target +ℤ pos (sum_below schema.sites (but named
          (λ s. share (fresh schema s) f Lower (at_site schema (trace_by schema steps) s)))))
          → target ≤ℤ (committed_value schema (trace_by schema steps) f +ℤ pos
          (sum_below schema.sites (but named (λ s. share (fresh schema s) f Raise (at_site schema (trace_by schema steps) s)))))
          → Went schema steps (steps_of_tasks schema steps (over_sites schema.sites (λ s. moves schema named f target s ∷ []))) Reached
      by go (pos n) is low high = go Raise n is (omega (arith, ints, is, high))
      by go (negsuc n) is low high = go Lower (suc n) is (omega (arith, ints, is, low))

-- ---- together

same_is : (a b : ℤ) → same_value a b ≡ true → a ≡ b
same_is a b h = let none : unsigned_abs (a -ℤ b) ≡ 0 = eqb-true _ _ h in omega (arith, ints, none)

module _ (schema : SchemaValue) (good : IsSchema schema) (steps : List WorldStep) (fit : All (StepFits schema) steps) (site : SiteNo)
    (field : FieldNo) (target : ℤ)
    (clear : reach_fault schema (trace_by schema steps) site field target ≡ None) where
  abbrev pub End : Claim
  End u = (own site.0 u ≡ own site.0 (trace_by schema steps)) × (committed_value schema u field.0 ≡ target)

  pub all_reached : Went schema steps (reach_steps schema steps site field target) End
  all_reached =
      let t : List Entry = trace_by schema steps in
      let is = is_clear schema t site field target clear in
      let mine : List Entry = own site.0 t in
      let own_cut : (k : Kind) → cut (fresh schema site.0) field.0 k (at_site schema t site.0) ≡ 0 = λ k.
      omega (arith, is.calm.uncut k, term_below schema.sites (λ s. cut (fresh schema s) field.0 k (at_site schema t s)) site.0 is.site_in)
      in
      let plan : List WorldStep = steps_of_tasks schema steps (tasks schema site.0 field.0 target) in
      let there = same_value (committed_value schema t field.0) target in
      elim (cases_Bool there) [
        | inl same ↦
            went_same (sym (ap (λ (b : Bool). cond b [] plan) same))
            (went_none (refl, same_is (committed_value schema t field.0) target same))
        | inr other ↦
            let start : Aborting schema good site.0 field.0 is.site_in is.known mine target 0 t =
            record { calm = is.calm; mine_is = refl; quiet = λ s less. absurd (omega (arith, less)) } in
            went_same (sym (ap (λ (b : Bool). cond b [] plan) other))
            (leads_on schema (Aborting schema good site.0 field.0 is.site_in is.known mine target 0)
            (Passed schema site.0 field.0 good is.known mine 0) End
            (over_sites schema.sites (λ s. aborts schema site.0 s ∷ []))
            (over_sites schema.sites (λ from. over_sites schema.sites (λ to. passes_on schema site.0 field.0 from to))
            ++ over_sites schema.sites (λ s. moves schema site.0 field.0 target s ∷ []))
            (λ steps fit a.
            went_as
            (all_aborted schema good site.0 field.0 is.site_in is.known mine target steps fit a)
            (λ b. record {
              ready = record { calm = b.calm; mine_is = b.mine_is; quiet = b.quiet };
              arrived = λ from to k below small. absurd (omega (arith, below));
            }))
            (leads_on schema (Passed schema site.0 field.0 good is.known mine 0)
            (Passed schema site.0 field.0 good is.known mine schema.sites) End
            (over_sites schema.sites (λ from. over_sites schema.sites (λ to. passes_on schema site.0 field.0 from to)))
            (over_sites schema.sites (λ s. moves schema site.0 field.0 target s ∷ []))
            (all_passed schema site.0 field.0 good is.known mine)
            (moved_all schema good site.0 field.0 is.site_in is.known mine target own_cut is.low is.high))
            steps fit start)
      ]

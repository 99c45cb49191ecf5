-- What was given is delivered.
use Rattle.std.proofs.Common.{◌≡◌, ℕ, suc, ◌<◌, ◌≤◌, ◌≢◌, ◌⊎◌, Bool, true, false, not, ◌&&◌, cond, List, [], ◌∷◌, ◌++◌, length, refl, sym, ◌∙◌, ap, subst, inl, inr, arith, eqb, ltb, All}
use Rattle.std.proofs.lemmas.Bool.{cases_Bool, cases_eq, eqb-true, eqb-false, ltb-true, ltb-false, and_parts, and_cases}
use Rattle.field_bounds.specs.declared.kind.Kind.{Kind}
use Rattle.field_bounds.specs.declared.kind.Kind.TheVariants.{Lower, Raise}
use Rattle.field_bounds.specs.declared.entry.Statement.{Statement}
use Rattle.field_bounds.specs.declared.entry.Command.{Command}
use Rattle.field_bounds.specs.declared.entry.Command.TheVariants.{Restate, Accept}
use Rattle.field_bounds.specs.declared.entry.Entry.{Entry}
use Rattle.field_bounds.specs.Schema.{SchemaValue}
use Rattle.field_bounds.specs.Limits.{IsSchema}
use Rattle.field_bounds.specs.Effects.{fresh, cut}
use Rattle.field_bounds.specs.Owed.{is_up, count_since, is_begun_reply, max_number}
use Rattle.field_bounds.specs.Statements.{IsIssued}
use Rattle.field_bounds.specs.Central.{own, at_site, cuts, given_between, accepted_between, IsSound}
use Rattle.field_bounds.proofs.Traces.{own_here}
use Rattle.field_bounds.proofs.Sums.{sum_below-same}
use Rattle.kept_state.specs.declared.luck.Luck.TheVariants.{Fine}
use Rattle.world_steps.specs.declared.step.WorldStep.{WorldStep}
use Rattle.world_steps.specs.declared.step.WorldStep.TheVariants.{Deliver}
use Rattle.world_steps.specs.World.{StepFits, statements_issued, trace_by}
use Rattle.world_steps.proofs.Issued.{numbered_is_issued}
use Rattle.world_steps.proofs.Forged.{never_forged}
use Rattle.reaching_steps.specs.Reach.{Task, fine, number_of, telling, is_wanting, restates, delivers, passes_on, over_sites}
use Rattle.reaching_steps.proofs.Sites.{NoneOpen, keeps_restate, keeps_accept, accepted_all}
use Rattle.reaching_steps.proofs.Refusals.{restate_goes, accept_goes}
use Rattle.reaching_steps.proofs.Plans.{sound_of, Went, went_none, went_one, went_as, went_same, Leads, leads_first, leads_over, Claim}
use Rattle.reaching_steps.proofs.Going.{here, made, goes_do, goes_deliver, Leaves, leaves_refl, leaves_one}
use Rattle.reaching_steps.proofs.Numbers.{issued_numbered, numbered_number}
use Rattle.reaching_steps.proofs.Ledger.{run_is_fair}

wanting_parts : (a b c : Bool) → (not a && not b && c) ≡ true → (a ≡ false) × (b ≡ false) × (c ≡ true)
wanting_parts true b c h = cc
wanting_parts false true c h = cc
wanting_parts false false c h = (refl, refl, h)

wanting_cases : (a b c : Bool) → (not a && not b && c) ≡ false → (a ≡ true) ⊎ (b ≡ true) ⊎ (c ≡ false)
wanting_cases true b c h = inl refl
wanting_cases false true c h = inr (inl refl)
wanting_cases false false c h = inr (inr h)

module _ (schema : SchemaValue) (named f : ℕ) where
  -- one site has accepted all that another gave it
  abbrev pub Arrived : List Entry → ℕ → ℕ → Kind → Type 0
  Arrived t from to k = given_between schema t f k from to ≤ accepted_between schema t f k from to

  -- no fault of reach stands in the way
  pub record Calm (t : List Entry) : Type 0 where
    pub ups : (s : ℕ) → s < schema.sites → is_up (fresh schema s) (own s t) ≡ true
    pub numbers : (s : ℕ) → s < schema.sites → s ≢ named → count_since is_begun_reply (own s t) < max_number
    pub mine_in : (from : ℕ) (k : Kind) → from < schema.sites → Arrived t from named k
    pub told : (to : ℕ) (k : Kind) → to < schema.sites → given_between schema t f k named to ≢ 0
        → IsIssued (telling schema t f k named to) t
    pub uncut : (k : Kind) → cuts schema t f k ≡ 0

  pub given_same : (t u : List Entry) → Leaves schema named f t u → (k : Kind) (from to : ℕ)
      → given_between schema u f k from to ≡ given_between schema t f k from to
  given_same t u leaves k from to = (leaves.sites from).given to k

  pub accepted_more : (t u : List Entry) → Leaves schema named f t u → (k : Kind) (from to : ℕ)
      → accepted_between schema t f k from to ≤ accepted_between schema u f k from to
  accepted_more t u leaves k from to = (leaves.sites to).accepted from k

  telling_same : (t u : List Entry) → Leaves schema named f t u → (k : Kind) (from to : ℕ)
      → telling schema u f k from to ≡ telling schema t f k from to
  telling_same t u leaves k from to = rw (given_same t u leaves k from to) refl

  pub arrived_still : (t u : List Entry) → Leaves schema named f t u → (from to : ℕ) (k : Kind) → Arrived t from to k → Arrived u from to k
  arrived_still t u leaves from to k h = omega (arith, h, given_same t u leaves k from to, accepted_more t u leaves k from to)

  cuts_same : (t u : List Entry) → Leaves schema named f t u → (k : Kind) → cuts schema u f k ≡ cuts schema t f k
  cuts_same t u leaves k = sum_below-same schema.sites (λ s. cut (fresh schema s) f k (at_site schema u s))
      (λ s. cut (fresh schema s) f k (at_site schema t s)) (λ s below. (leaves.sites s).cuts k)

  pub calm_still : (t u : List Entry) → Leaves schema named f t u → Calm t → Calm u
  calm_still t u leaves calm =
      record {
        ups = λ s below. (leaves.sites s).up (calm.ups s below);
        numbers = λ s below apart. omega (arith, calm.numbers s below apart, (leaves.sites s).numbers);
        mine_in = λ from k below. arrived_still t u leaves from named k (calm.mine_in from k below);
        told = λ to k below some.
            let some_then : given_between schema t f k named to ≢ 0 = λ e. some (given_same t u leaves k named to ∙ e) in
            subst (λ (x : Statement). IsIssued x u) (sym (telling_same t u leaves k named to))
            (leaves.issued (telling schema t f k named to) (calm.told to k below some_then));
        uncut = λ k. cuts_same t u leaves k ∙ calm.uncut k;
      }

  -- and no transaction is open at the other sites
  pub record Ready (mine : List Entry) (t : List Entry) : Type 0 where
    pub calm : Calm t
    pub mine_is : own named t ≡ mine
    pub quiet : (s : ℕ) → s < schema.sites → s ≢ named → NoneOpen (at_site schema t s)

  pub ready_still : (mine t u : List Entry) → Leaves schema named f t u → Ready mine t → Ready mine u
  ready_still mine t u leaves ready =
      record {
        calm = calm_still t u leaves ready.calm;
        mine_is = leaves.mine ∙ ready.mine_is;
        quiet = λ s below apart id begun opened. let was = (leaves.sites s).opens id begun opened in
            ready.quiet s below apart id was.0 was.1;
      }

  module _ (good : IsSchema schema) (known : f < length schema.fields) (from to : ℕ) (k : Kind) (from_in : from < schema.sites)
      (to_in : to < schema.sites) where
    abbrev HasNumber : List Entry → Type 0
    HasNumber u = is_wanting schema named f from to k u ≡ true → number_of (telling schema u f k from to) (statements_issued u) ≢ 0

    -- what is wanted, in words
    record Wants (t : List Entry) : Type 0 where
      apart : from ≢ to
      other : to ≢ named
      some : given_between schema t f k from to ≢ 0

    wants : (t : List Entry) → is_wanting schema named f from to k t ≡ true → Wants t
    wants t h =
        let parts = wanting_parts (eqb from to) (eqb to named)
        (ltb (accepted_between schema t f k from to) (given_between schema t f k from to)) h in
        let more = ltb-true _ _ parts.2 in
        record { apart = eqb-false _ _ parts.0; other = eqb-false _ _ parts.1; some = λ e. omega (arith, e, more) }

    restated : (steps : List WorldStep) → All (StepFits schema) steps → Calm (trace_by schema steps)
        → Went schema steps (restates schema named f from to k (trace_by schema steps))
        (λ u. Leaves schema named f (trace_by schema steps) u × HasNumber u)
    restated steps fit calm =
        let t = trace_by schema steps in
        let told : Statement = telling schema t f k from to in
        let again : Command = Restate (record { 0 = to }) (record { 0 = f }) k in
        let list : List WorldStep = fine from again ∷ [] in
        let Q : Claim = λ u. Leaves schema named f t u × HasNumber u in
        let wanted = is_wanting schema named f from to k t in
        let untold = eqb (number_of told (statements_issued t)) 0 in
        elim (cases_Bool (wanted && untold)) [
          | inl both ↦
              let parts = and_parts wanted untold both in
              let w = wants t parts.0 in
              let none : number_of told (statements_issued t) ≡ 0 = eqb-true _ _ parts.1 in
              let giver : from ≢ named = λ same.
              let told_is : IsIssued told t = subst (λ (n : ℕ). IsIssued (telling schema t f k n to) t) (sym same)
              (calm.told to k to_in (λ e. w.some (ap (λ (n : ℕ). given_between schema t f k n to) same ∙ e))) in
              issued_numbered told t told_is none in
              let went = goes_do schema steps from again refl
              (restate_goes (here schema t from) (calm.ups from from_in) (record { 0 = to }) (record { 0 = f }) k to_in known
              (λ e. w.apart (sym e)) w.some) in
              let e = made schema t (record { 0 = from }) again in
              let leaves = leaves_one schema named f e t giver
              (keeps_restate (fresh schema from) f (record { 0 = from }) (record { 0 = to }) (record { 0 = f }) k
              (given_between schema t f k from to) (own from t)) in
              let told_now : IsIssued told (e ∷ t) = inl refl in
              let now : IsIssued (telling schema (e ∷ t) f k from to) (e ∷ t) =
              subst (λ (x : Statement). IsIssued x (e ∷ t)) (sym (telling_same t (e ∷ t) leaves k from to)) told_now in
              let q : Q (e ∷ t) = (leaves, λ _. issued_numbered (telling schema (e ∷ t) f k from to) (e ∷ t) now) in
              went_same (sym (ap (λ (b : Bool). cond b list []) both)) (went_one (from_in, refl) refl (subst Q (sym went) q))
          | inr not_both ↦
              let q : Q t = (
                leaves_refl schema named f t,
                λ h e.
                    elim (and_cases wanted untold not_both) [
                      | inl unwanted ↦ cc
                      | inr is_told ↦ eqb-false _ _ is_told e
                    ],
              ) in
              went_same (sym (ap (λ (b : Bool). cond b list []) not_both)) (went_none q)
        ]

    delivered : (steps : List WorldStep) → All (StepFits schema) steps → Calm (trace_by schema steps) → HasNumber (trace_by schema steps)
        → Went schema steps (delivers schema named f from to k (trace_by schema steps))
        (λ u. Leaves schema named f (trace_by schema steps) u × Arrived u from to k)
    delivered steps fit calm has =
        let t = trace_by schema steps in
        let told : Statement = telling schema t f k from to in
        let which = number_of told (statements_issued t) in
        let list : List WorldStep = Deliver which Fine ∷ [] in
        let Q : Claim = λ u. Leaves schema named f t u × Arrived u from to k in
        let sound : IsSound schema t = sound_of schema good steps fit in
        let fair = run_is_fair schema from (own from t) (sound.runs from from_in) in
        elim (cases_Bool (is_wanting schema named f from to k t)) [
          | inl wanted ↦
              let w = wants t wanted in
              let number = numbered_number told (statements_issued t) (has wanted) in
              let is_told = numbered_is_issued which t told number in
              let went = goes_deliver schema steps which told number
              (accept_goes (here schema t to) (calm.ups to to_in) told from_in to_in known w.some (fair.within to f k) w.apart refl
              (never_forged schema good t sound told is_told)) in
              let e = made schema t (record { 0 = to }) (Accept told) in
              let leaves = leaves_one schema named f e t w.other (keeps_accept (fresh schema to) f (record { 0 = to }) told _ (own to t)) in
              let all : given_between schema t f k from to ≤ accepted_between schema (e ∷ t) f k from to =
              rw (own_here to e t refl) (accepted_all (fresh schema to) told (at_site schema t to)) in
              let q : Q (e ∷ t) = (leaves, omega (arith, all, given_same t (e ∷ t) leaves k from to)) in
              went_same (sym (ap (λ (b : Bool). cond b list []) wanted)) (went_one tt refl (subst Q (sym went) q))
          | inr unwanted ↦
              let arrived : Arrived t from to k =
              elim (wanting_cases (eqb from to) (eqb to named)
              (ltb (accepted_between schema t f k from to) (given_between schema t f k from to)) unwanted) [
                | inl itself ↦
                    let same : from ≡ to = eqb-true _ _ itself in
                    subst (λ (n : ℕ). Arrived t from n k) same (omega (arith, fair.itself f k))
                | inr more ↦ elim more [
                  | inl mine ↦
                      let same : to ≡ named = eqb-true _ _ mine in
                      subst (λ (n : ℕ). Arrived t from n k) (sym same) (calm.mine_in from k from_in)
                  | inr enough ↦ ltb-false _ _ enough
                ]
              ] in
              let q : Q t = (leaves_refl schema named f t, arrived) in
              went_same (sym (ap (λ (b : Bool). cond b list []) unwanted)) (went_none q)
        ]

  -- ---- all pairs of sites

  module _ (good : IsSchema schema) (known : f < length schema.fields) (mine : List Entry) where
    -- the pairs so far: all whose giver is below i, and those of the giver i whose receiver is below j
    pub record Passed (i : ℕ) (t : List Entry) : Type 0 where
      pub ready : Ready mine t
      pub arrived : (from to : ℕ) (k : Kind) → from < i → to < schema.sites → Arrived t from to k

    record PassedTo (i j : ℕ) (t : List Entry) : Type 0 where
      passed : Passed i t
      partly : (to : ℕ) (k : Kind) → to < j → Arrived t i to k

    passed_still : (i : ℕ) (t u : List Entry) → Leaves schema named f t u → Passed i t → Passed i u
    passed_still i t u leaves p =
        record {
          ready = ready_still mine t u leaves p.ready;
          arrived = λ from to k below small. arrived_still t u leaves from to k (p.arrived from to k below small);
        }

    passed_to_still : (i j : ℕ) (t u : List Entry) → Leaves schema named f t u → PassedTo i j t → PassedTo i j u
    passed_to_still i j t u leaves p =
        record { passed = passed_still i t u leaves p.passed; partly = λ to k below. arrived_still t u leaves i to k (p.partly to k below) }

    -- of one kind: told again where need be, and delivered; what held of the pairs so far holds still
    one_kind : (Held : Claim) → ((t u : List Entry) → Leaves schema named f t u → Held t → Held u) → ((t : List Entry) → Held t → Calm t)
        → (i j : ℕ) (k : Kind) → i < schema.sites → j < schema.sites
        → (rest : List Task) (R : Claim) → Leads schema (λ u. Held u × Arrived u i j k) R rest
        → Leads schema Held R (restates schema named f i j k ∷ delivers schema named f i j k ∷ rest)
    one_kind Held still calm i j k giver receiver rest R more =
        let Mid : Claim = λ u. Held u × HasNumber good known i j k giver receiver u in
        let End : Claim = λ u. Held u × Arrived u i j k in
        leads_first schema Held Mid R (restates schema named f i j k) (delivers schema named f i j k ∷ rest)
        (λ steps fit held.
        went_as (restated good known i j k giver receiver steps fit (calm (trace_by schema steps) held))
        (λ q. (still (trace_by schema steps) _ q.0 held, q.1)))
        (leads_first schema Mid End R (delivers schema named f i j k) rest
        (λ steps fit mid.
        went_as (delivered good known i j k giver receiver steps fit (calm (trace_by schema steps) mid.0) mid.1)
        (λ q. (still (trace_by schema steps) _ q.0 mid.0, q.1)))
        more)

    both : (i j : ℕ) (t : List Entry) → PassedTo i j t → Arrived t i j Lower → Arrived t i j Raise → PassedTo i (suc j) t
    both i j t p lower raise =
        record {
          passed = p.passed;
          partly = λ to k below.
              elim (cases_eq j to) [
                | inl same ↦ subst (λ (n : ℕ). Arrived t i n k) same (of_kind k)
                | inr apart ↦ p.partly to k (omega (arith, below, apart))
              ];
        }
      where
        of_kind : (k : Kind) → Arrived t i j k
        of_kind Lower = lower
        of_kind Raise = raise

    one_pair : (i j : ℕ) → i < schema.sites → j < schema.sites
        → Leads schema (PassedTo i j) (PassedTo i (suc j)) (passes_on schema named f i j)
    one_pair i j giver receiver =
        let Low : Claim = λ u. PassedTo i j u × Arrived u i j Lower in
        one_kind (PassedTo i j) (passed_to_still i j) (λ t p. p.passed.ready.calm) i j Lower giver receiver
        (restates schema named f i j Raise ∷ delivers schema named f i j Raise ∷ []) (PassedTo i (suc j))
        (one_kind Low (λ t u leaves p. (passed_to_still i j t u leaves p.0, arrived_still t u leaves i j Lower p.1))
        (λ t p. p.0.passed.ready.calm) i j Raise giver receiver
        [] (PassedTo i (suc j))
        (λ steps fit p. went_none (both i j (trace_by schema steps) p.0.0 p.0.1 p.1)))

    weaken : (steps more : List WorldStep) (i : ℕ) → Went schema steps more (PassedTo i schema.sites)
        → Went schema steps more (Passed (suc i))
    weaken steps more i went =
        went_as went
        (λ p. record {
          ready = p.passed.ready;
          arrived = λ from to k below small.
              elim (cases_eq i from) [
                | inl same ↦ subst (λ (n : ℕ). Arrived (trace_by schema (steps ++ more)) n to k) same (p.partly to k small)
                | inr apart ↦ p.passed.arrived from to k (omega (arith, below, apart)) small
              ];
        })

    one_giver : (i : ℕ) → i < schema.sites → Leads schema (Passed i) (Passed (suc i))
        (over_sites schema.sites (λ to. passes_on schema named f i to))
    one_giver i giver steps fit p =
        let start : PassedTo i 0 (trace_by schema steps) = record { passed = p; partly = λ to k below. absurd (omega (arith, below)) } in
        weaken steps _ i
        (leads_over schema (PassedTo i) schema.sites (λ to. passes_on schema named f i to)
        (λ j below. one_pair i j giver below) steps fit start)

    pub all_passed : Leads schema (Passed 0) (Passed schema.sites)
        (over_sites schema.sites (λ from. over_sites schema.sites (λ to. passes_on schema named f from to)))
    all_passed = leads_over schema Passed schema.sites (λ from. over_sites schema.sites (λ to. passes_on schema named f from to)) one_giver

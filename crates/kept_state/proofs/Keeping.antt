-- What a run's records stand for is what its entries come to.
use Rattle.std.proofs.Common.{◌≡◌, ℕ, ◌+◌, Bool, true, false, cond, List, [], ◌∷◌, ◌++◌, reverse, refl, sym, ◌∙◌, ap, subst, inl, inr, arith}
use Rattle.std.proofs.lemmas.Bool.{ltb-false}
use Rattle.std.proofs.lemmas.List.{append-nil}
use Rattle.std.specs.Prelude.{nat_lt}
use Rattle.field_bounds.specs.declared.kind.Kind.{Kind}
use Rattle.field_bounds.specs.declared.id.TxnId.{TxnId}
use Rattle.field_bounds.specs.declared.entry.Statement.{Statement}
use Rattle.field_bounds.specs.declared.entry.Command.{Command}
use Rattle.field_bounds.specs.declared.entry.Command.TheVariants.{Begin, Escrow, Commit, Abort, Give, Restate, Spare, Tighten, Accept, Read, Share, Restart}
use Rattle.field_bounds.specs.declared.entry.Reply.{Reply}
use Rattle.field_bounds.specs.declared.entry.Reply.TheVariants.{Restarted, Unsure, StillDown, Refused}
use Rattle.field_bounds.specs.declared.entry.Last.{Last}
use Rattle.field_bounds.specs.declared.entry.Entry.{Entry}
use Rattle.kept_records.specs.declared.record.Record.{Record}
use Rattle.kept_records.specs.declared.record.Record.TheVariants as records
use Rattle.field_bounds.specs.Schema.{SchemaValue}
use Rattle.field_bounds.specs.declared.effect.Effect.{Effect}
use Rattle.field_bounds.specs.declared.effect.Effect.TheVariants.{Commits, Accepts, Stops}
use Rattle.field_bounds.specs.Effects.{Base, after, effects, doubt_kept_before, escrows_of, share, held_rights, own_rights, total_given, cut, total_accepted}
use Rattle.field_bounds.specs.Owed.{Place, place, first, refusals, answer, count_escrows, spare_of, gain_of, Fits, RestartFits, AnswerFits, IsRun}
use Rattle.kept_records.specs.Stands.{greatest, given_in, accepted_in, cut_in, own_in}
use Rattle.kept_state.specs.Keeps.{IsBase, record_left, adds, Tells, Keeps}
use Rattle.field_bounds.proofs.Refused.{match_cases, is_restart, up_there}
use Rattle.field_bounds.proofs.Doubt.{after_refused, kept_before_answer, nothing_in_doubt}
use Rattle.field_bounds.proofs.Runs.{run_is_lawful}
use Rattle.field_bounds.proofs.Stops.{share_stop}
use Rattle.kept_state.proofs.Agreeing.{Agree, agree_start, agree_commit, agree_empty, agree_give, agree_cut, agree_accept, agree_repeat, agree_restart, agree_begin, agree_grant, agree_abort, agree_stop, own_is_kept}
use Rattle.kept_state.proofs.Adding.{adds_answer}

-- ---- the record of a command that is carried out agrees with its effect

module _ (at : Place) (bs rs : List Record) (agree : Agree at.base bs at.effects rs) where
  abbrev After : List Effect → List Record → Type 0
  After es more = Agree at.base bs es (rs ++ more)

  no_more : (es : List Effect) → Agree at.base bs es rs → After es []
  no_more es h = subst (λ (all : List Record). Agree at.base bs es all) (sym (append-nil rs)) h

  commit_noted : (txn : TxnId) (b : Bool) → nat_lt 0 (count_escrows txn at.effects) ≡ b
      → After (Commits txn ∷ at.effects) (cond b (records.Commit txn (reverse (escrows_of txn at.effects)) ∷ []) [])
  commit_noted txn true h = agree_commit at.base bs at.effects rs agree txn
  commit_noted txn false h = no_more _ (agree_empty at.base bs at.effects rs agree txn
      (omega (arith, ltb-false 0 (count_escrows txn at.effects) h)))

  accept_noted : (told : Statement) (b : Bool) → nat_lt 0 (gain_of at told.from told.field told.kind told.total) ≡ b
      → After (Accepts told.from told.field told.kind told.total ∷ at.effects)
      (cond b (records.Accept told.from told.field told.kind told.total ∷ []) [])
  accept_noted told true h = agree_accept at.base bs at.effects rs agree told.from told.field told.kind told.total
  accept_noted told false h = no_more _ (agree_repeat at.base bs at.effects rs agree told.from told.field told.kind told.total
      (omega (arith, ltb-false 0 (gain_of at told.from told.field told.kind told.total) h)))

  pub agree_answer : (c : Command) (kept : Bool) → After (after at.base kept c (answer at c) at.effects) (record_left at c)
  agree_answer Begin kept = no_more _ (agree_begin at.base bs at.effects rs agree _)
  agree_answer (Escrow txn field change) kept = no_more _ (agree_grant at.base bs at.effects rs agree txn field change)
  agree_answer (Commit txn) kept = commit_noted txn (nat_lt 0 (count_escrows txn at.effects)) refl
  agree_answer (Abort txn) kept = no_more _ (agree_abort at.base bs at.effects rs agree txn)
  agree_answer (Give to field kind amount) kept = agree_give at.base bs at.effects rs agree to field kind amount _ refl
  agree_answer (Restate to field kind) kept = no_more _ agree
  agree_answer (Spare to field kind want) kept = agree_give at.base bs at.effects rs agree to field kind
      (spare_of at field kind want) _ refl
  agree_answer (Tighten field kind amount) kept = agree_cut at.base bs at.effects rs agree field kind amount _ refl
  agree_answer (Accept told) kept = accept_noted told (nat_lt 0 (gain_of at told.from told.field told.kind told.total)) refl
  agree_answer (Read field) kept = no_more _ agree
  agree_answer (Share field) kept = no_more _ agree
  agree_answer Restart kept = no_more _ agree

  pub agree_unsure : (c : Command) (kept : Bool) → After (after at.base kept c Unsure at.effects) (cond kept (record_left at c) [])
  agree_unsure (Commit txn) true = commit_noted txn (nat_lt 0 (count_escrows txn at.effects)) refl
  agree_unsure (Give to field kind amount) true = agree_give at.base bs at.effects rs agree to field kind amount _ refl
  agree_unsure (Spare to field kind want) true = agree_give at.base bs at.effects rs agree to field kind
      (spare_of at field kind want) _ refl
  agree_unsure (Tighten field kind amount) true = agree_cut at.base bs at.effects rs agree field kind amount _ refl
  agree_unsure (Accept told) true = accept_noted told (nat_lt 0 (gain_of at told.from told.field told.kind told.total)) refl
  agree_unsure (Commit txn) false = no_more _ agree
  agree_unsure (Give to field kind amount) false = no_more _ agree
  agree_unsure (Spare to field kind want) false = no_more _ agree
  agree_unsure (Tighten field kind amount) false = no_more _ agree
  agree_unsure (Accept told) false = no_more _ agree
  agree_unsure Begin true = no_more _ agree
  agree_unsure (Escrow txn field change) true = no_more _ agree
  agree_unsure (Abort txn) true = no_more _ agree
  agree_unsure (Restate to field kind) true = no_more _ agree
  agree_unsure (Read field) true = no_more _ agree
  agree_unsure (Share field) true = no_more _ agree
  agree_unsure Restart true = no_more _ agree
  agree_unsure c false = no_more _ agree

-- ---- a run's records agree with its effects

module _ (schema : SchemaValue) (s : ℕ) (base : Base) (bs : List Record) (o : List Entry) (front : List Record) where
  abbrev here : Place
  here = place schema s base o

  abbrev Then : Bool → Bool → Command → Reply → Type 0
  Then kept stood c r = Agree base bs (after base kept c r (effects base (doubt_kept_before kept r) o)) (front ++ adds here c r stood front)

  nothing_added : (es : List Effect) → Agree base bs es front → Agree base bs es (front ++ [])
  nothing_added es h = subst (λ (all : List Record). Agree base bs es all) (sym (append-nil front)) h

  answer_agrees : (c : Command) (r : Reply) (kept stood : Bool) → is_restart c ≡ false → AnswerFits here c r → Tells kept stood front r
      → Agree base bs (effects base (doubt_kept_before kept r) o) front → Then kept stood c r
  answer_agrees c r kept stood n fits tells ih =
      elim (match_cases (first (refusals here c)) _ _ fits) [
        | inl refused ↦
            let there : Agree base bs (effects base kept o) front =
            subst (λ (x : Reply). Agree base bs (effects base (doubt_kept_before kept x) o) front) refused.2 ih in
            subst (λ (x : Reply). Then kept stood c x) (sym refused.2)
            (nothing_added _ (subst (λ (es : List Effect). Agree base bs es front)
            (sym (after_refused base kept c refused.0 (effects base kept o))) there))
        | inr met ↦
            let same = nothing_in_doubt base kept o (up_there here c n met.0) in
            elim met.1 [
              | inl answered ↦
                  let before : Agree base bs (effects base kept o) front =
                  subst (λ (k : Bool). Agree base bs (effects base k o) front) (kept_before_answer here c kept)
                  (subst (λ (x : Reply). Agree base bs (effects base (doubt_kept_before kept x) o) front) answered ih) in
                  let there = subst (λ (es : List Effect). Agree base bs es front) same before in
                  let made = agree_answer here bs front there c kept in
                  let of_kept : Agree base bs (after base kept c (answer here c) (effects base kept o)) (front ++ record_left here c) =
                  subst (λ (es : List Effect). Agree base bs (after base kept c (answer here c) es) (front ++ record_left here c))
                  (sym same) made in
                  let of_before : Agree base bs (after base kept c (answer here c)
                  (effects base (doubt_kept_before kept (answer here c)) o)) (front ++ record_left here c) =
                  subst (λ (k : Bool). Agree base bs (after base kept c (answer here c) (effects base k o)) (front ++ record_left here c))
                  (sym (kept_before_answer here c kept)) of_kept in
                  subst (λ (x : Reply). Then kept stood c x) (sym answered)
                  (subst (λ (more : List Record). Agree base bs
                  (after base kept c (answer here c) (effects base (doubt_kept_before kept (answer here c)) o)) (front ++ more))
                  (sym (adds_answer here c stood front n)) of_before)
              | inr unsure ↦
                  let before : Agree base bs (effects base kept o) front =
                  subst (λ (x : Reply). Agree base bs (effects base (doubt_kept_before kept x) o) front) unsure.0 ih in
                  let there = subst (λ (es : List Effect). Agree base bs es front) same before in
                  let stands : stood ≡ kept = subst (λ (x : Reply). Tells kept stood front x) unsure.0 tells in
                  let made = agree_unsure here bs front there c kept in
                  let of_kept : Agree base bs (after base kept c Unsure (effects base kept o))
                  (front ++ cond kept (record_left here c) []) =
                  subst (λ (es : List Effect). Agree base bs (after base kept c Unsure es) (front ++ cond kept (record_left here c) []))
                  (sym same) made in
                  subst (λ (x : Reply). Then kept stood c x) (sym unsure.0)
                  (subst (λ (b : Bool). Agree base bs (after base kept c Unsure (effects base kept o))
                  (front ++ cond b (record_left here c) [])) (sym stands) of_kept)
            ]
      ]

  restart_agrees : (r : Reply) (kept stood : Bool) → RestartFits here r → Agree base bs (effects base (doubt_kept_before kept r) o) front
      → Then kept stood Restart r
  restart_agrees StillDown kept true fits ih = agree_restart base bs _ front ih (greatest front + 1)
  restart_agrees StillDown kept false fits ih = nothing_added _ ih
  restart_agrees (Refused x) kept stood fits ih = nothing_added _ ih
  restart_agrees (Restarted epoch found) kept stood fits ih = agree_restart base bs _ front (agree_stop base bs _ front ih) epoch
  restart_agrees r kept stood fits ih = absurd fits

  step_agrees : (c : Command) (r : Reply) (kept stood : Bool) → Fits here c r → Tells kept stood front r
      → Agree base bs (effects base (doubt_kept_before kept r) o) front → Then kept stood c r
  step_agrees Restart r kept stood fits tells ih = restart_agrees r kept stood fits ih
  step_agrees c r kept stood fits tells ih = answer_agrees c r kept stood refl fits tells ih

pub run_agrees : (schema : SchemaValue) (s : ℕ) (base : Base) (bs : List Record) → IsBase schema s base bs
    → (kept : Bool) (o : List Entry) (rs : List Record)
    → IsRun schema s base o → Keeps schema s base bs kept o rs → Agree base bs (effects base kept o) rs
run_agrees schema s base bs is kept [] rs run keeps =
    subst (λ (all : List Record). Agree base bs [] all) (sym keeps) (agree_start schema s base bs is)
run_agrees schema s base bs is kept (e ∷ o) rs run keeps =
    let ih = run_agrees schema s base bs is (doubt_kept_before kept e.reply) o keeps.0 run.0 keeps.2 in
    subst (λ (all : List Record). Agree base bs (effects base kept (e ∷ o)) all) (sym keeps.4)
    (step_agrees schema s base bs o keeps.0 e.command e.reply kept keeps.1 run.1 keeps.3 ih)

-- what the records stand for is what the entries come to
pub run_owns : (schema : SchemaValue) (s : ℕ) (base : Base) (bs : List Record) (kept : Bool) (o : List Entry) (rs : List Record)
    → IsBase schema s base bs → IsRun schema s base o → Keeps schema s base bs kept o rs → (f : ℕ) (k : Kind)
    → own_rights base f k (effects base kept o) ≡ own_in schema s rs f k
run_owns schema s base bs kept o rs is run keeps f k =
    own_is_kept base bs (effects base kept o) rs (run_agrees schema s base bs is kept o rs run keeps) schema s is
    (run_is_lawful schema s base o run kept) f k

pub run_gives : (schema : SchemaValue) (s : ℕ) (base : Base) (bs : List Record) (kept : Bool) (o : List Entry) (rs : List Record)
    → IsBase schema s base bs → IsRun schema s base o → Keeps schema s base bs kept o rs → (to f : ℕ) (k : Kind)
    → total_given base to f k (effects base kept o) ≡ given_in rs to f k
run_gives schema s base bs kept o rs is run keeps to f k = (run_agrees schema s base bs is kept o rs run keeps).gives to f k

pub run_cuts : (schema : SchemaValue) (s : ℕ) (base : Base) (bs : List Record) (kept : Bool) (o : List Entry) (rs : List Record)
    → IsBase schema s base bs → IsRun schema s base o → Keeps schema s base bs kept o rs → (f : ℕ) (k : Kind)
    → cut base f k (effects base kept o) ≡ cut_in rs f k
run_cuts schema s base bs kept o rs is run keeps f k = (run_agrees schema s base bs is kept o rs run keeps).cuts f k

pub run_accepts : (schema : SchemaValue) (s : ℕ) (base : Base) (bs : List Record) (kept : Bool) (o : List Entry) (rs : List Record)
    → IsBase schema s base bs → IsRun schema s base o → Keeps schema s base bs kept o rs → (from f : ℕ) (k : Kind)
    → total_accepted base from f k (effects base kept o) ≡ accepted_in rs from f k
run_accepts schema s base bs kept o rs is run keeps from f k = (run_agrees schema s base bs is kept o rs run keeps).accepts from f k

-- right after a restart the share is what the records stand for, and nothing is held
pub run_restarts : (schema : SchemaValue) (s : ℕ) (base : Base) (bs : List Record) (kept : Bool) (e : Entry) (o : List Entry)
    (rs : List Record)
    → IsBase schema s base bs → IsRun schema s base (e ∷ o) → Keeps schema s base bs kept (e ∷ o) rs → (epoch : ℕ) (found : Last)
    → e.command ≡ Restart → e.reply ≡ Restarted epoch found
    → (f : ℕ) (k : Kind) → (share base f k (effects base kept (e ∷ o)) ≡ own_in schema s rs f k)
    × (held_rights f k (effects base kept (e ∷ o)) ≡ 0)
run_restarts schema s base bs kept e o rs is run keeps epoch found asked told f k =
    let before = run_agrees schema s base bs is (doubt_kept_before kept e.reply) o keeps.0 run.0 keeps.2 in
    let lawful = run_is_lawful schema s base o run.0 (doubt_kept_before kept e.reply) in
    let es = effects base (doubt_kept_before kept e.reply) o in
    let all : rs ≡ keeps.0 ++ records.Restart epoch ∷ [] =
    keeps.4 ∙ ap (λ (r : Reply). keeps.0 ++ adds (place schema s base o) e.command r keeps.1 keeps.0) told in
    let owned : own_rights base f k es ≡ own_in schema s rs f k =
    subst (λ (x : List Record). own_rights base f k es ≡ own_in schema s x f k) (sym all)
    (own_is_kept base bs es (keeps.0 ++ records.Restart epoch ∷ []) (agree_restart base bs es keeps.0 before epoch) schema s is lawful f k)
    in
    let stopped : effects base kept (e ∷ o) ≡ Stops ∷ es =
    ap (λ (r : Reply). after base kept e.command r es) told
    ∙ ap (λ (c : Command). after base kept c (Restarted epoch found) es) asked in
    let free : share base f k (effects base kept (e ∷ o)) ≡ own_rights base f k es =
    ap (λ (x : List Effect). share base f k x) stopped ∙ share_stop schema base es lawful f k in
    (free ∙ owned, omega (arith, free, owned, run_owns schema s base bs kept (e ∷ o) rs is run keeps f k))

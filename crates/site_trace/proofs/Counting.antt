-- How many records a run leaves.
use Rattle.std.proofs.Common.{◌≡◌, ℕ, ◌+◌, nat_lt, Bool, true, false, ◌||◌, cond, List, [], ◌∷◌, length, refl, sym, ap, subst, ◌∙◌, arith, inl, inr, ◌⊎◌, ◌++◌, ◌≤◌, append-nil, take, drop}
use Rattle.std.proofs.lemmas.Bool.{cases_Bool, lt-ltb}
use Rattle.std.proofs.lemmas.List.{length-append, take-append-drop, take-append-le, take_at}
use Rattle.field_bounds.specs.declared.id.TxnId.{TxnId}
use Rattle.field_bounds.specs.declared.entry.Escrow.{Escrow as EscrowOf}
use Rattle.field_bounds.specs.declared.entry.Command.{Command}
use Rattle.field_bounds.specs.declared.entry.Command.TheVariants.{Begin, Escrow, Commit, Abort, Give, Restate, Spare, Tighten, Accept, Read, Share, Restart}
use Rattle.field_bounds.specs.declared.entry.Reply.{Reply}
use Rattle.field_bounds.specs.declared.entry.Reply.TheVariants.{Restarted, StillDown, Refused}
use Rattle.field_bounds.specs.declared.entry.Refusal.{Refusal}
use Rattle.field_bounds.specs.declared.entry.Entry.{Entry}
use Rattle.field_bounds.specs.declared.effect.Effect.{Effect}
use Rattle.field_bounds.specs.Schema.{SchemaValue}
use Rattle.field_bounds.specs.Effects.{Base, same_txn, escrows_of, after, effects, doubt_kept_before}
use Rattle.field_bounds.specs.Owed.{Place, place, first, refusals, answer, count_since, is_begun_reply, is_unsure, is_still_down, epoch_of, Fits, AnswerFits, RestartFits, IsRun}
use Rattle.field_bounds.proofs.Lawful.{same_txn-true}
use Rattle.field_bounds.proofs.Refused.{match_cases}
use Rattle.field_bounds.proofs.Doubt.{after_kept, after_refused}
use Rattle.field_bounds.proofs.Runs.{next_id, begun_is_new, run_is_lawful}
use Rattle.field_bounds.proofs.Steps.{new_is_unused}
use Rattle.kept_records.specs.declared.record.Record.{Record}
use Rattle.kept_state.specs.Keeps.{Keeps, adds}
use Rattle.kept_state.proofs.Adding.{length_left}
use Rattle.site_trace.specs.Records.{escrow_after, has_escrow, leaves_record, records_left, AreSure}

-- ---- replies that are sure

-- what took effect where no reply is in doubt doesn't rest on what is kept
same_effects : (base : Base) (o : List Entry) → AreSure o → (kept other : Bool) → effects base kept o ≡ effects base other o
same_effects base [] sure kept other = refl
same_effects base (e ∷ o) sure kept other =
    after_kept base kept e.command e.reply (effects base (doubt_kept_before kept e.reply) o) sure.0
    ∙ ap (λ (es : List Effect). after base false e.command e.reply es)
    (same_effects base o sure.2 (doubt_kept_before kept e.reply) (doubt_kept_before other e.reply))
    ∙ sym (after_kept base other e.command e.reply (effects base (doubt_kept_before other e.reply) o) sure.0)

-- a reply that is sure is the answer or a refusal
met : (at : Place) (c : Command) (r : Reply) → AnswerFits at c r → is_unsure r ≡ false → (r ≡ answer at c) ⊎ ((x : Refusal) × (r ≡ Refused x))
met at c r fits sure =
    elim (match_cases (first (refusals at c)) _ _ fits) [
      | inl refused ↦ inr (refused.0, refused.2)
      | inr none ↦ elim none.1 [
        | inl same ↦ inl same
        | inr doubt ↦ let not_so : is_unsure r ≡ true = ap is_unsure doubt.0 in cc
      ]
    ]

-- what holds of the answer and of each refusal holds of a reply that is sure
by_reply : (P : Reply → Type 0) (at : Place) (c : Command) (r : Reply) → AnswerFits at c r → is_unsure r ≡ false
    → P (answer at c) → ((x : Refusal) → P (Refused x)) → P r
by_reply P at c r fits sure answer_does refusal_does =
    elim (met at c r fits sure) [
      | inl same ↦ subst P (sym same) answer_does
      | inr refused ↦ subst P (sym refused.1) (refusal_does refused.0)
    ]

-- a restart that is sure was answered or refused
by_restart : (P : Reply → Type 0) (at : Place) (r : Reply) → RestartFits at r → is_still_down r ≡ false
    → ((epoch : ℕ) → (found : _) → P (Restarted epoch found)) → ((x : Refusal) → P (Refused x)) → P r
by_restart P at (Restarted epoch found) fits sure answer_does refusal_does = answer_does epoch found
by_restart P at (Refused x) fits sure answer_does refusal_does = refusal_does x
by_restart P at StillDown fits sure answer_does refusal_does = cc
by_restart P at r fits sure answer_does refusal_does = absurd fits

-- ---- whether a transaction has an escrow

has_some : List EscrowOf → Bool
has_some es = nat_lt 0 (length es)

-- after a reply a transaction has an escrow where it has one by what took effect
abbrev Tells : TxnId → Base → List Effect → Bool → Command → Reply → Type 0
Tells txn base es had c r = escrow_after txn c had r ≡ nat_lt 0 (length (escrows_of txn (after base false c r es)))

begun_here : (txn t : TxnId) (es : List Effect) (had : Bool) → escrows_of t es ≡ [] → had ≡ nat_lt 0 (length (escrows_of txn es))
    → cond (same_txn t txn) false had ≡ nat_lt 0 (length (escrows_of txn es))
begun_here txn t es had none before =
    elim (cases_Bool (same_txn t txn)) [
      | inl same ↦
          let is : t ≡ txn = same_txn-true t txn same in
          let empty : escrows_of txn es ≡ [] = subst (λ (x : TxnId). escrows_of x es ≡ []) is none in
          rw (same, empty) refl
      | inr apart ↦ rw apart before
    ]

granted_here : (b had : Bool) (e : EscrowOf) (rest : List EscrowOf) → had ≡ nat_lt 0 (length rest)
    → (b || had) ≡ nat_lt 0 (length (cond b (e ∷ rest) rest))
granted_here true had e rest before = sym (lt-ltb 0 (length (e ∷ rest)) (omega arith))
granted_here false had e rest before = before

answer_tells : (schema : SchemaValue) (s : ℕ) (base : Base) (o : List Entry) → IsRun schema s base o → (txn : TxnId) (had : Bool)
    → had ≡ nat_lt 0 (length (escrows_of txn (effects base false o))) → (c : Command) → (c ≡ Restart → ⊥)
    → Tells txn base (effects base false o) had c (answer (place schema s base o) c)
answer_tells schema s base o run txn had before Begin other =
    let t = next_id (epoch_of base o) (count_since is_begun_reply o) in
    let es = effects base false o in
    begun_here txn t es had (new_is_unused schema base t es (run_is_lawful schema s base o run false) (begun_is_new schema s base o run false)).no_escrow
    before
answer_tells schema s base o run txn had before (Escrow named field change) other =
    granted_here (same_txn txn named) had (record { field = field; change = change }) (escrows_of txn (effects base false o)) before
answer_tells schema s base o run txn had before (Commit named) other = before
answer_tells schema s base o run txn had before (Abort named) other = before
answer_tells schema s base o run txn had before (Give to field kind amount) other = before
answer_tells schema s base o run txn had before (Restate to field kind) other = before
answer_tells schema s base o run txn had before (Spare to field kind want) other = before
answer_tells schema s base o run txn had before (Tighten field kind amount) other = before
answer_tells schema s base o run txn had before (Accept told) other = before
answer_tells schema s base o run txn had before (Read field) other = before
answer_tells schema s base o run txn had before (Share field) other = before
answer_tells schema s base o run txn had before Restart other = absurd (other refl)

refusal_tells : (txn : TxnId) (base : Base) (es : List Effect) (had : Bool) → had ≡ nat_lt 0 (length (escrows_of txn es)) → (c : Command)
    (x : Refusal) → Tells txn base es had c (Refused x)
refusal_tells txn base es had before c x = before ∙ ap (λ (l : List Effect). nat_lt 0 (length (escrows_of txn l))) (sym (after_refused base false c x es))

reply_tells : (schema : SchemaValue) (s : ℕ) (base : Base) (o : List Entry) → IsRun schema s base o → (txn : TxnId) (had : Bool)
    → had ≡ nat_lt 0 (length (escrows_of txn (effects base false o))) → (c : Command) (r : Reply) → Fits (place schema s base o) c r
    → is_unsure r ≡ false → is_still_down r ≡ false → Tells txn base (effects base false o) had c r
reply_tells schema s base o run txn had before Restart r fits sure up =
    by_restart (Tells txn base (effects base false o) had Restart) (place schema s base o) r fits up (λ epoch found. before)
    (refusal_tells txn base (effects base false o) had before Restart)
reply_tells schema s base o run txn had before c r fits sure up =
    by_reply (Tells txn base (effects base false o) had c) (place schema s base o) c r fits sure
    (answer_tells schema s base o run txn had before c (λ e. cc)) (refusal_tells txn base (effects base false o) had before c)

-- what commands and replies tell of a transaction is what took effect
escrow_is_told : (schema : SchemaValue) (s : ℕ) (base : Base) (o : List Entry) → IsRun schema s base o → AreSure o → (txn : TxnId)
    → has_escrow txn o ≡ nat_lt 0 (length (escrows_of txn (effects base false o)))
escrow_is_told schema s base [] run sure txn = refl
escrow_is_told schema s base (e ∷ o) run sure txn =
    reply_tells schema s base o run.0 txn (has_escrow txn o) (escrow_is_told schema s base o run.0 sure.2 txn) e.command e.reply run.1 sure.0 sure.1
    ∙ ap (λ (es : List Effect). nat_lt 0 (length (escrows_of txn (after base false e.command e.reply es))))
    (same_effects base o sure.2 false (doubt_kept_before false e.reply))

-- ---- what one entry leaves

-- an entry adds a record where it is told to leave one
abbrev Leaves : Place → Bool → List Record → Command → Reply → Type 0
Leaves at stood front c r = length (adds at c r stood front) ≡ cond (leaves_record at.entries c r) 1 0

answer_leaves : (schema : SchemaValue) (s : ℕ) (base : Base) (o : List Entry) → IsRun schema s base o → AreSure o → (stood : Bool)
    (front : List Record) (c : Command) → (c ≡ Restart → ⊥)
    → Leaves (place schema s base o) stood front c (answer (place schema s base o) c)
answer_leaves schema s base o run sure stood front (Commit txn) other =
    length_left (place schema s base o) (Commit txn)
    ∙ ap (λ (v : Bool). cond v 1 0) (sym (escrow_is_told schema s base o run sure txn))
answer_leaves schema s base o run sure stood front (Accept told) other = length_left (place schema s base o) (Accept told)
answer_leaves schema s base o run sure stood front Restart other = absurd (other refl)
answer_leaves schema s base o run sure stood front c other = refl

reply_leaves : (schema : SchemaValue) (s : ℕ) (base : Base) (o : List Entry) → IsRun schema s base o → AreSure o → (stood : Bool)
    (front : List Record) (c : Command) (r : Reply) → Fits (place schema s base o) c r → is_unsure r ≡ false → is_still_down r ≡ false
    → Leaves (place schema s base o) stood front c r
reply_leaves schema s base o run sure stood front Restart r fits known up =
    by_restart (Leaves (place schema s base o) stood front Restart) (place schema s base o) r fits up (λ epoch found. refl) (λ x. refl)
reply_leaves schema s base o run sure stood front c r fits known up =
    by_reply (Leaves (place schema s base o) stood front c) (place schema s base o) c r fits known
    (answer_leaves schema s base o run sure stood front c (λ e. cc)) (λ x. refl)

pub count_left : (schema : SchemaValue) (s : ℕ) (base : Base) (bs : List Record) (kept : Bool) (o : List Entry) (rs : List Record)
    → IsRun schema s base o → AreSure o → Keeps schema s base bs kept o rs → length rs ≡ length bs + records_left o
count_left schema s base bs kept [] rs run sure keeps = omega (arith, ap length keeps)
count_left schema s base bs kept (e ∷ o) rs run sure keeps =
    let front = keeps.0 in
    let stood = keeps.1 in
    let more = adds (place schema s base o) e.command e.reply stood front in
    let before = count_left schema s base bs (doubt_kept_before kept e.reply) o front run.0 sure.2 keeps.2 in
    let here = reply_leaves schema s base o run.0 sure.2 stood front e.command e.reply run.1 sure.0 sure.1 in
    let all : length rs ≡ length front + length more = ap length keeps.4 ∙ length-append front more in
    omega (arith, before, here, all)

-- ---- a history that is cut back

one_if : (v : Bool) (n : ℕ) → n ≤ cond v 1 0 + n
one_if true n = omega arith
one_if false n = omega arith

left_more : (later o : List Entry) → records_left o ≤ records_left (later ++ o)
left_more [] o = omega arith
left_more (e ∷ later) o =
    omega (arith, left_more later o, one_if (leaves_record (later ++ o) e.command e.reply) (records_left (later ++ o)))

nothing_left : (rs : List Record) → length rs ≡ 0 → rs ≡ []
nothing_left [] none = refl
nothing_left (r ∷ rs) none = absurd (omega (arith, none))

-- of two cuts of one list the shorter front begins the longer one
shorter_front : (a b c d : List Record) → a ++ b ≡ c ++ d → length c ≤ length a → a ≡ c ++ drop (length c) a
shorter_front a b c d same less =
    let front : take (length c) a ≡ c =
    sym (take-append-le (length c) a b less) ∙ ap (λ (l : List Record). take (length c) l) same ∙ take_at c d (length c) refl in
    sym (take-append-drop (length c) a) ∙ ap (λ (l : List Record). l ++ drop (length c) a) front

pub cut_leaves : (schema : SchemaValue) (s : ℕ) (base : Base) (bs : List Record) (kept : Bool) (later o : List Entry) (rs log back : List Record)
    → IsRun schema s base (later ++ o) → AreSure (later ++ o) → Keeps schema s base bs kept (later ++ o) rs → rs ≡ log ++ back
    → length log ≡ length bs + records_left o → (left : Bool) × Keeps schema s base bs left o log
cut_leaves schema s base bs kept [] o rs log back run sure keeps parts size =
    let all = count_left schema s base bs kept o rs run sure keeps in
    let none : back ≡ [] = nothing_left back (omega (arith, all, size, ap length parts, length-append log back)) in
    let is : rs ≡ log = parts ∙ ap (λ (l : List Record). log ++ l) none ∙ append-nil log in
    (kept, subst (λ (l : List Record). Keeps schema s base bs kept o l) is keeps)
cut_leaves schema s base bs kept (e ∷ later) o rs log back run sure keeps parts size =
    let front = keeps.0 in
    let before = count_left schema s base bs (doubt_kept_before kept e.reply) (later ++ o) front run.0 sure.2 keeps.2 in
    let less : length log ≤ length front = omega (arith, before, size, left_more later o) in
    let begins : front ≡ log ++ drop (length log) front =
    shorter_front front (adds (place schema s base (later ++ o)) e.command e.reply keeps.1 front) log back (sym keeps.4 ∙ parts) less in
    cut_leaves schema s base bs (doubt_kept_before kept e.reply) later o front log (drop (length log) front) run.0 sure.2 keeps.2 begins size

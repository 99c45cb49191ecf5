-- What each test of the judge decides.
use Rattle.std.proofs.Common.{◌≡◌, ℕ, ◌+◌, ◌<◌, ◌≤◌, Bool, true, false, not, ◌&&◌, ◌||◌, cond, List, [], ◌∷◌, length, refl, ap, subst, arith, eqb, ltb, leb, T, Option, Some, None}
use Rattle.std.proofs.lemmas.Bool.{eqb-true, eq-eqb, leb-true, leb-false, le-leb, true≢false, false≢true}
use Rattle.std.proofs.lemmas.Bool.Decides.{Decides-and, Decides-or, Decides-like, Decides-not, Decides-eqb, Decides-int_eq, Decides-ltb}
use Rattle.std.specs.Bool.{Decides}
use Rattle.std.specs.Int.Signed.{le_z}
use Rattle.std.specs.Prelude.{ℤ, pos, ◌≤ℤ◌, ◌+ℤ◌, ◌-ℤ◌, unsigned_abs, ◌⊎◌, MatchOption, IsTrue}
use Rattle.field_bounds.specs.declared.kind.Kind.{Kind}
use Rattle.field_bounds.specs.declared.kind.Kind.TheVariants.{Lower, Raise}
use Rattle.field_bounds.specs.declared.id.FieldNo.{FieldNo}
use Rattle.field_bounds.specs.declared.id.TxnId.{TxnId}
use Rattle.field_bounds.specs.declared.entry.Statement.{Statement}
use Rattle.field_bounds.specs.declared.entry.Command.{Command}
use Rattle.field_bounds.specs.declared.entry.Command.TheVariants.{Begin, Escrow, Commit, Abort, Give, Restate, Spare, Tighten, Accept, Read, Share, Restart}
use Rattle.field_bounds.specs.declared.entry.Reply.{Reply}
use Rattle.field_bounds.specs.declared.entry.Reply.TheVariants.{Begun, Granted, Committed, Aborted, Given, Stated, Spared, Tightened, Accepted, Between, Shares, Restarted, Unsure, StillDown, Refused}
use Rattle.field_bounds.specs.declared.entry.Refusal.{Refusal}
use Rattle.field_bounds.specs.declared.entry.Refusal.TheVariants.{Down, NoSite, NoField, NoTransaction, Zero, TooLarge, Short, SelfGift, LedgerFull, NotYours, Forged, TooManyOpen, TooManyEscrows, NumbersFull, NothingGiven}
use Rattle.field_bounds.specs.declared.entry.Last.{Last}
use Rattle.field_bounds.specs.declared.entry.Last.TheVariants.{Nothing, Kept, Lost}
use Rattle.field_bounds.specs.declared.entry.Entry.{Entry}
use Rattle.field_bounds.specs.Schema.{SchemaValue}
use Rattle.field_bounds.specs.Kind.{same_kind, kind_of}
use Rattle.field_bounds.specs.Effects.{fresh, same_txn, share}
use Rattle.field_bounds.specs.Owed.{Place, first, refusals, answer, writes, epoch_of, count_since, is_unsure, max_epoch, greatest_epoch, RestartFits, Fits}
use Rattle.field_bounds.specs.Central.{at_site, committed_value, inf, sup, floor_in, ceiling_in, MayBeGranted, GrantRule, IsShortage, ShortageRule, IntervalRule, StatementRule}
use Rattle.field_bounds.specs.Statements.{statement_of, IsIssued}
use Rattle.central_rules.specs.Replies.{same_refusal, same_found, same_reply, found_test, answer_test, reply_test}
use Rattle.central_rules.specs.Verdict.{on_field, within_bound, grant_test, true_share, shortage_test, interval_test, same_statement, is_told_by, is_issued, statement_test}
use Rattle.field_bounds.proofs.Lawful.{same_txn-true}

abbrev always : {P : Type 0} → P → Decides true P
always p = (λ _. p, λ _. refl)

abbrev le_is : (a b : ℕ) → Decides (leb a b) (a ≤ b)
le_is a b = (leb-true a b, le-leb a b)

t_from : (b : Bool) → b ≡ true → T b
t_from true h = tt
t_from false h = cc

t_to : (b : Bool) → T b → b ≡ true
t_to true h = refl
t_to false h = absurd h

pub le_z_is : (a b : ℤ) → Decides (le_z a b) (a ≤ℤ b)
le_z_is a b = (λ h. record { le = t_from (le_z a b) h }, λ h. t_to (le_z a b) h.le)

refusal_refl : (a : Refusal) → same_refusal a a ≡ true
refusal_refl (Short n) = eq-eqb n n refl
refusal_refl (LedgerFull n) = eq-eqb n n refl
refusal_refl (Forged n) = eq-eqb n n refl
refusal_refl a = refl

refusal_same : (a b : Refusal) → same_refusal a b ≡ true → a ≡ b
refusal_same Down Down h = refl
refusal_same NoSite NoSite h = refl
refusal_same NoField NoField h = refl
refusal_same NoTransaction NoTransaction h = refl
refusal_same Zero Zero h = refl
refusal_same TooLarge TooLarge h = refl
refusal_same (Short a) (Short b) h = ap Short (eqb-true a b h)
refusal_same SelfGift SelfGift h = refl
refusal_same (LedgerFull a) (LedgerFull b) h = ap LedgerFull (eqb-true a b h)
refusal_same NotYours NotYours h = refl
refusal_same (Forged a) (Forged b) h = ap Forged (eqb-true a b h)
refusal_same TooManyOpen TooManyOpen h = refl
refusal_same TooManyEscrows TooManyEscrows h = refl
refusal_same NumbersFull NumbersFull h = refl
refusal_same NothingGiven NothingGiven h = refl
refusal_same a b h = absurd (false≢true h)

pub refusal_Decides : (a b : Refusal) → Decides (same_refusal a b) (a ≡ b)
refusal_Decides a b = (refusal_same a b, λ e. subst (λ (x : Refusal). same_refusal a x ≡ true) e (refusal_refl a))

last_Decides : (a b : Last) → Decides (same_found a b) (a ≡ b)
last_Decides Nothing Nothing = always refl
last_Decides Kept Kept = always refl
last_Decides Lost Lost = always refl
last_Decides a b = (λ h. cc, λ h. cc)

txn_Decides : (a b : TxnId) → Decides (same_txn a b) (a ≡ b)
txn_Decides a b = (
  same_txn-true a b,
  λ e. (Decides-and (eqb a.epoch b.epoch) (eqb a.number b.number) (Decides-eqb a.epoch b.epoch)
      (Decides-eqb a.number b.number)).1 (ap (λ (x : TxnId). x.epoch) e, ap (λ (x : TxnId). x.number) e),
)

kind_Decides : (a b : Kind) → Decides (same_kind a b) (a ≡ b)
kind_Decides Lower Lower = always refl
kind_Decides Raise Raise = always refl
kind_Decides a b = (λ h. cc, λ h. cc)

abbrev numbers_are : (a x b y : ℕ) → Decides (eqb a b && eqb x y) ((a ≡ b) × (x ≡ y))
numbers_are a x b y = Decides-and (eqb a b) (eqb x y) (Decides-eqb a b) (Decides-eqb x y)

ends_are : (a x b y : ℤ) → Decides (same_reply (Between a x) (Between b y)) ((a ≡ b) × (x ≡ y))
ends_are a x b y = Decides-and _ _ (Decides-int_eq a b) (Decides-int_eq x y)

restart_is_same : (a : ℕ) (x : Last) (b : ℕ) (y : Last) → Decides (eqb a b && same_found x y) ((a ≡ b) × (x ≡ y))
restart_is_same a x b y = Decides-and (eqb a b) (same_found x y) (Decides-eqb a b) (last_Decides x y)

reply_refl : (a : Reply) → same_reply a a ≡ true
reply_refl (Begun a) = (txn_Decides a a).1 refl
reply_refl (Given n) = eq-eqb n n refl
reply_refl (Stated n) = eq-eqb n n refl
reply_refl (Spared a x) = (numbers_are a x a x).1 (refl, refl)
reply_refl (Tightened n) = eq-eqb n n refl
reply_refl (Accepted n) = eq-eqb n n refl
reply_refl (Between a x) = (ends_are a x a x).1 (refl, refl)
reply_refl (Shares a x) = (numbers_are a x a x).1 (refl, refl)
reply_refl (Restarted a x) = (restart_is_same a x a x).1 (refl, refl)
reply_refl (Refused a) = refusal_refl a
reply_refl a = refl

reply_same : (a b : Reply) → same_reply a b ≡ true → a ≡ b
reply_same (Begun a) (Begun b) h = ap Begun (same_txn-true a b h)
reply_same Granted Granted h = refl
reply_same Committed Committed h = refl
reply_same Aborted Aborted h = refl
reply_same (Given a) (Given b) h = ap Given (eqb-true a b h)
reply_same (Stated a) (Stated b) h = ap Stated (eqb-true a b h)
reply_same (Spared a x) (Spared b y) h = let p = (numbers_are a x b y).0 h in cc (p.0, p.1)
reply_same (Tightened a) (Tightened b) h = ap Tightened (eqb-true a b h)
reply_same (Accepted a) (Accepted b) h = ap Accepted (eqb-true a b h)
reply_same (Between a x) (Between b y) h = let p = (ends_are a x b y).0 h in cc (p.0, p.1)
reply_same (Shares a x) (Shares b y) h = let p = (numbers_are a x b y).0 h in cc (p.0, p.1)
reply_same (Restarted a x) (Restarted b y) h = let p = (restart_is_same a x b y).0 h in cc (p.0, p.1)
reply_same Unsure Unsure h = refl
reply_same StillDown StillDown h = refl
reply_same (Refused a) (Refused b) h = ap Refused (refusal_same a b h)
reply_same a b h = absurd (false≢true h)

pub reply_Decides : (a b : Reply) → Decides (same_reply a b) (a ≡ b)
reply_Decides a b = (reply_same a b, λ e. subst (λ (x : Reply). same_reply a x ≡ true) e (reply_refl a))

-- ---- the reply that is owed

last_case : (n : ℕ) (b : Bool) (found : Last) → eqb n 0 ≡ b
    → Decides (cond b (same_found found Nothing) (not (same_found found Nothing))) ((n ≡ 0 → found ≡ Nothing) × (found ≡ Nothing → n ≡ 0))
last_case n true found e =
    let zero_is : n ≡ 0 = eqb-true n 0 e in
    (λ h. (λ _. (last_Decides found Nothing).0 h, λ _. zero_is), λ h. (last_Decides found Nothing).1 (h.0 zero_is))
last_case n false found e =
    let isnt : (n ≡ 0) → false ≡ true = λ z. cc (eq-eqb n 0 z) in
    let no = Decides-not (same_found found Nothing) (last_Decides found Nothing) in
    (λ h. (λ z. absurd (true≢false (cc (isnt z))), λ f. absurd (no.0 h f)), λ h. no.1 (λ f. true≢false (cc (isnt (h.1 f)))))

last_is : (n : ℕ) (found : Last) → Decides (found_test n found) ((n ≡ 0 → found ≡ Nothing) × (found ≡ Nothing → n ≡ 0))
last_is n found = last_case n (eqb n 0) found refl

restart_is : (at : Place) (reply : Reply) → Decides (reply_test at Restart reply) (RestartFits at reply)
restart_is at StillDown = always tt
restart_is at (Refused refusal) = Decides-and _ _ (refusal_Decides refusal NumbersFull) (le_is _ _)
restart_is at (Restarted next found) =
    let e = epoch_of at.base at.entries in
    let u = count_since is_unsure at.entries in
    let two = Decides-and (leb next max_epoch) (found_test u found) (le_is next max_epoch) (last_is u found) in
    let three = Decides-and (leb next (greatest_epoch at + 1)) (leb next max_epoch && found_test u found)
    (le_is next (greatest_epoch at + 1)) two in
    let four = Decides-and (leb (e + 1) next) (leb next (greatest_epoch at + 1) && (leb next max_epoch && found_test u found))
    (le_is (e + 1) next) three in
    (λ h. let p = four.0 h in (p.0, p.1.0, p.1.1.0, p.1.1.1), λ h. four.1 (h.0, (h.1, (h.2, h.3))))
restart_is at reply = (λ h. cc, λ h. absurd h)

unsure_Decides : (reply : Reply) → Decides (is_unsure reply) (reply ≡ Unsure)
unsure_Decides Unsure = always refl
unsure_Decides reply = (λ h. cc, λ h. cc)

answer_is : (o : Option Refusal) (owed reply : Reply) (may : Bool)
    → Decides (answer_test o owed may reply) (MatchOption o ((reply ≡ owed)
    ⊎ ((reply ≡ Unsure) × IsTrue may)) (λ refusal. reply ≡ Refused refusal))
answer_is None owed reply may =
    Decides-or (same_reply reply owed) (is_unsure reply && may) (reply_Decides reply owed)
    (Decides-and (is_unsure reply) may (unsure_Decides reply) (λ h. h, λ h. h))
answer_is (Some refusal) owed reply may = reply_Decides reply (Refused refusal)

pub fits_is : (at : Place) (command : Command) (reply : Reply) → Decides (reply_test at command reply) (Fits at command reply)
fits_is at Restart reply = restart_is at reply
fits_is at Begin reply = answer_is (first (refusals at Begin)) (answer at Begin) reply (writes at Begin)
fits_is at (Escrow txn field change) reply = answer_is (first (refusals at (Escrow txn field change)))
    (answer at (Escrow txn field change)) reply (writes at (Escrow txn field change))
fits_is at (Commit txn) reply = answer_is (first (refusals at (Commit txn))) (answer at (Commit txn)) reply (writes at (Commit txn))
fits_is at (Abort txn) reply = answer_is (first (refusals at (Abort txn))) (answer at (Abort txn)) reply (writes at (Abort txn))
fits_is at (Give to field kind amount) reply = answer_is (first (refusals at (Give to field kind amount)))
    (answer at (Give to field kind amount)) reply (writes at (Give to field kind amount))
fits_is at (Restate to field kind) reply = answer_is (first (refusals at (Restate to field kind))) (answer at (Restate to field kind)) reply
    (writes at (Restate to field kind))
fits_is at (Spare to field kind want) reply = answer_is (first (refusals at (Spare to field kind want)))
    (answer at (Spare to field kind want)) reply (writes at (Spare to field kind want))
fits_is at (Tighten field kind amount) reply = answer_is (first (refusals at (Tighten field kind amount)))
    (answer at (Tighten field kind amount)) reply (writes at (Tighten field kind amount))
fits_is at (Accept told) reply = answer_is (first (refusals at (Accept told))) (answer at (Accept told)) reply (writes at (Accept told))
fits_is at (Read field) reply = answer_is (first (refusals at (Read field))) (answer at (Read field)) reply (writes at (Read field))
fits_is at (Share field) reply = answer_is (first (refusals at (Share field))) (answer at (Share field)) reply (writes at (Share field))

-- ---- the central rules

field_case : (n f : ℕ) (b test : Bool) (P : Type 0) → leb n f ≡ b → Decides test P → Decides (b || test) (f < n → P)
field_case n f true test P e d =
    let out : n ≤ f = leb-true n f e in
    (λ _ lt. absurd (omega arith), λ _. refl)
field_case n f false test P e d =
    let lt : f < n = leb-false n f e in
    (λ h _. d.0 h, λ h. d.1 (h lt))

on_field_is : (schema : SchemaValue) (field : FieldNo) (test : Bool) (P : Type 0) → Decides test P
    → Decides (on_field schema field test) (field.0 < length schema.fields → P)
on_field_is schema field test P d = field_case (length schema.fields) field.0 (leb (length schema.fields) field.0) test P refl d

within_is : (schema : SchemaValue) (t : List Entry) (f q : ℕ) (k : Kind)
    → Decides (within_bound schema t f q k) (MayBeGranted schema t f k q)
within_is schema t f q Lower = le_z_is (floor_in schema t f) (inf schema t f -ℤ pos q)
within_is schema t f q Raise = le_z_is (sup schema t f +ℤ pos q) (ceiling_in schema t f)

pub grant_is : (schema : SchemaValue) (t : List Entry) (command : Command) (reply : Reply)
    → Decides (grant_test schema t command reply) (GrantRule schema t command reply)
grant_is schema t (Escrow txn field change) Granted =
    on_field_is schema field _ _ (within_is schema t field.0 (unsigned_abs change) (kind_of change))
grant_is schema t (Tighten field kind amount) (Tightened total) = on_field_is schema field _ _ (within_is schema t field.0 amount kind)
grant_is schema t command reply = always tt

share_is : (schema : SchemaValue) (t : List Entry) (s : ℕ) (field : FieldNo) (k : Kind) (asked h : ℕ)
    → Decides (true_share schema t s field k asked h) (IsShortage schema t s field.0 k asked h)
share_is schema t s field k asked h =
    let n = share (fresh schema s) field.0 k (at_site schema t s) in
    on_field_is schema field _ _ (Decides-and (eqb h n) (ltb h asked) (Decides-eqb h n) (Decides-ltb h asked))

pub shortage_is : (schema : SchemaValue) (t : List Entry) (s : ℕ) (command : Command) (reply : Reply)
    → Decides (shortage_test schema t s command reply) (ShortageRule schema t s command reply)
shortage_is schema t s (Escrow txn field change) (Refused (Short h)) = share_is schema t s field (kind_of change) (unsigned_abs change) h
shortage_is schema t s (Give to field kind amount) (Refused (Short h)) = share_is schema t s field kind amount h
shortage_is schema t s (Spare to field kind want) (Refused (Short h)) = share_is schema t s field kind want h
shortage_is schema t s (Tighten field kind amount) (Refused (Short h)) = share_is schema t s field kind amount h
shortage_is schema t s command reply = always tt

pub interval_is : (schema : SchemaValue) (t : List Entry) (command : Command) (reply : Reply)
    → Decides (interval_test schema t command reply) (IntervalRule schema t command reply)
interval_is schema t (Read field) (Between lo hi) =
    let v = committed_value schema t field.0 in
    on_field_is schema field _ _ (Decides-and (le_z lo v) (le_z v hi) (le_z_is lo v) (le_z_is v hi))
interval_is schema t command reply = always tt

statement_Decides : (a b : Statement) → Decides (same_statement a b) (a ≡ b)
statement_Decides a b =
    let five =
    Decides-and (eqb a.from.0 b.from.0) _ (Decides-eqb a.from.0 b.from.0)
    (Decides-and (eqb a.to.0 b.to.0) _ (Decides-eqb a.to.0 b.to.0)
    (Decides-and (eqb a.field.0 b.field.0) _ (Decides-eqb a.field.0 b.field.0)
    (Decides-and (same_kind a.kind b.kind) (eqb a.total b.total) (kind_Decides a.kind b.kind) (Decides-eqb a.total b.total)))) in (
      λ h.
          let p = five.0 h in
          let from : a.from.0 ≡ b.from.0 = p.0 in
          let to : a.to.0 ≡ b.to.0 = p.1.0 in
          let field : a.field.0 ≡ b.field.0 = p.1.1.0 in
          let kind : a.kind ≡ b.kind = p.1.1.1.0 in
          let total : a.total ≡ b.total = p.1.1.1.1 in
          let made : ◌≡◌ {A = Statement}
          (record {
            from = record { 0 = a.from.0 };
            to = record { 0 = a.to.0 };
            field = record { 0 = a.field.0 };
            kind = a.kind;
            total =
                a.total;
          })
          (record {
            from = record { 0 = b.from.0 };
            to = record { 0 = b.to.0 };
            field = record { 0 = b.field.0 };
            kind = b.kind;
            total =
                b.total;
          }) = cc in
          made,
      λ e. five.1 (
        ap (λ (x : Statement). x.from.0) e,
        (
          ap (λ (x : Statement). x.to.0) e,
          (
            ap (λ (x : Statement). x.field.0) e,
            (ap (λ (x : Statement). x.kind) e, ap (λ (x : Statement). x.total) e),
          ),
        ),
      ),
    )

told_is : (statement : Statement) (o : Option Statement) → Decides (is_told_by statement o) (o ≡ Some statement)
told_is statement None = (λ h. cc, λ h. cc)
told_is statement (Some told) = Decides-like (same_statement told statement) (λ e. ap Some e) (λ e. cc) (statement_Decides told statement)

pub issued_is : (statement : Statement) (t : List Entry) → Decides (is_issued statement t) (IsIssued statement t)
issued_is statement [] = (λ h. cc, λ h. absurd h)
issued_is statement (e ∷ t) = Decides-or (is_told_by statement (statement_of e)) (is_issued statement t)
    (told_is statement (statement_of e)) (issued_is statement t)

pub statement_is : (t : List Entry) (command : Command) (reply : Reply)
    → Decides (statement_test t command reply) (StatementRule t command reply)
statement_is t (Accept statement) (Accepted gain) = issued_is statement t
statement_is t (Accept statement) Unsure = issued_is statement t
statement_is t command reply = always tt

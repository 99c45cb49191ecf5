-- The greatest epoch that is kept.
use Rattle.std.proofs.Common.{◌≡◌, ℕ, ◌+◌, ◌<◌, ◌≤◌, Bool, true, false, cond, List, [], ◌∷◌, ◌++◌, refl, sym, ◌∙◌, ap, subst, arith}
use Rattle.std.proofs.lemmas.List.{append-nil}
use Rattle.std.specs.Prelude.{nat_lt}
use Rattle.field_bounds.specs.declared.entry.Command.{Command}
use Rattle.field_bounds.specs.declared.entry.Command.TheVariants.{Begin, Escrow, Commit, Abort, Give, Restate, Spare, Tighten, Accept, Read, Share, Restart}
use Rattle.field_bounds.specs.declared.entry.Reply.{Reply}
use Rattle.field_bounds.specs.declared.entry.Reply.TheVariants.{Restarted, Unsure, StillDown, Refused}
use Rattle.field_bounds.specs.declared.entry.Refusal.TheVariants.{NumbersFull}
use Rattle.field_bounds.specs.declared.entry.Last.{Last}
use Rattle.field_bounds.specs.declared.entry.Last.TheVariants.{Nothing}
use Rattle.field_bounds.specs.declared.entry.Entry.{Entry}
use Rattle.kept_records.specs.declared.record.Record.{Record}
use Rattle.kept_records.specs.declared.record.Record.TheVariants as records
use Rattle.field_bounds.specs.Schema.{SchemaValue}
use Rattle.field_bounds.specs.Effects.{Base, doubt_kept_before}
use Rattle.field_bounds.specs.Owed.{Place, place, is_up, up_after, epoch_of, epoch_after, count_since, count_after, is_still_down, is_unsure, count_escrows, gain_of, max_epoch, RestartFits}
use Rattle.kept_records.specs.Stands.{later, greatest}
use Rattle.kept_state.specs.Keeps.{IsBase, record_left, adds, Tells, Keeps}
use Rattle.kept_records.proofs.Pushes.{greatest_push}

greatest_cond : (b : Bool) (rs : List Record) (r : Record) → later (greatest rs) r ≡ greatest rs
    → greatest (rs ++ cond b (r ∷ []) []) ≡ greatest rs
greatest_cond true rs r h = greatest_push rs r ∙ h
greatest_cond false rs r h = ap greatest (append-nil rs)

pub greatest_noted : (at : Place) (c : Command) (rs : List Record) → greatest (rs ++ record_left at c) ≡ greatest rs
greatest_noted at Begin rs = ap greatest (append-nil rs)
greatest_noted at (Escrow txn field change) rs = ap greatest (append-nil rs)
greatest_noted at (Commit txn) rs = greatest_cond (nat_lt 0 (count_escrows txn at.effects)) rs _ refl
greatest_noted at (Abort txn) rs = ap greatest (append-nil rs)
greatest_noted at (Give to field kind amount) rs = greatest_push rs _
greatest_noted at (Restate to field kind) rs = ap greatest (append-nil rs)
greatest_noted at (Spare to field kind want) rs = greatest_push rs _
greatest_noted at (Tighten field kind amount) rs = greatest_push rs _
greatest_noted at (Accept told) rs = greatest_cond (nat_lt 0 (gain_of at told.from told.field told.kind told.total)) rs _ refl
greatest_noted at (Read field) rs = ap greatest (append-nil rs)
greatest_noted at (Share field) rs = ap greatest (append-nil rs)
greatest_noted at Restart rs = ap greatest (append-nil rs)

-- the greatest epoch lies above the last restart's by at most the restarts that failed since
abbrev pub Between : ℕ → ℕ → ℕ → Type 0
Between epoch n greatest_ = (epoch ≤ greatest_) × (greatest_ ≤ epoch + n)

epoch_step : (at : Place) (c : Command) (r : Reply) (kept stood : Bool) (front : List Record) (epoch n : ℕ) → Tells kept stood front r
    → Between epoch n (greatest front)
    → Between (epoch_after epoch r) (count_after is_still_down n r) (greatest (front ++ adds at c r stood front))
epoch_step at c (Restarted new found) kept stood front epoch n tells ih =
    let more = greatest_push front (records.Restart new) in (omega (arith, more, tells), omega (arith, more, tells))
epoch_step at c StillDown kept true front epoch n tells ih =
    let more = greatest_push front (records.Restart (greatest front + 1)) in (omega (arith, more, ih), omega (arith, more, ih))
epoch_step at c StillDown kept false front epoch n tells ih = let more = ap greatest (append-nil front) in
    (omega (arith, more, ih), omega (arith, more, ih))
epoch_step at c (Refused x) kept stood front epoch n tells ih = let more = ap greatest (append-nil front) in
    (omega (arith, more, ih), omega (arith, more, ih))
epoch_step at c Unsure kept true front epoch n tells ih = let more = greatest_noted at c front in
    (omega (arith, more, ih), omega (arith, more, ih))
epoch_step at c Unsure kept false front epoch n tells ih = let more = ap greatest (append-nil front) in
    (omega (arith, more, ih), omega (arith, more, ih))
epoch_step at c r kept stood front epoch n tells ih = let more = greatest_noted at c front in
    (omega (arith, more, ih), omega (arith, more, ih))

pub keeps_epoch : (schema : SchemaValue) (s : ℕ) (base : Base) (bs : List Record) → IsBase schema s base bs
    → (kept : Bool) (o : List Entry) (rs : List Record)
    → Keeps schema s base bs kept o rs → Between (epoch_of base o) (count_since is_still_down o) (greatest rs)
keeps_epoch schema s base bs is kept [] rs keeps = let same = ap greatest keeps in
    (omega (arith, same, is.epoch), omega (arith, same, is.epoch))
keeps_epoch schema s base bs is kept (e ∷ o) rs keeps =
    subst (λ (all : List Record). Between (epoch_of base (e ∷ o)) (count_since is_still_down (e ∷ o)) (greatest all)) (sym keeps.4)
    (epoch_step (place schema s base o) e.command e.reply kept keeps.1 keeps.0 (epoch_of base o) (count_since is_still_down o) keeps.3
    (keeps_epoch schema s base bs is (doubt_kept_before kept e.reply) o keeps.0 keeps.2))

none_step : (up : Bool) (n : ℕ) (r : Reply) → (up ≡ true → n ≡ 0) → up_after up r ≡ true → count_after is_still_down n r ≡ 0
none_step up n (Restarted epoch found) h is = refl
none_step up n Unsure h is = cc
none_step up n StillDown h is = cc
none_step up n r h is = omega (arith, h is)

pub up_none_still : (base : Base) (o : List Entry) → is_up base o ≡ true → count_since is_still_down o ≡ 0
up_none_still base [] up = refl
up_none_still base (e ∷ o) up = none_step (is_up base o) (count_since is_still_down o) e.reply (up_none_still base o) up

-- at a site that is up the greatest epoch is the last restart's
pub up_epoch : (schema : SchemaValue) (s : ℕ) (base : Base) (bs : List Record) → IsBase schema s base bs
    → (kept : Bool) (o : List Entry) (rs : List Record)
    → Keeps schema s base bs kept o rs → is_up base o ≡ true → epoch_of base o ≡ greatest rs
up_epoch schema s base bs is kept o rs keeps up = omega (arith, keeps_epoch schema s base bs is kept o rs keeps, up_none_still base o up)

-- ---- the epochs that a restart may answer are the greatest kept one plus 1

pub restart_fits : (schema : SchemaValue) (s : ℕ) (base : Base) (bs : List Record) → IsBase schema s base bs
    → (kept : Bool) (o : List Entry) (rs : List Record) → Keeps schema s base bs kept o rs
    → (found : Last) → greatest rs < max_epoch → (count_since is_unsure o ≡ 0 → found ≡ Nothing)
    → (found ≡ Nothing → count_since is_unsure o ≡ 0)
    → RestartFits (place schema s base o) (Restarted (greatest rs + 1) found)
restart_fits schema s base bs is kept o rs keeps found below there back =
    let between = keeps_epoch schema s base bs is kept o rs keeps in
    (omega (arith, between), omega (arith, between), omega (arith, below), (there, back))

pub refused_fits : (schema : SchemaValue) (s : ℕ) (base : Base) (bs : List Record) → IsBase schema s base bs
    → (kept : Bool) (o : List Entry) (rs : List Record) → Keeps schema s base bs kept o rs
    → max_epoch ≤ greatest rs → RestartFits (place schema s base o) (Refused NumbersFull)
refused_fits schema s base bs is kept o rs keeps full = (refl, omega (arith, full, keeps_epoch schema s base bs is kept o rs keeps))

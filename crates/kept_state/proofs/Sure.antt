-- Where no answer is in doubt, it is open what is said to be kept.
use Rattle.std.proofs.Common.{◌≡◌, ℕ, Bool, true, List, [], ◌∷◌, arith}
use Rattle.field_bounds.specs.declared.entry.Reply.{Reply}
use Rattle.field_bounds.specs.declared.entry.Reply.TheVariants.{Restarted, Unsure}
use Rattle.field_bounds.specs.declared.entry.Entry.{Entry}
use Rattle.kept_records.specs.declared.record.Record.{Record}
use Rattle.field_bounds.specs.Schema.{SchemaValue}
use Rattle.field_bounds.specs.Effects.{Base, doubt_kept_before}
use Rattle.field_bounds.specs.Owed.{is_up, is_unsure, count_since, count_after}
use Rattle.kept_state.specs.Keeps.{Tells, Keeps}
use Rattle.field_bounds.proofs.Doubt.{up_none_unsure}

tells_sure : (n : ℕ) (r : Reply) (kept other stood : Bool) (front : List Record) → count_after is_unsure n r ≡ 0 → Tells kept stood front r
    → Tells other stood front r
tells_sure n (Restarted epoch found) kept other stood front h tells = tells
tells_sure n Unsure kept other stood front h tells = absurd (omega (arith, h))
tells_sure n r kept other stood front h tells = tt

before_sure : (n : ℕ) (r : Reply) (kept other : Bool) (P : Bool → Type 0) → count_after is_unsure n r ≡ 0 → (n ≡ 0 → P kept → P other)
    → P (doubt_kept_before kept r) → P (doubt_kept_before other r)
before_sure n (Restarted epoch found) kept other P h step was = was
before_sure n Unsure kept other P h step was = absurd (omega (arith, h))
before_sure n r kept other P h step was = step (omega (arith, h)) was

pub keeps_sure : (schema : SchemaValue) (s : ℕ) (base : Base) (bs : List Record) (kept other : Bool) (o : List Entry) (rs : List Record)
    → count_since is_unsure o ≡ 0
    → Keeps schema s base bs kept o rs → Keeps schema s base bs other o rs
keeps_sure schema s base bs kept other [] rs h keeps = keeps
keeps_sure schema s base bs kept other (e ∷ o) rs h keeps = (
  keeps.0,
  keeps.1,
  before_sure (count_since is_unsure o) e.reply kept other (λ k. Keeps schema s base bs k o keeps.0) h
      (λ was. keeps_sure schema s base bs kept other o keeps.0 was) keeps.2,
  tells_sure (count_since is_unsure o) e.reply kept other keeps.1 keeps.0 h keeps.3,
  keeps.4,
)

pub keeps_up : (schema : SchemaValue) (s : ℕ) (base : Base) (bs : List Record) (kept other : Bool) (o : List Entry) (rs : List Record)
    → is_up base o ≡ true
    → Keeps schema s base bs kept o rs → Keeps schema s base bs other o rs
keeps_up schema s base bs kept other o rs up keeps = keeps_sure schema s base bs kept other o rs (up_none_unsure base o up) keeps

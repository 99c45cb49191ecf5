-- A lawful log has no total of its own site.
use Rattle.std.proofs.Common.{◌≡◌, ℕ, ◌==◌, max, Bool, true, false, not, ◌&&◌, cond, List, [], ◌∷◌, ◌++◌, append_assoc, refl, sym, ◌∙◌, subst}
use Rattle.std.specs.Prelude.{nat_lt}
use Rattle.std.proofs.lemmas.List.{append-nil}
use Rattle.field_bounds.specs.declared.kind.Kind.{Kind}
use Rattle.field_bounds.specs.Kind.{same_kind}
use Rattle.field_bounds.specs.Schema.{SchemaValue}
use Rattle.kept_records.specs.declared.record.Record.{Record}
use Rattle.kept_records.specs.declared.record.Record.TheVariants.{Gift, Accept}
use Rattle.kept_records.specs.Stands.{given_more, given_in, accepted_more, accepted_in, is_field, may_follow, LawfulBehind, Lawful}
use Rattle.kept_records.proofs.Pushes.{given_none, accepted_none, given_push, accepted_push}

-- another site's total leaves one as it was
apart : (on : Bool) (there same c d e : Bool) (total n : ℕ) → ((there && not same) && c && d && e) ≡ true
    → cond (on && same) (max total n) n ≡ n
apart on true true c d e total n h = cc
apart on false same c d e total n h = cc
apart true true false c d e total n h = refl
apart false true false c d e total n h = refl

module _ (schema : SchemaValue) (s f : ℕ) (k : Kind) where
  given_same : (front : List Record) (r : Record) → may_follow schema s front r ≡ true → (n : ℕ) → given_more s f k n r ≡ n
  given_same front (Gift to field kind total) may n =
      apart ((field.0 == f) && same_kind kind k) (nat_lt to.0 schema.sites) (to.0 == s) (is_field schema field.0) _ _ total n may
  given_same front r may n = refl

  accepted_same : (front : List Record) (r : Record) → may_follow schema s front r ≡ true → (n : ℕ) → accepted_more s f k n r ≡ n
  accepted_same front (Accept from field kind total) may n =
      apart ((field.0 == f) && same_kind kind k) (nat_lt from.0 schema.sites) (from.0 == s) (is_field schema field.0) _ _ total n may
  accepted_same front r may n = refl

  given_behind : (front rs : List Record) → given_in front s f k ≡ 0 → LawfulBehind schema s front rs → given_in (front ++ rs) s f k ≡ 0
  given_behind front [] none lawful = subst (λ (all : List Record). given_in all s f k ≡ 0) (sym (append-nil front)) none
  given_behind front (r ∷ rs) none lawful =
      subst (λ (all : List Record). given_in all s f k ≡ 0) (append_assoc front (r ∷ []) rs)
      (given_behind (front ++ r ∷ []) rs
      (given_push s f k front r ∙ given_same front r lawful.0 (given_in front s f k) ∙ none) lawful.1)

  accepted_behind : (front rs : List Record) → accepted_in front s f k ≡ 0 → LawfulBehind schema s front rs
      → accepted_in (front ++ rs) s f k ≡ 0
  accepted_behind front [] none lawful = subst (λ (all : List Record). accepted_in all s f k ≡ 0) (sym (append-nil front)) none
  accepted_behind front (r ∷ rs) none lawful =
      subst (λ (all : List Record). accepted_in all s f k ≡ 0) (append_assoc front (r ∷ []) rs)
      (accepted_behind (front ++ r ∷ []) rs
      (accepted_push s f k front r ∙ accepted_same front r lawful.0 (accepted_in front s f k) ∙ none) lawful.1)

  pub given_own : (rs : List Record) → Lawful schema s rs → given_in rs s f k ≡ 0
  given_own rs lawful = given_behind [] rs (given_none s f k) lawful

  pub accepted_own : (rs : List Record) → Lawful schema s rs → accepted_in rs s f k ≡ 0
  accepted_own rs lawful = accepted_behind [] rs (accepted_none s f k) lawful

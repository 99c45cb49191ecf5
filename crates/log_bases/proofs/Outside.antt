-- Lawful records name no field and no other site that isn't there.
use Rattle.std.proofs.Common.{◌≡◌, ℕ, ◌==◌, max, Bool, true, false, ◌&&◌, cond, List, [], ◌∷◌, ◌++◌, append_assoc, refl, sym, ap, ◌∙◌, subst, arith}
use Rattle.std.specs.Prelude.{sum_by, unsigned_abs}
use Rattle.std.specs.List.{list_all}
use Rattle.std.proofs.lemmas.Bool.{and_parts}
use Rattle.std.proofs.lemmas.List.{append-nil}
use Rattle.std.proofs.lemmas.List.Sums.{sum_by-cons}
use Rattle.field_bounds.specs.declared.kind.Kind.{Kind}
use Rattle.field_bounds.specs.declared.entry.Escrow.{Escrow}
use Rattle.field_bounds.specs.Kind.{same_kind, kind_of, other}
use Rattle.field_bounds.specs.Schema.{SchemaValue}
use Rattle.field_bounds.specs.Parts.{part_of}
use Rattle.field_bounds.specs.Effects.{takes}
use Rattle.field_bounds.proofs.Sums.{sum_below-same, sum_below-zero}
use Rattle.kept_records.specs.declared.record.Record.{Record}
use Rattle.kept_records.specs.declared.record.Record.TheVariants.{Commit, Gift, Accept, Tighten, Restart, Summary}
use Rattle.kept_records.specs.Stands.{given_more, given_in, accepted_more, accepted_in, cut_more, cut_in, commits, committed_in, own_in, is_field, is_other_site, may_commit, greatest, may_follow, LawfulBehind, Lawful}
use Rattle.kept_records.proofs.Pushes.{given_none, accepted_none, cut_none, committed_none, given_push, accepted_push, cut_push, committed_push}
use Rattle.kept_records.proofs.Covering.{key, at_key, on_field, own_whole}

-- a test that never holds leaves what there was
pub stays : (b : Bool) (m n : ℕ) → (b ≡ true → ⊥) → cond b m n ≡ n
stays true m n h = absurd (h refl)
stays false m n h = refl

four_first : (a b c d : Bool) → (a && b && c && d) ≡ true → (a && b) ≡ true
four_first true true c d all = refl
four_first false b c d all = cc
four_first true false c d all = cc

first_of : (a b c : Bool) → (a && b && c) ≡ true → a ≡ true
first_of true b c h = refl
first_of false b c h = cc

abbrev number : Bool → ℕ
number b = cond b 1 0

never : (b c : Bool) → number b ≡ number c → b ≡ true → c ≡ false → ⊥
never true false same one none = absurd cc
never true true same one none = cc
never false c same one none = cc

module _ (schema : SchemaValue) (s : ℕ) where
  abbrev at : ℕ → ℕ → Bool
  at site field = is_other_site schema s site && is_field schema field

  -- ---- totals with another site

  module _ (to f : ℕ) (k : Kind) (none : at to f ≡ false) where
    apart : (field : ℕ) (kind : Kind) (site : ℕ) → at site field ≡ true → key field kind site f k to ≡ true → ⊥
    apart field kind site there same =
        never (at site field) (at to f) (at_key (λ x y z. number (at x y)) field kind site f k to same) there none

    given_step : (front : List Record) (r : Record) → may_follow schema s front r ≡ true → (n : ℕ) → given_more to f k n r ≡ n
    given_step front (Commit txn escrows) may n = refl
    given_step front (Gift site field kind total) may n =
        stays (key field.0 kind site.0 f k to) (max total n) n (apart field.0 kind site.0
        (four_first (is_other_site schema s site.0) (is_field schema field.0) _ _ may))
    given_step front (Accept site field kind total) may n = refl
    given_step front (Tighten field kind total) may n = refl
    given_step front (Restart epoch) may n = refl
    given_step front (Summary epoch rights gifts accepts tightenings) may n = refl

    accepted_step : (front : List Record) (r : Record) → may_follow schema s front r ≡ true → (n : ℕ) → accepted_more to f k n r ≡ n
    accepted_step front (Commit txn escrows) may n = refl
    accepted_step front (Gift site field kind total) may n = refl
    accepted_step front (Accept site field kind total) may n =
        stays (key field.0 kind site.0 f k to) (max total n) n (apart field.0 kind site.0
        (four_first (is_other_site schema s site.0) (is_field schema field.0) _ _ may))
    accepted_step front (Tighten field kind total) may n = refl
    accepted_step front (Restart epoch) may n = refl
    accepted_step front (Summary epoch rights gifts accepts tightenings) may n = refl

    given_behind : (front rs : List Record) → given_in front to f k ≡ 0 → LawfulBehind schema s front rs → given_in (front ++ rs) to f k ≡ 0
    given_behind front [] zero lawful = subst (λ (all : List Record). given_in all to f k ≡ 0) (sym (append-nil front)) zero
    given_behind front (r ∷ rs) zero lawful =
        subst (λ (all : List Record). given_in all to f k ≡ 0) (append_assoc front (r ∷ []) rs)
        (given_behind (front ++ r ∷ []) rs (given_push to f k front r ∙ given_step front r lawful.0 (given_in front to f k) ∙ zero) lawful.1)

    accepted_behind : (front rs : List Record) → accepted_in front to f k ≡ 0 → LawfulBehind schema s front rs
        → accepted_in (front ++ rs) to f k ≡ 0
    accepted_behind front [] zero lawful = subst (λ (all : List Record). accepted_in all to f k ≡ 0) (sym (append-nil front)) zero
    accepted_behind front (r ∷ rs) zero lawful =
        subst (λ (all : List Record). accepted_in all to f k ≡ 0) (append_assoc front (r ∷ []) rs)
        (accepted_behind (front ++ r ∷ []) rs
        (accepted_push to f k front r ∙ accepted_step front r lawful.0 (accepted_in front to f k) ∙ zero) lawful.1)

    pub given_outside : (rs : List Record) → Lawful schema s rs → given_in rs to f k ≡ 0
    given_outside rs lawful = given_behind [] rs (given_none to f k) lawful

    pub accepted_outside : (rs : List Record) → Lawful schema s rs → accepted_in rs to f k ≡ 0
    accepted_outside rs lawful = accepted_behind [] rs (accepted_none to f k) lawful

  -- ---- a field that isn't there

  module _ (f : ℕ) (k : Kind) (none : is_field schema f ≡ false) where
    off : (field : ℕ) (kind : Kind) → is_field schema field ≡ true → ((field == f) && same_kind kind k) ≡ true → ⊥
    off field kind there same =
        never (is_field schema field) (is_field schema f) (on_field (λ x z. number (is_field schema x)) field f kind k same) there none

    cut_step : (front : List Record) (r : Record) → may_follow schema s front r ≡ true → (n : ℕ) → cut_more f k n r ≡ n
    cut_step front (Commit txn escrows) may n = refl
    cut_step front (Gift site field kind total) may n = refl
    cut_step front (Accept site field kind total) may n = refl
    cut_step front (Tighten field kind total) may n =
        stays ((field.0 == f) && same_kind kind k) (max total n) n (off field.0 kind (first_of (is_field schema field.0) _ _ may))
    cut_step front (Restart epoch) may n = refl
    cut_step front (Summary epoch rights gifts accepts tightenings) may n = refl

    taken : (front : List Record) (all es : List Escrow) → list_all (may_commit schema s front all) es ≡ true → sum_by (takes f k) es ≡ 0
    taken front all [] may = refl
    taken front all (e ∷ es) may =
        let parts = and_parts (may_commit schema s front all e) (list_all (may_commit schema s front all) es) may in
        omega (
          arith,
          sum_by-cons (takes f k) e es,
          stays ((e.field.0 == f) && same_kind (kind_of e.change) k) (unsigned_abs e.change) 0
              (off e.field.0 (kind_of e.change) (first_of (is_field schema e.field.0) _ _ parts.0)),
          taken front all es parts.1,
        )

    commit_step : (front : List Record) (r : Record) → may_follow schema s front r ≡ true → commits f k r ≡ 0
    commit_step front (Commit txn escrows) may =
        taken front escrows escrows (and_parts (txn.epoch == greatest front) (list_all (may_commit schema s front escrows) escrows) may).1
    commit_step front (Gift site field kind total) may = refl
    commit_step front (Accept site field kind total) may = refl
    commit_step front (Tighten field kind total) may = refl
    commit_step front (Restart epoch) may = refl
    commit_step front (Summary epoch rights gifts accepts tightenings) may = refl

    cut_behind : (front rs : List Record) → cut_in front f k ≡ 0 → LawfulBehind schema s front rs → cut_in (front ++ rs) f k ≡ 0
    cut_behind front [] zero lawful = subst (λ (all : List Record). cut_in all f k ≡ 0) (sym (append-nil front)) zero
    cut_behind front (r ∷ rs) zero lawful =
        subst (λ (all : List Record). cut_in all f k ≡ 0) (append_assoc front (r ∷ []) rs)
        (cut_behind (front ++ r ∷ []) rs (cut_push f k front r ∙ cut_step front r lawful.0 (cut_in front f k) ∙ zero) lawful.1)

    committed_behind : (front rs : List Record) → committed_in f k front ≡ 0 → LawfulBehind schema s front rs
        → committed_in f k (front ++ rs) ≡ 0
    committed_behind front [] zero lawful = subst (λ (all : List Record). committed_in f k all ≡ 0) (sym (append-nil front)) zero
    committed_behind front (r ∷ rs) zero lawful =
        subst (λ (all : List Record). committed_in f k all ≡ 0) (append_assoc front (r ∷ []) rs)
        (committed_behind (front ++ r ∷ []) rs (omega (arith, committed_push f k front r, zero, commit_step front r lawful.0)) lawful.1)

    pub cut_outside : (rs : List Record) → Lawful schema s rs → cut_in rs f k ≡ 0
    cut_outside rs lawful = cut_behind [] rs (cut_none f k) lawful

    pub committed_outside : (rs : List Record) → Lawful schema s rs → committed_in f k rs ≡ 0
    committed_outside rs lawful = committed_behind [] rs (committed_none f k) lawful

  and_false : (a : Bool) → (a && false) ≡ false
  and_false true = refl
  and_false false = refl

  -- so the own rights of a field that isn't there are its part
  pub own_outside : (f : ℕ) (k : Kind) → is_field schema f ≡ false → (rs : List Record) → Lawful schema s rs
      → own_in schema s rs f k ≡ part_of schema s f k
  own_outside f k none rs lawful =
      let gone : (x : ℕ) → at x f ≡ false = λ x. ap (λ (b : Bool). is_other_site schema s x && b) none ∙ and_false (is_other_site schema s x) in
      omega (
        arith,
        own_whole schema s rs lawful f k,
        committed_outside f k none rs lawful,
        committed_outside f (other k) none rs lawful,
        cut_outside f k none rs lawful,
        sum_below-same schema.sites (λ to. given_in rs to f k) (λ to. 0) (λ to below. given_outside to f k (gone to) rs lawful),
        sum_below-same schema.sites (λ from. accepted_in rs from f k) (λ from. 0) (λ from below. accepted_outside from f k (gone from) rs lawful),
        sum_below-zero schema.sites,
      )

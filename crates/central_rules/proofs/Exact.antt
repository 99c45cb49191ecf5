-- What a judge's answer says where it is the verdict.
use Rattle.std.proofs.Common.{◌≡◌, ℕ, List, reverse, sym, ◌∙◌}
use Rattle.std.specs.Prelude.{Result, Ok, Err, IfOk, ◌↔◌}
use Rattle.field_bounds.specs.declared.entry.Entry.{Entry}
use Rattle.field_bounds.specs.Schema.{SchemaValue}
use Rattle.field_bounds.specs.Limits.{IsSchema}
use Rattle.field_bounds.specs.Central.{IsSound, IsCentral}
use Rattle.field_bounds.proofs.Headline.{sound_is_central}
use Rattle.central_rules.specs.declared.verdict.Rule.{Rule}
use Rattle.central_rules.specs.declared.verdict.Verdict.{Verdict}
use Rattle.central_rules.specs.declared.verdict.Verdict.TheVariants.{Legal, Illegal}
use Rattle.central_rules.specs.Verdict.{verdict_of, IsFirstBad}
use Rattle.central_rules.proofs.Verdicts.{legal_is_sound, sound_is_legal, illegal_is}

module _ {A E : Type 0} (told : A → Verdict) (schema : SchemaValue) (entries : List Entry) where
  pub legal_of : (r : Result A E) → IfOk r (λ v. told v ≡ verdict_of schema entries)
      → IfOk r (λ v. told v ≡ Legal ↔ (IsSound schema (reverse entries) × IsCentral schema (reverse entries)))
  legal_of (Ok v) is = (
    λ h. legal_is_sound schema (reverse entries) (sym is ∙ h),
    λ h. is ∙ sound_is_legal schema (reverse entries) h.0 h.1,
  )
  legal_of (Err e) is = is

  pub first_of : (r : Result A E) → IfOk r (λ v. told v ≡ verdict_of schema entries)
      → IfOk r (λ v. (at : ℕ) (rule : Rule) → told v ≡ Illegal at rule → IsFirstBad schema (reverse entries) at rule)
  first_of (Ok v) is = λ at rule h. illegal_is schema (reverse entries) at rule (sym is ∙ h)
  first_of (Err e) is = is

  pub sound_of : (r : Result A E) → IfOk r (λ v. told v ≡ verdict_of schema entries) → IsSchema schema → IsSound schema (reverse entries)
      → IfOk r (λ v. told v ≡ Legal)
  sound_of (Ok v) is good sound = is ∙ sound_is_legal schema (reverse entries) sound (sound_is_central schema good (reverse entries) sound)
  sound_of (Err e) is good sound = is

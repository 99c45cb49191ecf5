-- The line that levels a field levels no other, and asks no step.
use Rattle.std.proofs.Common.{◌≡◌, ℕ, ◌<◌, ◌≤◌, List, get_or, sym, ap, ◌∙◌, arith}
use Rattle.field_bounds.specs.Schema.{SchemaValue}
use Rattle.field_bounds.specs.Limits.{IsSchema}
use Rattle.field_bounds.specs.declared.kind.Kind.{Kind}
use Rattle.field_bounds.specs.declared.id.FieldNo.{FieldNo}
use Rattle.world_steps.specs.declared.step.WorldStep.{WorldStep}
use Rattle.world_steps.specs.declared.step.WorldStep.TheVariants.{Do, Deliver}
use Rattle.escrow_run.specs.declared.level.Level.{Level}
use Rattle.escrow_run.specs.declared.line.Line.TheVariants as lines
use Rattle.escrow_run.specs.Text.{step_text, NumbersFit, Asks, Levels}
use Rattle.escrow_run.proofs.StepLemmas.{command_head, readable, one_named}

pub step_head : (schema : SchemaValue) (step : WorldStep) → NumbersFit step → get_or (step_text schema step) 0 0 ≤ 100
step_head schema (Do site command luck) fits = omega (arith, command_head schema site command luck fits)
step_head schema (Deliver k luck) fits = let head : 100 ≤ 100 = omega arith in head

pub no_both : (schema : SchemaValue) (line : List ℕ) (step : WorldStep) (field : FieldNo) (kind : Kind) → Asks schema line step
    → Levels schema line field kind → ⊥
no_both schema line step field kind asks levels =
    let same : get_or (step_text schema step) 0 0 ≡ 108 = ap (λ (l : List ℕ). get_or l 0 0) (sym asks.text ∙ levels.text) in
    omega (arith, same, step_head schema step asks.numbers)

level_is : (a b : Level) → lines.Level a ≡ lines.Level b → a ≡ b
level_is a b e = cc

pub one_level : (schema : SchemaValue) → IsSchema schema → (line : List ℕ) (field other : FieldNo) (kind again : Kind)
    → Levels schema line field kind → Levels schema line other again
    → (field ≡ other) × (kind ≡ again)
one_level schema is line field other kind again a b =
    let first : Level = record { field = field; kind = kind } in
    let second : Level = record { field = other; kind = again } in
    let above : 57 < 108 = omega arith in
    let same = level_is first second (one_named schema is (lines.Level first) (lines.Level second) (readable schema is line (lines.Level first) a)
    (readable schema is line (lines.Level second) b) above (sym a.text ∙ b.text)) in
    (ap (λ (l : Level). l.field) same, ap (λ (l : Level). l.kind) same)

-- The line that reaches for a value reaches for no other, asks no step and levels no field.
use Rattle.std.proofs.Common.{◌≡◌, ℕ, ◌<◌, List, get_or, sym, ap, ◌∙◌, arith}
use Rattle.field_bounds.specs.Schema.{SchemaValue}
use Rattle.field_bounds.specs.Limits.{IsSchema}
use Rattle.field_bounds.specs.declared.kind.Kind.{Kind}
use Rattle.field_bounds.specs.declared.id.FieldNo.{FieldNo}
use Rattle.world_steps.specs.declared.step.WorldStep.{WorldStep}
use Rattle.escrow_run.specs.declared.aim.Aim.{Aim}
use Rattle.escrow_run.specs.declared.line.Line.TheVariants.{Reach}
use Rattle.escrow_run.specs.Text.{step_text, Asks, Levels, Aims}
use Rattle.escrow_run.proofs.StepLemmas.{readable, one_named}
use Rattle.escrow_run.proofs.LevelLines.{step_head}

pub one_aim : (schema : SchemaValue) → IsSchema schema → (line : List ℕ) (aim other : Aim) → Aims schema line aim → Aims schema line other
    → aim ≡ other
one_aim schema is line aim other a b =
    let above : 57 < 114 = omega arith in
    let same = one_named schema is (Reach aim) (Reach other) (readable schema is line (Reach aim) a) (readable schema is line (Reach other) b)
    above (sym a.text ∙ b.text) in cc

pub asks_no_reach : (schema : SchemaValue) (line : List ℕ) (step : WorldStep) (aim : Aim) → Asks schema line step → Aims schema line aim → ⊥
asks_no_reach schema line step aim asks aims =
    let same : get_or (step_text schema step) 0 0 ≡ 114 = ap (λ (l : List ℕ). get_or l 0 0) (sym asks.text ∙ aims.text) in
    omega (arith, same, step_head schema step asks.numbers)

pub levels_no_reach : (schema : SchemaValue) (line : List ℕ) (field : FieldNo) (kind : Kind) (aim : Aim) → Levels schema line field kind
    → Aims schema line aim → ⊥
levels_no_reach schema line field kind aim levels aims =
    let same : 108 ≡ 114 = ap (λ (l : List ℕ). get_or l 0 0) (sym levels.text ∙ aims.text) in omega (arith, same)

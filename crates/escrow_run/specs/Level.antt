-- The levelling of a field: its free rights of a kind, evened out among the sites that are up (Balegas and others 2015 for
-- moving rights to where they are wanted, this project for the plan). Traces have the newest entry first.
use Rattle.std.specs.Prelude.{ℕ, zero, suc, if◌then◌else◌, List, [], ◌∷◌, ◌++◌, map, get_or, codes}
use Rattle.field_bounds.specs.declared.kind.Kind.{Kind}
use Rattle.field_bounds.specs.declared.id.SiteNo.{SiteNo}
use Rattle.field_bounds.specs.declared.id.FieldNo.{FieldNo}
use Rattle.field_bounds.specs.declared.entry.Command.TheVariants.{Give}
use Rattle.field_bounds.specs.declared.entry.Entry.{Entry}
use Rattle.field_bounds.specs.Schema.{SchemaValue}
use Rattle.field_bounds.specs.Effects.{fresh, share}
use Rattle.field_bounds.specs.Owed.{is_up}
use Rattle.field_bounds.specs.Central.{own, at_site}
use Rattle.rebalance.specs.declared.even_plan.Move.{Move}
use Rattle.rebalance.specs.EvenPlan.{even_plan}
use Rattle.line_words.specs.Words.{line}
use Rattle.entry_text.specs.Spelling.{field_text, kind_text}
use Rattle.kept_state.specs.declared.luck.Luck.TheVariants.{Fine}
use Rattle.world_steps.specs.declared.step.WorldStep.{WorldStep}
use Rattle.world_steps.specs.declared.step.WorldStep.TheVariants.{Do}

-- ---- the line

-- The line that levels the rights of a kind on a field.
abbrev pub level_text : SchemaValue → FieldNo → Kind → List ℕ
level_text schema field kind = line (codes "level" ∷ field_text schema field ∷ kind_text kind ∷ [])

-- ---- the sites that take part

-- The sites below `n` that are up after a trace, in order.
abbrev pub sites_up : SchemaValue → List Entry → ℕ → List SiteNo
sites_up schema t zero = []
sites_up schema t (suc s) =
    sites_up schema t s ++ (if is_up (fresh schema s) (own s t) then record { 0 = s } ∷ [] else [])

-- The free rights of a kind on a field at a site after a trace.
abbrev pub free_at : SchemaValue → List Entry → FieldNo → Kind → SiteNo → ℕ
free_at schema t field kind site = share (fresh schema site.0) field.0 kind (at_site schema t site.0)

-- ---- the gifts

-- What carries out a move among some sites: the giver gives the amount, and its append is whole.
abbrev pub gift_of : List SiteNo → FieldNo → Kind → Move → WorldStep
gift_of sites field kind move =
    Do (get_or sites move.from (record { 0 = 0 })) (Give (get_or sites move.to (record { 0 = 0 })) field kind move.amount) Fine

-- The gifts by which some sites even out what they have free: one for each move of the even plan of their shares, in its
-- order. Nothing is delivered.
abbrev pub gifts_among : SchemaValue → List Entry → List SiteNo → FieldNo → Kind → List WorldStep
gifts_among schema t sites field kind = map (gift_of sites field kind) (even_plan (map (free_at schema t field kind) sites))

-- The gifts that level a field after a trace: among the sites that are up.
abbrev pub level_gifts : SchemaValue → List Entry → FieldNo → Kind → List WorldStep
level_gifts schema t field kind = gifts_among schema t (sites_up schema t schema.sites) field kind

use Rattle.std.proofs.Common.{◌≡◌, ◌∙◌, [], refl}
use Rattle.world_steps.proofs.world.fresh_site.Goals as goal

-- no line of an empty medium is bad
pub unreachable-requires-in-Err-Line-default : goal.unreachable-requires-in-Err-Line-default
unreachable-requires-in-Err-Line-default c =
    let none : c.new-2.result.bytes ≡ [] = c.new-2.ensures.bytes ∙ c.new.ensures.items in
    let never = rw c.in-Err-Line-default.field-0-0-is at c.in-Err-Line-default.ensures.never in
    never [] [] (record { parts = none; each = tt; no_lf = refl }) tt

use Rattle.std.proofs.Common.{◌∙◌}
use Rattle.std.proofs.lemmas.List.Elements.{All-same}
use Rattle.world_steps.specs.World.{StepFits}
use Rattle.world_steps.specs.View.{trace_of}
use Rattle.escrow_run.specs.Level.{level_gifts}
use Rattle.escrow_run.proofs.LevelLemmas.{gifts_fit, asks_level}
use Rattle.escrow_run.proofs.machine.Machine.level.Goals as goal

pub carry_out-requires-clause-asks : goal.carry_out-requires-clause-asks
carry_out-requires-clause-asks c =
    asks_level c.args.self.now.world c.args.line.now c.args.level.field c.args.level.kind c.as_slice.result.now c.requires.levels
    (c.as_slice.ensures.value ∙ c.in_ok-gifts.ensures)

pub carry_out-requires-clause-fit : goal.carry_out-requires-clause-fit
carry_out-requires-clause-fit c =
    let world = c.args.self.now.world in
    All-same (StepFits world.schema) c.as_slice.result.now (level_gifts world.schema (trace_of world) c.args.level.field c.args.level.kind)
    (c.as_slice.ensures.value ∙ c.in_ok-gifts.ensures)
    (gifts_fit world.schema (trace_of world) c.args.level.field c.args.level.kind)

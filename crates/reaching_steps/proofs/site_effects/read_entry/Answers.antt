use Rattle.std.proofs.Common.{refl}
use Rattle.reaching_steps.proofs.Growing.{on_ok}
use Rattle.reaching_steps.proofs.Reading.{reads_there, reads_here}
use Rattle.reaching_steps.proofs.site_effects.read_entry.Goals as goal

pub returns-then-entry-site : goal.returns-then-entry-site
returns-then-entry-site c = record {
  read = reads_there c.args.schema.now c.args.site.0 c.args.field.0 _ _ c.args.entry.now c.args.later.now c.if-entry-site.true refl;
}

pub returns : goal.returns
returns c =
    record {
      read = on_ok c.read_own.result _ _
          (λ did. reads_here c.args.schema.now c.args.site.0 c.args.field.0 c.args.standing.now c.read_own.new.standing c.args.entry.now
          c.args.later.now c.if-entry-site.false did) c.read_own.ensures.read;
    }

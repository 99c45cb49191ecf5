use Rattle.std.specs.Arc.{arc_value}
use Rattle.field_bounds.proofs.Kept.{place_is}
use Rattle.field_bounds.proofs.schema.Schema.field_no_of.Goals as goal

pub returns-in_err-place : goal.returns-in_err-place
returns-in_err-place c =
    record {
      place = rw (
        c.from_residual.ensures,
        ← c.self.view_is,
        ← place_is c.args.name.now (arc_value c.self.inside.fields).entries,
        ← c.deref.ensures,
      ) c.in_err-place.ensures.index;
    }

pub returns : goal.returns
returns c = record {
  place = rw (
    ← c.self.view_is,
    ← place_is c.args.name.now (arc_value c.self.inside.fields).entries,
    ← c.deref.ensures,
  ) c.in_ok-place.ensures.index;
}

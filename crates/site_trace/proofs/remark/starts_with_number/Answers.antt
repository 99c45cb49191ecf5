use Rattle.site_trace.proofs.Sides.{no_number, starts_by}
use Rattle.site_trace.proofs.remark.starts_with_number.Goals as goal

pub returns-in-Some : goal.returns-in-Some
returns-in-Some c = record {
  starts = starts_by c.args.bytes.now c.in-Some.word.now c.in-Some.field-0-1.now c.is_number.result c.in-Some.ensures.parts.0
      c.in-Some.ensures.parts.1 c.is_number.ensures.number;
}

pub returns-in-None : goal.returns-in-None
returns-in-None c = record { starts = no_number c.args.bytes.now c.in-None.ensures.parts }

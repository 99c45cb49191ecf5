use Rattle.std.proofs.Common.{ℕ, List, subst}
use Rattle.kept_records.specs.Lines.{IsRecordAt}
use Rattle.kept_records.specs.Summary.{summary_record}
use Rattle.held_logs.proofs.Taken.{taken_base}
use Rattle.held_logs.proofs.behind.replay_behind.Goals as goal

pub take_behind-requires : goal.take_behind-requires
take_behind-requires c =
    let base = c.in-Base.base in
    let left = c.first_line.new.lines.left in
    let at = rw c.in-Base.is at c.in_ok-base.ensures.first in
    record {
      taken = taken_base c.args.schema.now c.args.site.0 c.args.bytes.now base left c.in-Some.standing
          (subst (λ (l : List ℕ). IsRecordAt l (summary_record base) left) c.new-lines.ensures.all at)
          (rw c.in-Some.is at c.in_ok-standing.ensures.some) (rw c.in-Some.is at c.in_ok-standing.ensures.stands);
    }

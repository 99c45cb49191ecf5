use Rattle.site_trace.proofs.KeptFronts.{kept_are_cut, fewer_left}
use Rattle.site_trace.proofs.laws.kept_entries_are_those_of_the_cut.Goals as goal

pub returns : goal.returns
returns c = record { same = kept_are_cut; none = fewer_left }

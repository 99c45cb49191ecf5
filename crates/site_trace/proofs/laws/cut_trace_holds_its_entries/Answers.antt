use Rattle.site_trace.proofs.Fronts.{cut_holds}
use Rattle.site_trace.proofs.Longest.{longest}
use Rattle.site_trace.proofs.laws.cut_trace_holds_its_entries.Goals as goal

pub returns : goal.returns
returns c = record {
  holds = λ schema bytes trace kept end is cut. (cut_holds schema bytes trace kept end is cut).traced;
  whole = λ schema bytes trace kept end is cut. (cut_holds schema bytes trace kept end is cut).whole;
  longest = longest;
}

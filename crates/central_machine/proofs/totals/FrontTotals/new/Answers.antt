use Rattle.central_machine.proofs.totals.FrontTotals.new.Goals as goal

pub returns : goal.returns
returns c = record {
  sums = c.in_ok-sums.ensures;
  count = c.in_ok-sites.ensures.count;
  sites = c.in_ok-sites.ensures.each;
}

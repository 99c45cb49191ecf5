use Rattle.std.proofs.Common.{◌≡◌, ◌<◌, ◌-◌, ◌^◌}
use Rattle.kept_records.proofs.reading_back.read_back.Given as goal

abbrev pub invariant-loop-end : goal.invariant-loop-end
invariant-loop-end g l = record {
  some : 0 < l.most;
  bytes : g.M.Medium.bytes l.medium ≡ g.M.Medium.bytes l.fn.medium;
  failed : g.M.Medium.failed l.medium ≡ g.M.Medium.failed l.fn.medium;
  foretold : g.M.Medium.foretold l.medium ≡ g.M.Medium.foretold l.fn.medium;
}

abbrev pub decreases-loop-end : goal.decreases-loop-end
decreases-loop-end g l = 2 ^ 64 - l.most

-- The first so many keys were gone over.
use Rattle.std.proofs.Common.{[]}
use Rattle.kept_records.specs.Keeping.{IsKept}
use Rattle.site_service.specs.Index.{IsIndexOf, IsBehind}
use Rattle.site_service.specs.Shorter.{KeepsSeen}
use Rattle.site_service.proofs.keyed.held_keys.Given as goal

abbrev pub invariant-keys : goal.invariant-keys
invariant-keys l = record {
  index : IsIndexOf l.kept l.log;
  log : IsKept l.log;
  keeps : KeepsSeen l.log l.n l.old.last l.noted.last;
  behind : IsBehind [] l.noted.lines l.noted.last;
}

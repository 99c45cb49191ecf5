use Rattle.std.proofs.Common.{◌≡◌, ◌+◌, take}
use Rattle.site_desk.specs.Passes.{calls_of}
use Rattle.site_desk.proofs.locked.adds_up.Given as goal

abbrev pub invariant-loop-pass : goal.invariant-loop-pass
invariant-loop-pass g l = calls_of (take l.pass-index l.passes) + l.left ≡ l.length

use Rattle.std.proofs.Common.{◌≡◌, take}
use Rattle.site_rights.specs.Rights.{by_escrows, ending}
use Rattle.site_rights.proofs.rights.Rights.end.Given as goal

-- the escrows so far have ended
abbrev pub invariant-loop-escrow : goal.invariant-loop-escrow
invariant-loop-escrow l = l.self ≡ by_escrows (ending l.outcome) l.fn.self (take l.escrow-index l.escrows)

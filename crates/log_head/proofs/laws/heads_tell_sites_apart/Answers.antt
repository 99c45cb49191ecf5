use Rattle.log_head.proofs.HeadsRead.{one_site, not_plain, not_sealed, not_trace}
use Rattle.log_head.proofs.laws.heads_tell_sites_apart.Goals as goal

pub returns : goal.returns
returns c = record { apart = one_site; plain = not_plain; sealed = not_sealed; kinds = not_trace }

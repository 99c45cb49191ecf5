use Rattle.std.proofs.Common.{codes}
use Rattle.site_folder.proofs.IdentityLemmas.{one_name, one_sealed_name, other_kind, other_sealed_kind, other_version_of_log}
use Rattle.site_folder.proofs.laws.names_tell_sites_apart.Goals as goal

pub returns : goal.returns
returns c = record {
  apart = one_name (codes "escrow log 1");
  sealed = one_sealed_name;
  traces = one_name (codes "escrow trace 1");
  kinds = other_kind;
  sealed_kinds = other_sealed_kind;
  versions = other_version_of_log;
}

use Rattle.std.proofs.Common.{◌≡◌, ℕ, true, [], ◌∷◌, List, sym, subst, arith}
use Rattle.field_bounds.specs.declared.kind.Kind.TheVariants.{Lower}
use Rattle.kept_records.specs.declared.record.Record.{Record}
use Rattle.kept_records.specs.declared.record.Record.TheVariants.{Gift}
use Rattle.kept_records.specs.Stands.{may_follow}
use Rattle.log_replay.specs.declared.log.Replayed.{Replayed}
use Rattle.log_replay.specs.Replayed.{TellsStanding}
use Rattle.log_replay.specs.Standing.{Stands}
use Rattle.log_tests.proofs.of_log_replay.told_after_gift.Goals as goal

pub summary_after-requires-clause-may : goal.summary_after-requires-clause-may
summary_after-requires-clause-may c =
    let schema = c.in_ok-schema.schema in
    let standing = c.in-Ok.standing in
    let r : Record = Gift (record { 0 = 1 }) (record { 0 = 0 }) Lower c.args.total in
    let rs : List Record = r ∷ [] in
    let told = subst (λ (x : Replayed). TellsStanding schema 0 rs x) c.in-Ok-Standing.field-0-is c.in-Ok-Standing.ensures.standing in
    let stands : Stands schema 0 [] standing = c.in-Ok.ensures.nothing.for_ in
    let here : 0 ≡ standing.ledger.site = sym stands.site in (
      [],
      record {
        site_in = omega (arith, here, c.sites.ensures.value, c.if-sites-ne2.false);
        in_range = tt;
        lawful = tt;
        stands = subst (λ (n : ℕ). Stands schema n [] standing) here stands;
        may = subst (λ (n : ℕ). may_follow schema n [] r ≡ true) here told.0.0;
      },
    )

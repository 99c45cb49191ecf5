use Rattle.std.proofs.Common.{[], sym, subst}
use Rattle.gift_ledger.specs.Ledger.{LedgerValue}
use Rattle.log_replay.specs.Standing.{StandsFor}
use Rattle.log_replay.proofs.StandingLaws.{stands_none}
use Rattle.log_replay.proofs.standing.Standing.new.Goals as goal

pub returns : goal.returns
returns c =
    let schema = c.args.schema.now in
    let s = c.args.site.0 in
    let rows = c.in_ok-new.field-0 in
    record {
      nothing = record {
        for_ = subst (λ (l : LedgerValue). StandsFor schema s [] rows l 0) (sym c.in_ok-new-2.ensures.fresh)
            (stands_none schema s rows c.in_ok-new.ensures.fresh);
        none = λ f k l. (c.in_ok-new.ensures.fresh.each f l).held k;
      };
    }

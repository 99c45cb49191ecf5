-- Which escrows and which gifts a sum goes over.
use Rattle.std.specs.Prelude.{Bool, true, List, Option}
use Rattle.field_bounds.specs.declared.id.SiteNo.{SiteNo}
use Rattle.field_bounds.specs.declared.id.TxnId.{TxnId}
use Rattle.central_rules.specs.declared.afresh.Which.{Which}
use Rattle.central_rules.specs.declared.afresh.Which.TheVariants.{All, Open, Committed, Aborted}
use Rattle.central_rules.specs.declared.afresh.Whom.{Whom}
use Rattle.central_rules.specs.declared.afresh.Whom.TheVariants.{Anyone, Site, ForGood}
use Rattle.field_bounds.specs.declared.effect.Effect.{Effect}
use Rattle.field_bounds.specs.Effects.{is_open, is_committed, is_aborted, is_to, is_for_good}

-- Whether a transaction has the fate.
abbrev pub passes : Which → List Effect → TxnId → Bool
passes All es id = true
passes Open es id = is_open id es
passes Committed es id = is_committed id es
passes Aborted es id = is_aborted id es

-- Whether what left went there.
abbrev pub goes_to : Whom → Option SiteNo → Bool
goes_to Anyone to = true
goes_to (Site site) to = is_to site.0 to
goes_to ForGood to = is_for_good to

-- What the standings for the logs of all sites tell.
use Rattle.std.proofs.Common.{◌≡◌, ℕ, ◌<◌, List, [], length, map, get_or, sym, ◌∙◌, ap, subst, arith}
use Rattle.std.proofs.lemmas.List.{get_or-map}
use Rattle.field_bounds.specs.declared.kind.Kind.{Kind}
use Rattle.field_bounds.specs.Schema.{SchemaValue}
use Rattle.kept_records.specs.declared.record.Record.{Record}
use Rattle.kept_records.specs.Stands.{cut_in, own_in}
use Rattle.site_rights.specs.Rights.{own_at, cut_at}
use Rattle.gift_ledger.specs.Ledger.{total_at, accepted_at, IsSlot}
use Rattle.log_replay.specs.declared.standing.Standing.{Standing}
use Rattle.log_replay.specs.Standing.{IsOther, IsStandingFor}
use Rattle.world_logs.specs.Logs.{log_of, IsPair, given_between, accepted_between}
use Rattle.world_logs.specs.Body.{StandFor}

module _ (schema : SchemaValue) (logs : List (List Record)) (xs : List Standing) (is : StandFor schema logs xs) where
  -- what was read at the index of a site
  module _ (s i : ℕ) (d : Standing) (site_in : s < schema.sites) (at : i ≡ s) where
    standing_is : IsStandingFor schema s (log_of logs s) (get_or xs i d)
    standing_is = subst (λ (j : ℕ). IsStandingFor schema s (log_of logs s) (get_or xs j d)) (sym at) (is.each s d site_in)

    pub has_row : (f : ℕ) → f < length schema.fields → f < length (get_or xs i d).rights
    has_row f field_in = omega (arith, field_in, standing_is.for_.count)

    pub own_is : (f : ℕ) (k : Kind) → f < length schema.fields → own_at (get_or xs i d).rights f k ≡ own_in schema s (log_of logs s) f k
    own_is f k field_in = standing_is.for_.own f k (has_row f field_in)

    pub cut_is : (f : ℕ) (k : Kind) → f < length schema.fields → cut_at (get_or xs i d).rights f k ≡ cut_in (log_of logs s) f k
    cut_is f k field_in = standing_is.for_.cut f k (has_row f field_in)

  -- what passed between two sites
  module _ (from to f i : ℕ) (d : Standing) (pair : IsPair schema from to f) where
    to_other : IsOther schema from to f
    to_other = record { other = λ same. pair.apart (sym same); site_in = pair.to_in; field_in = pair.field_in }

    from_other : IsOther schema to from f
    from_other = record { other = pair.apart; site_in = pair.from_in; field_in = pair.field_in }

    pub giver_place : i ≡ from → IsSlot (get_or xs i d).ledger to f
    giver_place at = (standing_is from i d pair.from_in at).for_.place to f to_other

    pub taker_place : i ≡ to → IsSlot (get_or xs i d).ledger from f
    taker_place at = (standing_is to i d pair.to_in at).for_.place from f from_other

    pub given_is : (k : Kind) → i ≡ from → total_at (get_or xs i d).ledger to f k ≡ given_between logs from to f k
    given_is k at = (standing_is from i d pair.from_in at).for_.given to f k to_other

    pub accepted_is : (k : Kind) → i ≡ to → accepted_at (get_or xs i d).ledger from f k ≡ accepted_between logs from to f k
    accepted_is k at = (standing_is to i d pair.to_in at).for_.accepted from f k from_other

-- the records of one of the logs
pub log_at : {A : Type 0} (kept : A → List Record) (logs : List A) (s i : ℕ) (d : A) → s < length logs → i ≡ s
    → log_of (map kept logs) s ≡ kept (get_or logs i d)
log_at kept logs s i d below at = get_or-map kept logs s d [] below ∙ ap (λ (j : ℕ). kept (get_or logs j d)) (sym at)

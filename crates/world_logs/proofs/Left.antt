-- The logs that a trace left add up, and to what the trace comes to.
use Rattle.std.proofs.Common.{◌≡◌, ℕ, ◌+◌, ◌-◌, ◌<◌, Bool, false, List, length, sym, ◌∙◌, arith}
use Rattle.std.proofs.lemmas.Int.{ints}
use Rattle.field_bounds.specs.declared.kind.Kind.{Kind}
use Rattle.field_bounds.specs.declared.kind.Kind.TheVariants.{Lower, Raise}
use Rattle.field_bounds.specs.declared.entry.Entry.{Entry}
use Rattle.field_bounds.specs.Schema.{SchemaValue}
use Rattle.field_bounds.specs.Limits.{IsSchema}
use Rattle.field_bounds.specs.Parts.{sum_below}
use Rattle.field_bounds.specs.Effects.{fresh, effects, is_to, total_given, total_accepted, cut, share, held_rights, own_rights}
use Rattle.field_bounds.specs.Central.{own, at_site, is_open_in, open_sizes, shares, cuts, committed_value, IsSound, given_between as given_in_trace, accepted_between as accepted_in_trace, in_flight as flight_in_trace, floor_in as floor_in_trace, ceiling_in as ceiling_in_trace}
use Rattle.field_bounds.proofs.Conserved.{traced, is_conserved as is_conserved_trace}
use Rattle.field_bounds.proofs.Ledgers.{any_kept, accepted_is_given}
use Rattle.field_bounds.proofs.Sums.{sum_below-same, sum_below-add}
use Rattle.kept_records.specs.declared.record.Record.{Record}
use Rattle.kept_records.specs.Stands.{given_in, accepted_in, cut_in, own_in, plain}
use Rattle.kept_records.proofs.Summaries.{plain_same, own_same}
use Rattle.kept_state.proofs.Covering.{fresh_is_base}
use Rattle.kept_state.proofs.Keeping.{run_owns, run_gives, run_cuts, run_accepts}
use Rattle.world_logs.specs.Logs.{log_of, given_between, accepted_between, AcceptedWithin, all_rights, in_flight, all_cuts, value_in, floor_in, ceiling_in}
use Rattle.world_logs.specs.Traces.{AreLeft}
use Rattle.world_logs.proofs.Conserved.{is_conserved}

module _ (schema : SchemaValue) (t : List Entry) (sound : IsSound schema t) (kept : ℕ → Bool) (logs : List (List Record))
    (are : AreLeft schema t kept logs) where
  module _ (s : ℕ) (below : s < schema.sites) where
    -- what a log stands for is what its site's entries come to
    pub gave_is : (to f : ℕ) (k : Kind) → total_given (fresh schema s) to f k (effects (fresh schema s) (kept s) (own s t))
        ≡ given_in (log_of logs s) to f k
    gave_is to f k =
        run_gives schema s _ _ _ _ _ (fresh_is_base schema s) (sound.runs s below) (are.left s below) to f k
        ∙ (plain_same (log_of logs s)).given to f k

    pub accepted_is : (from f : ℕ) (k : Kind) → total_accepted (fresh schema s) from f k (effects (fresh schema s) (kept s) (own s t))
        ≡ accepted_in (log_of logs s) from f k
    accepted_is from f k =
        run_accepts schema s _ _ _ _ _ (fresh_is_base schema s) (sound.runs s below) (are.left s below) from f k
        ∙ (plain_same (log_of logs s)).accepted from f k

    pub cut_is : (f : ℕ) (k : Kind) → cut (fresh schema s) f k (effects (fresh schema s) (kept s) (own s t)) ≡ cut_in (log_of logs s) f k
    cut_is f k =
        run_cuts schema s _ _ _ _ _ (fresh_is_base schema s) (sound.runs s below) (are.left s below) f k
        ∙ (plain_same (log_of logs s)).cut f k

    pub own_is : (f : ℕ) (k : Kind) → own_rights (fresh schema s) f k (effects (fresh schema s) (kept s) (own s t))
        ≡ own_in schema s (log_of logs s) f k
    own_is f k =
        run_owns schema s _ _ _ _ _ (fresh_is_base schema s) (sound.runs s below) (are.left s below) f k
        ∙ own_same schema s (plain (log_of logs s)) (log_of logs s) (plain_same (log_of logs s)) f k

  -- no site has accepted more than it was given, whatever is kept of what is in doubt
  pub left_within : AcceptedWithin schema logs
  left_within from to f k pair =
      omega (
        arith,
        accepted_is to pair.to_in from f k,
        accepted_is_given schema t sound (kept to) f k from to,
        any_kept (fresh schema from) (is_to to) f k (kept from) (own from t),
        gave_is from pair.from_in to f k,
      )

-- where nothing in doubt stands in a log, the logs come to what the trace does
module _ (schema : SchemaValue) (good : IsSchema schema) (t : List Entry) (sound : IsSound schema t) (logs : List (List Record))
    (are : AreLeft schema t (λ s. false) logs) where
  cuts_are : (f : ℕ) (k : Kind) → all_cuts schema logs f k ≡ cuts schema t f k
  cuts_are f k =
      sum_below-same schema.sites (λ s. cut_in (log_of logs s) f k) (λ s. cut (fresh schema s) f k (at_site schema t s))
      (λ s below. sym (cut_is schema t sound (λ s. false) logs are s below f k))

  flight_is : (f : ℕ) (k : Kind) → in_flight schema logs f k ≡ flight_in_trace schema t f k
  flight_is f k =
      sum_below-same schema.sites
      (λ from. sum_below schema.sites (λ to. given_between logs from to f k - accepted_between logs from to f k))
      (λ from. sum_below schema.sites (λ to. given_in_trace schema t f k from to - accepted_in_trace schema t f k from to))
      (λ from less. sum_below-same schema.sites (λ to. given_between logs from to f k - accepted_between logs from to f k)
      (λ to. given_in_trace schema t f k from to - accepted_in_trace schema t f k from to)
      (λ to small. omega (
        arith,
        gave_is schema t sound (λ s. false) logs are from less to f k,
        accepted_is schema t sound (λ s. false) logs are to small from f k,
      )))

  rights_are : (f : ℕ) (k : Kind) → all_rights schema logs f k ≡ shares schema t f k + open_sizes schema t f k
  rights_are f k =
      omega (
        arith,
        sum_below-same schema.sites (λ s. own_in schema s (log_of logs s) f k)
            (λ s. share (fresh schema s) f k (at_site schema t s) + held_rights f k (at_site schema t s))
            (λ s below. sym (own_is schema t sound (λ s. false) logs are s below f k)),
        sum_below-add schema.sites (λ s. share (fresh schema s) f k (at_site schema t s)) (λ s. held_rights f k (at_site schema t s)),
        traced schema good t sound (is_open_in schema t) f k,
      )

  pub left_floor : (f : ℕ) → floor_in schema logs f ≡ floor_in_trace schema t f
  left_floor f = omega (arith, ints, cuts_are f Lower)

  pub left_ceiling : (f : ℕ) → ceiling_in schema logs f ≡ ceiling_in_trace schema t f
  left_ceiling f = omega (arith, ints, cuts_are f Raise)

  pub left_value : (f : ℕ) → f < length schema.fields → value_in schema logs f ≡ committed_value schema t f
  left_value f field_in =
      omega (
        arith,
        ints,
        (is_conserved schema good logs are.lawful (left_within schema t sound (λ s. false) logs are)).lowering f field_in,
        (is_conserved_trace schema good t sound).lowering f,
        rights_are f Lower,
        flight_is f Lower,
        cuts_are f Lower,
      )

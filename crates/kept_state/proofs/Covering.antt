-- A site may stand on what lawful records stand for, and on a fresh base where there are none.
use Rattle.std.proofs.Common.{ℕ, Bool, List, [], refl, sym, arith}
use Rattle.field_bounds.specs.Schema.{SchemaValue}
use Rattle.field_bounds.specs.Effects.{fresh}
use Rattle.kept_records.specs.declared.record.Record.{Record}
use Rattle.kept_records.specs.Stands.{Lawful, base_stood_for}
use Rattle.kept_records.proofs.Pushes.{greatest_none, given_none, accepted_none, cut_none}
use Rattle.kept_records.proofs.Covering.{spent_none, gained_none, own_whole}
use Rattle.kept_state.specs.Keeps.{IsBase}

pub stands_is_base : (schema : SchemaValue) (s : ℕ) (up : Bool) (rs : List Record) → Lawful schema s rs
    → IsBase schema s (base_stood_for schema s up rs) rs
stands_is_base schema s up rs lawful =
    record {
      epoch = refl;
      rights = λ f k. own_whole schema s rs lawful f k;
      cut = λ f k. refl;
      given = λ to f k. refl;
      accepted = λ from f k. refl;
    }

pub fresh_is_base : (schema : SchemaValue) (s : ℕ) → IsBase schema s (fresh schema s) []
fresh_is_base schema s =
    record {
      epoch = sym greatest_none;
      rights = λ f k. omega (arith, spent_none schema f k, gained_none schema s f k);
      cut = λ f k. sym (cut_none f k);
      given = λ to f k. sym (given_none to f k);
      accepted = λ from f k. sym (accepted_none from f k);
    }

use Rattle.std.proofs.Common.{◌≡◌, [], rules, subst, sym}
use Rattle.std.specs.List.{AllPass}
use Rattle.sealed_text.specs.Seals.{IsBatch, IsTorn, IsDamaged, is_batch_byte}
use Rattle.sealed_text.specs.Rests.{BeginsWithS}
use Rattle.sealed_text.proofs.Cuts.{torn_letters, damaged_letters, damaged_batch, alone, begins_s}
use Rattle.sealed_text.proofs.rest.rest_of.Goals as goal

pub returns-else-is_batch : goal.returns-else-is_batch
returns-else-is_batch c =
    let first : BeginsWithS c.split_batch.result.1.now =
    begins_s c.split_batch.result.1.now c.split_batch.ensures.first c.if-not-is_empty.ensures in
    let none : IsBatch c.split_batch.result.0.now → ⊥ = search rules in
    record {
      rest = subst IsDamaged (sym c.split_batch.ensures.parts)
          (damaged_batch c.split_batch.result.0.now c.split_batch.result.1.now c.split_batch.ensures.clear first none);
    }

pub returns-then-are_batch_bytes : goal.returns-then-are_batch_bytes
returns-then-are_batch_bytes c =
    let none : c.split_batch.result.1.now ≡ [] = search rules in
    let all : AllPass is_batch_byte c.split_batch.result.0.now = search rules in
    record {
      rest = subst IsTorn (alone c.args.bytes.now c.split_batch.result.0.now c.split_batch.result.1.now c.split_batch.ensures.parts none)
          (torn_letters c.split_batch.result.0.now all);
    }

pub returns-else-are_batch_bytes : goal.returns-else-are_batch_bytes
returns-else-are_batch_bytes c =
    let none : c.split_batch.result.1.now ≡ [] = search rules in
    let not_all : AllPass is_batch_byte c.split_batch.result.0.now → ⊥ = search rules in
    record {
      rest = subst IsDamaged (alone c.args.bytes.now c.split_batch.result.0.now c.split_batch.result.1.now c.split_batch.ensures.parts none)
          (damaged_letters c.split_batch.result.0.now c.split_batch.ensures.clear not_all);
    }

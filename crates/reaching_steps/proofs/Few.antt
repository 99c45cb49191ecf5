-- A site begins no more transactions in an epoch than there are numbers.
use Rattle.std.proofs.Common.{◌≡◌, ℕ, ◌<◌, ◌≤◌, false, List, arith, None}
use Rattle.std.proofs.lemmas.Bool.{leb-false}
use Rattle.field_bounds.specs.declared.entry.Command.{Command}
use Rattle.field_bounds.specs.declared.entry.Command.TheVariants.{Begin}
use Rattle.field_bounds.specs.declared.entry.Entry.{Entry}
use Rattle.field_bounds.specs.Schema.{SchemaValue}
use Rattle.field_bounds.specs.Effects.{fresh}
use Rattle.field_bounds.specs.Owed.{Place, place, refusals, first, answer, count_since, count_after, is_begun_reply, max_number, IsRun}
use Rattle.field_bounds.specs.Central.{own, IsSound}
use Rattle.field_bounds.proofs.Refused.{none_holds}
use Rattle.field_bounds.proofs.Doubt.{run_holds}

few_after : (at : Place) (c : Command) → first (refusals at c) ≡ None → count_since is_begun_reply at.entries ≤ max_number
    → count_after is_begun_reply (count_since is_begun_reply at.entries) (answer at c) ≤ max_number
few_after at Begin h few = let room = leb-false _ _ (none_holds (refusals at Begin) h).1.1.0 in omega (arith, room)
few_after at c h few = omega (arith, few)

pub run_few : (schema : SchemaValue) (s : ℕ) (o : List Entry) → IsRun schema s (fresh schema s) o
    → count_since is_begun_reply o ≤ max_number
run_few schema s o run =
    run_holds schema s (fresh schema s) (λ epoch count es. count ≤ max_number)
    (record {
      start = omega arith;
      stop = λ n count m es later l. omega arith;
      carried = λ o c h kept l. (few_after (place schema s (fresh schema s) o) c h l, l);
    }) o run false

-- so the next number fits
pub next_small : (schema : SchemaValue) (t : List Entry) (s count : ℕ) → IsSound schema t → s < schema.sites
    → count ≡ count_since is_begun_reply (own s t) → count < 4294967295
next_small schema t s count sound below is = omega (arith, is, run_few schema s (own s t) (sound.runs s below))

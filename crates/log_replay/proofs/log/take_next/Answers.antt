use Rattle.std.proofs.Common.{◌≡◌, Bool, true, sym, refl, ◌∙◌, List, ℕ, Result, Ok, Err}
use Rattle.std.specs.Prelude.{IfOk}
use Rattle.field_bounds.specs.Schema.{SchemaValue}
use Rattle.kept_records.specs.declared.record.Record.{Record}
use Rattle.kept_records.specs.declared.record.Record.TheVariants.{Commit, Gift, Accept, Tighten, Restart, Summary}
use Rattle.kept_records.specs.Summary.{summary_told}
use Rattle.kept_records.specs.Stands.{is_summary, summary_of}
use Rattle.log_replay.specs.declared.standing.Standing.{Standing}
use Rattle.log_replay.specs.Standing.{TakesIn, Stands}
use Rattle.log_replay.specs.Telling.{tells_same}
use Rattle.log_replay.proofs.FromSummary.{stands_summary}
use Rattle.log_replay.proofs.log.take_next.Goals as goal

if_ok : {A E : Type 0} (P Q : A → Type 0) (r : Result A E) → ((a : A) → P a → Q a) → IfOk r P → IfOk r Q
if_ok P Q (Ok a) more h = more a h
if_ok P Q (Err e) more h = tt

-- a summary that tells what stands leaves the standing as it is
tells_takes : (schema : SchemaValue) (old : Standing) (r : Record) (may : Bool) → is_summary r ≡ true
    → ((s : ℕ) (rs : List Record) → Stands schema s rs old → may ≡ tells_same r (summary_of schema s rs)) → TakesIn schema old r may old
tells_takes schema old (Summary epoch rights gifts accepts tightenings) may is told =
    let v = summary_told epoch rights gifts accepts tightenings in
    record {
      answered = λ s rs lawful was. told s rs was.for_;
      stands = λ answer s rs lawful was. stands_summary schema s rs v old.rights old.ledger old.epoch was;
      held = λ answer f k l. refl;
      takes_ = λ can. absurd can;
      only = λ plain. cc;
    }
tells_takes schema old (Commit txn escrows) may is told = cc
tells_takes schema old (Gift to field kind total) may is told = cc
tells_takes schema old (Accept from field kind total) may is told = cc
tells_takes schema old (Tighten field kind total) may is told = cc
tells_takes schema old (Restart epoch) may is told = cc

pub returns-then-is_summary : goal.returns-then-is_summary
returns-then-is_summary c = record {
  takes_in = if_ok _ _ c.tells.result
      (λ may told. tells_takes c.args.schema.now c.args.standing.now c.args.next.now may
      (sym c.is_summary.ensures.value ∙ c.if-is_summary.true) told) c.tells.ensures;
}

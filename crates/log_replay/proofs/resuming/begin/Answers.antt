use Rattle.std.proofs.Common.{List, sym, subst, Result, Ok, Err}
use Rattle.std.specs.Prelude.{IfOk}
use Rattle.kept_records.specs.declared.record.Record.{Record}
use Rattle.log_replay.specs.Standing.{IsStandingFor}
use Rattle.log_replay.specs.Resuming.{up_to}
use Rattle.log_replay.proofs.FromSummary.{begun_some, begun_none}
use Rattle.log_replay.proofs.resuming.begin.Goals as goal

if_ok : {A E : Type 0} (P Q : A → Type 0) (r : Result A E) → ((a : A) → P a → Q a) → IfOk r P → IfOk r Q
if_ok P Q (Ok a) more h = more a h
if_ok P Q (Err e) more h = tt

pub of_summary-requires-clause-in_range : goal.of_summary-requires-clause-in_range
of_summary-requires-clause-in_range c =
    (begun_some c.args.schema.now c.args.site.0 c.requires.end_.0 c.args.end.now c.requires.end_.1 c.in-Some.summary c.in-Some.is).ranges

pub of_summary-requires-clause-tells : goal.of_summary-requires-clause-tells
of_summary-requires-clause-tells c =
    let end_ = c.requires.end_.1 in
    let begun = begun_some c.args.schema.now c.args.site.0 c.requires.end_.0 c.args.end.now end_ c.in-Some.summary c.in-Some.is in
    (up_to end_.holds.last.before c.args.end.now.summary, begun.lawful, begun.tells)

pub returns-in-Some : goal.returns-in-Some
returns-in-Some c = record {
  begins = if_ok _ _ c.of_summary.result
      (λ standing stands all end_. stands (up_to end_.holds.last.before c.args.end.now.summary)
      (begun_some c.args.schema.now c.args.site.0 all c.args.end.now end_ c.in-Some.summary c.in-Some.is).tells)
      c.of_summary.ensures.stands;
}

pub returns-in-None : goal.returns-in-None
returns-in-None c = record {
  begins = if_ok _ _ c.new.result
      (λ standing nothing all end_.
      subst (λ (x : List Record). IsStandingFor c.args.schema.now c.args.site.0 x standing)
      (sym (begun_none c.args.schema.now c.args.site.0 all c.args.end.now end_ c.in-None.is)) nothing)
      c.new.ensures.nothing;
}

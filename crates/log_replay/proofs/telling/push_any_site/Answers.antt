use Rattle.std.proofs.Common.{◌∙◌, sym, Result, Ok, Err}
use Rattle.std.specs.Prelude.{OnOk}
use Rattle.log_replay.proofs.Told.{other_site}
use Rattle.log_replay.proofs.telling.push_any_site.Goals as goal

on_ok : {A E : Type 0} (P Q : Type 0) (r : Result A E) → (P → Q) → OnOk r P → OnOk r Q
on_ok P Q (Ok a) more h = more h
on_ok P Q (Err e) more h = tt

pub returns-else-is_of_site : goal.returns-else-is_of_site
returns-else-is_of_site c =
    let off = sym c.is_of_site.ensures ∙ c.if-is_of_site.false in
    on_ok _ _ c.push_site.result
    (λ told. told ∙ other_site c.args.anew c.args.given c.args.ledger.now c.args.site.0 c.args.fields c.args.totals.now.items off)
    c.push_site.ensures

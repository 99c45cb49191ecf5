use Rattle.std.proofs.Common.{◌≡◌, ◌∙◌, ℕ, sym, subst, arith, rules}
use Rattle.log_replay.specs.After.{CanMove, summary_then}
use Rattle.log_replay.proofs.SummaryThen.{place_for, can_move, after_is}
use Rattle.log_replay.proofs.after.summary_after.Goals as goal

pub rise_of-rise-requires : goal.rise_of-rise-requires
rise_of-rise-requires c =
    record { place = place_for c.args.schema.now c.args.standing.now c.requires.may.0 c.args.next.now c.requires.may.1 }

pub own_rights_after-requires-clause-can : goal.own_rights_after-requires-clause-can
own_rights_after-requires-clause-can c =
    let schema = c.args.schema.now in
    let old = c.args.standing.now in
    let r = c.args.next.now in
    let next = c.requires.may.1 in
    λ f k below.
    subst (λ (n : ℕ). CanMove old.rights r n f k) (sym c.rise_of-rise.ensures)
    (can_move schema old c.requires.may.0 c.sites-sites.ensures.limits r next f k
    (omega (arith, below, c.fields.ensures.value, next.stands.count)))

pub totals_on_side-requires : goal.totals_on_side-requires
totals_on_side-requires c =
    let next = c.requires.may.1 in
    record {
      places = λ r f site_in apart field_in.
          next.stands.place r f (record { other = apart; site_in = site_in; field_in = field_in });
    }

pub totals_on_side-requires-2 : goal.totals_on_side-requires-2
totals_on_side-requires-2 c =
    let next = c.requires.may.1 in
    record {
      places = λ r f site_in apart field_in.
          next.stands.place r f (record { other = apart; site_in = site_in; field_in = field_in });
    }

pub returns : goal.returns
returns c =
    let schema = c.args.schema.now in
    let old = c.args.standing.now in
    let now : c.new-5.result ≡ summary_then schema old c.args.next.now = search rules in
    record { after = λ rs next. now ∙ after_is schema old rs c.args.next.now c.requires.plain next }

use Rattle.std.proofs.Common.{◌≡◌, ◌∙◌, rules}
use Rattle.log_replay.specs.Telling.{summary_now}
use Rattle.log_replay.proofs.Told.{summary_is}
use Rattle.log_replay.proofs.telling.summary.Goals as goal

pub totals_on_side-requires : goal.totals_on_side-requires
totals_on_side-requires c = record {
  places = λ r f site_in apart field_in.
      c.requires.places.place r f (record { other = apart; site_in = site_in; field_in = field_in });
}

pub totals_on_side-requires-2 : goal.totals_on_side-requires-2
totals_on_side-requires-2 c = record {
  places = λ r f site_in apart field_in.
      c.requires.places.place r f (record { other = apart; site_in = site_in; field_in = field_in });
}

pub returns-clause-told : goal.returns-clause-told
returns-clause-told c =
    let now : c.new-5.result ≡ summary_now c.args.schema.now c.args.standing.now = search rules in
    λ s rs was. now ∙ summary_is c.args.schema.now c.args.standing.now s rs was

use Rattle.std.proofs.Common.{◌≡◌, ◌∙◌, ◌-◌, sym, ap, arith}
use Rattle.site_rights.specs.Rights.{cut_at}
use Rattle.log_replay.proofs.StandingLaws.{tighten_as, ok_gives}
use Rattle.log_replay.proofs.standing.Standing.tighten.Goals as goal

pub returns : goal.returns
returns c =
    let old = c.args.self.now in
    let total = c.args.total in
    let before = c.tightened-so_far.ensures.value in
    let amount = total - c.tightened-so_far.result in
    let is : amount ≡ total - cut_at old.rights c.args.field.0 c.args.kind = ap (λ n. total - n) before in
    let same = c.is_ok.ensures.value in
    record {
      takes_in = tighten_as c.args.schema.now old c.args.field c.args.kind total amount c.requires.places
          (omega (arith, c.fields.ensures.value, c.if-field-fields.false))
          (omega (arith, before, c.if-total-so_far.false))
          is c.is_ok.result c.tighten.new.self
          (λ took. c.tighten.ensures.enough.0 (sym same ∙ took))
          (λ within. same ∙ c.tighten.ensures.enough.1 within)
          (λ took. ok_gives c.tighten.result (sym same ∙ took) c.tighten.ensures.ok);
    }

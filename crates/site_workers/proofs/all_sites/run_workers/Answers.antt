use Rattle.std.proofs.lemmas.Result.{IfErr-weaker}
use Rattle.site_workers.specs.Scripts.{scripts_of}
use Rattle.site_workers.proofs.Answered.{few_answers, run_worked, run_told}
use Rattle.site_workers.proofs.all_sites.run_workers.Goals as goal

pub gather-requires : goal.gather-requires
gather-requires g c = record {
  few = few_answers c.args.schema.now (g.G.Gate.turns c.args.gate.now) (scripts_of c.args.scripts.items) c.in_ok-answers.answers.items
      c.sites-sites.ensures.limits c.requires.fit c.in_ok-answers.ensures.answers;
}

pub returns : goal.returns
returns g c =
    let schema = c.args.schema.now in
    let Turns = g.G.Gate.turns c.args.gate.now in
    let ss = scripts_of c.args.scripts.items in
    let r = c.gather.result in
    let all = c.in_ok-answers.ensures.answers in
    let told = run_told schema Turns ss c.in_ok-answers.answers.items c.requires.fit all r c.gather.ensures.lowest
    c.gather.ensures.crossed in record {
      ok = run_worked schema Turns ss c.in_ok-answers.answers.items c.requires.fit all r c.gather.ensures.ok
          c.gather.ensures.none_foreign c.gather.ensures.none_lost;
      first = IfErr-weaker r _ _ (λ w is. is.first) told;
      foreign = IfErr-weaker r _ _ (λ w is. is.foreign) told;
      lost = IfErr-weaker r _ _ (λ w is. is.lost) told;
      receipts = IfErr-weaker r _ _ (λ w is. is.receipts) told;
      turned = IfErr-weaker r _ _ (λ w is. is.turned) told;
      site = IfErr-weaker r _ _ (λ w is. is.site) told;
    }

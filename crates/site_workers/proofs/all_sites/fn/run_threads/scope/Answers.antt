use Rattle.std.proofs.Common.{◌≡◌, ◌+◌, ◌-◌, ◌<◌, vec_len, length, sym, ap, subst, ◌∙◌, arith, rules}
use Rattle.std.specs.Global.{Vec}
use Rattle.field_bounds.specs.declared.id.SiteNo.{SiteNo}
use Rattle.field_bounds.specs.declared.entry.Command.{Command}
use Rattle.site_workers.specs.Inboxes.{site_no}
use Rattle.site_workers.specs.Scripts.{scripts_of, HasNoAccept}
use Rattle.site_workers.specs.Jobs.{FitsJob}
use Rattle.site_workers.proofs.Teams.{starts_more, seat_fits, joins, fits_job, fits_none}
use Rattle.site_workers.proofs.all_sites.fn.run_threads.scope.Goals.{in-Some-seat_of+in-Ok, in-Some-1, in-None-1, in-Some-seat_of+in-Err, in_default-seat_of}
use Rattle.site_workers.proofs.all_sites.fn.run_threads.scope.Goals as goal

pub spawn_with-spawned-requires-clause-runs : goal.spawn_with-spawned-requires-clause-runs
spawn_with-spawned-requires-clause-runs g c κs within =
    let fits : (length c.pop.new.self.items < c.captures.schema.now.sites) × HasNoAccept c.in-Some.script.items =
    seat_fits c.captures.schema.now c.captures.gate.now (scripts_of c.captures.scripts.items) c.loop-script.left.items
    c.pop.new.self.items c.in-Some.script
    c.loop-script.handles.items c.in-Some.ensures.items c.requires.fit c.loop-script.invariant.started
    in
    let shorter : vec_len c.pop.new.self + 1 ≡ vec_len c.loop-script.left = c.in-Some.ensures.cases in
    let count : vec_len c.pop.new.self ≡ length c.pop.new.self.items = c.pop.new.self.ok.0 in
    let number : c.loop-script.next ≡ vec_len c.loop-script.left = c.loop-script.invariant.number in
    let below : c.loop-script.next - 1 < c.captures.schema.now.sites = omega (arith, fits.0) in (
      subst (λ (n : SiteNo). n.0 < c.captures.schema.now.sites) (sym c.in-Some-seat_of.ensures.site) below,
      (subst (λ (v : Vec Command). HasNoAccept v.items) (sym c.in-Some-seat_of.ensures.script) fits.1, search rules),
    )

pub loop-script-preserved : goal.loop-script-preserved
loop-script-preserved g c =
    let shorter : vec_len c.pop.new.self + 1 ≡ vec_len c.loop-script.left = c.in-Some.ensures.cases in
    let count : vec_len c.pop.new.self ≡ length c.pop.new.self.items = c.pop.new.self.ok.0 in
    let number : c.loop-script.next ≡ vec_len c.loop-script.left = c.loop-script.invariant.number in
    let same : c.loop-script.next - 1 ≡ length c.pop.new.self.items = omega arith in
    let fits : FitsJob c.captures.schema.now c.captures.gate.now (length c.pop.new.self.items) c.in-Some.script.items
    c.match-seat_of.started =
    elim c.match-seat_of.branch [
      | in-Some-seat_of+in-Ok w ↦
          fits_job _ _ _ _ _ w.new.result w.started-is (w.new.ensures.schema ∙ ap (λ t. t.schema.now) w.in-Ok.ensures.ok)
          (w.new.ensures.site ∙ (ap (λ t. t.site) w.in-Ok.ensures.ok ∙ ap site_no same))
          (w.new.ensures.script ∙ (ap (λ t. t.script.value.items) w.in-Ok.ensures.ok
          ∙ ap (λ (v : Vec Command). v.items) (w.of.ensures ∙ w.in-Some-seat_of.ensures.script)))
          (w.new.ensures.gate ∙ ap (λ t. t.gate.now) w.in-Ok.ensures.ok)
      | in-Some-seat_of+in-Err w ↦ fits_none _ _ _ _ _ w.started-is
      | in_default-seat_of w ↦ fits_none _ _ _ _ _ w.started-is
    ]
    in record {
      started = starts_more c.captures.schema.now c.captures.gate.now (scripts_of c.captures.scripts.items)
          c.loop-script.left.items c.pop.new.self.items
          c.in-Some.script c.loop-script.handles.items c.push.new.self.items c.match-seat_of.started c.in-Some.ensures.items
          c.in_ok-push.ensures.items fits c.loop-script.invariant.started;
      number = omega arith;
    }

pub returns : goal.returns
returns g c =
    let Turns = g.G.Gate.turns c.captures.gate.now in record {
      answers =
          c.join_all.ensures.answers c.captures.schema.now c.captures.gate.now (scripts_of c.captures.scripts.items)
          (joins c.captures.schema.now c.captures.gate.now Turns (scripts_of c.captures.scripts.items) c.loop-script.left.items
          c.loop-script.handles.items (sym c.loop-script.left.ok.0 ∙ c.in_default.ensures.cases.0) c.loop-script.invariant.started);
      fault = c.join_all.ensures.fault;
    }

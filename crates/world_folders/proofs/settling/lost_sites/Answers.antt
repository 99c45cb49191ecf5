use Rattle.std.proofs.Common.{◌≡◌, ◌<◌, ◌≤◌, ◌+◌, ℕ, true, false, ap, ◌∙◌, inl, subst, refl, arith}
use Rattle.std.proofs.lemmas.Result.{err_from_is_err_and}
use Rattle.field_bounds.specs.declared.id.SiteNo.{SiteNo}
use Rattle.world_folders.specs.Lost.{TellsLost, RiseFrom}
use Rattle.world_folders.proofs.FolderLemmas.{lost_more, others_more, others_past, rise_on, rise_more}
use Rattle.world_folders.proofs.settling.lost_sites.Goals as goal
use Rattle.world_folders.proofs.settling.lost_sites.Goals.{then-branch+in_ok-push, else-branch}

pub loop-number-preserved : goal.loop-number-preserved
loop-number-preserved g c =
    let stands = g.R.ReadsFiles.stands c.args.files.now in
    let folders = c.args.world.now.folders.items in
    let old = c.loop-number.lost.items in
    let n = c.loop-number.number in
    let site : SiteNo = record { 0 = n } in
    let inv = c.loop-number.invariant in
    let within : n + 1 ≤ c.args.world.now.schema.sites = omega (arith, c.loop-number-test.true, c.sites-number-end.ensures.value) in
    elim c.if-branch.branch [
      | then-branch+in_ok-push w ↦
          let is = ap (λ v. v.items) w.lost-is ∙ w.in_ok-push.ensures.items in
          let told : TellsLost stands folders n true = rw w.if-branch.true at c.in_ok-is_lost.ensures.told in
          rw is (record {
            within = within;
            order = rise_more 0 n old site refl (omega arith) inv.order;
            each = lost_more stands folders old site told inv.each;
            others = others_past stands folders old n site refl inv.others;
          })
      | else-branch w ↦
          let told : TellsLost stands folders n false = rw w.if-branch.false at c.in_ok-is_lost.ensures.told in
          rw w.lost-is (record {
            within = within;
            order = rise_on 0 n old inv.order;
            each = inv.each;
            others = others_more stands folders old n told inv.others;
          })
    ]

pub returns-clause-lost : goal.returns-clause-lost
returns-clause-lost g c =
    let end : c.loop-number.number ≡ c.args.world.now.schema.sites =
    omega (arith, c.loop-number.invariant.within, c.loop-number-test.false, c.sites-number-end.ensures.value) in
    record {
      order = subst (λ (n : ℕ). RiseFrom 0 n c.loop-number.lost.items) end c.loop-number.invariant.order;
      each = c.loop-number.invariant.each;
      others = λ s less among. c.loop-number.invariant.others s
          (omega (arith, less, c.loop-number-test.false, c.sites-number-end.ensures.value)) among;
    }

pub returns-in_err-is_lost-clause-fault : goal.returns-in_err-is_lost-clause-fault
returns-in_err-is_lost-clause-fault g c =
    let less : c.loop-number.number < c.args.world.now.schema.sites =
    omega (arith, c.loop-number-test.true, c.sites-number-end.ensures.value) in
    let told = err_from_is_err_and c.from_residual.result c.from_residual.ensures.1 in
    rw told.1 (rw told.2 (inl (c.loop-number.number, less, c.in_err-is_lost.ensures.unseen)))

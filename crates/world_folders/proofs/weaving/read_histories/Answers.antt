use Rattle.std.proofs.Common.{ℕ, [], ◌∷◌, ◌+◌, ap, ◌∙◌, length-append}
use Rattle.std.specs.Global.{Vec}
use Rattle.field_bounds.specs.declared.entry.Entry.{Entry}
use Rattle.world_folders.specs.Traces.{IsHistoryRead}
use Rattle.world_folders.proofs.Pushed.{push_each}
use Rattle.world_folders.proofs.weaving.read_histories.Goals as goal

pub loop-number-preserved : goal.loop-number-preserved
loop-number-preserved g c =
    let holds = g.R.ReadsFiles.holds c.args.files.now in
    let folders = c.args.world.now.folders.items in
    let old = c.loop-number.histories.items in
    let n = c.loop-number.number in
    let entries = c.in_ok-entries.entries in
    let P : ℕ → Vec Entry → Type 0 = λ k v. IsHistoryRead holds folders k v.items in
    let here : P n entries = record {
      folder = c.in_ok-folder.folder.now;
      own = c.in_ok-folder.ensures.own;
      read = c.in_ok-entries.ensures.read;
    } in
    rw c.in_ok-push.ensures.items (record {
      count = length-append old (entries ∷ []) ∙ ap (λ (m : ℕ). m + 1) c.loop-number.invariant.count;
      each = push_each P old n entries c.loop-number.invariant.count c.loop-number.invariant.each here;
    })

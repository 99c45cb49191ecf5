use Rattle.std.proofs.Common.{ℕ, List, [], ◌∷◌, ap, subst, ◌∙◌, length-append, string_bytes, ◌+◌}
use Rattle.world_folders.specs.declared.worlds.SiteFolder.{SiteFolder}
use Rattle.world_folders.specs.Folders.{IsSiteFolder, GoesWith}
use Rattle.world_folders.proofs.FolderLemmas.{beside_more, named_more}
use Rattle.world_folders.proofs.worlds.read_folders.Goals as goal

pub loop-name-preserved : goal.loop-name-preserved
loop-name-preserved g c =
    let holds = g.R.ReadsFiles.holds c.args.files.now in
    let named = c.args.named.now in
    let old = c.loop-name.folders.items in
    let f = c.in_ok-folder.folder in
    let n = c.loop-name.name-index in
    let inv = c.loop-name.invariant in
    let goes : GoesWith old f =
    subst (λ (xs : List SiteFolder). GoesWith xs f) c.as_slice.ensures.value c.in_ok-check_beside.ensures.beside in
    let own : IsSiteFolder holds (string_bytes c.name-item.result) f =
    subst (λ (p : List ℕ). IsSiteFolder holds p f) c.as_str.ensures.value c.in_ok-folder.ensures.read in
    rw c.in_ok-push.ensures.items (record {
      count = length-append old (f ∷ []) ∙ ap (λ (m : ℕ). m + 1) inv.count;
      each = named_more holds named old n c.name-item.result f inv.count c.name-item.is c.loop-name-test.true own inv.each;
      beside = beside_more old n f inv.count goes inv.beside;
    })

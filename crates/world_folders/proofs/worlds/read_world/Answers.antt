use Rattle.std.proofs.Common.{◌<◌, List, length, get_or, ap, sym, subst, ◌∙◌}
use Rattle.world_folders.specs.declared.worlds.SiteFolder.{SiteFolder}
use Rattle.world_folders.proofs.worlds.read_world.Goals as goal

pub returns : goal.returns
returns g c = record {
  world = record {
    folders = c.in_ok-folders.ensures.folders;
    first = c.in-Some.first.now;
    is_first =
        sym (c.in-Some.ensures.item.1 ∙ ap (λ (xs : List SiteFolder). get_or xs 0 c.in-Some.first.now) c.deref.ensures.value);
    some = subst (λ (xs : List SiteFolder). 0 < length xs) c.deref.ensures.value c.in-Some.ensures.item.3.0;
    name = c.in_ok-world.ensures.name;
    header = c.in_ok-from_slice.ensures.items ∙ c.header.ensures.value;
    schema = c.in_ok-copy.ensures.equal ∙ c.schema.ensures.value;
  };
}

use Rattle.std.proofs.Common.{◌≡◌, length}
use Rattle.std.specs.List.{All}
use Rattle.crossbeam_channel.specs.Claims.{view}
use Rattle.site_workers.specs.declared.post.Spare.{Spare}
use Rattle.site_workers.specs.Posts.{HavePosts}
use Rattle.site_workers.proofs.all_sites.open_all.Given as goal

abbrev pub invariant-loop-site : goal.invariant-loop-site
invariant-loop-site l =
    (length l.posts.items ≡ l.sites)
    × (length l.spares.items ≡ l._site)
    × HavePosts 0 l.posts.items l.spares.items
    × All (λ (s : Spare). (view s.way).made ≡ l.sites) l.spares.items

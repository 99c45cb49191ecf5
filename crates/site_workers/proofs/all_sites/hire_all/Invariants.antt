use Rattle.std.proofs.Common.{◌≡◌, length}
use Rattle.crossbeam_channel.specs.Claims.{view}
use Rattle.crossbeam_channel.specs.Ends.{sends_on}
use Rattle.site_workers.proofs.Posts.{AreHiredTo}
use Rattle.site_workers.proofs.all_sites.hire_all.Given as goal

abbrev pub invariant-loop-site : goal.invariant-loop-site
invariant-loop-site l =
    (sends_on l.spare.slot ≡ sends_on l.fn.spare.slot)
    × ((view l.spare.way).made ≡ l.site)
    × (length l.posts.items ≡ l.sites)
    × AreHiredTo l.fn.spare l.fn.posts.items l.posts.items 0 l.site

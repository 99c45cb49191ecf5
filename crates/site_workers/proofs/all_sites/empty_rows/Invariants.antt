use Rattle.std.proofs.Common.{◌≡◌, [], length}
use Rattle.site_workers.specs.Posts.{HavePosts}
use Rattle.site_workers.proofs.all_sites.empty_rows.Given as goal

abbrev pub invariant-loop-site : goal.invariant-loop-site
invariant-loop-site l = (length l.rows.items ≡ l._site) × HavePosts 0 l.rows.items []

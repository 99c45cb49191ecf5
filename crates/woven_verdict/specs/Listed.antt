-- Histories that are held whole (this project).
use Rattle.std.specs.Prelude.{◌≡◌, ℕ, List}
use Rattle.field_bounds.specs.declared.entry.Entry.{Entry}
use Rattle.trace_weave.specs.Weave.{lists_of}
use Rattle.woven_verdict.specs.declared.listed.ListedHistories.{ListedHistories}

-- These are the histories, and so many entries of each were taken.
pub record Lists (hs : List (List Entry)) (counts : List ℕ) (listed : ListedHistories) : Type 0 where
  pub all : hs ≡ lists_of listed.histories.now
  pub taken : counts ≡ listed.counts.items

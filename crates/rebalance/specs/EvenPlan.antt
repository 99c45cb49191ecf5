-- The even division of a sum among sites, and the moves that lead to it (this project). Sites are told by their index.
use Rattle.std.specs.Prelude.{◌≡◌, ◌≢◌, ℕ, zero, suc, ◌+◌, ◌-◌, ◌/◌, ◌%◌, ◌<◌, ◌≤◌, List, [], ◌∷◌, ◌++◌, length, sum, sum_by, slice_index, slice_set, min, max, nat_lt, ◌==◌, if◌then◌else◌}
use Rattle.rebalance.specs.declared.even_plan.Move.{Move}

-- ---- what each site is to hold

-- What site `i` gets when `total` is divided among `n` sites: the whole part of the quotient, and one more for as many of
-- the first sites as are left over.
unfoldable pub even_target : (total n i : ℕ) → ℕ
even_target total n i = total / n + (if nat_lt i (total % n) then 1 else 0)

-- What site `i` is to hold: its even part of the sum.
abbrev pub target : List ℕ → ℕ → ℕ
target shares i = even_target (sum shares) (length shares) i

-- What site `i` has above its target.
unfoldable pub above : List ℕ → ℕ → ℕ
above shares i = slice_index shares i - target shares i

-- What site `i` misses.
unfoldable pub missing : List ℕ → ℕ → ℕ
missing shares i = target shares i - slice_index shares i

-- ---- the plan

-- What the sites before `i` have in all: where the stretch of site `i` begins in a row that is laid in order of site.
unfoldable pub sum_before : (ℕ → ℕ) → ℕ → ℕ
sum_before row zero = 0
sum_before row (suc i) = sum_before row i + row i

-- How much the stretch of `from` in one row and the stretch of `to` in the other have in common.
unfoldable pub overlap : (givers takers : ℕ → ℕ) (from to : ℕ) → ℕ
overlap givers takers from to =
    min (sum_before givers (suc from)) (sum_before takers (suc to)) - max (sum_before givers from) (sum_before takers to)

-- The move of a pair of sites, if their stretches overlap.
unfoldable pub pair_moves : (givers takers : ℕ → ℕ) (from to : ℕ) → List Move
pair_moves givers takers from to =
    if nat_lt 0 (overlap givers takers from to) then record { from = from; to = to; amount = overlap givers takers from to } ∷ [] else []

-- The moves from one site to the sites before `to`.
unfoldable pub moves_from : (givers takers : ℕ → ℕ) (from to : ℕ) → List Move
moves_from givers takers from zero = []
moves_from givers takers from (suc to) = moves_from givers takers from to ++ pair_moves givers takers from to

-- The moves from the sites before `from` to the `n` sites.
unfoldable pub moves_before : (givers takers : ℕ → ℕ) (n from : ℕ) → List Move
moves_before givers takers n zero = []
moves_before givers takers n (suc from) = moves_before givers takers n from ++ moves_from givers takers from n

-- The even plan: what is above target lies in one row and what is missing in another, and there is one move for each pair
-- of sites whose stretches overlap, in order, with the overlap as its amount.
unfoldable pub even_plan : List ℕ → List Move
even_plan shares = moves_before (above shares) (missing shares) (length shares) (length shares)

-- ---- what moves do

-- A move that carries something from one of the `n` sites to another.
pub record IsGift (n : ℕ) (m : Move) : Type 0 where
  pub from_there : m.from < n
  pub to_there : m.to < n
  pub apart : m.from ≢ m.to
  pub some : 0 < m.amount

-- A move can be carried out: both sites are there, and the giver holds the amount.
pub record CanMove (shares : List ℕ) (m : Move) : Type 0 where
  pub from_there : m.from < length shares
  pub to_there : m.to < length shares
  pub held : m.amount ≤ slice_index shares m.from

-- The shares after the amount has left the giver.
unfoldable pub after_giving : List ℕ → Move → List ℕ
after_giving shares m = slice_set shares m.from (slice_index shares m.from - m.amount)

-- The shares after a move.
unfoldable pub after_move : List ℕ → Move → List ℕ
after_move shares m = slice_set (after_giving shares m) m.to (slice_index (after_giving shares m) m.to + m.amount)

-- Carried out one after another, the moves lead to shares that are `aim` at each site.
unfoldable pub Reaches : (ℕ → ℕ) → List ℕ → List Move → Type 0
Reaches aim shares [] = (i : ℕ) → i < length shares → slice_index shares i ≡ aim i
Reaches aim shares (m ∷ ms) = CanMove shares m × Reaches aim (after_move shares m) ms

-- How much the moves carry in all.
unfoldable pub moved_in_all : List Move → ℕ
moved_in_all ms = sum_by (λ (m : Move). m.amount) ms

-- What a site gives by a move.
unfoldable pub given_by : ℕ → Move → ℕ
given_by i m = if m.from == i then m.amount else 0

-- What a site gets by a move.
unfoldable pub got_by : ℕ → Move → ℕ
got_by i m = if m.to == i then m.amount else 0

-- Taken together, in whatever order, the moves bring each site to its aim: what it has and gets is its aim and what it
-- gives.
unfoldable pub Settles : (ℕ → ℕ) → List ℕ → List Move → Type 0
Settles aim shares ms =
    (i : ℕ) → i < length shares → slice_index shares i + sum_by (got_by i) ms ≡ aim i + sum_by (given_by i) ms

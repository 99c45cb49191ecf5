-- What a site spares: no more than it has, and something where it has any.
use Rattle.std.proofs.Common.{◌≢◌, ℕ, ◌<◌, ◌≤◌, arith}
use Rattle.field_bounds.specs.Effects.{spare_amount}

pub spared_is_there : (share want : ℕ) → spare_amount share want ≤ share
spared_is_there share want = omega arith

pub spared_is_some : (share want : ℕ) → share ≢ 0 → want ≢ 0 → 0 < spare_amount share want
spared_is_some share want has wants = omega (arith, has, wants)

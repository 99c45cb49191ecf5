-- The two kinds of right (this project).
use Rattle.std.specs.Prelude.{ℤ, pos, negsuc, Bool, true, false}
use Rattle.field_bounds.specs.declared.kind.Kind.{Kind}
use Rattle.field_bounds.specs.declared.kind.Kind.TheVariants.{Lower, Raise}

-- The other kind, which a spent right turns into.
abbrev pub other : Kind → Kind
other Lower = Raise
other Raise = Lower

-- Whether two kinds are the same.
abbrev pub same_kind : Kind → Kind → Bool
same_kind Lower Lower = true
same_kind Raise Raise = true
same_kind Lower Raise = false
same_kind Raise Lower = false

-- The kind of right that a change takes: a change below 0 lowers.
abbrev pub kind_of : ℤ → Kind
kind_of (pos n) = Raise
kind_of (negsuc n) = Lower

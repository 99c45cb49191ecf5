-- Which sites go beside one another in a world (this project).
use Rattle.std.specs.Prelude.{◌≡◌, ◌≢◌}
use Rattle.site_folder.specs.Identity.{IdentityValue, AreOneWorld}
use Rattle.folder_logs.specs.declared.beside.Apart.{Apart}
use Rattle.folder_logs.specs.declared.beside.Apart.TheVariants.{World, Site}

-- They are two sites of one world.
pub record GoBeside (v w : IdentityValue) : Type 0 where
  pub world : AreOneWorld v w
  pub number : v.number.0 ≢ w.number.0

-- Why they aren't: they are of two worlds, or one site of one world.
abbrev pub IsApart : IdentityValue → IdentityValue → Apart → Type 0
IsApart v w World = AreOneWorld v w → ⊥
IsApart v w Site = AreOneWorld v w × (v.number.0 ≡ w.number.0)

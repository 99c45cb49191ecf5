-- Worked rows: what a restart finds after appends that were torn.
use Rattle.std.proofs.Common.{◌≡◌, refl}
use Rattle.std.specs.Fmt.{digits}
use Rattle.field_bounds.specs.declared.entry.Command.TheVariants as commands
use Rattle.field_bounds.specs.declared.entry.Reply.TheVariants.{Restarted}
use Rattle.field_bounds.specs.declared.entry.Last.TheVariants.{Kept, Lost}
use Rattle.kept_state.specs.declared.luck.Luck.TheVariants.{Fine}
use Rattle.kept_state.specs.Worked.{replies, torn, torn_twice, torn_gift, torn_cut}

pub lost : replies (torn 11) commands.Restart Fine ≡ Restarted 1 Lost
unfolding digits
lost = refl

pub kept : replies (torn 12) commands.Restart Fine ≡ Restarted 1 Kept
unfolding digits
kept = refl

pub used : replies (torn_twice 12 4) commands.Restart Fine ≡ Restarted 2 Kept
unfolding digits
used = refl

pub unused : replies (torn_twice 12 3) commands.Restart Fine ≡ Restarted 1 Kept
unfolding digits
unused = refl

pub gift_lost : replies (torn_gift 9) commands.Restart Fine ≡ Restarted 1 Lost
unfolding digits
gift_lost = refl

pub gift_kept : replies (torn_gift 10) commands.Restart Fine ≡ Restarted 1 Kept
unfolding digits
gift_kept = refl

pub cut_lost : replies (torn_cut 7) commands.Restart Fine ≡ Restarted 1 Lost
unfolding digits
cut_lost = refl

pub cut_kept : replies (torn_cut 8) commands.Restart Fine ≡ Restarted 1 Kept
unfolding digits
cut_kept = refl

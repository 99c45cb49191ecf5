use Rattle.std.proofs.Common.{refl}
use Rattle.statement_set.proofs.Told.{filed_wider}
use Rattle.statement_set.proofs.rows.Rows.widen.Goals as goal

pub returns-clause-filed : goal.returns-clause-filed
returns-clause-filed c =
    filed_wider c.args.self.now _ c.requires.filed
    (simp (c.in_ok-extend_from_slice-2.ensures.items, c.in_ok-extend_from_slice.ensures.items, c.in_ok-wider.ensures.items, c.deref.ensures.value, c.deref-2.ensures.value) refl)
    refl

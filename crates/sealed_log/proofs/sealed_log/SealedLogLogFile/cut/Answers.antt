use Rattle.std.proofs.Common.{◌≡◌, ◌-◌, take, arith, ap, subst, ◌∙◌}
use Rattle.file_medium.specs.Files.{cut_known}
use Rattle.sealed_log.specs.Sealed.{log_of}
use Rattle.sealed_log.proofs.Closing.{view-cut}
use Rattle.sealed_log.proofs.sealed_log.SealedLogLogFile.cut.Goals as goal

pub returns-clause-ok : goal.returns-clause-ok
returns-clause-ok g c =
    let l = c.self.inside in
    let file = g.F.LogFile.bytes l.file in
    let safe = g.F.LogFile.safe l.file in
    let left : c.truncate.new.self.items ≡ take (c.args.kept - l.closed) l.batch.items =
    c.truncate.ensures.items ∙ ap (λ n. take n l.batch.items) (omega (arith, c.in-Some.ensures)) in
    subst (λ v. log_of l.closed l.is_lost l.is_ended file safe c.truncate.new.self.items l.opened (g.F.LogFile.least l.file) (g.F.HeadedLog.head l.file)
    ≡ record v { bytes = cut_known c.args.kept v.bytes; batch = take (c.args.kept - v.closed) v.batch }) c.self.view_is
    (view-cut l.closed c.args.kept l.is_lost l.is_ended file safe l.records.items l.batch.items c.truncate.new.self.items _ _ _ _ c.self.invariant c.if-self.false (omega (arith, c.in-Some.ensures)) left)

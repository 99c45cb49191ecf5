use Rattle.std.proofs.Common.{◌≡◌, ℕ, List, Option, rules, subst, ap}
use Rattle.file_medium.specs.Files.{CutsTo, LowersTo, cut_known}
use Rattle.named_log.specs.Names.{LogBehind, behind, count_behind}
use Rattle.named_log.proofs.Names.{cut-behind, least-behind, name-cut}
use Rattle.named_log.proofs.named_log.NamedLogLogFile.cut.Goals as goal

pub returns-in-Some-clause-bytes : goal.returns-in-Some-clause-bytes
returns-in-Some-clause-bytes g c =
    subst (λ v. CutsTo c.args.kept v.bytes (behind c.self.inside.name (g.F.LogFile.bytes c.cut.new.self)) c.cut.result) c.self.view_is
    (cut-behind c.self.inside.name c.args.kept c.in-Some.place (g.F.LogFile.bytes c.self.inside.file) (g.F.LogFile.bytes c.cut.new.self) c.cut.result (search (rules, c.in-Some.ensures)) c.cut.ensures.bytes)

pub returns-in-Some-clause-safe : goal.returns-in-Some-clause-safe
returns-in-Some-clause-safe g c =
    subst (λ v. CutsTo c.args.kept v.safe (behind c.self.inside.name (g.F.LogFile.safe c.cut.new.self)) c.cut.result) c.self.view_is
    (cut-behind c.self.inside.name c.args.kept c.in-Some.place (g.F.LogFile.safe c.self.inside.file) (g.F.LogFile.safe c.cut.new.self) c.cut.result (search (rules, c.in-Some.ensures)) c.cut.ensures.safe)

pub returns-in-Some-clause-least : goal.returns-in-Some-clause-least
returns-in-Some-clause-least g c =
    subst (λ v. LowersTo c.args.kept v.least (count_behind c.self.inside.name (g.F.LogFile.least c.cut.new.self)) c.cut.result) c.self.view_is
    (least-behind c.self.inside.name c.args.kept c.in-Some.place (g.F.LogFile.least c.self.inside.file) (g.F.LogFile.least c.cut.new.self) c.cut.result (search (rules, c.in-Some.ensures)) c.cut.ensures.least)

pub returns-in-Some-clause-same : goal.returns-in-Some-clause-same
returns-in-Some-clause-same g c =
    let l = c.self.inside in
    let bytes = behind l.name (g.F.LogFile.bytes c.cut.new.self) in
    let safe = behind l.name (g.F.LogFile.safe c.cut.new.self) in
    let least = count_behind l.name (g.F.LogFile.least c.cut.new.self) in
    let named = name-cut l.name c.args.kept c.in-Some.place (g.F.LogFile.safe l.file) (g.F.LogFile.safe c.cut.new.self) c.cut.result (search (rules, c.in-Some.ensures)) c.cut.ensures.safe in
    let seen : Option (List ℕ) → LogBehind =
    λ n. record { bytes = bytes; safe = safe; least = least; lost = l.lost; name_size = l.name; name = n } in
    let same : seen (cut_known l.name (g.F.LogFile.safe c.cut.new.self)) ≡ seen (cut_known l.name (g.F.LogFile.safe l.file)) = ap seen named in
    subst (λ (v : LogBehind). seen (cut_known l.name (g.F.LogFile.safe c.cut.new.self)) ≡ record v { bytes = bytes; safe = safe; least = least }) c.self.view_is same

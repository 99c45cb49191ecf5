use Rattle.std.proofs.Common.{codes, option_map}
use Rattle.std.proofs.lemmas.Option.{IfSome_then}
use Rattle.site_folder.specs.Reading.{IsRefused}
use Rattle.site_folder.proofs.LineLemmas.{lines_behind, other_first, other_second, other_version, told_ok, told_err, none_then}
use Rattle.site_folder.proofs.lines.read_lines.Goals as goal

pub returns-in-Some-clause-ok : goal.returns-in-Some-clause-ok
returns-in-Some-clause-ok c =
    told_ok c.read_first.result c.told_lines.result c.told_lines.ensures.lines _
    (IfSome_then c.read_first.result c.read_first.ensures.some (λ told is.
    lines_behind c.args.text.now (codes "escrow site 1") c.in-Some.rest.now (option_map (λ n. n.now) told.name) told.number told.world.now
    told.header.now c.in-Some.ensures.rest is.0 is.1))

pub returns-in-Some-clause-err : goal.returns-in-Some-clause-err
returns-in-Some-clause-err c =
    told_err c.read_first.result c.told_lines.result c.told_lines.ensures.lines (IsRefused c.args.text.now)
    (none_then c.read_first.result c.read_first.ensures.none (other_first c.args.text.now c.in-Some.rest.now c.in-Some.ensures.rest))

pub returns-in-Some-behind_second-clause-ok : goal.returns-in-Some-behind_second-clause-ok
returns-in-Some-behind_second-clause-ok c =
    told_ok c.read_second.result c.told_lines-in-Some-behind_second.result c.told_lines-in-Some-behind_second.ensures.lines _
    (IfSome_then c.read_second.result c.read_second.ensures.some (λ told is.
    lines_behind c.args.text.now (codes "escrow site 2") c.in-Some-behind_second.rest.now (option_map (λ n. n.now) told.name) told.number
    told.world.now told.header.now c.in-Some-behind_second.ensures.rest is.0 is.1))

pub returns-in-Some-behind_second-clause-err : goal.returns-in-Some-behind_second-clause-err
returns-in-Some-behind_second-clause-err c =
    told_err c.read_second.result c.told_lines-in-Some-behind_second.result c.told_lines-in-Some-behind_second.ensures.lines (IsRefused c.args.text.now)
    (none_then c.read_second.result c.read_second.ensures.none
    (other_second c.args.text.now c.in-Some-behind_second.rest.now c.in-Some-behind_second.ensures.rest))

pub returns-clause-err : goal.returns-clause-err
returns-clause-err c = other_version c.args.text.now c.in_default.ensures.rest c.in_default-behind_second.ensures.rest

use Rattle.std.proofs.Common.{◌≡◌, ◌==◌, [], false, length, ap, rules}
use Rattle.site_folder.proofs.LineLemmas.{no_line, behind_world, last_ends, none_anyway}
use Rattle.site_folder.proofs.lines.last_lines.Goals as goal

pub returns-in_err-header-clause-none : goal.returns-in_err-header-clause-none
returns-in_err-header-clause-none c =
    none_anyway c.from_residual-in_err-header.result (λ world header last.
    no_line c.in_ok-world.bytes.now header [] c.in_err-header.ensures.parts
    (behind_world c.args.bytes.now c.in_ok-world.world.now c.in_ok-world.bytes.now world header c.in_ok-world.ensures.some.0
    c.in_ok-world.ensures.some.1 last).rest)

pub returns-else-is_empty-clause-none : goal.returns-else-is_empty-clause-none
returns-else-is_empty-clause-none c = λ world header last.
    let end : c.in_ok-header.bytes.now ≡ [] =
    last_ends c.args.bytes.now c.in_ok-world.world.now c.in_ok-world.bytes.now c.in_ok-header.header.now c.in_ok-header.bytes.now world header
    c.in_ok-world.ensures.some.0 c.in_ok-world.ensures.some.1 c.in_ok-header.ensures.parts.0 c.in_ok-header.ensures.parts.1 last in
    let none : length c.in_ok-header.bytes.now ≡ 0 = ap length end in
    let not : false ≡ (length c.in_ok-header.bytes.now == 0) = c.if-is_empty.ensures in
    absurd (search (rules, none, not))

use Rattle.std.proofs.Common.{◌≡◌, ◌++◌, rules}
use Rattle.caller_keys.proofs.Texts.{gone_none, gone_more, gone_all, shorter}
use Rattle.caller_keys.proofs.split.split_lines.Goals as goal

pub loop-line-init : goal.loop-line-init
loop-line-init c =
    rw (c.in_ok-records.ensures.items) (gone_none c.args.text.now c.new-keys.result c.new-keys.ensures.tells)

pub loop-line-smaller : goal.loop-line-smaller
loop-line-smaller c = shorter c.loop-line.left.now c.in-Some.line.now c.in-Some.behind.now c.in-Some.ensures.parts.1

pub loop-line-preserved : goal.loop-line-preserved
loop-line-preserved c =
    gone_more c.args.text.now c.loop-line.left.now c.in-Some.line.now c.in-Some.behind.now c.loop-line.keys c.take_line.new.keys
    c.loop-line.records.items c.take_line.new.records.items c.loop-line.invariant c.in-Some.ensures.parts.1 c.in_ok-take_line.ensures.taken

pub returns : goal.returns
returns c =
    let all : c.extend_from_slice.new.self.items ≡ c.loop-line.records.items ++ c.loop-line.left.now = search rules in
    gone_all c.args.text.now c.loop-line.left.now c.loop-line.keys c.loop-line.records.items c.extend_from_slice.new.self.items
    c.loop-line.invariant c.in_default.ensures.parts all

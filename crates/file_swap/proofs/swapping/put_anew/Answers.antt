use Rattle.std.proofs.Common.{◌++◌, ◌∙◌, rules}
use Rattle.file_swap.proofs.Placing.{written, placed, placed_safe, placed_spares, fault_for, either_whole}
use Rattle.file_swap.proofs.swapping.put_anew.Goals as goal

pub returns-then-is_err-clause-refused : goal.returns-then-is_err-clause-refused
returns-then-is_err-clause-refused g c = λ _.
    let a = c.begin_beside.ensures in
    (a.bytes, a.safe, a.least)

pub returns-then-is_err-clause-failed : goal.returns-then-is_err-clause-failed
returns-then-is_err-clause-failed g c = λ other. absurd (cc other)

pub returns-then-write_all-head-clause-refused : goal.returns-then-write_all-head-clause-refused
returns-then-write_all-head-clause-refused g c = λ _.
    let a = c.begin_beside.ensures in
    let b = c.write_all.ensures in
    (b.bytes ∙ a.bytes, b.safe ∙ a.safe, b.least ∙ a.least)

pub returns-then-write_all-head-clause-failed : goal.returns-then-write_all-head-clause-failed
returns-then-write_all-head-clause-failed g c = λ other. absurd (cc other)

pub returns-then-write_all-held-clause-refused : goal.returns-then-write_all-held-clause-refused
returns-then-write_all-held-clause-refused g c = λ _.
    let a = c.begin_beside.ensures in
    let b = c.write_all.ensures in
    let d = c.write_all-2.ensures in
    (d.bytes ∙ b.bytes ∙ a.bytes, d.safe ∙ b.safe ∙ a.safe, d.least ∙ b.least ∙ a.least)

pub returns-then-write_all-held-clause-failed : goal.returns-then-write_all-held-clause-failed
returns-then-write_all-held-clause-failed g c = λ other. absurd (cc other)

pub returns-then-is_err-2-clause-refused : goal.returns-then-is_err-2-clause-refused
returns-then-is_err-2-clause-refused g c = λ _.
    let a = c.begin_beside.ensures in
    let b = c.write_all.ensures in
    let d = c.write_all-2.ensures in
    let s = c.sync_beside.ensures in
    (s.bytes ∙ d.bytes ∙ b.bytes ∙ a.bytes, s.safe ∙ d.safe ∙ b.safe ∙ a.safe, s.least ∙ d.least ∙ b.least ∙ a.least)

pub returns-then-is_err-2-clause-failed : goal.returns-then-is_err-2-clause-failed
returns-then-is_err-2-clause-failed g c = λ other. absurd (cc other)

pub put_in_place-requires : goal.put_in_place-requires
put_in_place-requires g c = search rules

pub returns-clause-ok : goal.returns-clause-ok
returns-clause-ok g c =
    let all = written _ _ _ (g.F.Replaceable.beside c.sync_beside.new.self) c.args.head.now c.args.held.now _ _ c.write_all.ensures.beside
    c.if-write_all-head.false c.write_all-2.ensures.beside c.if-write_all-held.false (search rules) (search rules) in
    placed _ _ _ _ _ (c.args.head.now ++ c.args.held.now) all c.put_in_place.ensures.ok

pub returns-clause-all_safe : goal.returns-clause-all_safe
returns-clause-all_safe g c = search (rules, placed_safe)

pub returns-clause-spared : goal.returns-clause-spared
returns-clause-spared g c =
    let all = written _ _ _ (g.F.Replaceable.beside c.sync_beside.new.self) c.args.head.now c.args.held.now _ _ c.write_all.ensures.beside
    c.if-write_all-head.false c.write_all-2.ensures.beside c.if-write_all-held.false (search rules) (search rules) in
    placed_spares _ _ _ _ _ (c.args.head.now ++ c.args.held.now) all c.put_in_place.ensures.ok

pub returns-clause-refused : goal.returns-clause-refused
returns-clause-refused g c =
    let a = c.begin_beside.ensures in
    let b = c.write_all.ensures in
    let d = c.write_all-2.ensures in
    let s = c.sync_beside.ensures in
    fault_for c.put_in_place.result _ _
    (λ fault tells refused.
    let same = tells refused in
    (same.0 ∙ s.bytes ∙ d.bytes ∙ b.bytes ∙ a.bytes, same.1 ∙ s.safe ∙ d.safe ∙ b.safe ∙ a.safe, same.2 ∙ s.least ∙ d.least ∙ b.least ∙ a.least))
    c.put_in_place.ensures.refused

pub returns-clause-failed : goal.returns-clause-failed
returns-clause-failed g c =
    let a = c.begin_beside.ensures in
    let b = c.write_all.ensures in
    let d = c.write_all-2.ensures in
    let s = c.sync_beside.ensures in
    let all = written _ _ _ (g.F.Replaceable.beside c.sync_beside.new.self) c.args.head.now c.args.held.now _ _ c.write_all.ensures.beside
    c.if-write_all-head.false c.write_all-2.ensures.beside c.if-write_all-held.false (search rules) (search rules) in
    fault_for c.put_in_place.result _ _
    (λ fault tells failed. either_whole _ _ _ _ (c.args.head.now ++ c.args.held.now) (s.safe ∙ d.safe ∙ b.safe ∙ a.safe) all (tells failed))
    c.put_in_place.ensures.failed

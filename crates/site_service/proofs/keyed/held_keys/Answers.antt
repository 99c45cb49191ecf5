use Rattle.std.proofs.Common.{◌≡◌, ◌≤◌, ℕ, ◌+◌, suc, length, subst, arith}
use Rattle.site_service.specs.Shorter.{KeepsSeen}
use Rattle.site_service.proofs.HeldKeys.{keeps_next, keeps_none, keeps_all, none_behind}
use Rattle.site_service.proofs.keyed.held_keys.Goals as goal

pub keys-init : goal.keys-init
keys-init c = record {
  index = c.requires.index;
  log = c.requires.log;
  keeps = keeps_none c.args.log.now c.args.old.now.last c.new-noted.result.last c.new-noted.ensures.last;
  behind = none_behind c.new-noted.result.lines c.new-noted.result.last c.new-noted.ensures.none c.new-noted.ensures.last;
}

pub keys-preserved : goal.keys-preserved
keys-preserved c =
    let inv = c.keys.invariant in
    let done = c.in_ok-note_held.ensures.noted in
    let next : suc c.keys.n ≡ c.keys.n + 1 = omega arith in
    record {
      index = c.in_ok-note_held.ensures.index;
      log = inv.log;
      keeps = subst (λ (n : ℕ). KeepsSeen c.args.log.now n c.args.old.now.last c.note_held.new.noted.last) next
          (λ rs rest log other. keeps_next c.args.log.now c.keys.n c.args.old.now.last c.keys.noted.last c.note_held.new.noted.last
          c.in-Some.key.bytes.now done.0 done.1 done.2 c.in-Some.ensures.row inv.keeps rs rest log other);
      behind = c.in_ok-note_held.ensures.behind inv.behind;
    }

pub returns-clause-last : goal.returns-clause-last
returns-clause-last c =
    let all : length c.args.old.now.last ≤ c.keys.n = omega (arith, c.keys-test.false, c.count-n-end.ensures.value) in
    keeps_all c.args.log.now c.keys.n c.args.old.now.last c.keys.noted.last all c.keys.invariant.keeps

use Rattle.std.proofs.Common.{◌-◌, ◌++◌, length, take, drop, sym, ap, ◌∙◌, arith, length-take}
use lib.Seq.{take-add, take-take}
use Rattle.std.specs.Io.KnownBytes.{append_known}
use Rattle.file_medium.proofs.Known.{append_known-append}
use Rattle.file_swap.proofs.swapping.write_all.Goals as goal

pub loop-written-preserved : goal.loop-written-preserved
loop-written-preserved g c =
    let done = c.loop-written.written in
    let n = c.in-Ok.count in
    let xs = c.args.piece.now in
    let before = c.loop-written.invariant in
    let known = g.F.Replaceable.beside c.args.file.now in
    let fits = c.in-Ok.ensures.bound in
    let most = length-take (length xs - done) (drop done xs) in
    let joined = ap (λ l. take done xs ++ l) (take-take n (length xs - done) (drop done xs) (omega arith)) ∙ sym (take-add done n xs) in
    record {
      within = omega arith;
      beside = c.in-Ok.ensures.added
          ∙ ap (λ k. append_known k (take n (take (length xs - done) (drop done xs)))) before.beside
          ∙ append_known-append known (take done xs) (take n (take (length xs - done) (drop done xs)))
          ∙ ap (append_known known) joined;
      bytes = c.in-Ok.ensures.bytes ∙ before.bytes;
      safe = c.in-Ok.ensures.safe ∙ before.safe;
      least = c.in-Ok.ensures.least ∙ before.least;
    }

use Rattle.std.proofs.Common.{◌≡◌, ◌+◌, ◌-◌, take, drop, subst, ap, ◌∙◌, arith}
use Rattle.file_medium.specs.Files.{ReadsAt}
use Rattle.file_medium.proofs.Known.{seen-more, same_bytes}
use Rattle.file_medium.proofs.copying.holds.Goals as goal

pub loop-seen-preserved : goal.loop-seen-preserved
loop-seen-preserved g c =
    let seen = c.loop-seen.seen in
    let n = c.in-Ok.count in
    let from = c.args.from in
    let held = c.args.bytes.now in
    let buffer = c.read_at.new.buffer in
    let before = c.loop-seen.invariant in
    let reads = subst (λ k. ReadsAt k (from + seen) n buffer) before.bytes c.in-Ok.ensures.read in
    let count : seen + n - seen ≡ n = omega arith in
    let same : take n buffer ≡ take n (drop seen held) =
    same_bytes c.ne.result _ _ c.ne.ensures c.if-ne.false ∙ ap (λ k. take k (drop seen held)) count in
    record {
      within = omega arith;
      same = seen-more (g.F.LogFile.bytes c.args.file.now) from seen n held buffer before.same reads same;
      bytes = c.in-Ok.ensures.bytes ∙ before.bytes;
      safe = c.in-Ok.ensures.safe ∙ before.safe;
      least = c.in-Ok.ensures.least ∙ before.least;
    }

use Rattle.std.proofs.Common.{◌≡◌, ◌≢◌, ◌+◌, ◌-◌, take, drop, sym, subst, ap, ◌∙◌, arith}
use Rattle.file_medium.specs.Files.{ReadsAt}
use Rattle.file_medium.proofs.Known.{same_bytes, other_bytes}
use Rattle.named_log.proofs.Names.{starts-short, starts-other, starts-all, met-more}
use Rattle.named_log.proofs.naming.starts_with.Goals as goal

pub returns-then-count-eq0-clause-starts : goal.returns-then-count-eq0-clause-starts
returns-then-count-eq0-clause-starts g c =
    let seen = c.loop-seen.seen in
    let n = c.in_ok-count.count in
    let buffer = c.read_at.new.buffer in
    let before = c.loop-seen.invariant in
    let reads = subst (λ k. ReadsAt k seen n buffer) before.bytes c.in_ok-count.ensures.read in
    starts-short (g.F.LogFile.bytes c.args.file.now) seen n c.args.name.now buffer (omega arith) (omega arith) (omega arith) reads

pub returns-then-ne-clause-starts : goal.returns-then-ne-clause-starts
returns-then-ne-clause-starts g c =
    let seen = c.loop-seen.seen in
    let n = c.in_ok-count.count in
    let count = c.min-count.result in
    let name = c.args.name.now in
    let buffer = c.read_at.new.buffer in
    let before = c.loop-seen.invariant in
    let reads = subst (λ k. ReadsAt k seen n buffer) before.bytes c.in_ok-count.ensures.read in
    let size : seen + count - seen ≡ count = omega arith in
    let other : take count buffer ≢ take count (drop seen name) =
    λ same. other_bytes c.ne.result _ _ c.ne.ensures c.if-ne.true (same ∙ ap (λ k. take k (drop seen name)) (sym size)) in
    starts-other (g.F.LogFile.bytes c.args.file.now) seen n count name buffer (omega arith) (omega arith) other reads

pub loop-seen-preserved : goal.loop-seen-preserved
loop-seen-preserved g c =
    let seen = c.loop-seen.seen in
    let n = c.in_ok-count.count in
    let count = c.min-count.result in
    let name = c.args.name.now in
    let buffer = c.read_at.new.buffer in
    let before = c.loop-seen.invariant in
    let reads = subst (λ k. ReadsAt k seen n buffer) before.bytes c.in_ok-count.ensures.read in
    let size : seen + count - seen ≡ count = omega arith in
    let same : take count buffer ≡ take count (drop seen name) =
    same_bytes c.ne.result _ _ c.ne.ensures c.if-ne.false ∙ ap (λ k. take k (drop seen name)) size in
    record {
      within = omega arith;
      some = omega arith;
      same = met-more (g.F.LogFile.bytes c.args.file.now) seen n count name buffer (omega arith) before.same same reads;
      bytes = c.in_ok-count.ensures.bytes ∙ before.bytes;
      safe = c.in_ok-count.ensures.safe ∙ before.safe;
      least = c.in_ok-count.ensures.least ∙ before.least;
    }

pub returns-clause-starts : goal.returns-clause-starts
returns-clause-starts g c =
    starts-all (g.F.LogFile.bytes c.args.file.now) c.loop-seen.seen c.args.name.now (omega arith) c.loop-seen.invariant.within c.loop-seen.invariant.same

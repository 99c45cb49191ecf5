use Rattle.std.proofs.Common.{rules, ℕ, ◌+◌, ap, ◌∙◌, arith}
use Rattle.std.specs.Prelude.{◌++◌}
use Rattle.kept_records.specs.ReadingBack.{told_length}
use Rattle.site_step.specs.Resuming.{all_bytes}
use Rattle.site_step.proofs.Resumes.{replays_all, next_over, due_over, due_over_fits, stands_behind, fails_behind}
use Rattle.site_step.proofs.site.restart.add_restart.Goals as goal

pub due_behind-requires : goal.due_behind-requires
due_behind-requires g c =
    let was = c.args.medium.now in
    let told = c.requires.replayed in
    record {
      in_range = (omega arith, omega (arith, c.requires.below));
      plain = search rules;
      may = (
        told.1 ++ told.2,
        next_over (all_bytes told.1 (g.M.Medium.bytes was)) c.args.replay.standing c.args.replay.turns c.args.schema.now told.0
            (told.1 ++ told.2) told.3 (replays_all told.4) c.requires.below,
      );
    }

pub append_restart_piece-requires-clause-ranges : goal.append_restart_piece-requires-clause-ranges
append_restart_piece-requires-clause-ranges g c =
    let was = c.args.medium.now in
    let told = c.requires.replayed in
    due_over_fits (all_bytes told.1 (g.M.Medium.bytes was)) c.args.replay.standing c.args.replay.turns c.args.schema.now told.0
    (told.1 ++ told.2) told.3 (replays_all told.4) c.requires.below c.in_ok-due.due c.in_ok-due.ensures.due

pub returns-in-Ok-clause-resumes : goal.returns-in-Ok-clause-resumes
returns-in-Ok-clause-resumes g c =
    let was = c.args.medium.now in
    let left = c.append_restart_piece.new.medium in
    let log = c.args.log in
    let standing = c.args.replay.standing in
    λ s place gone held rest is behind.
    let dues = due_over (all_bytes gone (g.M.Medium.bytes was)) standing c.args.replay.turns c.args.schema.now s (gone ++ held) rest
    (replays_all is) c.requires.below c.in_ok-due.due c.in_ok-due.ensures.due in (
      stands_behind (g.M.Medium.bytes was) (g.M.Medium.bytes left) (g.M.Medium.foretold was) (g.M.Medium.foretold left)
          (g.M.Medium.failed was) (g.M.Medium.failed left) log.whole standing c.args.replay.turns
          c.in_ok-due.due c.requires.whole c.requires.below c.requires.read c.args.schema.now s gone held rest is dues
          c.append_restart_piece.new.line.items c.saturating_add.result c.in_ok-append_restart_piece.ensures.line
          (c.saturating_add.ensures ∙ ap (λ (n : ℕ). told_length (log.whole + n))
          (omega (arith, c.len.ensures, c.append_restart_piece.new.line.ok)))
          (rw c.in-Ok.is at c.in_ok-append_restart_piece.ensures.added) (rw c.in-Ok.is at c.in_ok-append_restart_piece.ensures.fate),
      is.for_,
      behind,
    )

pub returns-in-Err-clause-resumes : goal.returns-in-Err-clause-resumes
returns-in-Err-clause-resumes g c =
    let was = c.args.medium.now in
    let left = c.append_restart_piece.new.medium in
    let log = c.args.log in
    let standing = c.args.replay.standing in
    λ s place gone held rest is behind.
    let dues = due_over (all_bytes gone (g.M.Medium.bytes was)) standing c.args.replay.turns c.args.schema.now s (gone ++ held) rest
    (replays_all is) c.requires.below c.in_ok-due.due c.in_ok-due.ensures.due in
    fails_behind (g.M.Medium.bytes was) (g.M.Medium.bytes left) (g.M.Medium.foretold was) (g.M.Medium.foretold left)
    (g.M.Medium.failed was) (g.M.Medium.failed left) log.whole standing c.args.replay.turns
    c.in_ok-due.due c.requires.whole c.requires.below c.requires.read c.args.schema.now s gone held rest is dues c.in-Err.field-0
    (rw c.in-Err.is at c.in_ok-append_restart_piece.ensures.added) (rw c.in-Err.is at c.in_ok-append_restart_piece.ensures.fate)

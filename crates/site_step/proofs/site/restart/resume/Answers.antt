use Rattle.std.proofs.Common.{◌≡◌, List, ℕ, sym, ap, subst}
use Rattle.std.specs.Prelude.{◌++◌}
use Rattle.kept_records.specs.ReadingBack.{AreBehind}
use Rattle.site_step.specs.Resuming.{HoldsBehind, all_bytes}
use Rattle.site_step.proofs.Prefixes.{log_of}
use Rattle.site_step.proofs.Resumes.{end_of, unread_fails, read_fate, read_stays, resumes_from}
use Rattle.site_step.proofs.Settling.{ok_is}
use Rattle.site_step.proofs.site.restart.resume.Goals as goal

pub returns-in-Err-Device-clause-resumes : goal.returns-in-Err-Device-clause-resumes
returns-in-Err-Device-clause-resumes g c =
    let was = c.args.medium.now in
    let left = c.read_back.new.medium in
    λ gone held rest holds.
    unread_fails c.args.schema.now c.args.site.0 (all_bytes gone (g.M.Medium.bytes was)) (all_bytes gone (g.M.Medium.bytes left)) rest
    (g.M.Medium.foretold was) (g.M.Medium.foretold left) (g.M.Medium.failed was) (g.M.Medium.failed left) (gone ++ held) (log_of holds)
    holds.lawful (ap (all_bytes gone) c.read_back.ensures.bytes)
    (rw c.in-Err-Device.field-0-is at (rw c.in-Err-Device.is at c.read_back.ensures.failed))
    (read_fate (g.M.Medium.foretold was) (g.M.Medium.foretold left)
    (rw c.in-Err-Device.field-0-is at (rw c.in-Err-Device.is at c.read_back.ensures.foretold)))

pub resume-requires : goal.resume-requires
resume-requires g c =
    let told = c.requires.log in
    record {
      site_in = c.requires.site_in;
      end_ = (
        told.0 ++ told.1,
        end_of c.args.schema.now c.args.site.0 told.0 told.1 told.2 (g.M.Medium.bytes c.args.medium.now) told.3 c.in-Ok.log
            c.in-Ok.ensures.last,
      );
    }

pub resume_over-requires-clause-replayed : goal.resume_over-requires-clause-replayed
resume_over-requires-clause-replayed g c =
    let told = c.requires.log in
    let end_ = end_of c.args.schema.now c.args.site.0 told.0 told.1 told.2 (g.M.Medium.bytes c.args.medium.now) told.3 c.in-Ok.log
    c.in-Ok.ensures.last in (
      c.args.site.0,
      told.0,
      told.1,
      told.2,
      record {
        limits = c.requires.limits;
        site_in = c.requires.site_in;
        holds = subst (λ (b : List ℕ). HoldsBehind c.args.schema.now c.args.site.0 told.0 told.1 told.2 b) (sym c.in-Ok.ensures.bytes)
            told.3;
        for_ = c.in_ok-replay.ensures.standing (told.0 ++ told.1) end_;
        turns_are = c.in_ok-replay.ensures.turns (told.0 ++ told.1) end_;
      },
    )

pub returns-clause-resumes : goal.returns-clause-resumes
returns-clause-resumes g c =
    let was = c.args.medium.now in
    let mid = c.read_back.new.medium in
    let schema = c.args.schema.now in
    let s = c.args.site.0 in
    let bytes : g.M.Medium.bytes mid ≡ g.M.Medium.bytes was = c.in-Ok.ensures.bytes in
    ok_is c.resume_over.result (λ resumed as_ gone held rest holds.
    let end_ = end_of schema s gone held rest (g.M.Medium.bytes was) holds c.in-Ok.log c.in-Ok.ensures.last in
    resumes_from schema s c.args.place gone held rest resumed (g.M.Medium.bytes was) (g.M.Medium.bytes mid)
    (g.M.Medium.bytes c.resume_over.new.medium) (g.M.Medium.foretold was) (g.M.Medium.foretold mid)
    (g.M.Medium.foretold c.resume_over.new.medium) (g.M.Medium.failed was) (g.M.Medium.failed mid)
    (g.M.Medium.failed c.resume_over.new.medium) bytes
    (read_stays c.in-Ok.log (g.M.Medium.foretold was) (g.M.Medium.foretold mid) (rw c.in-Ok.is at c.read_back.ensures.foretold))
    (rw c.in-Ok.is at c.read_back.ensures.failed)
    (as_ s c.args.place gone held rest
    (record {
      limits = c.requires.limits;
      site_in = c.requires.site_in;
      holds = subst (λ (b : List ℕ). HoldsBehind schema s gone held rest b) (sym bytes) holds;
      for_ = c.in_ok-replay.ensures.standing (gone ++ held) end_;
      turns_are = c.in_ok-replay.ensures.turns (gone ++ held) end_;
    })
    (subst (λ (b : List ℕ). AreBehind b c.args.place c.in-Ok.log.behind.items) (sym bytes) c.in-Ok.ensures.behind)))
    c.resume_over.ensures.resumes

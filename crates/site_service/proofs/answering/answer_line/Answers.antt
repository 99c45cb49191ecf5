use Rattle.std.proofs.Common.{◌≡◌, List, ℕ, refl, sym, subst, ◌∙◌, arith}
use Rattle.std.proofs.lemmas.Result.{on_ok_weaker, on_err_weaker}
use Rattle.kept_records.specs.Keeping.{IsKept}
use Rattle.site_service.specs.Kept.{TellsCommit, TellsKey}
use Rattle.site_service.specs.Index.{IsIndexOf}
use Rattle.site_service.proofs.Index.{index_grows}
use Rattle.site_step.specs.Shortening.{held_of}
use Rattle.site_service.proofs.Held.{held_medium, held_kept, held_goes, goes_same}
use Rattle.site_service.proofs.Told.{told_command, left_command, left_still, told_commit, told_key, told_bad, told_long, any_err, spells}
use Rattle.site_service.proofs.answering.answer_line.Goals as goal

-- ---- a command

pub returns-in-Ok-Do-clause-ok : goal.returns-in-Ok-Do-clause-ok
returns-in-Ok-Do-clause-ok c = λ count.
    let asks = rw c.in-Ok-Do.field-0-is at c.in-Ok-Do.ensures.ok in
    on_ok_weaker c.carry_out_spelled.result
    (told_command c.schema.result.now c.site.result c.args.site.now c.schema.ensures.value c.site.ensures.value c.args.keys.now.last c.args.told.now count c.args.number c.args.out.now.items
    c.carry_out_spelled.new.out.items c.args.line.now c.in-Ok-Do.command c.carry_out_spelled.new.site asks) c.carry_out_spelled.ensures.ok

pub returns-in-Ok-Do-clause-left : goal.returns-in-Ok-Do-clause-left
returns-in-Ok-Do-clause-left c = λ count.
    let asks = rw c.in-Ok-Do.field-0-is at c.in-Ok-Do.ensures.ok in
    on_err_weaker c.carry_out_spelled.result
    (left_command c.schema.result.now c.site.result c.args.site.now c.schema.ensures.value c.site.ensures.value c.args.keys.now.last c.args.told.now count c.args.number c.args.line.now c.in-Ok-Do.command
    c.carry_out_spelled.new.site asks) c.carry_out_spelled.ensures.left

pub returns-in-Ok-Do-clause-long : goal.returns-in-Ok-Do-clause-long
returns-in-Ok-Do-clause-long c = λ count whole long more. absurd (omega (arith, long, c.in-Ok-Do.ensures.short))

pub returns-in-Ok-Do-clause-grows : goal.returns-in-Ok-Do-clause-grows
returns-in-Ok-Do-clause-grows c = c.carry_out_spelled.ensures.grows c.requires.stands

pub returns-in-Ok-Do-clause-index : goal.returns-in-Ok-Do-clause-index
returns-in-Ok-Do-clause-index c =
    let grows = c.carry_out_spelled.ensures.grows c.requires.stands in
    index_grows c.args.kept.now (held_of c.args.site.now) (held_of c.carry_out_spelled.new.site) grows.added c.requires.index
    (held_goes c.args.site.now c.carry_out_spelled.new.site c.requires.stands grows)

-- ---- a commit with a key

pub answer_commit-requires : goal.answer_commit-requires
answer_commit-requires c = record {
  spelled = (spells c.schema.result.now c.site.result c.args.site.now c.args.line.now c.in-Ok-Commit.commit c.schema.ensures.value c.site.ensures.value
      (rw c.in-Ok-Commit.field-0-is at c.in-Ok-Commit.ensures.ok)).spelled;
  stands = c.requires.stands;
  index = c.requires.index;
}

pub returns-in-Ok-Commit-clause-ok : goal.returns-in-Ok-Commit-clause-ok
returns-in-Ok-Commit-clause-ok c = λ count.
    c.answer_commit.ensures.ok c.args.line.now count c.args.number
    (spells c.schema.result.now c.site.result c.args.site.now c.args.line.now c.in-Ok-Commit.commit c.schema.ensures.value c.site.ensures.value
    (rw c.in-Ok-Commit.field-0-is at c.in-Ok-Commit.ensures.ok)).asks

pub returns-in-Ok-Commit-clause-left : goal.returns-in-Ok-Commit-clause-left
returns-in-Ok-Commit-clause-left c = λ count.
    c.answer_commit.ensures.left c.args.line.now count c.args.number
    (spells c.schema.result.now c.site.result c.args.site.now c.args.line.now c.in-Ok-Commit.commit c.schema.ensures.value c.site.ensures.value
    (rw c.in-Ok-Commit.field-0-is at c.in-Ok-Commit.ensures.ok)).asks

pub returns-in-Ok-Commit-clause-long : goal.returns-in-Ok-Commit-clause-long
returns-in-Ok-Commit-clause-long c = λ count whole long more. absurd (omega (arith, long, c.in-Ok-Commit.ensures.short))

-- ---- a question for a commit

pub tell_commit-requires : goal.tell_commit-requires
tell_commit-requires c =
    let is : c.bytes.result.now ≡ held_of c.args.site.now = c.bytes.ensures.bytes ∙ held_medium c.args.site.now c.medium.ensures.bytes in
    record {
      index = subst (IsIndexOf c.args.kept.now) (sym is) c.requires.index;
      log = subst IsKept (sym is) (held_kept c.args.site.now c.requires.stands);
    }

pub returns-in-Ok-Kept-clause-ok : goal.returns-in-Ok-Kept-clause-ok
returns-in-Ok-Kept-clause-ok c = λ count.
    let asks = rw c.in-Ok-Kept.field-0-is at c.in-Ok-Kept.ensures.ok in
    let is : c.bytes.result.now ≡ held_of c.args.site.now = c.bytes.ensures.bytes ∙ held_medium c.args.site.now c.medium.ensures.bytes in
    on_ok_weaker c.tell_commit.result
    (λ told. told_commit c.schema.result.now c.site.result c.args.site.now c.schema.ensures.value c.site.ensures.value c.args.keys.now.last c.args.told.now count c.args.number c.args.out.now.items
    c.tell_commit.new.out.items c.args.line.now c.in-Ok-Kept.txn asks
    (told.0, subst (λ (b : List ℕ). TellsCommit b c.in-Ok-Kept.txn told.0) is told.1, told.2)) c.tell_commit.ensures.ok

pub returns-in-Ok-Kept-clause-left : goal.returns-in-Ok-Kept-clause-left
returns-in-Ok-Kept-clause-left c = λ count. any_err _ _ (left_still c.schema.result.now c.site.result c.args.site.now c.schema.ensures.value c.site.ensures.value c.args.keys.now.last c.args.told.now count c.args.number c.args.line.now)

pub returns-in-Ok-Kept-clause-long : goal.returns-in-Ok-Kept-clause-long
returns-in-Ok-Kept-clause-long c = λ count whole long more. absurd (omega (arith, long, c.in-Ok-Kept.ensures.short))

pub returns-in-Ok-Kept-clause-grows : goal.returns-in-Ok-Kept-clause-grows
returns-in-Ok-Kept-clause-grows c = goes_same c.args.site.now c.args.site.now refl c.requires.stands

pub returns-in-Ok-Kept-clause-index : goal.returns-in-Ok-Kept-clause-index
returns-in-Ok-Kept-clause-index c =
    let is : c.bytes.result.now ≡ held_of c.args.site.now = c.bytes.ensures.bytes ∙ held_medium c.args.site.now c.medium.ensures.bytes in
    subst (IsIndexOf c.tell_commit.new.kept) is c.tell_commit.ensures.index

-- ---- a question for a key

pub tell_key-requires : goal.tell_key-requires
tell_key-requires c =
    let is : c.bytes-log.result.now ≡ held_of c.args.site.now = c.bytes-log.ensures.bytes ∙ held_medium c.args.site.now c.medium-in-Ok-KeptKey.ensures.bytes in
    record {
      index = subst (IsIndexOf c.args.kept.now) (sym is) c.requires.index;
      log = subst IsKept (sym is) (held_kept c.args.site.now c.requires.stands);
    }

pub returns-in-Ok-KeptKey-clause-ok : goal.returns-in-Ok-KeptKey-clause-ok
returns-in-Ok-KeptKey-clause-ok c = λ count.
    let asks = rw c.in-Ok-KeptKey.field-0-is at c.in-Ok-KeptKey.ensures.ok in
    let is : c.bytes-log.result.now ≡ held_of c.args.site.now = c.bytes-log.ensures.bytes ∙ held_medium c.args.site.now c.medium-in-Ok-KeptKey.ensures.bytes in
    on_ok_weaker c.tell_key.result
    (λ told. told_key c.schema.result.now c.site.result c.args.site.now c.schema.ensures.value c.site.ensures.value c.args.keys.now.last c.args.told.now count c.args.number c.args.out.now.items
    c.tell_key.new.out.items c.args.line.now c.in-Ok-KeptKey.key.bytes.now c.in-Ok-KeptKey.since asks
    (told.0, subst (λ (b : List ℕ). TellsKey b c.args.keys.now.last c.in-Ok-KeptKey.key.bytes.now told.0) is told.1, told.2)) c.tell_key.ensures.ok

pub returns-in-Ok-KeptKey-clause-left : goal.returns-in-Ok-KeptKey-clause-left
returns-in-Ok-KeptKey-clause-left c = λ count. any_err _ _ (left_still c.schema.result.now c.site.result c.args.site.now c.schema.ensures.value c.site.ensures.value c.args.keys.now.last c.args.told.now count c.args.number c.args.line.now)

pub returns-in-Ok-KeptKey-clause-long : goal.returns-in-Ok-KeptKey-clause-long
returns-in-Ok-KeptKey-clause-long c = λ count whole long more. absurd (omega (arith, long, c.in-Ok-KeptKey.ensures.short))

pub returns-in-Ok-KeptKey-clause-grows : goal.returns-in-Ok-KeptKey-clause-grows
returns-in-Ok-KeptKey-clause-grows c = goes_same c.args.site.now c.args.site.now refl c.requires.stands

pub returns-in-Ok-KeptKey-clause-index : goal.returns-in-Ok-KeptKey-clause-index
returns-in-Ok-KeptKey-clause-index c =
    let is : c.bytes-log.result.now ≡ held_of c.args.site.now = c.bytes-log.ensures.bytes ∙ held_medium c.args.site.now c.medium-in-Ok-KeptKey.ensures.bytes in
    subst (IsIndexOf c.tell_key.new.kept) is c.tell_key.ensures.index

-- ---- a line that asks nothing

pub returns-in-Err-clause-ok : goal.returns-in-Err-clause-ok
returns-in-Err-clause-ok c = λ count.
    on_ok_weaker c.add_bad.result
    (told_bad c.schema.result.now c.site.result c.args.site.now c.schema.ensures.value c.site.ensures.value c.args.keys.now.last c.args.told.now count c.args.number c.args.out.now.items
    c.add_bad.new.out.items c.args.line.now c.in-Err.why c.in-Err.ensures.err) c.add_bad.ensures.ok

pub returns-in-Err-clause-left : goal.returns-in-Err-clause-left
returns-in-Err-clause-left c = λ count. any_err _ _ (left_still c.schema.result.now c.site.result c.args.site.now c.schema.ensures.value c.site.ensures.value c.args.keys.now.last c.args.told.now count c.args.number c.args.line.now)

pub returns-in-Err-clause-long : goal.returns-in-Err-clause-long
returns-in-Err-clause-long c = λ count whole long more.
    on_ok_weaker c.add_bad.result
    (told_long c.schema.result.now c.site.result c.args.site.now c.schema.ensures.value c.site.ensures.value c.args.keys.now.last c.args.told.now count c.args.number c.args.out.now.items
    c.add_bad.new.out.items c.args.line.now whole c.in-Err.why long more c.in-Err.ensures.err) c.add_bad.ensures.ok

pub returns-in-Err-clause-grows : goal.returns-in-Err-clause-grows
returns-in-Err-clause-grows c = goes_same c.args.site.now c.args.site.now refl c.requires.stands

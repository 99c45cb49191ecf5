use Rattle.std.proofs.Common.{◌≡◌, List, ℕ, length, ap, ◌∙◌}
use Rattle.kept_records.specs.declared.medium.End.{End}
use Rattle.kept_records.specs.declared.reading_back.ReadBack.{ReadBack}
use Rattle.kept_records.specs.Medium.{last_bytes}
use Rattle.kept_records.specs.ReadingBack.{PartsAt, EndsAt, ReadsEnd}
use Rattle.kept_records.proofs.reading_back.read_back.Goals as goal

ends_at : (bytes now : List ℕ) (most place : ℕ) (end : End) → end.bytes.items ≡ last_bytes most now → end.length ≡ length now → now ≡ bytes
    → PartsAt bytes place → EndsAt bytes most place end
ends_at bytes now most place end window size same parts = record {
  window = window ∙ ap (λ (b : List ℕ). last_bytes most b) same;
  size = size ∙ ap length same;
  parts = parts;
}

told_by : (bytes now : List ℕ) (most place : ℕ) (end : End) (read : ReadBack) → end.bytes.items ≡ last_bytes most now
    → end.length ≡ length now → now ≡ bytes → PartsAt bytes place
    → ((b : List ℕ) (m : ℕ) → EndsAt b m place end → ReadsEnd b place read) → ReadsEnd bytes place read
told_by bytes now most place end read window size same parts reads =
    reads bytes most (ends_at bytes now most place end window size same parts)

pub take_end-requires : goal.take_end-requires
take_end-requires g c = record {
  ends = (
    g.M.Medium.bytes c.args.medium.now,
    c.loop-end.most,
    ends_at _ _ c.loop-end.most c.args.place c.in_ok-end.end c.in_ok-end.ensures.read c.in_ok-end.ensures.length
        c.loop-end.invariant.bytes c.requires.log,
  );
}

pub returns-in-Ok-Some-clause-last : goal.returns-in-Ok-Some-clause-last
returns-in-Ok-Some-clause-last g c =
    let told = told_by _ _ c.loop-end.most c.args.place c.in_ok-end.end c.in-Ok-Some.read c.in_ok-end.ensures.read
    c.in_ok-end.ensures.length c.loop-end.invariant.bytes c.requires.log
    (rw c.in-Ok-Some.field-0-is at c.in-Ok-Some.ensures.reads) in
    told.last

pub returns-in-Ok-Some-clause-behind : goal.returns-in-Ok-Some-clause-behind
returns-in-Ok-Some-clause-behind g c =
    let told = told_by _ _ c.loop-end.most c.args.place c.in_ok-end.end c.in-Ok-Some.read c.in_ok-end.ensures.read
    c.in_ok-end.ensures.length c.loop-end.invariant.bytes c.requires.log
    (rw c.in-Ok-Some.field-0-is at c.in-Ok-Some.ensures.reads) in
    told.behind

pub returns-in-Ok-Some-clause-whole : goal.returns-in-Ok-Some-clause-whole
returns-in-Ok-Some-clause-whole g c =
    let told = told_by _ _ c.loop-end.most c.args.place c.in_ok-end.end c.in-Ok-Some.read c.in_ok-end.ensures.read
    c.in_ok-end.ensures.length c.loop-end.invariant.bytes c.requires.log
    (rw c.in-Ok-Some.field-0-is at c.in-Ok-Some.ensures.reads) in
    told.whole

pub returns-in-Ok-Some-clause-present : goal.returns-in-Ok-Some-clause-present
returns-in-Ok-Some-clause-present g c =
    let told = told_by _ _ c.loop-end.most c.args.place c.in_ok-end.end c.in-Ok-Some.read c.in_ok-end.ensures.read
    c.in_ok-end.ensures.length c.loop-end.invariant.bytes c.requires.log
    (rw c.in-Ok-Some.field-0-is at c.in-Ok-Some.ensures.reads) in
    told.present

pub returns-in-Ok-Some-clause-within : goal.returns-in-Ok-Some-clause-within
returns-in-Ok-Some-clause-within g c =
    let told = told_by _ _ c.loop-end.most c.args.place c.in_ok-end.end c.in-Ok-Some.read c.in_ok-end.ensures.read
    c.in_ok-end.ensures.length c.loop-end.invariant.bytes c.requires.log
    (rw c.in-Ok-Some.field-0-is at c.in-Ok-Some.ensures.reads) in
    told.within

use Rattle.std.proofs.Common.{◌≡◌, ◌∙◌, ◌++◌, [], List, ℕ, refl, sym, ap, subst, arith, drop, Option, Some, Result, Ok, Err}
use Rattle.std.specs.Prelude.{IfOk}
use Rattle.std.specs.Result.{result_ok}
use Rattle.std.proofs.lemmas.List.{take-append-drop}
use Rattle.std.proofs.lemmas.Option.{same_Some}
use Rattle.field_bounds.specs.Schema.{SchemaValue}
use Rattle.kept_records.specs.declared.record.Record.{Record}
use Rattle.kept_records.specs.declared.reading_back.ReadBack.{ReadBack}
use Rattle.kept_records.specs.Logs.{Reads, IsLog}
use Rattle.kept_records.specs.ReadingBack.{PartsAt, AreLast}
use Rattle.kept_records.specs.Stands.{Lawful}
use Rattle.log_replay.specs.declared.log.Replayed.{Replayed}
use Rattle.log_replay.specs.Replayed.{TellsStanding}
use Rattle.log_replay.specs.Resuming.{IsEnd}
use Rattle.log_tests.proofs.of_log_replay.resumed.Goals as goal

gave : {A E : Type 0} (P : A → Type 0) (r : Result A E) (x : A) → Some x ≡ result_ok r → IfOk r P → P x
gave P (Ok a) x is h = subst P (sym (same_Some x a is)) h
gave P (Err e) x is h = absurd cc

log_of : (bytes held : List ℕ) (rs : List Record) (n : ℕ) → Reads bytes rs n → held ≡ bytes → IsLog held rs (drop n bytes)
log_of bytes held rs n reads same = record {
  parts = same ∙ sym (take-append-drop n bytes) ∙ ap (λ (l : List ℕ). l ++ drop n bytes) reads.whole;
  each = reads.each;
  no_lf = reads.rest;
}

parts_at : (bytes held : List ℕ) (rs : List Record) (n : ℕ) → Reads bytes rs n → held ≡ bytes → PartsAt held 0
parts_at bytes held rs n reads same = record {
  before = [];
  behind = rs;
  rest = drop n bytes;
  log = log_of bytes held rs n reads same;
  place_is = refl;
}

end_is : (schema : SchemaValue) (bytes held : List ℕ) (rs : List Record) (n : ℕ) (read : ReadBack) → Reads bytes rs n → held ≡ bytes
    → Lawful schema 0 rs → AreLast held read.summary read.lines → IsEnd schema 0 rs read
end_is schema bytes held rs n read reads same lawful last = record {
  rest = drop n bytes;
  each = reads.each;
  lawful = lawful;
  holds = last rs (drop n bytes) (log_of bytes held rs n reads same);
}

pub read_back-requires : goal.read_back-requires
read_back-requires c =
    let reads = gave _ c.read_records.result (
      c.in_ok-records.records,
      c.in_ok-records.field-0-1,
    ) c.in_ok-records.ensures.value c.read_records.ensures.reads in
    let same = c.new-medium.ensures.bytes ∙ gave _ c.from_slice.result c.in_ok-ok.field-0 c.in_ok-ok.ensures.value
    c.from_slice.ensures.items in
    record {
      log = parts_at c.as_bytes-bytes.result.now c.new-medium.result.bytes c.in_ok-records.records.items c.in_ok-records.field-0-1
          reads same;
    }

pub resume-requires : goal.resume-requires
resume-requires c =
    let schema = c.in_ok-schema.schema in
    let reads = gave _ c.read_records.result (
      c.in_ok-records.records,
      c.in_ok-records.field-0-1,
    ) c.in_ok-records.ensures.value c.read_records.ensures.reads in
    let same = c.new-medium.ensures.bytes ∙ gave _ c.from_slice.result c.in_ok-ok.field-0 c.in_ok-ok.ensures.value
    c.from_slice.ensures.items in
    let told = subst (λ (x : Replayed). TellsStanding schema 0 c.deref.result.now x) c.in-Ok-Standing.field-0-is
    c.in-Ok-Standing.ensures.standing in
    let lawful = subst (λ (x : List Record). Lawful schema 0 x) c.deref.ensures.value told.0 in
    let last = gave _ c.read_back.result c.in_ok-end.end c.in_ok-end.ensures.value c.read_back.ensures.last in
    record {
      site_in = omega (arith, c.sites.ensures.value, c.if-sites-ne2.false);
      end_ = (
        c.in_ok-records.records.items,
        end_is schema c.as_bytes-bytes.result.now c.new-medium.result.bytes
            c.in_ok-records.records.items c.in_ok-records.field-0-1 c.in_ok-end.end reads same lawful last,
      );
    }

pub read_off-requires : goal.read_off-requires
read_off-requires c =
    let schema = c.in_ok-schema.schema in
    let reads = gave _ c.read_records.result (
      c.in_ok-records.records,
      c.in_ok-records.field-0-1,
    ) c.in_ok-records.ensures.value c.read_records.ensures.reads in
    let same = c.new-medium.ensures.bytes ∙ gave _ c.from_slice.result c.in_ok-ok.field-0 c.in_ok-ok.ensures.value
    c.from_slice.ensures.items in
    let told = subst (λ (x : Replayed). TellsStanding schema 0 c.deref.result.now x) c.in-Ok-Standing.field-0-is
    c.in-Ok-Standing.ensures.standing in
    let lawful = subst (λ (x : List Record). Lawful schema 0 x) c.deref.ensures.value told.0 in
    let last = gave _ c.read_back.result c.in_ok-end.end c.in_ok-end.ensures.value c.read_back.ensures.last in
    let end_ = end_is schema c.as_bytes-bytes.result.now c.new-medium.result.bytes c.in_ok-records.records.items c.in_ok-records.field-0-1
    c.in_ok-end.end reads same lawful last in
    let stands = (c.in-Ok.ensures.standing c.in_ok-records.records.items end_).for_ in
    record {
      rights = omega (arith, stands.count, c.fields.ensures.value, c.if-fields-ne1.false);
      place = stands.place 1 0
          (record {
            other = λ one. absurd (omega (arith, one));
            site_in = omega (arith, c.sites.ensures.value, c.if-sites-ne2.false);
            field_in = omega (arith, c.fields.ensures.value, c.if-fields-ne1.false);
          });
    }

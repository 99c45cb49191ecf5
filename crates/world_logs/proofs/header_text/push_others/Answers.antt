use Rattle.std.proofs.Common.{◌≡◌, ℕ, suc, ◌+◌, ◌-◌, ◌<◌, ◌≤◌, List, ◌++◌, length, take, drop, string_bytes, ◌∙◌, ap, arith, length-drop, take_all}
use Rattle.field_bounds.specs.Schema.{FieldValue}
use Rattle.field_bounds.specs.Parts.{no_field}
use Rattle.world_logs.specs.HeaderText.{others_text}
use Rattle.world_logs.proofs.HeaderLines.{one_more}
use Rattle.world_logs.proofs.header_text.push_others.Goals as goal

pub loop-number-preserved : goal.loop-number-preserved
loop-number-preserved c =
    let fs = c.args.schema.now.fields in
    let h0 = string_bytes c.args.header.now in
    let n = c.loop-number.number in
    let low : 1 ≤ n = omega arith in
    let same : suc (n - 1) ≡ n + 1 - 1 = omega (arith, low) in
    let below : n < length fs = omega (arith, c.loop-number-test.true, c.fields-number-end.ensures.value) in
    one_more h0 (string_bytes c.loop-number.header) (string_bytes c.push_str.new.self) (string_bytes c.push_field.new.header) fs n (n - 1)
    no_field (omega (arith, low)) below c.loop-number.invariant c.in_ok-push_str.ensures.bytes c.in_ok-push_field.ensures.ok
    ∙ ap (λ (i : ℕ). h0 ++ others_text (take i (drop 1 fs))) same

pub returns : goal.returns
returns c =
    let fs = c.args.schema.now.fields in
    let h0 = string_bytes c.args.header.now in
    let n = c.loop-number.number in
    let all : length (drop 1 fs) ≤ n - 1 =
    omega (arith, length-drop 1 fs, c.loop-number-test.false, c.fields-number-end.ensures.value) in
    record { ok = c.loop-number.invariant ∙ ap (λ (l : List FieldValue). h0 ++ others_text l) (take_all (n - 1) (drop 1 fs) all) }

use Rattle.std.proofs.Common.{◌≡◌, List, ℕ, [], sym, subst, refl, ◌∙◌, Some, Result, Ok, Err}
use Rattle.std.specs.Prelude.{IfOk}
use Rattle.std.specs.Result.{result_ok}
use Rattle.std.proofs.lemmas.Option.{same_Some}
use Rattle.kept_records.specs.Keeping.{IsKept}
use Rattle.kept_records_tests.proofs.end_tests.told_back.Goals as goal

gave : {A E : Type 0} (P : A → Type 0) (r : Result A E) (x : A) → Some x ≡ result_ok r → IfOk r P → P x
gave P (Ok a) x is h = subst P (sym (same_Some x a is)) h
gave P (Err e) x is h = absurd cc

pub read_back-requires : goal.read_back-requires
read_back-requires c =
    let kept = subst IsKept (sym c.new-medium.ensures.bytes) c.in_ok-log_of.ensures in
    record { log = record { before = []; behind = kept.0; rest = kept.1; log = kept.2; place_is = refl } }

pub handed_out-requires : goal.handed_out-requires
handed_out-requires c =
    let kept = subst IsKept (sym c.new-medium.ensures.bytes) c.in_ok-log_of.ensures in
    let last = gave _ c.read_back.result c.in_ok-read.read c.in_ok-read.ensures.value c.read_back.ensures.last in
    let held = last kept.0 kept.1 kept.2 in
    subst IsKept (sym c.as_slice.ensures.all) (held.found, kept.1, held.log)

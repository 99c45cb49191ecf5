use Rattle.std.proofs.Common.{◌≡◌, Bool, true, false, ◌||◌, refl}
use Rattle.std.specs.Prelude.{if◌then◌else◌}
use Rattle.field_bounds.specs.declared.id.TxnId.{TxnId}
use Rattle.log_head.specs.declared.horizon.CommitAnswer.TheVariants.{No, Forgotten}
use Rattle.log_head.specs.Horizons.{HorizonValue, is_passed, answer_of, IsRight, IsHorizonOf}
use Rattle.log_head.proofs.laws.kept_answers_are_right.Goals as goal

or_true : (b : Bool) → (b || true) ≡ true
or_true true = refl
or_true false = refl

not_held : (p c : Bool) → (c ≡ true → p ≡ true) → IsRight (if p then Forgotten else No) (c || false)
not_held true c is = tt
not_held false true is = let also : false ≡ true = is refl in absurd cc
not_held false false is = refl

right_of : (h : HorizonValue) (txn : TxnId) (c held : Bool) → (c ≡ true → is_passed h txn ≡ true) → IsRight (answer_of h txn held) (c || held)
right_of h txn c true is = or_true c
right_of h txn c false is = not_held (is_passed h txn) c is

pub returns : goal.returns
returns c = record { right = λ horizon txn gone held is. right_of horizon txn (gone txn) (held txn) (is txn) }

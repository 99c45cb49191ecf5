-- What is answered of a commit or a key, by what is held and what is told of what was let go, is right of all records.
use Rattle.std.proofs.Common.{◌≡◌, ◌||◌, Bool, true, false, if◌then◌else◌, List, [], ◌++◌, Option, None, Some, refl, sym, ap, ◌∙◌, subst}
use Rattle.std.proofs.lemmas.List.Folds.{list_any-append}
use Rattle.field_bounds.specs.declared.id.TxnId.{TxnId}
use Rattle.kept_records.specs.declared.record.Record.{Record}
use Rattle.kept_records.proofs.Lines.{same_log}
use Rattle.log_head.specs.declared.gone.Gone.{Gone}
use Rattle.log_head.specs.declared.horizon.CommitAnswer.{CommitAnswer}
use Rattle.log_head.specs.Horizons.{HorizonValue, is_passed, answer_of, IsRight}
use Rattle.site_step.specs.Site.{SiteValue}
use Rattle.field_bounds.specs.Effects.{is_up_to}
use Rattle.site_step.specs.Shortening.{held_of, is_commit_of, has_commit}
use Rattle.site_service.specs.declared.key_answer.KeyAnswer.{KeyAnswer}
use Rattle.site_service.specs.declared.key_answer.KeyAnswer.TheVariants.{No, Forgotten}
use Rattle.site_service.specs.LetGo.{IsTold, let_go_of, commit_answer, may_be_gone, reach_of, spares_since, key_answer, HasNoneSince, IsRightOfKey}
use Rattle.site_service.specs.Kept.{TellsCommit, IsRightOf}
use Rattle.site_service.specs.Service.{StandsOnHeld}
use Rattle.site_service.proofs.Held.{held_log}
use Rattle.site_service.proofs.Spares.{up_trans, passed_up}

-- of a transaction whose commit isn't held, that of one that isn't among those that are gone either is no
beyond : (h : HorizonValue) (txn : TxnId) (gone passed : Bool) → (gone ≡ true → passed ≡ true) → is_passed h txn ≡ passed
    → IsRight (answer_of h txn false) (gone || false)
beyond h txn gone true reaches is = rw is tt
beyond h txn true false reaches is = let none : false ≡ true = reaches refl in absurd cc
beyond h txn false false reaches is = rw is refl

right_by : (told : Option Gone) (txn : TxnId) (gone held : Bool) → (told ≡ None → gone ≡ false) → (gone ≡ true → may_be_gone told txn ≡ true)
    → IsRight (commit_answer told txn held) (gone || held)
right_by None txn true held none reaches = let no : true ≡ false = none refl in absurd cc
right_by None txn false true none reaches = refl
right_by None txn false false none reaches = refl
right_by (Some g) txn true true none reaches = refl
right_by (Some g) txn false true none reaches = refl
right_by (Some g) txn gone false none reaches = beyond g.horizon txn gone (is_passed g.horizon txn) reaches refl

pub right_of : (v : SiteValue) (stands : StandsOnHeld v) (told : Option Gone) → IsTold (let_go_of v.gone told) → (txn : TxnId) (found : Bool)
    (answer : CommitAnswer) → TellsCommit (held_of v) txn found → answer ≡ commit_answer told txn found → IsRightOf v.bytes txn answer
right_of v stands told is txn found answer tells answered rs rest log =
    let all : rs ≡ v.gone ++ stands.held = (same_log v.bytes rs stands.log.all rest [] log stands.log.log).0 ∙ stands.parts in
    let held : found ≡ has_commit txn stands.held = tells stands.held [] (held_log v stands) in
    let both : has_commit txn rs ≡ (has_commit txn v.gone || found) =
    ap (has_commit txn) all ∙ list_any-append (is_commit_of txn) v.gone stands.held
    ∙ ap (λ (b : Bool). has_commit txn v.gone || b) (sym held) in
    let right : IsRight (commit_answer told txn found) (has_commit txn v.gone || found) =
    right_by told txn (has_commit txn v.gone) found (λ none. ap (has_commit txn) (is.none none)) (is.horizon txn) in
    subst (λ (a : CommitAnswer). IsRight a (has_commit txn rs)) (sym answered)
    (subst (IsRight (commit_answer told txn found)) (sym both) right)

-- ---- a key

isnt : (b : Bool) → (b ≡ true → ⊥) → b ≡ false
isnt true h = absurd (h refl)
isnt false h = refl

apart : (b : Bool) → b ≡ true → b ≡ false → ⊥
apart true e h = absurd cc
apart false e h = absurd cc

spared : (gone : List Record) (told : Option Gone) → IsTold (let_go_of gone told) → (since : Option TxnId)
    → spares_since told since ≡ true → HasNoneSince gone since
spared gone None is None e = is.none refl
spared gone None is (Some since) e = λ txn behind. ap (has_commit txn) (is.none refl)
spared gone (Some g) is None e = absurd cc
spared gone (Some g) is (Some since) e = λ txn behind.
    isnt (has_commit txn gone)
    (λ among. apart (is_up_to since txn) (up_trans since (reach_of g) txn e (passed_up g.horizon txn (is.horizon txn among))) behind)

by_no : (b : Bool) → (if b then No else Forgotten) ≡ No → b ≡ true
by_no true e = refl
by_no false e = absurd cc

no_spares : (told : Option Gone) (since kept : Option TxnId) → key_answer told since kept ≡ No → spares_since told since ≡ true
no_spares told since None e = by_no (spares_since told since) e
no_spares told since (Some txn) e = absurd cc

pub right_key : (gone : List Record) (told : Option Gone) → IsTold (let_go_of gone told) → (since kept : Option TxnId) (answer : KeyAnswer)
    → answer ≡ key_answer told since kept → IsRightOfKey gone since answer
right_key gone told is since kept answer answers none = spared gone told is since (no_spares told since kept (sym answers ∙ none))

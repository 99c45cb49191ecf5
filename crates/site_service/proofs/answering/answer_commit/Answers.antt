use Rattle.std.proofs.Common.{◌≡◌, ◌++◌, List, ℕ, refl, sym, subst, ◌∙◌}
use Rattle.std.proofs.lemmas.Result.{on_ok_weaker, on_err_weaker}
use Rattle.kept_records.specs.Keeping.{IsKept}
use Rattle.site_service.specs.declared.key_answer.KeyAnswer.{KeyAnswer}
use Rattle.site_service.specs.declared.key_answer.KeyAnswer.TheVariants.{Kept, No, Forgotten}
use Rattle.site_service.specs.Kept.{TellsKey, kept_key_words}
use Rattle.request_lines.specs.Requests.{kept_key_text}
use Rattle.site_service.specs.Index.{IsIndexOf}
use Rattle.site_service.proofs.Index.{index_grows}
use Rattle.site_step.specs.Shortening.{held_of}
use Rattle.site_service.proofs.Held.{held_medium, held_kept, held_goes, goes_same}
use Rattle.site_service.proofs.Told.{any_err, left_still, told_refused, told_committed, left_committed}
use Rattle.site_service.proofs.answering.answer_commit.Goals as goal

pub kept_with-requires : goal.kept_with-requires
kept_with-requires c =
    let is : c.bytes.result.now ≡ held_of c.args.site.now = c.bytes.ensures.bytes ∙ held_medium c.args.site.now c.medium.ensures.bytes in
    record {
      index = subst (IsIndexOf c.args.kept.now) (sym is) c.requires.index;
      log = subst IsKept (sym is) (held_kept c.args.site.now c.requires.stands);
    }

pub returns-in_err-found-clause-left : goal.returns-in_err-found-clause-left
returns-in_err-found-clause-left c = λ line count number asks.
    any_err _ _ (left_still c.args.site.now.schema c.args.site.now.site c.args.site.now refl refl c.args.keys.now.last c.args.told.now count number line)

pub returns-in_err-found-clause-grows : goal.returns-in_err-found-clause-grows
returns-in_err-found-clause-grows c = goes_same c.args.site.now c.args.site.now refl c.requires.stands

pub returns-in_err-found-clause-index : goal.returns-in_err-found-clause-index
returns-in_err-found-clause-index c =
    let is : c.bytes.result.now ≡ held_of c.args.site.now = c.bytes.ensures.bytes ∙ held_medium c.args.site.now c.medium.ensures.bytes in
    subst (IsIndexOf c.kept_with.new.kept) is c.kept_with.ensures.index

pub returns-in-Kept-clause-ok : goal.returns-in-Kept-clause-ok
returns-in-Kept-clause-ok c = λ line count number asks.
    let is : c.bytes.result.now ≡ held_of c.args.site.now = c.bytes.ensures.bytes ∙ held_medium c.args.site.now c.medium.ensures.bytes in
    let found = c.in_ok-found.found in
    let tells : TellsKey (held_of c.args.site.now) c.args.keys.now.last c.args.commit.key.bytes.now found =
    subst (λ (b : List ℕ). TellsKey b c.args.keys.now.last c.args.commit.key.bytes.now found) is c.in_ok-found.ensures.kept in
    on_ok_weaker c.add_kept_key.result
    (λ added. told_refused c.args.site.now.schema c.args.site.now.site c.args.site.now refl refl c.args.keys.now.last c.args.told.now count number line
    c.args.commit.txn c.args.commit.key.bytes.now c.args.commit.since asks found tells c.key_answer.result c.key_answer.ensures c.args.out.now.items c.add_kept_key.new.out.items
    (λ e. let other : Kept c.in-Kept.other ≡ No = sym c.in-Kept.is ∙ e in cc)
    (subst (λ (a : KeyAnswer). c.add_kept_key.new.out.items ≡ c.args.out.now.items ++ (kept_key_text c.args.commit.key.bytes.now ++ kept_key_words a))
    (sym c.in-Kept.is) added)) c.add_kept_key.ensures.ok

pub returns-in-Kept-clause-left : goal.returns-in-Kept-clause-left
returns-in-Kept-clause-left c = λ line count number asks.
    any_err _ _ (left_still c.args.site.now.schema c.args.site.now.site c.args.site.now refl refl c.args.keys.now.last c.args.told.now count number line)

pub returns-in-Kept-clause-grows : goal.returns-in-Kept-clause-grows
returns-in-Kept-clause-grows c = goes_same c.args.site.now c.args.site.now refl c.requires.stands

pub returns-in-Kept-clause-index : goal.returns-in-Kept-clause-index
returns-in-Kept-clause-index c =
    let is : c.bytes.result.now ≡ held_of c.args.site.now = c.bytes.ensures.bytes ∙ held_medium c.args.site.now c.medium.ensures.bytes in
    subst (IsIndexOf c.kept_with.new.kept) is c.kept_with.ensures.index

pub returns-in-Forgotten-clause-ok : goal.returns-in-Forgotten-clause-ok
returns-in-Forgotten-clause-ok c = λ line count number asks.
    let is : c.bytes.result.now ≡ held_of c.args.site.now = c.bytes.ensures.bytes ∙ held_medium c.args.site.now c.medium.ensures.bytes in
    let found = c.in_ok-found.found in
    let tells : TellsKey (held_of c.args.site.now) c.args.keys.now.last c.args.commit.key.bytes.now found =
    subst (λ (b : List ℕ). TellsKey b c.args.keys.now.last c.args.commit.key.bytes.now found) is c.in_ok-found.ensures.kept in
    on_ok_weaker c.add_kept_key-in-Forgotten.result
    (λ added. told_refused c.args.site.now.schema c.args.site.now.site c.args.site.now refl refl c.args.keys.now.last c.args.told.now count number line
    c.args.commit.txn c.args.commit.key.bytes.now c.args.commit.since asks found tells c.key_answer.result c.key_answer.ensures c.args.out.now.items c.add_kept_key-in-Forgotten.new.out.items
    (λ e. let other : Forgotten ≡ No = sym c.in-Forgotten.is ∙ e in cc)
    (subst (λ (a : KeyAnswer). c.add_kept_key-in-Forgotten.new.out.items ≡ c.args.out.now.items ++ (kept_key_text c.args.commit.key.bytes.now ++ kept_key_words a))
    (sym c.in-Forgotten.is) added)) c.add_kept_key-in-Forgotten.ensures.ok

pub returns-in-Forgotten-clause-left : goal.returns-in-Forgotten-clause-left
returns-in-Forgotten-clause-left c = λ line count number asks.
    any_err _ _ (left_still c.args.site.now.schema c.args.site.now.site c.args.site.now refl refl c.args.keys.now.last c.args.told.now count number line)

pub returns-in-Forgotten-clause-grows : goal.returns-in-Forgotten-clause-grows
returns-in-Forgotten-clause-grows c = goes_same c.args.site.now c.args.site.now refl c.requires.stands

pub returns-in-Forgotten-clause-index : goal.returns-in-Forgotten-clause-index
returns-in-Forgotten-clause-index c =
    let is : c.bytes.result.now ≡ held_of c.args.site.now = c.bytes.ensures.bytes ∙ held_medium c.args.site.now c.medium.ensures.bytes in
    subst (IsIndexOf c.kept_with.new.kept) is c.kept_with.ensures.index

pub returns-in-No-clause-ok : goal.returns-in-No-clause-ok
returns-in-No-clause-ok c = λ line count number asks.
    let is : c.bytes.result.now ≡ held_of c.args.site.now = c.bytes.ensures.bytes ∙ held_medium c.args.site.now c.medium.ensures.bytes in
    let found = c.in_ok-found.found in
    let tells : TellsKey (held_of c.args.site.now) c.args.keys.now.last c.args.commit.key.bytes.now found =
    subst (λ (b : List ℕ). TellsKey b c.args.keys.now.last c.args.commit.key.bytes.now found) is c.in_ok-found.ensures.kept in
    on_ok_weaker c.commit_spelled.result
    (told_committed c.args.site.now.schema c.args.site.now.site c.args.site.now refl refl c.args.keys.now.last c.args.told.now count number line
    c.args.commit.txn c.args.commit.key.bytes.now c.args.commit.since asks found tells c.key_answer.result c.key_answer.ensures c.in-No.is c.commit_spelled.new.site c.commit_spelled.new.keys.last c.args.out.now.items c.commit_spelled.new.out.items)
    c.commit_spelled.ensures.ok

pub returns-in-No-clause-left : goal.returns-in-No-clause-left
returns-in-No-clause-left c = λ line count number asks.
    let is : c.bytes.result.now ≡ held_of c.args.site.now = c.bytes.ensures.bytes ∙ held_medium c.args.site.now c.medium.ensures.bytes in
    let found = c.in_ok-found.found in
    let tells : TellsKey (held_of c.args.site.now) c.args.keys.now.last c.args.commit.key.bytes.now found =
    subst (λ (b : List ℕ). TellsKey b c.args.keys.now.last c.args.commit.key.bytes.now found) is c.in_ok-found.ensures.kept in
    on_err_weaker c.commit_spelled.result
    (left_committed c.args.site.now.schema c.args.site.now.site c.args.site.now refl refl c.args.keys.now.last c.args.told.now count number line
    c.args.commit.txn c.args.commit.key.bytes.now c.args.commit.since asks found tells c.key_answer.result c.key_answer.ensures c.in-No.is c.commit_spelled.new.site c.commit_spelled.new.keys.last) c.commit_spelled.ensures.left

pub returns-in-No-clause-grows : goal.returns-in-No-clause-grows
returns-in-No-clause-grows c = c.commit_spelled.ensures.grows c.requires.stands

pub returns-in-No-clause-index : goal.returns-in-No-clause-index
returns-in-No-clause-index c =
    let is : c.bytes.result.now ≡ held_of c.args.site.now = c.bytes.ensures.bytes ∙ held_medium c.args.site.now c.medium.ensures.bytes in
    let grows = c.commit_spelled.ensures.grows c.requires.stands in
    index_grows c.kept_with.new.kept (held_of c.args.site.now) (held_of c.commit_spelled.new.site) grows.added
    (subst (IsIndexOf c.kept_with.new.kept) is c.kept_with.ensures.index)
    (held_goes c.args.site.now c.commit_spelled.new.site c.requires.stands grows)

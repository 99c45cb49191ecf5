-- A site whose log is shortened is sound, and what it was but for what is gone.
use Rattle.std.proofs.Common.{◌≡◌, ℕ, ◌<◌, ◌≤◌, ◌^◌, Bool, true, false, List, [], ◌∷◌, ◌++◌, length, take, drop, refl, sym, ◌∙◌, ap, subst, inl, inr, arith, append_assoc}
use Rattle.std.specs.Prelude.{◌==◌, ◌&&◌, ◌||◌, if◌then◌else◌, fold}
use Rattle.std.specs.List.{flat_map}
use Rattle.std.proofs.Math.Seq.{drop-append_seam}
use Rattle.std.proofs.lemmas.Bool.{cases_lt, false≢true}
use Rattle.std.proofs.lemmas.Bool.Decides.{nat_tests}
use Rattle.std.proofs.lemmas.List.{append-nil}
use Rattle.std.proofs.lemmas.List.Concat.{flat_map-append}
use Rattle.field_bounds.specs.declared.id.TxnId.{TxnId}
use Rattle.kept_records.specs.declared.record.Record.{Record}
use Rattle.kept_records.specs.declared.record.Record.TheVariants.{Commit, Gift, Accept, Tighten, Restart, Summary}
use Rattle.kept_records.specs.Text.{text}
use Rattle.kept_records.specs.Summary.{summary_record}
use Rattle.kept_records.specs.Logs.{IsLog}
use Rattle.kept_records.specs.Keeping.{IsKept}
use Rattle.kept_records.specs.ReadingBack.{told_length}
use Rattle.kept_records.specs.Stands.{plain}
use Rattle.kept_records.proofs.Lines.{same_log}
use Rattle.site_step.specs.declared.accounts.SiteAccounts.{SiteAccounts}
use Rattle.site_step.specs.declared.extent.Extent.{Extent}
use Rattle.site_step.specs.Site.{SiteValue}
use Rattle.site_step.specs.State.{IsSoundSite, ReachesAll}
use Rattle.site_step.specs.Resuming.{all_bytes}
use Rattle.field_bounds.specs.Effects.{is_up_to}
use Rattle.site_step.specs.Shortening.{ShorteningValue, held_of, is_commit_of, has_commit, later_commit, latest_commit, IsShortening, CanGo, IsFrontEnd}
use Rattle.site_step.proofs.Extents.{reach_all}
use Rattle.site_step.proofs.Restarts.{held_log}
use Rattle.site_step.proofs.Splits.{SplitAt, split_at, can_go, stays_enough, front_ends}

-- ---- the greatest commit

later_up : (a b txn : TxnId) → is_up_to a b ≡ false → is_up_to a txn ≡ true → is_up_to b txn ≡ true
later_up a b txn later up = grind (arith, nat_tests)

own_up : (t txn : TxnId) → (t.epoch == txn.epoch && t.number == txn.number) ≡ true → is_up_to t txn ≡ true
own_up t txn same = grind (arith, nat_tests)

still_by : (latest t txn : TxnId) (b : Bool) → is_up_to latest t ≡ b → is_up_to latest txn ≡ true
    → is_up_to (if b then latest else t) txn ≡ true
still_by latest t txn true is up = up
still_by latest t txn false is up = later_up latest t txn is up

still_up : (latest : TxnId) (r : Record) (txn : TxnId) → is_up_to latest txn ≡ true → is_up_to (later_commit latest r) txn ≡ true
still_up latest (Commit t es) txn up = still_by latest t txn (is_up_to latest t) refl up
still_up latest (Gift to f k total) txn up = up
still_up latest (Accept from f k total) txn up = up
still_up latest (Tighten f k total) txn up = up
still_up latest (Restart epoch) txn up = up
still_up latest (Summary epoch rights gifts accepts tightenings) txn up = up

same_up : (latest t txn : TxnId) → (t.epoch == txn.epoch && t.number == txn.number) ≡ true → is_up_to latest t ≡ true
    → is_up_to latest txn ≡ true
same_up latest t txn same up = grind (arith, nat_tests)

commit_by : (latest t txn : TxnId) (b : Bool) → is_up_to latest t ≡ b → (t.epoch == txn.epoch && t.number == txn.number) ≡ true
    → is_up_to (if b then latest else t) txn ≡ true
commit_by latest t txn true is same = same_up latest t txn same is
commit_by latest t txn false is same = own_up t txn same

commit_up : (latest : TxnId) (r : Record) (txn : TxnId) → is_commit_of txn r ≡ true → is_up_to (later_commit latest r) txn ≡ true
commit_up latest (Commit t es) txn is = commit_by latest t txn (is_up_to latest t) refl is
commit_up latest (Gift to f k total) txn is = absurd (false≢true is)
commit_up latest (Accept from f k total) txn is = absurd (false≢true is)
commit_up latest (Tighten f k total) txn is = absurd (false≢true is)
commit_up latest (Restart epoch) txn is = absurd (false≢true is)
commit_up latest (Summary epoch rights gifts accepts tightenings) txn is = absurd (false≢true is)

-- up to the greatest so far, or among the records
stays_up : (rs : List Record) (latest txn : TxnId) → is_up_to latest txn ≡ true → is_up_to (fold later_commit latest rs) txn ≡ true
stays_up [] latest txn up = up
stays_up (r ∷ rs) latest txn up = stays_up rs (later_commit latest r) txn (still_up latest r txn up)

folds_by : (r : Record) (rs : List Record) (latest txn : TxnId) (b : Bool) → is_commit_of txn r ≡ b → (b || has_commit txn rs) ≡ true
    → ((has : has_commit txn rs ≡ true) → is_up_to (fold later_commit (later_commit latest r) rs) txn ≡ true)
    → is_up_to (fold later_commit latest (r ∷ rs)) txn ≡ true
folds_by r rs latest txn true is has more = stays_up rs (later_commit latest r) txn (commit_up latest r txn is)
folds_by r rs latest txn false is has more = more has

folds_up : (rs : List Record) (latest txn : TxnId) → has_commit txn rs ≡ true → is_up_to (fold later_commit latest rs) txn ≡ true
folds_up [] latest txn has = absurd (false≢true has)
folds_up (r ∷ rs) latest txn has =
    folds_by r rs latest txn (is_commit_of txn r) refl has (λ more. folds_up rs (later_commit latest r) txn more)

up_to_latest : (rs : List Record) (txn : TxnId) → has_commit txn rs ≡ true → is_up_to (latest_commit rs) txn ≡ true
unfolding latest_commit
up_to_latest rs txn has = folds_up rs (record { epoch = 0; number = 0 }) txn has

-- ---- a site that is up

-- what is held of it
module _ (v : SiteValue) (up : Bool) (extent : Extent) (a : SiteAccounts) (was : IsSoundSite v up extent a) (old : List ℕ)
    (whole : v.bytes ≡ all_bytes v.gone old) where
  pub held_is : held_of v ≡ old
  held_is = ap (drop (length (flat_map text v.gone))) whole ∙ drop-append_seam (flat_map text v.gone) old

  pub held_log_up : up ≡ true → IsLog old was.held []
  held_log_up is = subst (λ (rest : List ℕ). IsLog old was.held rest) (was.clean is).0 (held_log v up extent a was whole)

  -- where a front is cut off and what is told of it is noted, the log can be shortened so
  module _ (is_now : up ≡ true) (keep place : ℕ) (ends : IsFrontEnd old keep place) where
    abbrev split : SplitAt old was.held place
    split = split_at old was.held place (held_log_up is_now) ends.line

    pub front_kept : IsKept (take place old)
    front_kept = (split.gone, [], split.front)

    module _ (plan : ShorteningValue) (held : plan.held ≡ drop place old)
        (gone : (rs : List Record) (rest : List ℕ) → IsLog (take place old) rs rest → plan.gone ≡ rs)
        (records : plan.records ≡ length (plain plan.gone)) (latest : plan.latest ≡ latest_commit plan.gone) where
      abbrev gone_is : plan.gone ≡ split.gone
      gone_is = gone split.gone [] split.front

      pub is_shortening : IsShortening v plan
      is_shortening =
          let parts : was.held ≡ plan.gone ++ summary_record split.base ∷ split.behind =
          split.parts ∙ ap (λ (x : List Record). x ++ summary_record split.base ∷ split.behind) (sym gone_is) in
          record {
            base = split.base;
            behind = split.behind;
            up = sym was.up_is ∙ is_now;
            log = subst (λ (b : List ℕ). IsLog b (plan.gone ++ summary_record split.base ∷ split.behind) []) (sym held_is)
                (subst (λ (x : List Record). IsLog old x []) parts (held_log_up is_now));
            held = subst (λ (b : List ℕ). IsLog b (summary_record split.base ∷ split.behind) []) (sym held) split.stays;
            count = records;
            latest = λ txn has. subst (λ (t : TxnId). is_up_to t txn ≡ true) (sym latest) (up_to_latest plan.gone txn has);
          }

      pub goes : CanGo (held_of v) keep plan.gone
      goes = subst (λ (b : List ℕ). CanGo b keep plan.gone) (sym held_is)
          (subst (λ (x : List Record). CanGo old keep x) (sym gone_is) (can_go old keep place was.held (held_log_up is_now) ends split))

      pub keeps_enough : keep ≤ length plan.held
      keeps_enough = omega (arith, stays_enough old keep place was.held ends split, ap length held)

      pub goes_most : ((other : ℕ) → place < other → IsFrontEnd old keep other → ⊥) → (rs : List Record) → CanGo (held_of v) keep rs
          → length (flat_map text rs) ≤ length (flat_map text plan.gone)
      goes_most last rs can = elim (cases_lt place (length (flat_map text rs))) [
        | inl past ↦ absurd (last (length (flat_map text rs)) past (front_ends old keep rs (subst (λ (b : List ℕ). CanGo b keep rs) held_is can)))
        | inr within ↦ omega (arith, within, split.size, ap (λ (x : List Record). length (flat_map text x)) gone_is)
      ]

  pub none_goes : (keep : ℕ) → ((place : ℕ) → IsFrontEnd old keep place → ⊥) → (rs : List Record) → CanGo (held_of v) keep rs → ⊥
  none_goes keep none rs can = none (length (flat_map text rs)) (front_ends old keep rs (subst (λ (b : List ℕ). CanGo b keep rs) held_is can))

module _ (v : SiteValue) (up : Bool) (extent : Extent) (a : SiteAccounts) (was : IsSoundSite v up extent a) (old : List ℕ)
    (whole : v.bytes ≡ all_bytes v.gone old) (plan : ShorteningValue) (is : IsShortening v plan) where
  abbrev stays : List Record
  stays = summary_record is.base ∷ is.behind

  -- the records that were held are those that go and those that stay
  parts : was.held ≡ plan.gone ++ stays
  parts = (same_log old was.held (plan.gone ++ stays) was.rest [] (held_log v up extent a was whole)
      (subst (λ (b : List ℕ). IsLog b (plan.gone ++ stays) []) (held_is v up extent a was old whole) is.log)).0

  bytes_are : all_bytes (v.gone ++ plan.gone) plan.held ≡ v.bytes
  bytes_are =
      let goes : old ≡ flat_map text plan.gone ++ plan.held =
      sym (held_is v up extent a was old whole) ∙ is.log.parts ∙ ap (λ (l : List ℕ). l ++ []) (flat_map-append text plan.gone stays)
      ∙ append_assoc (flat_map text plan.gone) (flat_map text stays) []
      ∙ ap (λ (l : List ℕ). flat_map text plan.gone ++ l) (sym is.held.parts) in
      ap (λ (l : List ℕ). l ++ plan.held) (flat_map-append text v.gone plan.gone)
      ∙ append_assoc (flat_map text v.gone) (flat_map text plan.gone) plan.held
      ∙ ap (λ (l : List ℕ). flat_map text v.gone ++ l) (sym goes) ∙ sym whole

  up_now : up ≡ true
  up_now = was.up_is ∙ is.up

  abbrev shorter : ℕ → Extent
  shorter size = record { count = extent.count; length = size; behind = extent.behind }

  reached : (size : ℕ) → size ≡ told_length (length plan.held) → ReachesAll (shorter size) stays was.records
  reached size size_is =
      let all = (was.clean up_now).1 in
      record {
        count = all.count;
        length_is = size_is ∙ ap (λ (l : List ℕ). told_length (length l)) (is.held.parts ∙ append-nil (flat_map text stays));
        behind = all.behind;
        few = all.few;
      }

  now_parts : was.records ≡ (v.gone ++ plan.gone) ++ stays
  now_parts = was.parts ∙ ap (λ (l : List Record). v.gone ++ l) parts ∙ sym (append_assoc v.gone plan.gone stays)

  pub shortened : (size : ℕ) → size ≡ told_length (length plan.held)
      → IsSoundSite (record v { gone = v.gone ++ plan.gone }) up (shorter size) a
  shortened size size_is =
      record {
        ground = was.ground;
        records = was.records;
        rest = was.rest;
        kept = was.kept;
        log = was.log;
        lawful = was.lawful;
        run = was.run;
        keeps = was.keeps;
        up_is = was.up_is;
        held = stays;
        parts = now_parts;
        begins = inr refl;
        clean = λ u. ((was.clean u).0, reached size size_is);
        reaches = reach_all (shorter size) (v.gone ++ plan.gone) stays was.records now_parts (reached size size_is);
        place = was.place;
        in_doubt = was.in_doubt;
        few = was.few;
        replays = was.replays;
        stands = was.stands;
      }

  -- as it is made
  pub shortened_so : (size : ℕ) (gone : List Record) (bytes : List ℕ) → size ≡ told_length (length plan.held) → gone ≡ v.gone ++ plan.gone
      → bytes ≡ plan.held
      → IsSoundSite (record v { bytes = all_bytes gone bytes; gone = gone }) up (shorter size) a
  shortened_so size gone bytes size_is gone_is bytes_is =
      subst (λ (l : List Record). IsSoundSite (record v { bytes = all_bytes l bytes; gone = l }) up (shorter size) a) (sym gone_is)
      (subst (λ (b : List ℕ). IsSoundSite (record v { bytes = b; gone = v.gone ++ plan.gone }) up (shorter size) a)
      (sym (ap (all_bytes (v.gone ++ plan.gone)) bytes_is ∙ bytes_are)) (shortened size size_is))

  pub same_but_gone : (gone : List Record) (bytes : List ℕ) → gone ≡ v.gone ++ plan.gone → bytes ≡ plan.held
      → ◌≡◌ {A = SiteValue} (record v { bytes = all_bytes gone bytes; gone = gone }) (record v { gone = v.gone ++ plan.gone })
  same_but_gone gone bytes gone_is bytes_is =
      ap (λ (l : List Record). (let w : SiteValue = record v { bytes = all_bytes l bytes; gone = l } in w)) gone_is
      ∙ ap (λ (b : List ℕ). (let w : SiteValue = record v { bytes = b; gone = v.gone ++ plan.gone } in w))
      (ap (all_bytes (v.gone ++ plan.gone)) bytes_is ∙ bytes_are)

-- a length that code holds is as it is told
pub told_size : (size : ℕ) (items held : List ℕ) → size ≡ length items → size < 2 ^ 64 → items ≡ held → size ≡ told_length (length held)
told_size size items held is few same = omega (arith, is, few, ap length same)

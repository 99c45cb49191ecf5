-- What an answer leaves as it was, and what the ladder says of a reply that fits.
use Rattle.std.proofs.Common.{◌≡◌, ℕ, Bool, true, false, ◌&&◌, List, [], ◌∷◌, refl, sym, ap, ◌∙◌, inl, inr, arith, Option, Some, None}
use Rattle.std.specs.Prelude.{if◌then◌else◌, Result, Ok, Err, IsOk, IfOk, OnOk, IsSome, is_some}
use Rattle.std.specs.List.{flat_map}
use Rattle.std.proofs.lemmas.List.{append-nil}
use Rattle.field_bounds.specs.declared.entry.Command.{Command}
use Rattle.field_bounds.specs.declared.entry.Command.TheVariants.{Begin, Escrow, Restart}
use Rattle.field_bounds.specs.declared.entry.Last.{Last}
use Rattle.field_bounds.specs.declared.entry.Reply.{Reply}
use Rattle.field_bounds.specs.declared.entry.Reply.TheVariants.{Unsure, Refused}
use Rattle.field_bounds.specs.declared.entry.Refusal.{Refusal}
use Rattle.field_bounds.specs.Effects.{doubt_kept_before}
use Rattle.field_bounds.specs.Owed.{Place, first, refusals, answer, writes, up_after, count_after, is_unsure, Fits}
use Rattle.field_bounds.proofs.Refused.{is_restart}
use Rattle.kept_records.specs.declared.record.Record.{Record}
use Rattle.site_step.specs.Replaying.{Replays, downs_after, downs_at}
use Rattle.site_step.specs.Anew.{StandsAnew, ClosesAll}
use Rattle.kept_state.specs.declared.luck.Luck.{Luck}
use Rattle.kept_state.specs.declared.luck.Luck.TheVariants.{Fine, Torn}
use Rattle.kept_state.specs.Keeps.{record_left, Tells}
use Rattle.kept_state.proofs.Adding.{none_left}
use Rattle.kept_state.specs.Luck.{is_torn, owed_with, epoch_kept, doubt_after}
use Rattle.site_step.specs.State.{is_carried}
use Rattle.kept_records.specs.declared.medium.Mishap.{Mishap}
use Rattle.kept_records.specs.declared.medium.Mishap.TheVariants.{Never, Append, Cut, Read}
use Rattle.kept_state.specs.Doubt.{found_of}
use Rattle.kept_records.specs.Stands.{greatest}
use Rattle.site_step.specs.Site.{SiteValue, here, failed_after, foretold_after, lines_of, lines_behind, AddsLines, LeavesUnsure, Writes, luck_under, owed_under, doubt_from, RestartsOver, RefusesOver}

pub ok_gives : {A E : Type 0} {P : Type 0} (r : Result A E) → IsOk r → OnOk r P → P
ok_gives (Ok a) is p = p
ok_gives (Err e) is p = absurd cc

pub ok_is : {A E : Type 0} {P Q : A → Type 0} (r : Result A E) → ((a : A) → P a → Q a) → IfOk r P → IfOk r Q
ok_is (Ok a) f is = f a is
ok_is (Err e) f is = is

pub some_there : {A : Type 0} (o : Option A) → is_some o ≡ true → IsSome o
some_there (Some a) is = is
some_there None is = cc

-- ---- an answer

-- a reply that settles nothing, and leaves nothing in doubt
pub record Settles (r : Reply) : Type 0 where
  pub up : (u : Bool) → up_after u r ≡ u
  pub kept : (k : Bool) → doubt_kept_before k r ≡ k
  pub counts : (n : ℕ) → count_after is_unsure n r ≡ n
  pub tells : (k stood : Bool) (rs : List Record) → Tells k stood rs r
  pub doubt : (rs : List Record) (d : Option ℕ) → doubt_from r rs d ≡ d
  pub failed : (n : ℕ) → failed_after r n ≡ n
  pub foretold : (m : Option Mishap) → foretold_after r m ≡ m
  pub restarts : (rs : List Record) (d : Option ℕ) (rest : List ℕ) → RestartsOver r rs d rest
  pub greatest_is : (luck : Luck) (n : ℕ) → epoch_kept r luck n ≡ n
  pub found : (luck : Luck) (size : ℕ) (last : Last) → doubt_after r luck size last ≡ last
  pub downs : (n : ℕ) → downs_after r n ≡ n
  pub before : (n m : ℕ) → downs_at r n m ≡ m
  pub replays : (foretold : Option Mishap) (behind n : ℕ) → Replays r foretold behind n n
  pub stands : (there : Place) (rs : List Record) → StandsAnew r there rs
  pub closed : (there : Place) → ClosesAll r there

pub answer_settles : (at : Place) (c : Command) → is_restart c ≡ false → Settles (answer at c)
answer_settles at Restart n = cc
answer_settles at c n = record {
  up = λ u. refl;
  kept = λ k. refl;
  counts = λ n. omega arith;
  tells = λ k stood rs. tt;
  doubt = λ rs d. refl;
  failed = λ n. refl;
  foretold = λ m. refl;
  restarts = λ rs d rest. tt;
  greatest_is = λ luck n. refl;
  found = λ luck size last. refl;
  downs = λ n. refl;
  before = λ n m. refl;
  replays = λ foretold behind n. refl;
  stands = λ there rs. tt;
  closed = λ there. tt;
}

-- ---- a command that is no restart

pub writes_no_restart : (at : Place) (c : Command) → writes at c ≡ true → is_restart c ≡ false
writes_no_restart at Restart w = cc
writes_no_restart at c w = refl

pub writes_is_carried : (at : Place) (c : Command) → writes at c ≡ true → is_carried c ≡ true
writes_is_carried at Begin w = cc
writes_is_carried at (Escrow txn field change) w = cc
writes_is_carried at Restart w = cc
writes_is_carried at c w = refl

pub carried_no_restart : (c : Command) → is_carried c ≡ true → is_restart c ≡ false
carried_no_restart Restart is = cc
carried_no_restart c is = refl

pub refused_no_restart : (at : Place) (c : Command) (x : Refusal) → first (refusals at c) ≡ Some x → is_restart c ≡ false
refused_no_restart at Restart x h = cc
refused_no_restart at c x h = refl

pub refuses_over : (c : Command) (r : Reply) (rs : List Record) → is_restart c ≡ false → RefusesOver c r rs
refuses_over Restart r rs n = cc
refuses_over c r rs n = tt

-- ---- a reply that fits

pub refusal_fits : (at : Place) (c : Command) (x : Refusal) → first (refusals at c) ≡ Some x → Fits at c (Refused x)
refusal_fits at Restart x some = cc
refusal_fits at c x some = rw some refl

pub answer_fits : (at : Place) (c : Command) → is_restart c ≡ false → first (refusals at c) ≡ None → Fits at c (answer at c)
answer_fits at Restart n none = cc
answer_fits at c n none = rw none (inl refl)

pub unsure_fits : (at : Place) (c : Command) → writes at c ≡ true → first (refusals at c) ≡ None → Fits at c Unsure
unsure_fits at Restart w none = cc
unsure_fits at c w none = rw none (inr (refl, rw w refl))

-- ---- the one reply that is owed

neither : (t w : Bool) (x y : Reply) → w ≡ false → (if t && w then x else y) ≡ y
neither true false x y h = refl
neither true true x y h = cc
neither false w x y h = refl

pub refusal_owed : (at : Place) (c : Command) (x : Refusal) (epoch : ℕ) (found : Last) (luck : Luck) → first (refusals at c) ≡ Some x
    → Refused x ≡ owed_with at epoch found c luck
refusal_owed at Restart x epoch found luck some = cc
refusal_owed at c x epoch found luck some = rw some refl

pub answer_owed : (at : Place) (c : Command) (epoch : ℕ) (found : Last) (luck : Luck) → is_restart c ≡ false → first (refusals at c) ≡ None
    → writes at c ≡ false
    → answer at c ≡ owed_with at epoch found c luck
answer_owed at Restart epoch found luck n none w = cc
answer_owed at c epoch found luck n none w = rw none (sym (neither (is_torn luck) (writes at c) Unsure (answer at c) w))

pub whole_owed : (at : Place) (c : Command) (epoch : ℕ) (found : Last) → is_restart c ≡ false → first (refusals at c) ≡ None
    → answer at c ≡ owed_with at epoch found c Fine
whole_owed at Restart epoch found n none = cc
whole_owed at c epoch found n none = rw none refl

both : (w : Bool) (x y : Reply) → w ≡ true → (if true && w then x else y) ≡ x
both true x y h = refl
both false x y h = cc

pub unsure_owed : (at : Place) (c : Command) (epoch : ℕ) (found : Last) (bytes : ℕ) → first (refusals at c) ≡ None → writes at c ≡ true
    → Unsure ≡ owed_with at epoch found c (Torn bytes)
unsure_owed at Restart epoch found bytes none w = cc
unsure_owed at c epoch found bytes none w = rw none (sym (both (writes at c) Unsure (answer at c) w))

-- ---- under any mishap

pub plain_under : (v : SiteValue) (rs : List Record) (rest : List ℕ) (c : Command) (m : Mishap) → is_restart c ≡ false
    → owed_under v rs rest c m ≡ owed_with (here v) (greatest rs) (found_of v.doubt rs) c (luck_under c rest m)
plain_under v rs rest Restart m n = cc
plain_under v rs rest c m n = refl

pub refusal_under : (v : SiteValue) (rs : List Record) (rest : List ℕ) (c : Command) (m : Mishap) (x : Refusal)
    → first (refusals (here v) c) ≡ Some x → Refused x ≡ owed_under v rs rest c m
refusal_under v rs rest c m x some =
    refusal_owed (here v) c x (greatest rs) (found_of v.doubt rs) (luck_under c rest m) some
    ∙ sym (plain_under v rs rest c m (refused_no_restart (here v) c x some))

pub answer_under : (v : SiteValue) (rs : List Record) (rest : List ℕ) (c : Command) (m : Mishap) → is_restart c ≡ false
    → first (refusals (here v) c) ≡ None → writes (here v) c ≡ false
    → answer (here v) c ≡ owed_under v rs rest c m
answer_under v rs rest c m n none w =
    answer_owed (here v) c (greatest rs) (found_of v.doubt rs) (luck_under c rest m) n none w ∙ sym (plain_under v rs rest c m n)

-- a mishap under which a command's append goes well
pub luck_fine : (c : Command) (rest : List ℕ) (m : Mishap) → is_restart c ≡ false → ((n : ℕ) → m ≡ Append n → ⊥)
    → luck_under c rest m ≡ Fine
luck_fine c rest (Append n) plain not = absurd (not n refl)
luck_fine Restart rest m plain not = cc
luck_fine c rest Never plain not = refl
luck_fine c rest Cut plain not = refl
luck_fine c rest Read plain not = refl

pub whole_under : (v : SiteValue) (rs : List Record) (rest : List ℕ) (c : Command) (m : Mishap) → is_restart c ≡ false
    → first (refusals (here v) c) ≡ None → ((n : ℕ) → m ≡ Append n → ⊥)
    → answer (here v) c ≡ owed_under v rs rest c m
whole_under v rs rest c m n none not =
    whole_owed (here v) c (greatest rs) (found_of v.doubt rs) n none
    ∙ ap (owed_with (here v) (greatest rs) (found_of v.doubt rs) c) (sym (luck_fine c rest m n not)) ∙ sym (plain_under v rs rest c m n)

pub unsure_under : (v : SiteValue) (rs : List Record) (rest : List ℕ) (c : Command) (bytes : ℕ) → is_restart c ≡ false
    → first (refusals (here v) c) ≡ None → writes (here v) c ≡ true
    → Unsure ≡ owed_under v rs rest c (Append bytes)
unsure_under v rs rest c bytes n none w = unsure_owed (here v) c (greatest rs) (found_of v.doubt rs) bytes none w
    ∙ sym (plain_under v rs rest c (Append bytes) n)

-- ---- the bytes

pub answer_writes : (at : Place) (c : Command) (old new : List ℕ) → is_restart c ≡ false → AddsLines at c old new
    → Writes at c (answer at c) old new
answer_writes at Restart old new n grown = cc
answer_writes at c old new n grown = grown

pub unsure_writes : (at : Place) (c : Command) (old new : List ℕ) → LeavesUnsure at c old new → Writes at c Unsure old new
unsure_writes at c old new cut = cut

pub lines_none : (at : Place) (c : Command) (rs : List Record) → writes at c ≡ false → lines_of at c rs ≡ []
lines_none at c rs w = ap (flat_map (lines_behind at rs)) (none_left at c w)

pub lines_one : (at : Place) (c : Command) (rs : List Record) {r : Record} → record_left at c ≡ r ∷ [] → lines_of at c rs ≡ lines_behind at rs r
lines_one at c rs {r = r} left = ap (flat_map (lines_behind at rs)) left ∙ append-nil (lines_behind at rs r)

-- The one reply that luck leaves is owed.
use Rattle.std.proofs.Common.{◌≡◌, ℕ, suc, ◌+◌, ◌≤◌, Bool, true, false, ◌&&◌, cond, List, [], ◌∷◌, refl, sym, ap, subst, inl, inr, arith, eqb, leb, Option, Some, None}
use Rattle.std.proofs.lemmas.Bool.{leb-true, leb-false, and_parts}
use Rattle.std.specs.Prelude.{◌⊎◌, MatchOption, IsTrue, if◌then◌else◌}
use Rattle.field_bounds.specs.declared.entry.Command.{Command}
use Rattle.field_bounds.specs.declared.entry.Command.TheVariants.{Restart}
use Rattle.field_bounds.specs.declared.entry.Reply.{Reply}
use Rattle.field_bounds.specs.declared.entry.Reply.TheVariants.{Restarted, Unsure, StillDown, Refused}
use Rattle.field_bounds.specs.declared.entry.Refusal.{Refusal}
use Rattle.field_bounds.specs.declared.entry.Refusal.TheVariants.{NumbersFull}
use Rattle.field_bounds.specs.declared.entry.Last.{Last}
use Rattle.field_bounds.specs.declared.entry.Last.TheVariants.{Nothing, Kept, Lost}
use Rattle.field_bounds.specs.declared.entry.Entry.{Entry}
use Rattle.field_bounds.specs.Schema.{SchemaValue}
use Rattle.field_bounds.specs.Effects.{Base}
use Rattle.field_bounds.specs.Owed.{Place, place, first, refusals, answer, writes, epoch_of, epoch_after, count_since, count_after, is_still_down, is_unsure, max_epoch, Fits, RestartFits, AnswerFits}
use Rattle.field_bounds.specs.Central.{own}
use Rattle.kept_state.specs.declared.luck.Luck.{Luck}
use Rattle.kept_state.specs.declared.luck.Luck.TheVariants.{Fine, Torn}
use Rattle.kept_state.specs.Luck.{Lucky, entries, own_lucky, covered_after, covered_restarts, doubt_after, doubt, record_length, restart_length, epoch_kept, is_torn, refused_or, lucky_reply}

-- ---- the greatest epoch kept

bump : (b : Bool) (n m : ℕ) → n ≤ m → (if b then suc n else n) ≤ 1 + m
bump true n m h = omega arith
bump false n m h = omega arith

covered_step : (r : Reply) (luck : Luck) (size n m : ℕ) → n ≤ m → covered_after r luck size n ≤ count_after is_still_down m r
covered_step (Restarted epoch found) luck size n m h = omega arith
covered_step StillDown (Torn bytes) size n m h = bump (leb size bytes) n m h
covered_step StillDown Fine size n m h = omega arith
covered_step r luck size n m h = omega arith

-- the restarts that left a whole record are among those that failed
pub covered_within : (base : Base) (xs : List Lucky) → covered_restarts base xs ≤ count_since is_still_down (entries xs)
covered_within base [] = omega arith
covered_within base (x ∷ xs) =
    covered_step x.0.reply x.1 (restart_length (epoch_of base (entries xs) + covered_restarts base xs + 1)) (covered_restarts base xs)
    (count_since is_still_down (entries xs))
    (covered_within base xs)

kept_step : (r : Reply) (luck : Luck) (epoch n : ℕ)
    → epoch_kept r luck (epoch + n) ≡ epoch_after epoch r + covered_after r luck (restart_length (epoch + n + 1)) n
kept_step (Restarted new found) luck epoch n = omega arith
kept_step StillDown (Torn bytes) epoch n =
    elim (leb (restart_length (epoch + n + 1)) bytes) as (λ b. (if b then epoch + n + 1 else epoch + n) ≡ epoch + (if b then suc n else n))
    [ true ↦ omega arith | false ↦ omega arith ]
kept_step StillDown Fine epoch n = refl
kept_step r luck epoch n = refl

-- the greatest epoch kept, step by step, is that of the last restart and those that left a whole record since
pub kept_epoch_is : (base : Base) (x : Lucky) (xs : List Lucky)
    → epoch_kept x.0.reply x.1 (epoch_of base (entries xs) + covered_restarts base xs) ≡ epoch_of base (entries (x ∷ xs))
    + covered_restarts base (x ∷ xs)
kept_epoch_is base x xs = kept_step x.0.reply x.1 (epoch_of base (entries xs)) (covered_restarts base xs)

-- ---- the record in doubt

-- nothing is found exactly where no reply was in doubt
abbrev pub Agree : Last → ℕ → Type 0
Agree found n = (n ≡ 0 → found ≡ Nothing) × (found ≡ Nothing → n ≡ 0)

doubtful : (b : Bool) (n : ℕ) → Agree (if b then Kept else Lost) (1 + n)
doubtful true n = (λ e. absurd (omega (arith, e)), λ e. cc)
doubtful false n = (λ e. absurd (omega (arith, e)), λ e. cc)

doubt_step : (r : Reply) (luck : Luck) (size : ℕ) (before : Last) (n : ℕ) → Agree before n
    → Agree (doubt_after r luck size before) (count_after is_unsure n r)
doubt_step (Restarted epoch found) luck size before n h = (λ e. refl, λ e. refl)
doubt_step Unsure (Torn bytes) size before n h = doubtful (leb size bytes) n
doubt_step Unsure Fine size before n h = (λ e. absurd (omega (arith, e)), λ e. cc)
doubt_step r luck size before n h = (λ e. h.0 (omega (arith, e)), λ e. let z = h.1 e in omega (arith, z))

pub doubt_agrees : (schema : SchemaValue) (s : ℕ) (base : Base) (xs : List Lucky)
    → Agree (doubt schema s base xs) (count_since is_unsure (entries xs))
doubt_agrees schema s base [] = (λ e. refl, λ e. refl)
doubt_agrees schema s base (x ∷ xs) =
    doubt_step x.0.reply x.1 (record_length (place schema s base (entries xs)) x.0.command) (doubt schema s base xs)
    (count_since is_unsure (entries xs))
    (doubt_agrees schema s base xs)

-- ---- the one reply

restart_cases : (at : Place) (covered : ℕ) (found : Last) (luck : Luck) (b : Bool)
    → leb max_epoch (epoch_of at.base at.entries + covered) ≡ b
    → covered ≤ count_since is_still_down at.entries → Agree found (count_since is_unsure at.entries)
    → RestartFits at (if b then Refused NumbersFull
    else (if is_torn luck then StillDown else Restarted (epoch_of at.base at.entries + covered + 1) found))
restart_cases at covered found luck true full few agree = let much = leb-true _ _ full in (refl, omega (arith, few, much))
restart_cases at covered found (Torn bytes) false less few agree = tt
restart_cases at covered found Fine false less few agree =
    let room = leb-false _ _ less in
    (omega arith, omega (arith, few), omega (arith, room), agree)

answer_cases : (at : Place) (c : Command) (luck : Luck) (o : Option Refusal) (b : Bool) → first (refusals at c) ≡ o
    → (is_torn luck && writes at c) ≡ b
    → AnswerFits at c (refused_or o (if b then Unsure else answer at c))
answer_cases at c luck (Some x) b is torn =
    subst (λ (o : Option Refusal). MatchOption o ((Refused x ≡ answer at c)
    ⊎ ((Refused x ≡ Unsure) × IsTrue (writes at c))) (λ y. Refused x ≡ Refused y)) (sym is) refl
answer_cases at c luck None true is torn =
    subst (λ (o : Option Refusal). MatchOption o ((Unsure ≡ answer at c)
    ⊎ ((Unsure ≡ Unsure) × IsTrue (writes at c))) (λ y. Unsure ≡ Refused y)) (sym is)
    (inr (refl, (and_parts (is_torn luck) (writes at c) torn).1))
answer_cases at c luck None false is torn =
    subst (λ (o : Option Refusal). MatchOption o ((answer at c ≡ answer at c)
    ⊎ ((answer at c ≡ Unsure) × IsTrue (writes at c))) (λ y. answer at c ≡ Refused y)) (sym is) (inl refl)

pub lucky_fits : (schema : SchemaValue) (s : ℕ) (base : Base) (xs : List Lucky) (c : Command) (luck : Luck)
    → Fits (place schema s base (entries xs)) c (lucky_reply schema s base xs c luck)
lucky_fits schema s base xs Restart luck =
    restart_cases (place schema s base (entries xs)) (covered_restarts base xs) (doubt schema s base xs) luck
    (leb max_epoch (epoch_of base (entries xs) + covered_restarts base xs)) refl
    (covered_within base xs) (doubt_agrees schema s base xs)
lucky_fits schema s base xs c luck =
    answer_cases (place schema s base (entries xs)) c luck (first (refusals (place schema s base (entries xs)) c))
    (is_torn luck && writes (place schema s base (entries xs)) c) refl refl

-- ---- the entries of one site

own_step : (b : Bool) (x : Lucky) (l : List Lucky) (o : List Entry) → entries l ≡ o → entries (cond b (x ∷ l) l) ≡ cond b (x.0 ∷ o) o
own_step true x l o h = ap (λ (r : List Entry). x.0 ∷ r) h
own_step false x l o h = h

pub own_entries : (s : ℕ) (xs : List Lucky) → entries (own_lucky s xs) ≡ own s (entries xs)
own_entries s [] = refl
own_entries s (x ∷ xs) = own_step (eqb x.0.site.0 s) x (own_lucky s xs) (own s (entries xs)) (own_entries s xs)

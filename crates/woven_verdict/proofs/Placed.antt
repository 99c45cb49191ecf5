-- What one turn does to what is placed and judged.
use Rattle.std.proofs.Common.{◌≡◌, ◌≢◌, ◌⊎◌, ◌↔◌, ℕ, zero, suc, ◌+◌, ◌<◌, ◌≤◌, List, [], ◌∷◌, ◌++◌, length, get_or, set, reverse, refl, sym, ap, subst, ◌∙◌, arith, Some, None, Contains, Result, Ok, Err, IfOk, IfErr}
use Rattle.std.proofs.lemmas.List.{reverse-append, length-set}
use Rattle.field_bounds.specs.declared.entry.Entry.{Entry}
use Rattle.field_bounds.specs.declared.entry.Statement.{Statement}
use Rattle.field_bounds.specs.Schema.{SchemaValue}
use Rattle.field_bounds.specs.Statements.{statement_of}
use Rattle.central_rules.specs.declared.verdict.Rule.{Rule}
use Rattle.central_rules.specs.declared.verdict.Verdict.{Verdict}
use Rattle.central_rules.specs.declared.verdict.Verdict.TheVariants as verdicts
use Rattle.central_rules.specs.Verdict.{broken_rule, verdict_more, verdict_back, verdict_of}
use Rattle.trace_weave.specs.Weave.{WeavesLowest, SticksAt, NoneWeaves}
use Rattle.trace_weave.specs.Turn.{upcoming, HoldsBack, IsTurn, IsFirstLeft, IsReached, IsWoven, GoesOn}
use Rattle.trace_weave.proofs.Turns.{starts, begins, turns_at, reaches, ends_whole, ends_stuck}
use Rattle.central_machine.specs.declared.front_judge.FrontJudge.{FrontJudge}
use Rattle.woven_verdict.specs.declared.judged.Judged.{Judged}
use Rattle.woven_verdict.specs.declared.judged.Judged.TheVariants.{Legal, Illegal}
use Rattle.woven_verdict.specs.Judged.{AreJudged}
use Rattle.woven_verdict.specs.Woven.{none_taken, IsPlaced, NoneMay}

none_placed : (hs : List (List Entry)) (s : ℕ) → get_or (none_taken hs) s 0 ≡ 0
none_placed [] s = refl
none_placed (h ∷ hs) zero = refl
none_placed (h ∷ hs) (suc s) = none_placed hs s

none_long : (hs : List (List Entry)) → length (none_taken hs) ≡ length hs
none_long [] = refl
none_long (h ∷ hs) = ap suc (none_long hs)

any_default : (counts : List ℕ) (s a b : ℕ) → s < length counts → get_or counts s a ≡ get_or counts s b
any_default [] s a b inside = absurd (omega arith)
any_default (k ∷ counts) zero a b inside = refl
any_default (k ∷ counts) (suc s) a b inside = any_default counts s a b (omega arith)

-- nothing is placed yet
pub places_none : (schema : SchemaValue) (hs : List (List Entry)) (judged : Judged) → AreJudged schema [] judged
    → IsPlaced schema hs (none_taken hs) [] judged
places_none schema hs judged are = record {
  len = none_long hs;
  woven = starts hs (none_taken hs) (none_placed hs);
  judged = are;
}

-- one turn more
pub places_more : (schema : SchemaValue) (hs : List (List Entry)) (counts : List ℕ) (trace : List Entry) (judged more : Judged) (s : ℕ) (e : Entry)
    → IsTurn hs counts (reverse trace) s e → AreJudged schema (trace ++ e ∷ []) more → IsPlaced schema hs counts trace judged
    → IsPlaced schema hs (set counts s (get_or counts s 0 + 1)) (trace ++ e ∷ []) more
places_more schema hs counts trace judged more s e turn are so =
    let below : s < length hs = turn.inside in
    let long : length counts ≡ length hs = so.len in
    record {
      len = length-set counts s (get_or counts s 0 + 1) ∙ so.len;
      woven =
          turns_at hs counts counts trace trace (trace ++ e ∷ []) s (get_or counts s 0) e so.len refl refl refl
          (any_default counts s 0 (get_or counts s 0) (omega arith)) turn so.woven;
      judged = are;
    }

pub reaches_more : (schema : SchemaValue) (hs : List (List Entry)) (counts : List ℕ) (told grown : List Statement) (trace : List Entry)
    (s from on : ℕ) (e : Entry) → IsTurn hs counts (reverse trace) s e
    → ((st : Statement) → Contains grown st ↔ ((statement_of e ≡ Some st) ⊎ Contains told st)) → GoesOn e s on
    → IsReached hs counts told (reverse trace) from
    → IsReached hs (set counts s (get_or counts s 0 + 1)) grown (reverse (trace ++ e ∷ [])) on
reaches_more schema hs counts told grown trace s from on e turn added goes so =
    reaches hs counts counts told grown trace (trace ++ e ∷ []) s (get_or counts s 0 + 1) on e refl refl turn so.knows added goes

-- where none is left, the trace weaves the histories
pub ends_all : (schema : SchemaValue) (hs : List (List Entry)) (counts : List ℕ) (trace : List Entry) (judged : Judged)
    → ((s : ℕ) → upcoming hs counts s ≡ None) → IsPlaced schema hs counts trace judged → WeavesLowest hs (reverse trace)
ends_all schema hs counts trace judged gone so = ends_whole hs counts counts (reverse trace) refl gone so.woven

-- where some is left and none may stand, none weaves them
pub ends_held : (schema : SchemaValue) (hs : List (List Entry)) (counts : List ℕ) (trace : List Entry) (judged : Judged) (s : ℕ)
    → IsFirstLeft hs counts s → NoneMay hs counts trace → IsPlaced schema hs counts trace judged
    → NoneWeaves hs × SticksAt hs s (get_or counts s 0 + 1)
ends_held schema hs counts trace judged s left held so =
    let below : s < length hs = left.inside in
    let long : length counts ≡ length hs = so.len in
    ends_stuck hs counts counts counts trace trace s (get_or counts s 0) so.len refl refl refl
    (any_default counts s 0 (get_or counts s 0) (omega arith)) left held so.woven

-- the first bad entry stays the first
pub bad_stays : (schema : SchemaValue) (entries : List Entry) (e : Entry) (at : ℕ) (rule : Rule)
    → verdict_of schema entries ≡ verdicts.Illegal at rule → verdict_of schema (entries ++ e ∷ []) ≡ verdicts.Illegal at rule
unfolding verdict_back
bad_stays schema entries e at rule bad =
    ap (verdict_back schema) (reverse-append entries (e ∷ []))
    ∙ ap (λ (v : Verdict). verdict_more v (broken_rule schema (reverse entries) e) (length (reverse entries) + 1)) bad

-- and what is told of it stays
pub still_judged : (schema : SchemaValue) (entries : List Entry) (e : Entry) (judged : Judged)
    → ((judge : FrontJudge) → judged ≡ Legal judge → ⊥) → AreJudged schema entries judged → AreJudged schema (entries ++ e ∷ []) judged
still_judged schema entries e (Legal judge) apart are = absurd (apart judge refl)
still_judged schema entries e (Illegal at rule) apart are = bad_stays schema entries e at rule are

-- ---- the loop

-- Some trace was made by the lowest turns so far, and the histories are where it ends.
pub record IsAt (Holds : List ℕ → Type 0) (schema : SchemaValue) (hs : List (List Entry)) (found : Judged) (told : List Statement) (from : ℕ)
    : Type 0 where
  pub counts : List ℕ
  pub trace : List Entry
  pub holds : Holds counts
  pub placed : IsPlaced schema hs counts trace found
  pub reached : IsReached hs counts told (reverse trace) from

pub begins_at : (Holds : List ℕ → Type 0) (schema : SchemaValue) (hs : List (List Entry)) (found : Judged) (told : List Statement)
    → Holds (none_taken hs) → AreJudged schema [] found → told ≡ [] → IsAt Holds schema hs found told 0
begins_at Holds schema hs found told holds are none = record {
  counts = none_taken hs;
  trace = [];
  holds = holds;
  placed = places_none schema hs found are;
  reached = begins hs (none_taken hs) told none;
}

pub goes_at : (Holds After : List ℕ → Type 0) (schema : SchemaValue) (hs : List (List Entry)) (found more : Judged) (told grown : List Statement)
    (s from on : ℕ) (e : Entry) (at : IsAt Holds schema hs found told from)
    → IsTurn hs at.counts (reverse at.trace) s e
    → ((counts : List ℕ) (entry : Entry) → Holds counts → upcoming hs counts s ≡ Some entry → After (set counts s (get_or counts s 0 + 1)))
    → ((entries : List Entry) → AreJudged schema entries found → AreJudged schema (entries ++ e ∷ []) more)
    → ((st : Statement) → Contains grown st ↔ ((statement_of e ≡ Some st) ⊎ Contains told st)) → GoesOn e s on
    → IsAt After schema hs more grown on
goes_at Holds After schema hs found more told grown s from on e at turn takes judges added goes = record {
  counts = set at.counts s (get_or at.counts s 0 + 1);
  trace = at.trace ++ e ∷ [];
  holds = takes at.counts e at.holds turn.next;
  placed = places_more schema hs at.counts at.trace found more s e turn (judges at.trace at.placed.judged) at.placed;
  reached = reaches_more schema hs at.counts told grown at.trace s from on e turn added goes at.reached;
}

-- ---- what is told, over all histories

pub told_for : {X E : Type 0} (r : Result X E) (P Q : X → Type 0) → ((x : X) → P x → Q x) → IfOk r P → IfOk r Q
told_for (Ok x) P Q f p = f x p
told_for (Err e) P Q f p = p

pub fault_for : {X E : Type 0} (r : Result X E) (P Q : E → Type 0) → ((e : E) → P e → Q e) → IfErr r P → IfErr r Q
fault_for (Ok x) P Q f p = p
fault_for (Err e) P Q f p = f e p

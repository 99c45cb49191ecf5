-- A trace woven of what workers made is sound, so it is a run of one central store.
use Rattle.std.proofs.Common.{◌≡◌, ◌⊎◌, ⊎_elim, ℕ, zero, suc, ◌+◌, ◌<◌, List, [], ◌∷◌, length, get_or, reverse, sym, subst, arith}
use Rattle.std.specs.Prelude.{Result, Ok, Err, IfOk, IfErr, OnOk}
use Rattle.field_bounds.specs.declared.entry.Command.{Command}
use Rattle.field_bounds.specs.declared.entry.Entry.{Entry}
use Rattle.field_bounds.specs.Schema.{SchemaValue}
use Rattle.field_bounds.specs.Effects.{fresh}
use Rattle.field_bounds.specs.Owed.{IsRun}
use Rattle.field_bounds.specs.Central.{AreOf, IsSound}
use Rattle.site_workers.specs.Scripts.{AreWorked, AllWorked}
use Rattle.std.specs.Global.{Vec}
use Rattle.field_bounds.specs.Limits.{IsSchema}
use Rattle.field_bounds.proofs.Headline.{sound_is_central}
use Rattle.central_rules.specs.declared.verdict.Verdict.TheVariants.{Legal, Illegal}
use Rattle.central_rules.specs.Verdict.{verdict_of}
use Rattle.central_rules.proofs.Verdicts.{legal_is_sound, sound_is_legal}
use Rattle.trace_weave.specs.Weave.{lists_of, NoneWeaves, WeavesLowest}
use Rattle.site_workers.specs.Scripts.{histories_of}
use Rattle.script_input.specs.declared.fault.ScriptFault.{ScriptFault}
use Rattle.script_input.specs.declared.fault.ScriptFault.TheVariants as faults
use Rattle.escrow_work.specs.Scripts.{HasScripts}
use Rattle.escrow_work.specs.Work.{Works, WorksLegally, Sticks, IsIllegal, IsWorkOf, MakesNone, work_text}
use Rattle.trace_weave.proofs.Sound.{woven_is_sound}

runs_at : (schema : SchemaValue) (n : ℕ) (ss : List (List Command)) (hs : List (List Entry)) → AreWorked schema n ss hs → (i : ℕ)
    → i < length hs
    → AreOf (n + i) (get_or hs i []) × IsRun schema (n + i) (fresh schema (n + i)) (reverse (get_or hs i []))
runs_at schema n ss [] all i below = absurd (omega arith)
runs_at schema n [] (h ∷ hs) all i below = absurd all
runs_at schema n (s ∷ ss) (h ∷ hs) all zero below =
    let e : n ≡ n + 0 = omega arith in
    subst (λ (k : ℕ). AreOf k h × IsRun schema k (fresh schema k) (reverse h)) e (all.0.own, all.0.run)
runs_at schema n (s ∷ ss) (h ∷ hs) all (suc i) below =
    let e : n + 1 + i ≡ n + suc i = omega arith in
    subst (λ (k : ℕ). AreOf k (get_or hs i []) × IsRun schema k (fresh schema k) (reverse (get_or hs i []))) e (runs_at schema
    (n + 1) ss hs all.1 i (omega arith))

at_zero : (schema : SchemaValue) (ss : List (List Command)) (hs : List (List Entry)) → AreWorked schema 0 ss hs → (i : ℕ)
    → i < length hs → AreOf i (get_or hs i []) × IsRun schema i (fresh schema i) (reverse (get_or hs i []))
at_zero schema ss hs all i below =
    let e : 0 + i ≡ i = omega arith in
    subst (λ (k : ℕ). AreOf k (get_or hs i []) × IsRun schema k (fresh schema k) (reverse (get_or hs i []))) e
    (runs_at schema 0 ss hs all i below)

pub works_soundly : (schema : SchemaValue) (ss : List (List Command)) (hs : List (List Entry)) (t : List Entry)
    → AllWorked schema ss hs → WeavesLowest hs t → IsSound schema t
works_soundly schema ss hs t worked woven =
    woven_is_sound hs (λ s below. (at_zero schema ss hs worked.worked s below).0) schema t worked.sites (λ s below.
    (at_zero schema ss hs worked.worked s (subst (λ (k : ℕ). s < k) (sym worked.sites) below)).1)
    (woven.picks, woven.picked, woven.whole)

-- ---- vectors of histories, as they are handed to the weaver

pub sticks : (schema : SchemaValue) (ss : List (List Command)) (vs ws : List (Vec Entry)) → AllWorked schema ss (histories_of vs)
    → ws ≡ vs → NoneWeaves (lists_of ws) → Sticks schema ss
sticks schema ss vs ws worked same none = record {
  histories = histories_of vs;
  worked = worked;
  none = subst (λ (l : List (Vec Entry)). NoneWeaves (lists_of l)) same none;
}

pub works : (schema : SchemaValue) (ss : List (List Command)) (vs ws : List (Vec Entry)) (es : List Entry)
    → AllWorked schema ss (histories_of vs) → ws ≡ vs → WeavesLowest (lists_of ws) (reverse es) → Works schema ss es
works schema ss vs ws es worked same woven = record {
  histories = histories_of vs;
  worked = worked;
  woven = subst (λ (l : List (Vec Entry)). WeavesLowest (lists_of l) (reverse es)) same woven;
}

-- ---- what was woven, judged

pub works_legally : (schema : SchemaValue) (ss : List (List Command)) (es : List Entry) → Works schema ss es
    → verdict_of schema es ≡ Legal → WorksLegally schema ss es
works_legally schema ss es made legal = record { works = made; legal = legal; central = (legal_is_sound schema (reverse es) legal).1 }

pub never_illegal : (schema : SchemaValue) (ss : List (List Command)) (es : List Entry) → IsSchema schema
    → Works schema ss es → IsIllegal schema es → ⊥
never_illegal schema ss es good made illegal =
    let sound : IsSound schema (reverse es) = works_soundly schema ss made.histories (reverse es) made.worked made.woven in
    let legal : verdict_of schema es ≡ Legal = sound_is_legal schema (reverse es) sound (sound_is_central schema good (reverse es) sound) in
    let other : verdict_of schema es ≡ Illegal illegal.at illegal.rule = illegal.verdict in
    cc

-- of a text, and of why there is none
module _ {T : Type 0} (schema : SchemaValue) (ss : List (List Command)) (es now : List Entry) (same : now ≡ es) (made : Works schema ss es)
  where
    pub text_told : (r : Result T ScriptFault) (bytes : T → List ℕ) (header : List ℕ) → OnOk r (verdict_of schema now ≡ Legal)
        → IfOk r (λ (t : T). bytes t ≡ work_text schema header now)
        → IfOk r (λ (t : T). (lines : List (List ℕ)) → HasScripts schema header ss lines → IsWorkOf lines (bytes t))
    text_told (Err f) bytes header legal told = tt
    text_told (Ok t) bytes header legal told = λ lines has. record {
      schema = schema;
      header = header;
      scripts = ss;
      entries = es;
      good = has;
      made = works_legally schema ss es made (subst (λ (l : List Entry). verdict_of schema l ≡ Legal) same legal);
      told = subst (λ (l : List Entry). bytes t ≡ work_text schema header l) same told;
    }

    pub none_told : (r : Result T ScriptFault) → IsSchema schema
        → IfErr r (λ (f : ScriptFault). f ≡ faults.Illegal → IsIllegal schema now)
        → IfErr r (λ (f : ScriptFault). (f ≡ faults.NoMemory) ⊎ (f ≡ faults.Illegal)) → IfErr r (MakesNone schema ss)
    none_told (Ok t) good illegal which = tt
    none_told (Err f) good illegal which =
        ⊎_elim (λ (e : f ≡ faults.NoMemory). subst (λ (w : ScriptFault). MakesNone schema ss w) (sym e) tt)
        (λ (e : f ≡ faults.Illegal). absurd (never_illegal schema ss es good made
        (subst (λ (l : List Entry). IsIllegal schema l) same (illegal e)))) which

-- The threads of all sites, xs they are started and joined.
use Rattle.std.proofs.Common.{◌≡◌, ℕ, ◌+◌, ◌<◌, List, [], ◌∷◌, ◌++◌, length, reverse, refl, sym, ap, subst, ◌∙◌, arith, append-nil, append_assoc, Option, Some, None, length-append}
use Rattle.std.proofs.lemmas.List.{reverse-append, length-map, map-append}
use Rattle.std.specs.Global.{Vec}
use Rattle.field_bounds.specs.declared.id.SiteNo.{SiteNo}
use Rattle.field_bounds.specs.declared.entry.Command.{Command}
use Rattle.field_bounds.specs.declared.entry.Entry.{Entry}
use Rattle.field_bounds.specs.Schema.{SchemaValue}
use Rattle.std.specs.Prelude.{Result, Err, IfSome, IfNone}
use Rattle.work_faults.specs.declared.workers.WorkFault.TheVariants.{NoMemory}
use Rattle.site_workers.specs.declared.site_fault.SiteFault.{SiteFault}
use Rattle.site_workers.specs.declared.site_fault.SiteFault.TheVariants.{Worker}
use Rattle.site_workers.specs.Inboxes.{site_no}
use Rattle.site_workers.specs.Scripts.{scripts_of, HasNoAccept, AreSpared, ScriptsFit, AreWorked, NoneForeign, NoneLost, AllWorked}
use Rattle.site_workers.specs.Jobs.{Job, FitsJob, AreJobs, AreStarted, AreJoined, IsAnswer, AreAnswers}

one_script_more : (old new : List (Vec Command)) (v : Vec Command) → old ≡ new ++ v ∷ [] → scripts_of old ≡ scripts_of new ++ v.items ∷ []
one_script_more old new v popped = ap scripts_of popped ∙ map-append (λ (w : Vec Command). w.items) new (v ∷ [])

-- before any thread
pub starts : {G : Type 0} (schema : SchemaValue) (gate : G) (all : List (List Command)) → AreStarted schema gate all all []
starts schema gate all = record { done = []; split = sym (append-nil all); running = tt }

pub starts_more : {G : Type 0} (schema : SchemaValue) (gate : G) (all : List (List Command)) (old new : List (Vec Command))
    (v : Vec Command) (jobs jobs' : List (Option (Job G))) (o : Option (Job G)) → old ≡ new ++ v ∷ [] → jobs' ≡ jobs ++ o ∷ []
    → FitsJob schema gate (length new) v.items o
    → AreStarted schema gate all (scripts_of old) jobs → AreStarted schema gate all (scripts_of new) jobs'
starts_more {G} schema gate all old new v jobs jobs' o popped pushed fits st =
    let scripts : scripts_of old ≡ scripts_of new ++ v.items ∷ [] = one_script_more old new v popped in
    let count : length (scripts_of new) ≡ length new = length-map new (λ (w : Vec Command). w.items) in
    let more : length (scripts_of old) ≡ length (scripts_of new) + 1 =
    ap (λ (l : List (List Command)). length l) scripts ∙ length-append (scripts_of new) (v.items ∷ []) in
    let turned : reverse jobs' ≡ o ∷ reverse jobs = ap (λ (l : List (Option (Job G))). reverse l) pushed ∙ reverse-append jobs (o ∷ []) in
    let here : FitsJob schema gate (length (scripts_of new)) v.items o =
    subst (λ (n : ℕ). FitsJob schema gate n v.items o) (sym count) fits in
    let others : AreJobs schema gate (length (scripts_of new) + 1) st.done (reverse jobs) =
    subst (λ (n : ℕ). AreJobs schema gate n st.done (reverse jobs)) more st.running in record {
      done = v.items ∷ st.done;
      split = st.split ∙ (ap (λ (l : List (List Command)). l ++ st.done) scripts ∙ append_assoc (scripts_of new) (v.items ∷ []) st.done);
      running = subst (λ (l : List (Option (Job G))). AreJobs schema gate (length (scripts_of new)) (v.items ∷ st.done) l) (sym turned) (
        here,
        others,
      );
    }

spared_right : (a b : List (List Command)) → AreSpared (a ++ b) → AreSpared b
spared_right [] b all = all
spared_right (s ∷ a) b all = spared_right a b all.1

-- what a thread needs of its seat
pub seat_fits : {G : Type 0} (schema : SchemaValue) (gate : G) (all : List (List Command)) (old new : List (Vec Command))
    (v : Vec Command) (jobs : List (Option (Job G))) → old ≡ new ++ v ∷ [] → ScriptsFit schema all
    → AreStarted schema gate all (scripts_of old) jobs
    → (length new < schema.sites) × HasNoAccept v.items
seat_fits schema gate all old new v jobs popped fit st =
    let scripts : scripts_of old ≡ scripts_of new ++ v.items ∷ [] = one_script_more old new v popped in
    let whole : all ≡ scripts_of new ++ (v.items ∷ st.done) =
    st.split ∙ (ap (λ (l : List (List Command)). l ++ st.done) scripts ∙ append_assoc (scripts_of new) (v.items ∷ []) st.done) in
    let sizes : length all ≡ length (scripts_of new) + length (v.items ∷ st.done) =
    ap (λ (l : List (List Command)). length l) whole ∙ length-append (scripts_of new) (v.items ∷ st.done) in
    let count : length (scripts_of new) ≡ length new = length-map new (λ (w : Vec Command). w.items) in
    let sites : length all ≡ schema.sites = fit.0 in
    let mine : AreSpared (v.items ∷ st.done) = spared_right (scripts_of new) (v.items ∷ st.done)
    (subst (λ (l : List (List Command)). AreSpared l) whole fit.1) in
    (omega arith, mine.0)

-- all threads were started
pub joins : {G : Type 0} (schema : SchemaValue) (gate : G) (Turns : SiteNo → ℕ → Type 0) (all : List (List Command))
    (left : List (Vec Command)) (jobs : List (Option (Job G))) → length left ≡ 0
    → AreStarted schema gate all (scripts_of left) jobs → AreJoined schema gate Turns all jobs []
joins schema gate Turns all [] jobs none st = record { done = []; left = st.done; split = st.split; answered = tt; running = st.running }
joins schema gate Turns all (v ∷ left) jobs none st = absurd (omega arith)

-- ---- answers

answers_more : (schema : SchemaValue) (Turns : SiteNo → ℕ → Type 0) (n : ℕ) (ss : List (List Command))
    (xs : List (Result (Vec Entry) SiteFault)) (s : List Command) (a : Result (Vec Entry) SiteFault) → AreAnswers schema Turns n ss xs
    → IsAnswer schema Turns (site_no (n + length ss)) s a → AreAnswers schema Turns n (ss ++ s ∷ []) (xs ++ a ∷ [])
answers_more schema Turns n [] [] s a all one =
    let e : n + 0 ≡ n = omega arith in (subst (λ (k : ℕ). IsAnswer schema Turns (site_no k) s a) e one, tt)
answers_more schema Turns n [] (b ∷ xs) s a all one = absurd all
answers_more schema Turns n (r ∷ ss) [] s a all one = absurd all
answers_more schema Turns n (r ∷ ss) (b ∷ xs) s a all one =
    let e : n + length (r ∷ ss) ≡ n + 1 + length ss = omega arith in
    (all.0, answers_more schema Turns (n + 1) ss xs s a all.1 (subst (λ (k : ℕ). IsAnswer schema Turns (site_no k) s a) e one))

refused_answer : (schema : SchemaValue) (Turns : SiteNo → ℕ → Type 0) (site : SiteNo) (script : List Command)
    (a : Result (Vec Entry) SiteFault) → a ≡ Err (Worker NoMemory) → IsAnswer schema Turns site script a
refused_answer schema Turns site script a is =
    subst (λ (x : Result (Vec Entry) SiteFault). IsAnswer schema Turns site script x) (sym is) (record { worked = tt; fault = tt })

module _ {G : Type 0} (T : G → SiteNo → ℕ → Type 0) (schema : SchemaValue) (gate : G) where
  job_answer : (n : ℕ) (s : List Command) (o : Option (Job G)) (a : Result (Vec Entry) SiteFault) → FitsJob schema gate n s o
      → IfSome o (λ (j : Job G). IsAnswer j.schema (T j.gate) j.site j.script a) → IfNone o (a ≡ Err (Worker NoMemory))
      → IsAnswer schema (T gate) (site_no n) s a
  job_answer n s None a fits made refused = refused_answer schema (T gate) (site_no n) s a refused
  job_answer n s (Some j) a fits made refused =
      let at : IsAnswer schema (T j.gate) j.site j.script a =
      subst (λ (x : SchemaValue). IsAnswer x (T j.gate) j.site j.script a) fits.0 made in
      let here : IsAnswer schema (T j.gate) (site_no n) j.script a =
      subst (λ (x : SiteNo). IsAnswer schema (T j.gate) x j.script a) fits.1 at in
      let whole : IsAnswer schema (T j.gate) (site_no n) s a =
      subst (λ (x : List Command). IsAnswer schema (T j.gate) (site_no n) x a) fits.2 here in
      subst (λ (x : G). IsAnswer schema (T x) (site_no n) s a) fits.3 whole

  joins_next : (all : List (List Command)) (new : List (Option (Job G))) (o : Option (Job G)) (xs : List (Result (Vec Entry) SiteFault))
      (a : Result (Vec Entry) SiteFault) (done left : List (List Command)) → all ≡ done ++ left → AreAnswers schema (T gate) 0 done xs
      → AreJobs schema gate (length done) left (o ∷ reverse new)
      → IfSome o (λ (j : Job G). IsAnswer j.schema (T j.gate) j.site j.script a) → IfNone o (a ≡ Err (Worker NoMemory))
      → AreJoined schema gate (T gate) all new (xs ++ a ∷ [])
  joins_next all new o xs a done [] split answered running made refused = absurd running
  joins_next all new o xs a done (s ∷ ss) split answered running made refused =
      let one : IsAnswer schema (T gate) (site_no (length done)) s a = job_answer (length done) s o a running.0 made refused in
      let e : length done ≡ 0 + length done = omega arith in
      let count : length (done ++ s ∷ []) ≡ length done + 1 = length-append done (s ∷ []) in record {
        done = done ++ s ∷ [];
        left = ss;
        split = split ∙ sym (append_assoc done (s ∷ []) ss);
        answered = answers_more schema (T gate) 0 done xs s a answered
            (subst (λ (k : ℕ). IsAnswer schema (T gate) (site_no k) s a) e one);
        running = subst (λ (k : ℕ). AreJobs schema gate k ss (reverse new)) (sym count) running.1;
      }

  pub joins_more : (all : List (List Command)) (old new : List (Option (Job G))) (o : Option (Job G))
      (xs ys : List (Result (Vec Entry) SiteFault)) (a : Result (Vec Entry) SiteFault) → old ≡ new ++ o ∷ [] → ys ≡ xs ++ a ∷ []
      → IfSome o (λ (j : Job G). IsAnswer j.schema (T j.gate) j.site j.script a) → IfNone o (a ≡ Err (Worker NoMemory))
      → AreJoined schema gate (T gate) all old xs → AreJoined schema gate (T gate) all new ys
  joins_more all old new o xs ys a popped pushed made refused jn =
      let turned : reverse old ≡ o ∷ reverse new = ap (λ (l : List (Option (Job G))). reverse l) popped ∙ reverse-append new (o ∷ []) in
      let running : AreJobs schema gate (length jn.done) jn.left (o ∷ reverse new) =
      subst (λ (l : List (Option (Job G))). AreJobs schema gate (length jn.done) jn.left l) turned jn.running in
      subst (λ (l : List (Result (Vec Entry) SiteFault)). AreJoined schema gate (T gate) all new l) (sym pushed)
      (joins_next all new o xs a jn.done jn.left jn.split jn.answered running made refused)

  pub joined_all : (all : List (List Command)) (jobs : List (Option (Job G))) (xs : List (Result (Vec Entry) SiteFault))
      → length jobs ≡ 0 → AreJoined schema gate (T gate) all jobs xs → AreAnswers schema (T gate) 0 all xs
  joined_all all (j ∷ jobs) xs none jn = absurd (omega arith)
  joined_all all [] xs none jn = ends jn.left jn.running jn.split
    where
      ends : (left : List (List Command)) → AreJobs schema gate (length jn.done) left [] → all ≡ jn.done ++ left
          → AreAnswers schema (T gate) 0 all xs
      ends [] running split =
          subst (λ (l : List (List Command)). AreAnswers schema (T gate) 0 l xs) (sym (split ∙ append-nil jn.done)) jn.answered
      ends (s ∷ left) running split = absurd running

pub worked_count : (schema : SchemaValue) (n : ℕ) (ss : List (List Command)) (hs : List (List Entry)) → AreWorked schema n ss hs
    → length hs ≡ length ss
worked_count schema n [] [] all = refl
worked_count schema n [] (h ∷ hs) all = absurd all
worked_count schema n (s ∷ ss) [] all = absurd all
worked_count schema n (s ∷ ss) (h ∷ hs) all = let e : length hs ≡ length ss = worked_count schema (n + 1) ss hs all.1 in omega arith

pub all_worked : (schema : SchemaValue) (ss : List (List Command)) (hs : List (List Entry)) → ScriptsFit schema ss
    → AreWorked schema 0 ss hs → NoneForeign hs → NoneLost hs → AllWorked schema ss hs
all_worked schema ss hs fit worked none_foreign none_lost =
    record { sites = worked_count schema 0 ss hs worked ∙ fit.0; worked = worked; none_foreign = none_foreign; none_lost = none_lost }

pub fits_job : {G : Type 0} (schema : SchemaValue) (gate : G) (n : ℕ) (script : List Command) (o : Option (Job G)) (j : Job G)
    → o ≡ Some j → j.schema ≡ schema → j.site ≡ site_no n → j.script ≡ script → j.gate ≡ gate → FitsJob schema gate n script o
fits_job {G} schema gate n script o j is a b c d =
    subst (λ (x : Option (Job G)). FitsJob schema gate n script x) (sym is) (a, b, c, d)

pub fits_none : {G : Type 0} (schema : SchemaValue) (gate : G) (n : ℕ) (script : List Command) (o : Option (Job G)) → o ≡ None
    → FitsJob schema gate n script o
fits_none {G} schema gate n script o is = subst (λ (x : Option (Job G)). FitsJob schema gate n script x) (sym is) tt

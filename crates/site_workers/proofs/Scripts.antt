-- The commands of a history without its accepts are the worker's, where its receipts are exactly the entries.
use Rattle.std.proofs.Common.{◌≡◌, ◌≢◌, ℕ, zero, suc, ◌+◌, ◌-◌, ◌<◌, ◌≤◌, ◌⊎◌, Bool, true, false, cond, List, [], ◌∷◌, ◌++◌, length, reverse, refl, sym, ap, subst, ◌∙◌, inl, inr, ⊎_elim, arith, Some}
use Rattle.std.proofs.lemmas.List.{reverse-reverse}
use Rattle.std.proofs.lemmas.Option.{slice_get_within, same_Some}
use Rattle.std.specs.List.{slice_get}
use native.Mathlib.Decide.{ℕ_discrete}
use mathlib.Core.Logic.{dite}
use Rattle.field_bounds.specs.declared.id.SiteNo.{SiteNo}
use Rattle.field_bounds.specs.declared.entry.Command.{Command}
use Rattle.field_bounds.specs.declared.entry.Entry.{Entry}
use Rattle.field_bounds.specs.Schema.{SchemaValue}
use Rattle.site_desk.specs.declared.locked.Receipt.{Receipt}
use Rattle.site_desk.specs.Receipts.{AreAllAt, HasNumber, AreReceiptsOf}
use Rattle.site_desk.proofs.Checks.{has_split}
use Rattle.std.specs.Prelude.{Result, Ok, Err, IfOk}
use Rattle.std.specs.Global.{Vec}
use Rattle.std.proofs.lemmas.List.{reverse-append}
use Rattle.field_bounds.specs.Effects.{fresh}
use Rattle.field_bounds.specs.Owed.{IsRun}
use Rattle.field_bounds.specs.Central.{AreOf}
use Rattle.field_bounds.specs.Shape.{is_accept}
use Rattle.site_step.specs.Site.{SiteValue, base_of}
use Rattle.work_faults.specs.declared.workers.WorkFault.{WorkFault}
use Rattle.site_workers.specs.declared.inbox.Letter.{Letter}
use Rattle.site_workers.specs.declared.inbox.Letter.TheVariants.{Stated, End}
use Rattle.site_workers.specs.Carried.{commands_of, accepts_of, Carries}
use Rattle.site_workers.specs.Scripts.{without_accepts, HasNoAccept, AreAccepts, IsRising, IsClosed, IsWorked}

-- the receipts' numbers rise from above n
abbrev IsAbove : ℕ → List Receipt → Type 0
IsAbove n [] = Unit {0}
IsAbove n (r ∷ rs) = (n < r.number) × IsAbove r.number rs

-- each receipt's entry stands in h, whose first entry has the number n + 1
abbrev AllIn : ℕ → List Entry → List Receipt → Type 0
AllIn n h [] = Unit {0}
AllIn n h (r ∷ rs) = (slice_get h (r.number - (n + 1)) ≡ Some r.entry) × AllIn n h rs

-- each entry of h has a receipt, or is an accept
abbrev Covers : ℕ → List Entry → List Receipt → Type 0
Covers n h rs = (i : ℕ) (e : Entry) → slice_get h i ≡ Some e → HasNumber rs (n + i + 1) ⊎ (is_accept e.command ≡ true)

above_all : (n : ℕ) (rs : List Receipt) (k : ℕ) → IsAbove n rs → HasNumber rs k → n < k
above_all n [] k above has = absurd has
above_all n (r ∷ rs) k above (inl now) = let first : n < r.number = above.0 in omega arith
above_all n (r ∷ rs) k above (inr more) = let first : n < r.number = above.0 in let rest : r.number < k =
    above_all r.number rs k above.1 more in omega arith

get_tail : (e : Entry) (h : List Entry) (k : ℕ) → 0 < k → slice_get (e ∷ h) k ≡ slice_get h (k - 1)
get_tail e h zero pos = absurd (omega arith)
get_tail e h (suc k) pos = let same : suc k - 1 ≡ k = omega arith in ap (λ (m : ℕ). slice_get h m) (sym same)

-- behind the first entry, for receipts above its number
all_behind : (n : ℕ) (e : Entry) (h : List Entry) (rs : List Receipt) → IsAbove (n + 1) rs → AllIn n (e ∷ h) rs → AllIn (n + 1) h rs
all_behind n e h [] above all = tt
all_behind n e h (r ∷ rs) above all =
    let first : n + 1 < r.number = above.0 in
    let same : r.number - (n + 1) - 1 ≡ r.number - (n + 1 + 1) = omega arith in
    let at : slice_get h (r.number - (n + 1) - 1) ≡ Some r.entry = sym (get_tail e h (r.number - (n + 1)) (omega arith)) ∙ all.0 in (
      subst (λ (m : ℕ). slice_get h m ≡ Some r.entry) same at,
      all_behind n e h rs (above_less r.number (n + 1) rs (omega arith) above.1) all.1,
    )
  where
    above_less : (m k : ℕ) (qs : List Receipt) → k ≤ m → IsAbove m qs → IsAbove k qs
    above_less m k [] le ab = tt
    above_less m k (q ∷ qs) le ab = let f : m < q.number = ab.0 in (omega arith, ab.1)

plain_entry : (e : Entry) (h : List Entry) → is_accept e.command ≡ false → without_accepts (e ∷ h) ≡ e.command ∷ without_accepts h
plain_entry e h is = ap (λ (b : Bool). cond b (without_accepts h) (e.command ∷ without_accepts h)) is

accept_entry : (e : Entry) (h : List Entry) → is_accept e.command ≡ true → without_accepts (e ∷ h) ≡ without_accepts h
accept_entry e h is = ap (λ (b : Bool). cond b (without_accepts h) (e.command ∷ without_accepts h)) is

covers_behind : (n : ℕ) (e : Entry) (h : List Entry) (rs : List Receipt) → Covers n (e ∷ h) rs → Covers (n + 1) h rs
covers_behind n e h rs cover i f is =
    let same : n + (suc i) + 1 ≡ n + 1 + i + 1 = omega arith in
    ⊎_elim (λ (has : HasNumber rs (n + (suc i) + 1)). inl (subst (λ (k : ℕ). HasNumber rs k) same has))
    (λ (acc : is_accept f.command ≡ true). inr acc) (cover (suc i) f is)

script_told : (h : List Entry) (n : ℕ) (rs : List Receipt) → IsAbove n rs → AllIn n h rs → HasNoAccept (commands_of rs) → Covers n h rs
    → without_accepts h ≡ commands_of rs
script_told [] n [] above all plain cover = refl
script_told [] n (r ∷ rs) above all plain cover =
    let within : r.number - (n + 1) < length {A = Entry} [] = slice_get_within [] (r.number - (n + 1)) r.entry all.0 in absurd (omega arith)
script_told (e ∷ h) n [] above all plain cover =
    ⊎_elim
    (λ (has : HasNumber [] (n + 0 + 1)). absurd has)
    (λ (acc : is_accept e.command ≡ true). accept_entry e h acc ∙ script_told h (n + 1) [] tt tt tt (covers_behind n e h [] cover))
    (cover 0 e refl)
script_told (e ∷ h) n (r ∷ rs) above all plain cover =
    dite (ℕ_discrete r.number (n + 1))
    (λ (here : r.number ≡ n + 1).
    let zeroth : r.number - (n + 1) ≡ 0 = omega arith in
    let is : r.entry ≡ e = same_Some r.entry e (sym all.0 ∙ ap (λ (m : ℕ). slice_get (e ∷ h) m) zeroth) in
    let bare : is_accept e.command ≡ false = subst (λ (x : Entry). is_accept x.command ≡ false) is plain.0 in
    let later : IsAbove (n + 1) rs = subst (λ (m : ℕ). IsAbove m rs) here above.1 in
    let behind : Covers (n + 1) h (r ∷ rs) = covers_behind n e h (r ∷ rs) cover in
    let rest : without_accepts h ≡ commands_of rs =
    script_told h (n + 1) rs later (all_behind n e h rs later all.1) plain.1
    (λ i f at. ⊎_elim
    (λ (has : HasNumber (r ∷ rs) (n + 1 + i + 1)).
    ⊎_elim (λ (now : r.number ≡ n + 1 + i + 1). absurd (omega arith)) (λ (more : HasNumber rs (n + 1 + i + 1)). inl more) has)
    (λ (acc : is_accept f.command ≡ true). inr acc)
    (behind i f at))
    in
    plain_entry e h bare ∙ (ap (λ (l : List Command). e.command ∷ l) rest ∙ ap (λ (x : Entry). x.command ∷ commands_of rs) (sym is)))
    (λ (other : r.number ≢ n + 1).
    let first : n < r.number = above.0 in
    let beyond : n + 1 < r.number = omega arith in
    let later : IsAbove (n + 1) (r ∷ rs) = (beyond, above.1) in
    ⊎_elim
    (λ (has : HasNumber (r ∷ rs) (n + 0 + 1)). let past : n + 1 < n + 0 + 1 = above_all (n + 1) (r ∷ rs) (n + 0 + 1) later has in
    absurd (omega arith))
    (λ (acc : is_accept e.command ≡ true).
    accept_entry e h acc ∙ script_told h (n + 1) (r ∷ rs) later (all_behind n e h (r ∷ rs) later all) plain
    (covers_behind n e h (r ∷ rs) cover))
    (cover 0 e refl))

-- ---- from what was checked

rises_above : (from to n : ℕ) (rs : List Receipt) → n ≤ from → IsRising from rs to → IsAbove n rs
rises_above from to n [] le rising = tt
rises_above from to n (r ∷ rs) le rising = let first : from < r.number = rising.0 in
    (omega arith, rises_above r.number to r.number rs (omega arith) rising.1)

stand_left : (site : SiteNo) (h : List Entry) (rs qs : List Receipt) → AreAllAt site h (rs ++ qs) → AreAllAt site h rs
stand_left site h [] qs all = tt
stand_left site h (r ∷ rs) qs all = (all.0, stand_left site h rs qs all.1)

stand_right : (site : SiteNo) (h : List Entry) (rs qs : List Receipt) → AreAllAt site h (rs ++ qs) → AreAllAt site h qs
stand_right site h [] qs all = all
stand_right site h (r ∷ rs) qs all = stand_right site h rs qs all.1

all_in : (site : SiteNo) (h : List Entry) (rs : List Receipt) → AreAllAt site h rs → AllIn 0 h rs
all_in site h [] all = tt
all_in site h (r ∷ rs) all = (all.0.entry, all_in site h rs all.1)

accept_at : (site : SiteNo) (h : List Entry) (rs : List Receipt) (i : ℕ) (e : Entry) → AreAllAt site h rs → AreAccepts (commands_of rs)
    → HasNumber rs (i + 1) → slice_get h i ≡ Some e → is_accept e.command ≡ true
accept_at site h [] i e all accepts has at = absurd has
accept_at site h (r ∷ rs) i e all accepts (inl now) at =
    let place : r.number - 1 ≡ i = omega arith in
    let is : r.entry ≡ e = same_Some r.entry e (sym all.0.entry ∙ (ap (λ (m : ℕ). slice_get h m) place ∙ at)) in
    subst (λ (x : Entry). is_accept x.command ≡ true) is accepts.0
accept_at site h (r ∷ rs) i e all accepts (inr more) at = accept_at site h rs i e all.1 accepts.1 more at

pub script_is_told : (site : SiteNo) (h : List Entry) (own others : List Receipt) (from to : ℕ) → AreReceiptsOf site h (own ++ others)
    → IsRising from own to → HasNoAccept (commands_of own) → AreAccepts (commands_of others)
    → without_accepts h ≡ commands_of own
script_is_told site h own others from to checked rising plain accepts =
    script_told h 0 own (rises_above from to 0 own (omega arith) rising)
    (all_in site h own (stand_left site h own others checked.stand)) plain
    (λ i e at.
    let below : i < length h = slice_get_within h i e at in
    let same : i + 1 ≡ 0 + i + 1 = omega arith in
    ⊎_elim
    (λ (mine : HasNumber own (i + 1)). inl (subst (λ (k : ℕ). HasNumber own k) same mine))
    (λ (theirs : HasNumber others (i + 1)). inr (accept_at site h others i e
    (stand_right site h own others checked.stand) accepts theirs at))
    (has_split own others (i + 1) (checked.each i below)))

pub is_worked : (schema : SchemaValue) (site : SiteNo) (script : List Command) (h : List Entry) (rs own others : List Receipt) (from to : ℕ)
    → rs ≡ own ++ others → IsClosed schema site h rs → commands_of own ≡ script → IsRising from own to
    → HasNoAccept script → AreAccepts (commands_of others) → IsWorked schema site script h
is_worked schema site script h rs own others from to both closed calls rising plain accepts =
    let checked : AreReceiptsOf site h (own ++ others) = subst (λ (l : List Receipt). AreReceiptsOf site h l) both closed.checked in
    let bare : HasNoAccept (commands_of own) = subst (λ (l : List Command). HasNoAccept l) (sym calls) plain in record {
      run = closed.run;
      own = closed.own;
      worker = own;
      courier = others;
      checked = checked;
      calls = calls;
      accepts = accepts;
      told = script_is_told site h own others from to checked rising bare accepts ∙ calls;
    }

-- one receipt more
pub rises_more : (from to : ℕ) (rs : List Receipt) (r : Receipt) → IsRising from rs to → to < r.number
    → IsRising from (rs ++ r ∷ []) r.number
rises_more from to [] r same above = let s : from ≡ to = same in (omega arith, refl)
rises_more from to (q ∷ rs) r rising above = (rising.0, rises_more q.number to rs r rising.1 above)

pub rises_more_at : (from to next : ℕ) (rs rs' : List Receipt) (r : Receipt) → rs' ≡ rs ++ r ∷ [] → to < r.number → next ≡ r.number
    → IsRising from rs to → IsRising from rs' next
rises_more_at from to next rs rs' r grown above is rising =
    subst (λ (l : List Receipt). IsRising from l next) (sym grown)
    (subst (λ (n : ℕ). IsRising from (rs ++ r ∷ []) n) (sym is) (rises_more from to rs r rising above))

-- ---- the courier's

accepts_only : (xs : List Letter) → AreAccepts (accepts_of xs)
accepts_only [] = tt
accepts_only (Stated s ∷ xs) = (refl, accepts_only xs)
accepts_only (End site ∷ xs) = accepts_only xs

pub carried_accepts : (sites : ℕ) (before after : List Letter) (rs : List Receipt) → Carries sites before after rs
    → AreAccepts (commands_of rs)
carried_accepts sites before after rs c = subst (λ (l : List Command). AreAccepts l) (sym c.2) (accepts_only c.0)

-- ---- a closed site

of_left : (s : ℕ) (a b : List Entry) → AreOf s (a ++ b) → AreOf s a
of_left s [] b all = tt
of_left s (e ∷ a) b all = (all.0, of_left s a b all.1)

of_right : (s : ℕ) (a b : List Entry) → AreOf s (a ++ b) → AreOf s b
of_right s [] b all = all
of_right s (e ∷ a) b all = of_right s a b all.1

pub of_reversed : (s : ℕ) (h : List Entry) → AreOf s (reverse h) → AreOf s h
of_reversed s [] all = tt
of_reversed s (e ∷ h) all =
    let split : AreOf s (reverse h ++ e ∷ []) = subst (λ (l : List Entry). AreOf s l) (reverse-append (e ∷ []) h) all in
    let last : AreOf s (e ∷ []) = of_right s (reverse h) (e ∷ []) split in
    (last.0, of_reversed s h (of_left s (reverse h) (e ∷ []) split))

pub on_fresh : (v : SiteValue) (schema : SchemaValue) (site : SiteNo) → v.schema ≡ schema → v.site ≡ site → v.fresh ≡ true
    → IsRun v.schema v.site.0 (base_of v) v.history → IsRun schema site.0 (fresh schema site.0) v.history
on_fresh v schema site of number freshly run =
    let based : IsRun v.schema v.site.0 (fresh v.schema v.site.0) v.history =
    subst (λ (b : Bool). IsRun v.schema v.site.0 (base_of (record v { fresh = b })) v.history) freshly run in
    let in_schema : IsRun schema v.site.0 (fresh schema v.site.0) v.history =
    subst (λ (s : SchemaValue). IsRun s v.site.0 (fresh s v.site.0) v.history) of based in
    subst (λ (n : SiteNo). IsRun schema n.0 (fresh schema n.0) v.history) number in_schema

pub is_closed : (v : SiteValue) (schema : SchemaValue) (site : SiteNo) (shown h : List Entry) (rs : List Receipt)
    → reverse shown ≡ v.history → v.schema ≡ schema → v.site ≡ site → v.fresh ≡ true
    → IsRun v.schema v.site.0 (base_of v) v.history → AreOf v.site.0 v.history → AreReceiptsOf v.site (reverse v.history) rs → h ≡ shown
    → IsClosed schema site h rs
is_closed v schema site shown h rs showing of number freshly run own checked copied =
    let turned : v.history ≡ reverse h = sym showing ∙ ap (λ (l : List Entry). reverse l) (sym copied) in
    let back : reverse v.history ≡ h = ap (λ (l : List Entry). reverse l) turned ∙ reverse-reverse h in
    let at_site : IsRun schema site.0 (fresh schema site.0) v.history = on_fresh v schema site of number freshly run in
    let mine : AreOf site.0 v.history = subst (λ (n : SiteNo). AreOf n.0 v.history) number own in
    let held : AreReceiptsOf site (reverse v.history) rs = subst (λ (n : SiteNo). AreReceiptsOf n (reverse v.history) rs) number checked in
    record {
      run = subst (λ (l : List Entry). IsRun schema site.0 (fresh schema site.0) l) turned at_site;
      own = of_reversed site.0 h (subst (λ (l : List Entry). AreOf site.0 l) turned mine);
      checked = subst (λ (l : List Entry). AreReceiptsOf site l rs) back held;
    }

pub if_worked : (schema schema' : SchemaValue) (site number : SiteNo) (script : List Command) (worked : Result (Vec Receipt) WorkFault)
    (own others : Vec Receipt) (from to : ℕ) (all shown : List Receipt) (r : Result (Vec Entry) WorkFault)
    → schema' ≡ schema → number ≡ site → worked ≡ Ok own → all ≡ own.items ++ others.items → shown ≡ all
    → IfOk worked (λ (rs : Vec Receipt). commands_of rs.items ≡ script) → IfOk worked (λ (rs : Vec Receipt). IsRising from rs.items to)
    → AreAccepts (commands_of others.items) → HasNoAccept script
    → IfOk r (λ (h : Vec Entry). IsClosed schema' number h.items shown) → IfOk r (λ (h : Vec Entry). IsWorked schema site script h.items)
if_worked schema schema' site number script worked own others from to all shown
    (Err e) of is told_own both seen calls rising accepts plain closed = tt
if_worked schema schema' site number script worked own others from to all shown
    (Ok h) of is told_own both seen calls rising accepts plain closed =
    let here : IsClosed schema site h.items shown =
    subst (λ (s : SchemaValue). IsClosed s site h.items shown) of
    (subst (λ (n : SiteNo). IsClosed schema' n h.items shown) is closed) in
    is_worked schema site script h.items shown own.items others.items from to (seen ∙ both) here
    (subst (λ (w : Result (Vec Receipt) WorkFault). IfOk w (λ (rs : Vec Receipt). commands_of rs.items ≡ script)) told_own calls)
    (subst (λ (w : Result (Vec Receipt) WorkFault). IfOk w (λ (rs : Vec Receipt). IsRising from rs.items to)) told_own rising)
    plain accepts

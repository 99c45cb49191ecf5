-- What each reply leaves on the medium.
use Rattle.std.proofs.Common.{◌≡◌, ℕ, ◌+◌, Bool, true, false, cond, if◌then◌else◌, List, [], ◌∷◌, ◌++◌, length, refl, sym, ◌∙◌, ap, subst, arith, Option, Some, None}
use Rattle.std.proofs.lemmas.List.{append-nil}
use Rattle.field_bounds.specs.declared.id.SiteNo.{SiteNo}
use Rattle.field_bounds.specs.declared.entry.Command.{Command}
use Rattle.field_bounds.specs.declared.entry.Command.TheVariants.{Begin}
use Rattle.field_bounds.specs.declared.entry.Reply.{Reply}
use Rattle.field_bounds.specs.declared.entry.Reply.TheVariants.{Restarted, Unsure, StillDown, Refused}
use Rattle.field_bounds.specs.declared.entry.Refusal.{Refusal}
use Rattle.field_bounds.specs.declared.entry.Last.{Last}
use Rattle.field_bounds.specs.declared.entry.Last.TheVariants.{Nothing, Kept, Lost}
use Rattle.field_bounds.specs.declared.entry.Entry.{Entry}
use Rattle.kept_records.specs.declared.record.Record.{Record}
use Rattle.kept_records.specs.declared.record.Record.TheVariants as records
use Rattle.field_bounds.specs.Schema.{SchemaValue}
use Rattle.field_bounds.specs.Effects.{Base, says_doubt_kept}
use Rattle.field_bounds.specs.Owed.{Place, place, answer, writes, is_up, is_unsure, count_since, count_after, TellsDoubt}
use Rattle.kept_records.specs.Stands.{greatest}
use Rattle.kept_state.specs.Keeps.{record_left, adds, Tells, entry_at, Keeps}
use Rattle.kept_records.specs.Keeping.{is_record_behind}
use Rattle.kept_state.specs.Doubt.{found_of, InDoubt, IsDoubt}
use Rattle.field_bounds.proofs.Refused.{is_restart}
use Rattle.field_bounds.proofs.Doubt.{kept_before_answer}
use Rattle.kept_state.proofs.Adding.{adds_answer, one_left, left_is_own}
use Rattle.kept_state.proofs.Sure.{keeps_sure, keeps_up}
use Rattle.kept_state.proofs.Doubt.{doubt_new, doubt_restart, found_is_kept}

-- ---- the record in doubt

-- a reply in doubt: its record stands behind all those before it, if it is kept
pub doubt_unsure : (at : Place) (site : SiteNo) (c : Command) (o : List Entry) (rs : List Record) (stood : Bool) → writes at c ≡ true
    → IsDoubt stood (entry_at site c Unsure ∷ o) (rs ++ adds at c Unsure stood rs) (Some (length rs))
doubt_unsure at site c o rs stood w =
    let left = one_left at c w in
    let made = doubt_new rs left.0 stood (left_is_own at c left.1).0 in (
      omega arith,
      rs,
      left.0,
      refl,
      subst (λ (x : List Record). InDoubt stood rs left.0 (rs ++ cond stood x [])) (sym left.1) made,
    )

same_doubt : (kept : Bool) (o p : List Entry) (rs more : List Record) (doubt : Option ℕ) → count_since is_unsure p ≡ count_since is_unsure o
    → ((before : List Record) (note : Record) → InDoubt kept before note rs → InDoubt kept before note more) → IsDoubt kept o rs doubt
    → IsDoubt kept p more doubt
same_doubt kept o p rs more None same on h = same ∙ h
same_doubt kept o p rs more (Some n) same on h = (omega (arith, same, h.0), h.1, h.2, h.3, on h.1 h.2 h.4)

still_adds : (at : Place) (c : Command) (kept stood : Bool) (rs before : List Record) (note : Record) → InDoubt kept before note rs
    → InDoubt kept before note (rs ++ adds at c StillDown stood rs)
still_adds at c kept true rs before note h = doubt_restart kept before note rs (greatest rs + 1) h
still_adds at c kept false rs before note h = subst (λ (x : List Record). InDoubt kept before note x) (sym (append-nil rs)) h

-- a restart that failed leaves it where it is, be its own record left or not
pub doubt_still_down : (at : Place) (site : SiteNo) (c : Command) (kept : Bool) (o : List Entry) (rs : List Record) (stood : Bool)
    (doubt : Option ℕ) → IsDoubt kept o rs doubt
    → IsDoubt kept (entry_at site c StillDown ∷ o) (rs ++ adds at c StillDown stood rs) doubt
doubt_still_down at site c kept o rs stood doubt h =
    same_doubt kept o (entry_at site c StillDown ∷ o) rs (rs ++ adds at c StillDown stood rs) doubt (omega arith)
    (λ before note. still_adds at c kept stood rs before note) h

-- a refusal changes nothing
pub doubt_refused : (site : SiteNo) (c : Command) (x : Refusal) (kept : Bool) (o : List Entry) (rs : List Record) (doubt : Option ℕ)
    → IsDoubt kept o rs doubt
    → IsDoubt kept (entry_at site c (Refused x) ∷ o) rs doubt
doubt_refused site c x kept o rs doubt h =
    same_doubt kept o (entry_at site c (Refused x) ∷ o) rs rs doubt (omega arith) (λ before note is. is) h

count_sure : (n : ℕ) (r : Reply) → is_unsure r ≡ false → n ≡ 0 → count_after is_unsure n r ≡ 0
count_sure n (Restarted epoch found) sure none = refl
count_sure n Unsure sure none = cc
count_sure n r sure none = omega (arith, none)

-- while nothing is in doubt, a reply that isn't in doubt leaves nothing in doubt, whatever records there are
pub doubt_answered : (site : SiteNo) (c : Command) (r : Reply) (kept other : Bool) (o : List Entry) (rs more : List Record)
    → is_unsure r ≡ false → IsDoubt kept o rs None
    → IsDoubt other (entry_at site c r ∷ o) more None
doubt_answered site c r kept other o rs more sure h = count_sure (count_since is_unsure o) r sure h

-- after a restart nothing is in doubt
pub doubt_restarted : (site : SiteNo) (c : Command) (epoch : ℕ) (found : Last) (kept : Bool) (o : List Entry) (rs : List Record)
    → IsDoubt kept (entry_at site c (Restarted epoch found) ∷ o) rs None
doubt_restarted site c epoch found kept o rs = refl

-- ---- what a restart finds

last_of : (b : Bool) → ((if b then Kept else Lost) ≡ Nothing) → ⊥
last_of true h = cc
last_of false h = cc

-- a restart finds it kept exactly where it is kept
pub found_is : (kept : Bool) (o : List Entry) (rs : List Record) (n : ℕ) → IsDoubt kept o rs (Some n)
    → found_of (Some n) rs ≡ (if kept then Kept else Lost)
found_is kept o rs n h =
    ap (λ (b : Bool). if b then Kept else Lost) (ap (λ (m : ℕ). is_record_behind m rs) h.3 ∙ found_is_kept kept h.1 h.2 rs h.4)

-- and tells of a record in doubt exactly where there is one
pub found_tells : (schema : SchemaValue) (s : ℕ) (base : Base) (kept : Bool) (o : List Entry) (rs : List Record) (doubt : Option ℕ)
    → IsDoubt kept o rs doubt
    → TellsDoubt (place schema s base o) (found_of doubt rs)
found_tells schema s base kept o rs None h = (λ none. refl, λ nothing. h)
found_tells schema s base kept o rs (Some n) h = (
  λ none. absurd (omega (arith, h.0, none)),
  λ nothing. absurd (last_of (is_record_behind n rs) nothing),
)

says_last : (b : Bool) → says_doubt_kept (if b then Kept else Lost) ≡ b
says_last true = refl
says_last false = refl

-- so the records are those of what it tells
pub keeps_found : (schema : SchemaValue) (s : ℕ) (base : Base) (bs : List Record) (kept : Bool) (o : List Entry) (rs : List Record)
    (doubt : Option ℕ) → IsDoubt kept o rs doubt
    → Keeps schema s base bs kept o rs → Keeps schema s base bs (says_doubt_kept (found_of doubt rs)) o rs
keeps_found schema s base bs kept o rs None h keeps = keeps_sure schema s base bs kept false o rs h keeps
keeps_found schema s base bs kept o rs (Some n) h keeps =
    subst (λ (k : Bool). Keeps schema s base bs k o rs) (sym (ap says_doubt_kept (found_is kept o rs n h) ∙ says_last kept)) keeps

-- ---- the records

tells_answer : (at : Place) (c : Command) (kept stood : Bool) (rs : List Record) → Tells kept stood rs (answer at c)
tells_answer at Begin kept stood rs = tt
tells_answer at c kept stood rs = tt

module _ (schema : SchemaValue) (s : ℕ) (base : Base) (bs : List Record) (kept : Bool) (o : List Entry) (rs : List Record)
    (keeps : Keeps schema s base bs kept o rs) (site : SiteNo) (c : Command) where
  abbrev here : Place
  here = place schema s base o

  -- an answer leaves the record of its command, if it writes one
  pub keeps_answered : is_restart c ≡ false → Keeps schema s base bs kept (entry_at site c (answer here c) ∷ o) (rs ++ record_left here c)
  keeps_answered n = (
    rs,
    true,
    subst (λ (k : Bool). Keeps schema s base bs k o rs) (sym (kept_before_answer here c kept)) keeps,
    tells_answer here c kept true rs,
    ap (λ (more : List Record). rs ++ more) (sym (adds_answer here c true rs n)),
  )

  -- a refusal leaves nothing
  pub keeps_refused : (x : Refusal) → Keeps schema s base bs kept (entry_at site c (Refused x) ∷ o) rs
  keeps_refused x = (rs, true, keeps, tt, sym (append-nil rs))

  -- a reply in doubt leaves the record or not, and the next restart will say which
  pub keeps_unsure : (stood : Bool) → is_up base o ≡ true
      → Keeps schema s base bs stood (entry_at site c Unsure ∷ o) (rs ++ adds here c Unsure stood rs)
  keeps_unsure stood up = (rs, stood, keeps_up schema s base bs kept stood o rs up keeps, refl, refl)

  -- a restart that failed leaves its record or not
  pub keeps_still_down : (stood : Bool) → Keeps schema s base bs kept (entry_at site c StillDown ∷ o) (rs ++ adds here c StillDown stood rs)
  keeps_still_down stood = (rs, stood, keeps, tt, refl)

  -- a restart leaves its record, and tells what it finds of the record in doubt
  pub keeps_restarted : (other : Bool) (doubt : Option ℕ) → IsDoubt kept o rs doubt
      → Keeps schema s base bs other (entry_at site c (Restarted (greatest rs + 1) (found_of doubt rs)) ∷ o)
      (rs ++ records.Restart (greatest rs + 1) ∷ [])
  keeps_restarted other doubt h = (rs, true, keeps_found schema s base bs kept o rs doubt h keeps, refl, refl)

-- Where the front of a log ends that can be let go, and what is told of it.
use Rattle.std.proofs.Common.{◌≡◌, ℕ, ◌+◌, ◌-◌, ◌*◌, ◌<◌, ◌≤◌, true, eqb, List, [], ◌∷◌, ◌++◌, length, take, drop, get_or, refl, sym, ap, subst, ◌∙◌, inl, inr, arith}
use Rattle.std.specs.Prelude.{position, Some, None}
use Rattle.std.specs.List.{list_any}
use Rattle.field_bounds.specs.declared.id.TxnId.{TxnId}
use Rattle.std.proofs.lemmas.Bool.{cases_lt, eq-eqb, or_parts}
use Rattle.std.proofs.lemmas.List.{take_all, length-drop, length-take, get_or-take}
use Rattle.std.proofs.lemmas.List.Sums.{fold_push}
use Rattle.kept_records.specs.declared.record.Record.{Record}
use Rattle.kept_records.specs.Logs.{HasNoLf, IsLog}
use Rattle.kept_records.specs.Keeping.{IsKept}
use Rattle.kept_records.specs.Lines.{IsRecordAt, StartsBad, Begins}
use Rattle.kept_records.specs.Stands.{plain}
use Rattle.kept_records.proofs.Bytes.{missing, found}
use Rattle.kept_records.proofs.Counts.{plain_push}
use Rattle.kept_records.proofs.Lines.{no_log, same_log}
use Rattle.kept_records.proofs.Walks.{begins_none, begins_more, bad_there}
use Rattle.kept_records.proofs.Windows.{NoByteFrom, NoLetterBehind, none_at_all, none_behind_lf}
use Rattle.site_step.specs.declared.front.FrontRecords.{FrontRecords}
use Rattle.site_step.specs.Shortening.{later_commit, latest_commit, behind_line, IsInLine, NoneBetween, IsFrontEnd}
use Rattle.site_step.proofs.Fronts.{two_fewer, plain_few, ends_log}

-- ---- the last summary's line before a place

-- the letter stands nowhere from this place on
pub none_from : (bytes : List ℕ) (end from stop : ℕ) → end ≤ length bytes → NoneBetween bytes end stop → NoLetterBehind bytes end from
    → NoneBetween bytes from stop
none_from bytes end from stop within none letters place low below line = elim (cases_lt place end) [
  | inl less ↦ letters place low (omega (arith, less, within, length-take end bytes))
      (eq-eqb (get_or (take end bytes) place 0) 83 (get_or-take end bytes place 0 less ∙ line.letter))
  | inr past ↦ none place past below line
]

-- the letter at this place starts no line
pub none_at : (bytes : List ℕ) (here stop : ℕ) → NoneBetween bytes (here + 1) stop → (0 < here → get_or bytes (here - 1) 0 ≡ 10 → ⊥)
    → NoneBetween bytes here stop
none_at bytes here stop none apart place low below line = elim (cases_lt here place) [
  | inl past ↦ none place (omega (arith, past)) below line
  | inr back ↦
      let same : place ≡ here = omega (arith, low, back) in
      apart (omega (arith, same, line.some)) (ap (λ (i : ℕ). get_or bytes (i - 1) 0) (sym same) ∙ line.behind)
]

-- ---- what stands behind a line

pub behind_first : (line behind : List ℕ) → HasNoLf line → behind_line (line ++ 10 ∷ behind) ≡ length behind
behind_first [] behind none = refl
behind_first (b ∷ line) behind none =
    let parts = or_parts (eqb b 10) (list_any (λ x. eqb x 10) line) none in rw parts.0 (behind_first line behind parts.1)

behind_none : (bytes : List ℕ) → HasNoLf bytes → behind_line bytes ≡ 0
behind_none [] none = refl
behind_none (b ∷ bytes) none =
    let parts = or_parts (eqb b 10) (list_any (λ x. eqb x 10) bytes) none in rw parts.0 (behind_none bytes parts.1)

pub behind_found : (bytes : List ℕ) (end : ℕ) → position (λ b. eqb b 10) bytes ≡ Some end → length bytes - end - 1 ≡ behind_line bytes
behind_found bytes end is =
    let cut = found 10 bytes end is in
    omega (
      arith,
      ap behind_line cut.parts ∙ behind_first (take end bytes) (drop (end + 1) bytes) cut.front,
      length-drop (end + 1) bytes,
    )

pub behind_missing : (bytes : List ℕ) → position (λ b. eqb b 10) bytes ≡ None → 0 ≡ behind_line bytes
behind_missing bytes is = sym (behind_none bytes (missing 10 bytes is))

-- ---- the place

pub in_line_before : (bytes : List ℕ) (here end : ℕ) → here ≤ end → IsInLine bytes end → IsInLine bytes here
in_line_before bytes here end less inside = record {
  line_feed = inside.line_feed;
  before = omega (arith, less, inside.before);
  within = inside.within;
  ends = inside.ends;
}

-- no line ends
pub none_without : (bytes : List ℕ) (keep : ℕ) → NoByteFrom 10 bytes 0 → (place : ℕ) → IsFrontEnd bytes keep place → ⊥
none_without bytes keep none place is = none_at_all bytes none is.next (omega arith) is.another

-- the last summary's line is the first from this place on, if any
pub none_further : (bytes : List ℕ) (keep end from : ℕ) → eqb (get_or bytes end 0) 10 ≡ true → NoByteFrom 10 bytes (end + 1)
    → NoneBetween bytes from end → (place : ℕ) → from ≤ place + 1 → IsFrontEnd bytes keep place → ⊥
none_further bytes keep end from lf after none place low is = elim (cases_lt is.next end) [
  | inl below ↦ none is.next (omega (arith, low, is.behind)) below is.another
  | inr past ↦ none_behind_lf bytes end lf after is.next past is.another
]

-- none starts behind the one at this place and before the next
pub none_past : (bytes : List ℕ) (keep here further : ℕ) → ((place : ℕ) → further ≤ place → IsFrontEnd bytes keep place → ⊥)
    → NoneBetween bytes (here + 1) further → (place : ℕ) → here < place → IsFrontEnd bytes keep place → ⊥
none_past bytes keep here further none between place past is = elim (cases_lt place further) [
  | inr beyond ↦ none place beyond is
  | inl below ↦ between place (omega (arith, past)) below is.line
]

-- too few bytes stand behind that line
pub none_back : (bytes : List ℕ) (keep here further : ℕ) → ((place : ℕ) → further ≤ place → IsFrontEnd bytes keep place → ⊥)
    → NoneBetween bytes (here + 1) further → behind_line (drop here bytes) < keep
    → (place : ℕ) → here ≤ place → IsFrontEnd bytes keep place → ⊥
none_back bytes keep here further none between few place low is = elim (cases_lt here place) [
  | inl past ↦ none_past bytes keep here further none between place past is
  | inr back ↦
      let same : place ≡ here = omega (arith, low, back) in
      absurd (omega (arith, few, is.stays, ap (λ (i : ℕ). behind_line (drop i bytes)) same))
]

-- what is left of a slice behind a place
pub slice_rest : (place : ℕ) (bytes : List ℕ) → take (length bytes - place) (drop place bytes) ≡ drop place bytes
slice_rest place bytes = take_all (length bytes - place) (drop place bytes) (omega (arith, length-drop place bytes))

-- no summary's line starts before the next
pub none_first : (bytes : List ℕ) (keep further : ℕ) → ((place : ℕ) → further ≤ place → IsFrontEnd bytes keep place → ⊥)
    → NoneBetween bytes 0 further → (place : ℕ) → IsFrontEnd bytes keep place → ⊥
none_first bytes keep further none between place is = elim (cases_lt place further) [
  | inr past ↦ none place past is
  | inl below ↦ between place (omega arith) below is.line
]

-- ---- what is told of a front

latest_none : record { epoch = 0; number = 0 } ≡ latest_commit []
unfolding latest_commit
latest_none = refl

latest_push : (rs : List Record) (r : Record) → latest_commit (rs ++ r ∷ []) ≡ later_commit (latest_commit rs) r
unfolding latest_commit
latest_push rs r = fold_push later_commit (record { epoch = 0; number = 0 }) rs r

-- These are the records read so far, so many are no summaries, and this is the greatest commit's transaction.
pub record TellsFront (bytes : List ℕ) (front : FrontRecords) (left : List ℕ) : Type 0 where
  pub begins : Begins bytes front.gone.items left
  pub few : 2 * front.records + length left ≤ length bytes
  pub records : front.records ≡ length (plain front.gone.items)
  pub latest : front.latest ≡ latest_commit front.gone.items

pub tells_none : {bytes left : List ℕ} {front : FrontRecords} → front.gone.items ≡ [] → front.records ≡ 0
    → front.latest ≡ record { epoch = 0; number = 0 } → left ≡ bytes → TellsFront bytes front left
tells_none {bytes = bytes} {left = left} {front = front} none few first all = record {
  begins = subst (λ (rs : List Record). Begins bytes rs left) (sym none) (subst (λ (l : List ℕ). Begins bytes [] l) (sym all) (begins_none bytes));
  few = omega (arith, few, ap length all);
  records = omega (arith, few, ap (λ (rs : List Record). length (plain rs)) none);
  latest = first ∙ latest_none ∙ ap latest_commit (sym none);
}

module _ {bytes left : List ℕ} {front : FrontRecords} (so_far : TellsFront bytes front left) where
  abbrev rs : List Record
  rs = front.gone.items

  pub tells_more : {r : Record} {new behind : List ℕ} {later : FrontRecords} → IsRecordAt left r new → later.gone.items ≡ rs ++ r ∷ []
      → later.records ≡ front.records + length (plain (r ∷ [])) → later.latest ≡ later_commit front.latest r → behind ≡ new
      → TellsFront bytes later behind
  tells_more {r = r} {new = new} {behind = behind} {later = later} at noted counted latest_is same = record {
    begins = subst (λ (l : List ℕ). Begins bytes later.gone.items l) (sym same)
        (subst (λ (x : List Record). Begins bytes x new) (sym noted) (begins_more bytes rs left r new so_far.begins at));
    few = omega (arith, so_far.few, counted, plain_few r, ap length same, two_fewer left r new at);
    records = omega (
      arith,
      counted,
      so_far.records,
      plain_push rs r,
      ap (λ (x : List Record). length (plain x)) noted,
    );
    latest = latest_is ∙ ap (λ (t : TxnId). later_commit t r) so_far.latest ∙ sym (latest_push rs r) ∙ ap latest_commit (sym noted);
  }

  pub no_bad : StartsBad left → IsKept bytes → ⊥
  no_bad starts kept = no_log bytes (length rs + 1) (bad_there bytes rs left 0 so_far.begins starts).0 kept.0 kept.1 kept.2

  pub are_all : HasNoLf left → (all : List Record) (rest : List ℕ) → IsLog bytes all rest → rs ≡ all
  are_all none all rest log = (same_log bytes rs all left rest (ends_log bytes rs left so_far.begins none) log).0

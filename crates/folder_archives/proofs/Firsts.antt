-- The first line of a part, which is all that is kept of it.
use Rattle.std.proofs.Common.{◌≡◌, ℕ, ◌+◌, eqb, List, [], ◌∷◌, ◌++◌, length, take, drop, Option, Some, None, refl, sym, ap, ◌∙◌, inl, inr, arith, append_assoc}
use Rattle.std.specs.List.{position}
use Rattle.std.proofs.Math.Seq.{take-append_seam}
use Rattle.std.proofs.lemmas.List.{append-nil, length-append, length-take}
use Rattle.field_bounds.specs.Schema.{SchemaValue}
use Rattle.kept_records.specs.Lines.{IsRecordAt}
use Rattle.kept_records.specs.Summary.{SummaryValue, summary_record}
use Rattle.kept_records.specs.Text.{text}
use Rattle.kept_records.proofs.Bytes.{found, missing, one_cut}
use Rattle.kept_records.proofs.Lines.{body, body_without}
use Rattle.log_head.specs.declared.gone.Gone.{Gone}
use Rattle.held_logs.specs.Behind.{StartsWith}
use Rattle.log_archives.specs.declared.fault.JointFault.{JointFault}
use Rattle.log_archives.specs.declared.fault.JointFault.TheVariants.{BadLine, BreaksRule, Short, OtherBase, OtherBytes, OtherRecords, OtherHorizon}
use Rattle.log_archives.specs.Joints.{HasBaseAt, HasNoBase, IsJointFault, Joins}
use Rattle.folder_archives.specs.Steps.{IsFirstLineOf}

-- ---- where it ends

pub first_at : (bytes : List ℕ) (end : ℕ) → position (λ b. eqb b 10) bytes ≡ Some end → IsFirstLineOf bytes (take (end + 1) bytes)
first_at bytes end is =
    let cut = found 10 bytes end is in
    let front = take end bytes in
    let line : List ℕ = front ++ 10 ∷ [] in
    let parts : bytes ≡ line ++ drop (end + 1) bytes = cut.parts ∙ sym (append_assoc front (10 ∷ []) (drop (end + 1) bytes)) in
    let size : end + 1 ≡ length line = omega (arith, cut.within, length-append front (10 ∷ []), length-take end bytes) in
    let line_is : take (end + 1) bytes ≡ line =
    ap (λ (n : ℕ). take n bytes) size ∙ ap (λ (l : List ℕ). take (length line) l) parts ∙ take-append_seam line (drop (end + 1) bytes) in
    record { front = front; behind = drop (end + 1) bytes; one_line = cut.front; ends = inl (line_is, cut.parts) }

pub first_all : (bytes : List ℕ) → position (λ b. eqb b 10) bytes ≡ None → IsFirstLineOf bytes bytes
first_all bytes is = record { front = bytes; behind = []; one_line = missing 10 bytes is; ends = inr (refl, refl) }

-- ---- what is said of it is said of the part

parts_of : (bytes line : List ℕ) → IsFirstLineOf bytes line → (more : List ℕ) × (bytes ≡ line ++ more)
parts_of bytes line first = elim first.ends [
  | inl ends ↦ (
    first.behind,
    ends.1 ∙ sym (append_assoc first.front (10 ∷ []) first.behind) ∙ ap (λ (l : List ℕ). l ++ first.behind) (sym ends.0),
  )
  | inr all ↦ ([], all.1 ∙ sym all.0 ∙ sym (append-nil line))
]

module _ (bytes line : List ℕ) (first : IsFirstLineOf bytes line) where
  at_bytes : (base : SummaryValue) (behind : List ℕ) → IsRecordAt line (summary_record base) behind
      → IsRecordAt bytes (summary_record base) (behind ++ (parts_of bytes line first).0)
  at_bytes base behind at =
      let parts = parts_of bytes line first in
      record {
        parts = parts.1 ∙ ap (λ (l : List ℕ). l ++ parts.0) at.parts ∙ append_assoc (text (summary_record base)) behind parts.0;
        fits = at.fits;
      }

  starts : (base : SummaryValue) → StartsWith line base → StartsWith bytes base
  starts base at = (at.0 ++ (parts_of bytes line first).0, at_bytes base at.0 at.1)

  -- a base that the part begins with is its first line
  starts_line : (base : SummaryValue) → StartsWith bytes base → StartsWith line base
  starts_line base at = elim first.ends [
    | inl ends ↦
        let r = summary_record base in
        let one : body r ++ 10 ∷ at.0 ≡ first.front ++ 10 ∷ first.behind =
        sym (append_assoc (body r) (10 ∷ []) at.0) ∙ sym at.1.parts ∙ ends.1 in
        let same = one_cut 10 (body r) first.front at.0 first.behind (body_without r at.1.fits) first.one_line one in
        let parts : line ≡ text r ++ [] =
        ends.0 ∙ ap (λ (l : List ℕ). l ++ 10 ∷ []) (sym same.front) ∙ sym (append-nil (text r)) in
        ([], record { parts = parts; fits = at.1.fits })
    | inr all ↦ (at.0, record { parts = all.0 ∙ sym all.1 ∙ at.1.parts; fits = at.1.fits })
  ]

  has_no_base : HasNoBase line → HasNoBase bytes
  has_no_base none base at = none base (starts_line base at)

  pub joins_on : (schema : SchemaValue) (s : ℕ) (gone : Option Gone) (held : List ℕ) (told : Gone) → Joins schema s gone held told line
      → Joins schema s gone held told bytes
  joins_on schema s gone held told joins = record {
    front = joins.front;
    base = joins.base;
    left = joins.left;
    behind = joins.behind ++ (parts_of bytes line first).0;
    some = joins.some;
    held_is = joins.held_is;
    each = joins.each;
    next_is = at_bytes joins.base joins.behind joins.next_is;
    lawful = joins.lawful;
    tells = joins.tells;
  }

  base_on : (gone : Option Gone) (held : List ℕ) (told : Gone) (cut n : ℕ) → HasBaseAt gone held told line cut n
      → HasBaseAt gone held told bytes cut n
  base_on gone held told cut n at = record {
    base = at.base;
    behind = at.behind ++ (parts_of bytes line first).0;
    next_is = at_bytes at.base at.behind at.next_is;
    there = at.there;
  }

  pub fault_on : (schema : SchemaValue) (s : ℕ) (gone : Option Gone) (held : List ℕ) (told : Gone) (fault : JointFault)
      → IsJointFault schema s gone held told line fault → IsJointFault schema s gone held told bytes fault
  fault_on schema s gone held told (BadLine number) is =
      record { cut = is.cut; size = is.size; at = base_on gone held told is.cut is.size is.at; comes = is.comes }
  fault_on schema s gone held told (BreaksRule number) is =
      record { cut = is.cut; size = is.size; at = base_on gone held told is.cut is.size is.at; comes = is.comes }
  fault_on schema s gone held told Short is = record { base = is.base; next_is = starts is.base is.next_is; few = is.few }
  fault_on schema s gone held told OtherBase (inl none) = inl (has_no_base none)
  fault_on schema s gone held told OtherBase (inr other) = inr (record {
    base = other.base;
    next_is = starts other.base other.next_is;
    front = other.front;
    is_front = other.is_front;
    none = other.none;
  })
  fault_on schema s gone held told OtherBytes is = is
  fault_on schema s gone held told OtherRecords is = is
  fault_on schema s gone held told OtherHorizon is = is

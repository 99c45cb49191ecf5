-- Two parts that join.
use Rattle.std.proofs.Common.{◌≡◌, ℕ, ◌+◌, List, [], ◌∷◌, ◌++◌, length, take, drop, Option, None, Some, refl, sym, ap, subst, ◌∙◌, inr, arith, append_assoc}
use Rattle.std.specs.Prelude.{Result, Ok, Err, IfOk, IfNone}
use Rattle.std.specs.List.{flat_map}
use Rattle.std.proofs.Math.Seq.{take-append_seam}
use Rattle.std.proofs.lemmas.List.{append-nil, length-append, take-append-drop}
use Rattle.field_bounds.specs.Schema.{SchemaValue}
use Rattle.kept_records.specs.declared.record.Record.{Record}
use Rattle.kept_records.specs.Logs.{IsLog}
use Rattle.kept_records.specs.Stands.{Lawful}
use Rattle.kept_records.specs.Summary.{summary_record}
use Rattle.kept_records.specs.Text.{text}
use Rattle.kept_records.proofs.Lines.{all_push, flat_push}
use Rattle.log_replay.specs.declared.standing.Standing.{Standing}
use Rattle.log_replay.specs.declared.log_bytes.LogReplayed.TheVariants as came
use Rattle.held_logs.specs.Behind.{AreLawfulBehind}
use Rattle.log_head.specs.declared.gone.Gone.{Gone}
use Rattle.log_archives.specs.declared.fault.JointFault.{JointFault}
use Rattle.log_archives.specs.declared.fault.JointFault.TheVariants.{BadLine, BreaksRule, Short, OtherBase, OtherBytes, OtherRecords, OtherHorizon}
use Rattle.log_archives.specs.Heads.{bytes_told}
use Rattle.log_archives.specs.Joints.{HasBaseAt, HasLines, HeadTells, IsFront, IsJointFault, Joins, TellsHeld, TellsLines, TellsWrongly}

-- lines that come to a standing are lawful
pub has_lines : (schema : SchemaValue) (s : ℕ) (gone : Option Gone) (bytes : List ℕ) (standing : Standing) (n : ℕ)
    → TellsHeld schema s gone bytes (came.Standing standing n) → HasLines schema s gone bytes
has_lines schema s None bytes standing n comes rs log =
    subst (λ (l : List Record). Lawful schema s l) (comes.all.1 rs [] log).0 comes.lawful
has_lines schema s (Some gone) bytes standing n comes rs log =
    let all : List Record = summary_record comes.base ∷ comes.records in
    let same : all ≡ rs = (comes.all.1 rs [] log).0 in
    record {
      base = comes.base;
      behind = comes.records;
      first = sym same;
      lawful = subst (λ (l : List Record). AreLawfulBehind schema s comes.base l) same comes.lawful;
    }

-- where the base stands, the lines up to and with it are lawful, and the head tells rightly, the parts join
module _ (schema : SchemaValue) (s : ℕ) (gone : Option Gone) (held : List ℕ) (told : Gone) (next : List ℕ) (cut n : ℕ)
    (at : HasBaseAt gone held told next cut n) where
  abbrev pub line : List ℕ
  line = text (summary_record at.base)

  pub front_is : take cut held ≡ at.there.front
  front_is =
      ap (λ (m : ℕ). take m held) at.there.cut_is ∙ ap (λ (l : List ℕ). take (length at.there.front) l) at.there.held_is
      ∙ take-append_seam at.there.front (line ++ at.there.left)

  pub lines_are : take (cut + n) held ≡ at.there.front ++ line
  lines_are =
      let held_is : held ≡ (at.there.front ++ line) ++ at.there.left = at.there.held_is ∙ sym (append_assoc at.there.front line at.there.left) in
      let size : cut + n ≡ length (at.there.front ++ line) = omega (arith, at.there.cut_is, at.there.size, length-append at.there.front line) in
      ap (λ (m : ℕ). take m held) size ∙ ap (λ (l : List ℕ). take (length (at.there.front ++ line)) l) held_is
      ∙ take-append_seam (at.there.front ++ line) at.there.left

  pub place : told.bytes ≡ bytes_told gone + length (take cut held)
  place = omega (arith, at.there.place, at.there.cut_is, ap length front_is)

  pub joins : HasLines schema s gone (take (cut + n) held) → HeadTells gone (take cut held) told → Joins schema s gone held told next
  joins lawful tells =
      let rs = tells.0 in
      let begins = tells.1 in
      let front_texts : at.there.front ≡ flat_map text rs = sym front_is ∙ begins.parts ∙ append-nil (flat_map text rs) in
      let lines : take (cut + n) held ≡ flat_map text (rs ++ summary_record at.base ∷ []) =
      lines_are ∙ ap (λ (l : List ℕ). l ++ line) front_texts ∙ sym (flat_push rs (summary_record at.base)) in
      let log : IsLog (take (cut + n) held) (rs ++ summary_record at.base ∷ []) [] = record {
        parts = lines ∙ sym (append-nil (flat_map text (rs ++ summary_record at.base ∷ [])));
        each = all_push rs (summary_record at.base) begins.each at.next_is.fits;
        no_lf = refl;
      } in
      record {
        front = rs;
        base = at.base;
        left = at.there.left;
        behind = at.behind;
        some = λ none.
            let size : length at.there.front ≡ 0 = ap length (front_texts ∙ ap (λ (l : List Record). flat_map text l) none) in
            absurd (omega (arith, at.there.some, at.there.cut_is, size));
        held_is = at.there.held_is ∙ ap (λ (l : List ℕ). l ++ (line ++ at.there.left)) front_texts;
        each = begins.each;
        next_is = at.next_is;
        lawful = lawful (rs ++ summary_record at.base ∷ []) log;
        tells = tells.2;
      }

  -- and else not
  pub of_lines : (fault : JointFault) → TellsLines schema s gone (take (cut + n) held) fault → IsJointFault schema s gone held told next fault
  of_lines (BadLine number) tells = record { cut = cut; size = n; at = at; comes = tells }
  of_lines (BreaksRule number) tells = record { cut = cut; size = n; at = at; comes = tells }
  of_lines Short tells = absurd tells
  of_lines OtherBase tells = absurd tells
  of_lines OtherBytes tells = absurd tells
  of_lines OtherRecords tells = absurd tells
  of_lines OtherHorizon tells = absurd tells

  is_front : IsFront gone held told (take cut held)
  is_front = record { left = drop cut held; held_is = sym (take-append-drop cut held); size = place }

  pub of_head : (fault : JointFault) → TellsWrongly gone (take cut held) told fault → IsJointFault schema s gone held told next fault
  of_head (BadLine number) tells = absurd tells
  of_head (BreaksRule number) tells = absurd tells
  of_head Short tells = absurd tells
  of_head OtherBase tells = absurd tells
  of_head OtherBytes tells = inr (take cut held, is_front, tells)
  of_head OtherRecords tells = (take cut held, is_front, tells)
  of_head OtherHorizon tells = (take cut held, is_front, tells)

-- what follows where no fault is told
pub if_none : {E A B : Type 0} (result : Result (Option JointFault) E) → (A → B) → IfOk result (λ fault. IfNone fault A)
    → IfOk result (λ fault. IfNone fault B)
if_none (Ok None) f is = f is
if_none (Ok (Some fault)) f is = is
if_none (Err refused) f is = is

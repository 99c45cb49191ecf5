-- Notes of keys, and what they tell.
use Rattle.std.proofs.Common.{◌≡◌, ℕ, Bool, if◌then◌else◌, List, [], ◌∷◌, ◌++◌, length, take, Option, Some, None, bytes_eq, sym, ap, ◌∙◌, subst, append_assoc, append-nil}
use Rattle.std.specs.List.{AllByRecursion, flat_map}
use Rattle.std.proofs.Math.Seq.{take-append_seam}
use Rattle.std.proofs.lemmas.List.Sums.{fold-append}
use Rattle.std.proofs.lemmas.List.Concat.{flat_map-append}
use Rattle.field_bounds.specs.declared.id.TxnId.{TxnId}
use Rattle.caller_keys.specs.Keys.{KeyNote, IsNote, note_of, note_line, last_txn}
use Rattle.site_service.specs.Kept.{LastNotes, last_of, noted, if_committed, TellsCommit, TellsKey}
use Rattle.site_service.specs.Index.{IsBehind}

-- ---- which commit is kept with a key

pub key_none : (bytes : List ℕ) (last : LastNotes) (key : List ℕ) → None ≡ last_of last key → TellsKey bytes last key None
key_none bytes last key is rs rest log = ap (if_committed rs) is

pub key_found : (bytes : List ℕ) (last : LastNotes) (key : List ℕ) (txn : TxnId) (kept : Bool) → Some txn ≡ last_of last key
    → TellsCommit bytes txn kept → TellsKey bytes last key (if kept then Some txn else None)
key_found bytes last key txn kept is tells rs rest log =
    ap (λ (b : Bool). if b then Some txn else None) (tells rs rest log) ∙ ap (if_committed rs) is

-- ---- a note more

all_notes : (ns : List KeyNote) (n : KeyNote) → AllByRecursion IsNote ns → IsNote n → AllByRecursion IsNote (ns ++ n ∷ [])
all_notes [] n all one = (one, tt)
all_notes (m ∷ ns) n all one = (all.0, all_notes ns n all.1 one)

lines_push : (ns : List KeyNote) (n : KeyNote) → flat_map note_line (ns ++ n ∷ []) ≡ flat_map note_line ns ++ note_line n
lines_push ns n = flat_map-append note_line ns (n ∷ []) ∙ ap (λ (l : List ℕ). flat_map note_line ns ++ l) (append-nil (note_line n))

last_push : (key : List ℕ) (ns : List KeyNote) (n : KeyNote)
    → last_txn key (ns ++ n ∷ []) ≡ (if bytes_eq n.key key then Some n.txn else last_txn key ns)
last_push key ns n = fold-append (λ (found : Option TxnId) (m : KeyNote). if bytes_eq m.key key then Some m.txn else found) None ns (n ∷ [])

pub behind_more : (notes : List KeyNote) (lines new : List ℕ) (last later : LastNotes) (key : List ℕ) (txn : TxnId) → IsBehind notes lines last
    → IsNote (note_of key txn) → new ≡ lines ++ note_line (note_of key txn) → ((other : List ℕ) → last_of later other ≡ noted last key txn other)
    → IsBehind notes new later
behind_more notes lines new last later key txn behind is_note is tells =
    let n = note_of key txn in
    let more = behind.more ++ n ∷ [] in
    record {
      more = more;
      lines = record {
        each = all_notes behind.more n behind.lines.each is_note;
        lines = is ∙ ap (λ (l : List ℕ). l ++ note_line n) behind.lines.lines ∙ sym (lines_push behind.more n);
      };
      tells = λ other. tells other ∙ ap (λ (o : Option TxnId). if bytes_eq key other then Some txn else o) (behind.tells other)
          ∙ sym (last_push other (notes ++ behind.more) n)
          ∙ ap (last_txn other) (append_assoc notes behind.more (n ∷ []));
    }

-- none more
pub behind_same : (notes : List KeyNote) (lines new : List ℕ) (last later : LastNotes) → IsBehind notes lines last → new ≡ lines → later ≡ last
    → IsBehind notes new later
behind_same notes lines new last later behind same still =
    subst (λ (l : List ℕ). IsBehind notes l later) (sym same) (subst (IsBehind notes lines) (sym still) behind)

pub behind_dropped : (notes : List KeyNote) (lines line old new : List ℕ) (last later : LastNotes) (before : ℕ) → IsBehind notes lines last
    → before ≡ length lines → old ≡ lines ++ line → new ≡ take before old → later ≡ last → IsBehind notes new later
behind_dropped notes lines line old new last later before behind size is cut still =
    behind_same notes lines new last later behind
    (cut ∙ ap (take before) is ∙ ap (λ (n : ℕ). take n (lines ++ line)) size ∙ take-append_seam lines line) still

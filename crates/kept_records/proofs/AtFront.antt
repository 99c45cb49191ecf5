-- Records that bytes begin with, read word by word.
use Rattle.std.proofs.Common.{◌≡◌, ℕ, List, [], ◌∷◌, ◌++◌, append_assoc, sym, ap, ◌∙◌}
use Rattle.std.specs.Fmt.{decimal, signed_decimal}
use Rattle.std.specs.List.{AllByRecursion}
use Rattle.std.proofs.lemmas.List.{append-nil}
use Rattle.std.proofs.lemmas.List.Concat.{flat_map-append}
use Rattle.field_bounds.specs.declared.entry.Escrow.{Escrow}
use Rattle.field_bounds.specs.declared.id.TxnId.{TxnId}
use Rattle.line_words.specs.Words.{line}
use Rattle.kept_records.specs.declared.record.Record.{Record}
use Rattle.kept_records.specs.declared.record.Record.TheVariants.{Commit, Restart}
use Rattle.kept_records.specs.Text.{text, letter_of, words_of, words_spaced, escrow_words, IsEscrow}
use Rattle.kept_records.proofs.Spaced.{line_spaced, escrow_words_push, spaced_two}

-- a record's text, and what stands behind it
text_at : (r : Record) (behind : List ℕ) → text r ++ behind ≡ letter_of r ∷ (words_spaced (words_of r) ++ 10 ∷ behind)
text_at r behind =
    append_assoc (line ((letter_of r ∷ []) ∷ words_of r)) (10 ∷ []) behind
    ∙ ap (λ (l : List ℕ). l ++ 10 ∷ behind) (line_spaced (letter_of r ∷ []) (words_of r))

pub restart_at_front : (bytes words rest : List ℕ) (epoch : ℕ) → bytes ≡ 82 ∷ words → words ≡ (32 ∷ decimal epoch) ++ 10 ∷ rest
    → bytes ≡ text (Restart epoch) ++ rest
restart_at_front bytes words rest epoch b w =
    b ∙ ap (λ (l : List ℕ). 82 ∷ l) (w ∙ ap (λ (l : List ℕ). l ++ 10 ∷ rest) (sym (append-nil (32 ∷ decimal epoch))))
    ∙ sym (text_at (Restart epoch) rest)

pub commit_at_front : (bytes a b c rest : List ℕ) (txn : TxnId) (es : List Escrow) → bytes ≡ 67 ∷ a → a ≡ (32 ∷ decimal txn.epoch) ++ b
    → b ≡ (32 ∷ decimal txn.number) ++ c → c ≡ words_spaced (escrow_words es) ++ 10 ∷ rest → bytes ≡ text (Commit txn es) ++ rest
commit_at_front bytes a b c rest txn es p q r s =
    let all : words_spaced (words_of (Commit txn es)) ++ 10 ∷ rest
    ≡ (32 ∷ decimal txn.epoch) ++ ((32 ∷ decimal txn.number) ++ (words_spaced (escrow_words es) ++ 10 ∷ rest)) =
    append_assoc (32 ∷ decimal txn.epoch) ((32 ∷ decimal txn.number) ++ words_spaced (escrow_words es)) (10 ∷ rest)
    ∙ ap (λ (l : List ℕ). (32 ∷ decimal txn.epoch) ++ l)
    (append_assoc (32 ∷ decimal txn.number) (words_spaced (escrow_words es)) (10 ∷ rest)) in
    p ∙ ap (λ (l : List ℕ). 67 ∷ l)
    (q ∙ ap (λ (l : List ℕ). (32 ∷ decimal txn.epoch) ++ l) (r ∙ ap (λ (l : List ℕ). (32 ∷ decimal txn.number) ++ l) s) ∙ sym all)
    ∙ sym (text_at (Commit txn es) rest)

-- one word more
pub word_before : (bytes left rest : List ℕ) (w : List ℕ) (ws : List (List ℕ)) → bytes ≡ (32 ∷ w) ++ left → left ≡ words_spaced ws ++ rest
    → bytes ≡ words_spaced (w ∷ ws) ++ rest
word_before bytes left rest w ws p q =
    p ∙ ap (λ (l : List ℕ). (32 ∷ w) ++ l) q ∙ sym (append_assoc (32 ∷ w) (words_spaced ws) rest)

-- one escrow more
pub escrow_more : (bytes left behind : List ℕ) (es : List Escrow) (e : Escrow) → bytes ≡ words_spaced (escrow_words es) ++ left
    → left ≡ (32 ∷ decimal e.field.0) ++ ((32 ∷ signed_decimal e.change) ++ behind)
    → bytes ≡ words_spaced (escrow_words (es ++ e ∷ [])) ++ behind
escrow_more bytes left behind es e parts is =
    let two = (32 ∷ decimal e.field.0) ++ (32 ∷ signed_decimal e.change) in
    let words : words_spaced (escrow_words (es ++ e ∷ [])) ≡ words_spaced (escrow_words es) ++ two =
    ap words_spaced (escrow_words_push es e) ∙ flat_map-append (λ w. 32 ∷ w) (escrow_words es)
    (decimal e.field.0 ∷ signed_decimal e.change ∷ [])
    ∙ ap (λ (l : List ℕ). words_spaced (escrow_words es) ++ l) (spaced_two (decimal e.field.0) (signed_decimal e.change)) in
    parts
    ∙ ap (λ (l : List ℕ). words_spaced (escrow_words es) ++ l)
    (is ∙ sym (append_assoc (32 ∷ decimal e.field.0) (32 ∷ signed_decimal e.change) behind))
    ∙ sym (append_assoc (words_spaced (escrow_words es)) two behind)
    ∙ ap (λ (l : List ℕ). l ++ behind) (sym words)

pub escrows_push : (es : List Escrow) (e : Escrow) → AllByRecursion IsEscrow es → IsEscrow e → AllByRecursion IsEscrow (es ++ e ∷ [])
escrows_push [] e all one = (one, tt)
escrows_push (x ∷ es) e all one = (all.0, escrows_push es e all.1 one)

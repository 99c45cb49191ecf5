-- Questions for a commit or a key.
use Rattle.std.proofs.Common.{◌≡◌, ◌≢◌, ℕ, List, ◌++◌, true, false, length, take, drop, codes, Option, None, Some, bytes_eq, refl, sym, ap, ◌∙◌}
use Rattle.std.proofs.lemmas.List.{take-append-drop, take_at, append_cancel_left}
use Rattle.std.proofs.lemmas.Slice.Eq.{bytes_eq-Decides}
use Rattle.field_bounds.specs.declared.id.TxnId.{TxnId}
use Rattle.entry_text.specs.Spelling.{id_text}
use Rattle.entry_text.specs.Ranges.{IdFits}
use Rattle.request_lines.specs.Requests.{kept_text, kept_key_text, with_since}
use Rattle.request_lines.specs.Asking.{AsksKey, AsksNoQuestion}

pub begins_with : (line rest word : List ℕ) → bytes_eq (take (length word) line) word ≡ true → rest ≡ drop (length word) line
    → line ≡ word ++ rest
begins_with line rest word same is =
    let front : take (length word) line ≡ word = (bytes_eq-Decides (take (length word) line) word).0 same in
    sym (take-append-drop (length word) line) ∙ ap (λ (l : List ℕ). l ++ drop (length word) line) front
    ∙ ap (λ (l : List ℕ). word ++ l) (sym is)

pub begins_not : (line word : List ℕ) → bytes_eq (take (length word) line) word ≡ false → (rest : List ℕ) → line ≢ word ++ rest
begins_not line word other rest is =
    let front : take (length word) line ≡ word = ap (take (length word)) is ∙ take_at word rest (length word) refl in
    let same : bytes_eq (take (length word) line) word ≡ true = (bytes_eq-Decides (take (length word) line) word).1 front in
    cc

-- a question for a commit
pub txn_question : (line word : List ℕ) (txn : TxnId) → line ≡ codes "kept " ++ word → word ≡ id_text txn → line ≡ kept_text txn
txn_question line word txn is same = is ∙ ap (λ (l : List ℕ). codes "kept " ++ l) same

-- behind `kept` stands the rest of a question for a key
key_rest : (key : List ℕ) (since : Option TxnId) → (rest : List ℕ) × (with_since (kept_key_text key) since ≡ codes "kept " ++ rest)
key_rest key None = (codes "key " ++ key, refl)
key_rest key (Some since) = ((codes "key " ++ key) ++ (codes " since " ++ id_text since), refl)

-- no question, by what stands behind `kept`
pub no_word : (line : List ℕ) → ((rest : List ℕ) → line ≢ codes "kept " ++ rest) → AsksNoQuestion line
no_word line none = record {
  question = λ txn fits. none (id_text txn);
  key_question = λ key since asks. let rest = key_rest key since in none rest.0 (asks.text ∙ rest.1);
}

no_txn : (r : Option TxnId) (word : List ℕ) → r ≡ None → ((t : TxnId) → IdFits t → word ≡ id_text t → r ≡ Some t) → (txn : TxnId)
    → IdFits txn → word ≢ id_text txn
no_txn r word none only txn fits e = let found : r ≡ Some txn = only txn fits e in cc

pub no_question : (r : Option TxnId) (line word : List ℕ) → r ≡ None → line ≡ codes "kept " ++ word
    → ((t : TxnId) → IdFits t → word ≡ id_text t → r ≡ Some t) → ((key : List ℕ) (since : Option TxnId) → AsksKey line key since → ⊥)
    → AsksNoQuestion line
no_question r line word none is only others = record {
  question = λ txn fits e. no_txn r word none only txn fits (append_cancel_left (codes "kept ") word (id_text txn) (sym is ∙ e));
  key_question = others;
}

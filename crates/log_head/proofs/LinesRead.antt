-- Lines of a head, as they are read.
use Rattle.std.proofs.Common.{append_assoc, ◌≡◌, ◌≢◌, ℕ, ◌+◌, ◌<◌, ◌^◌, List, [], ◌∷◌, ◌++◌, length, get_or, All, codes, refl, sym, ap, subst, ◌∙◌, arith}
use Rattle.std.proofs.lemmas.List.{append_cancel_left}
use Rattle.std.proofs.lemmas.List.Elements.{All-head, All-tail, All-append, All-same}
use Rattle.site_folder.specs.Identity.{IsOneLine, line_then}
use Rattle.site_folder.proofs.LineLemmas.{one_cut, no_line, Same}
use Rattle.log_head.specs.declared.gone.Gone.{Gone}
use Rattle.log_head.specs.Horizons.{HorizonValue, IsHorizon}
use Rattle.log_head.specs.Heads.{IsU64, IsGone, numbers_text, spaced, head_line, horizon_line, told_then}
use Rattle.log_head.specs.Reading.{TellsNumbers, TellsNoNumbers}
use Rattle.log_head.proofs.NumberLines.{spaced_text, spaced_line, same_numbers}
use Rattle.log_head.proofs.Told.{counts, head_is, head_one, horizon_is, horizon_numbers, horizon_one}

numbers_line : (n : ℕ) (ns : List ℕ) → All IsU64 (n ∷ ns) → IsOneLine (numbers_text (n ∷ ns))
numbers_line n ns fit =
    All-tail (λ b. b ≢ 10) 32 (numbers_text (n ∷ ns)) (subst IsOneLine (spaced_text n ns) (spaced_line (n ∷ ns) fit))

-- ---- one line

pub no_lines : (bytes word : List ℕ) → IsOneLine bytes → TellsNoNumbers bytes word
no_lines bytes word one n ns rest fit e = no_line bytes (word ++ numbers_text (n ∷ ns)) rest one e

-- another line stands there
other_line : (bytes word line rest : List ℕ) → IsOneLine word → IsOneLine line → bytes ≡ line_then line rest
    → ((n : ℕ) (ns : List ℕ) → All IsU64 (n ∷ ns) → line ≢ word ++ numbers_text (n ∷ ns)) → TellsNoNumbers bytes word
other_line bytes word line rest plain one is none n ns more fit e =
    none n ns fit (one_cut line (word ++ numbers_text (n ∷ ns)) rest more one
    (All-append (λ b. b ≢ 10) word (numbers_text (n ∷ ns)) plain (numbers_line n ns fit)) (sym is ∙ e)).front

pub no_word : (bytes word line rest : List ℕ) → IsOneLine word → IsOneLine line → bytes ≡ line_then line rest
    → ((more : List ℕ) → line ≢ word ++ more) → TellsNoNumbers bytes word
no_word bytes word line rest plain one is none =
    other_line bytes word line rest plain one is (λ n ns fit e. none (numbers_text (n ∷ ns)) e)

pub no_numbers : (bytes word line rest behind : List ℕ) → IsOneLine word → IsOneLine line → bytes ≡ line_then line rest → line ≡ word ++ behind
    → ((n : ℕ) (ns : List ℕ) → All IsU64 (n ∷ ns) → behind ≢ numbers_text (n ∷ ns)) → TellsNoNumbers bytes word
no_numbers bytes word line rest behind plain one is begins none =
    other_line bytes word line rest plain one is
    (λ n ns fit e. none n ns fit (append_cancel_left word behind (numbers_text (n ∷ ns)) (sym begins ∙ e)))

pub tells_numbers : (bytes word line rest behind ns : List ℕ) → IsOneLine line → bytes ≡ line_then line rest → line ≡ word ++ behind
    → behind ≡ numbers_text ns → All IsU64 ns → TellsNumbers bytes word ns rest
tells_numbers bytes word line rest behind ns one is begins text fit =
    let same : line ≡ word ++ numbers_text ns = begins ∙ ap (λ (l : List ℕ). word ++ l) text in
    record {
      text = is ∙ ap (λ (l : List ℕ). line_then l rest) same;
      line = subst IsOneLine same one;
      fit = fit;
    }

-- ---- both lines

pub no_head : (bytes : List ℕ) → TellsNoNumbers bytes (codes "head ") → (gone : Gone) (rest : List ℕ) → IsGone gone → bytes ≢ told_then gone rest
no_head bytes none gone rest own e =
    let behind = line_then (horizon_line gone.horizon) rest in
    none gone.bytes (gone.records ∷ []) behind (counts gone own) (e ∙ ap (λ (l : List ℕ). line_then l behind) (head_is gone))

behind_head : (bytes ns behind : List ℕ) → TellsNumbers bytes (codes "head ") ns behind → (gone : Gone) (rest : List ℕ) → IsGone gone
    → bytes ≡ told_then gone rest → Same (codes "head " ++ numbers_text ns) (head_line gone) behind (line_then (horizon_line gone.horizon) rest)
behind_head bytes ns behind tells gone rest own e =
    one_cut (codes "head " ++ numbers_text ns) (head_line gone) behind (line_then (horizon_line gone.horizon) rest) tells.line (head_one gone own)
    (sym tells.text ∙ e)

pub no_horizon : (bytes ns behind : List ℕ) → TellsNumbers bytes (codes "head ") ns behind → TellsNoNumbers behind (codes "horizon ")
    → (gone : Gone) (rest : List ℕ) → IsGone gone → bytes ≢ told_then gone rest
no_horizon bytes ns behind tells none gone rest own e =
    none gone.horizon.epoch (gone.horizon.number ∷ gone.horizon.open_then) rest (horizon_numbers gone.horizon own.horizon)
    ((behind_head bytes ns behind tells gone rest own e).rest ∙ ap (λ (l : List ℕ). line_then l rest) (horizon_is gone.horizon))

pub other_horizon : (bytes ns behind numbers end : List ℕ) → TellsNumbers bytes (codes "head ") ns behind
    → TellsNumbers behind (codes "horizon ") numbers end
    → ((h : HorizonValue) → IsHorizon h → numbers ≢ h.epoch ∷ h.number ∷ h.open_then)
    → (gone : Gone) (rest : List ℕ) → IsGone gone → bytes ≢ told_then gone rest
other_horizon bytes ns behind numbers end tells then none gone rest own e =
    let h = gone.horizon in
    let line = one_cut (codes "horizon " ++ numbers_text numbers) (horizon_line h) end rest then.line (horizon_one h own.horizon)
    (sym then.text ∙ (behind_head bytes ns behind tells gone rest own e).rest) in
    let text : numbers_text numbers ≡ numbers_text (h.epoch ∷ h.number ∷ h.open_then) =
    append_cancel_left (codes "horizon ") _ _ (line.front ∙ horizon_is h) in
    none h own.horizon (same_numbers numbers h.epoch (h.number ∷ h.open_then) then.fit (horizon_numbers h own.horizon) text)

only_two : (xs : List ℕ) → length xs ≡ 2 → xs ≡ get_or xs 0 0 ∷ get_or xs 1 0 ∷ []
only_two [] two = absurd cc
only_two (a ∷ []) two = absurd (omega (arith, two))
only_two (a ∷ b ∷ []) two = refl
only_two (a ∷ b ∷ c ∷ xs) two = absurd (omega (arith, two))

-- the numbers of a line that has two
pub two_are : (xs ys : List ℕ) → ys ≡ xs → length xs ≡ 2 → xs ≡ get_or ys 0 0 ∷ get_or ys 1 0 ∷ []
two_are xs ys same two = only_two xs two ∙ ap (λ (l : List ℕ). get_or l 0 0 ∷ get_or l 1 0 ∷ []) (sym same)

pub other_counts : (bytes ns behind : List ℕ) → TellsNumbers bytes (codes "head ") ns behind → ((a b : ℕ) → ns ≢ a ∷ b ∷ [])
    → (gone : Gone) (rest : List ℕ) → IsGone gone → bytes ≢ told_then gone rest
other_counts bytes ns behind tells none gone rest own e =
    let text : numbers_text ns ≡ numbers_text (gone.bytes ∷ gone.records ∷ []) =
    append_cancel_left (codes "head ") _ _ ((behind_head bytes ns behind tells gone rest own e).front ∙ head_is gone) in
    none gone.bytes gone.records (same_numbers ns gone.bytes (gone.records ∷ []) tells.fit (counts gone own) text)

pub told_is : (bytes ns behind numbers end : List ℕ) → TellsNumbers bytes (codes "head ") ns behind
    → TellsNumbers behind (codes "horizon ") numbers end → (gone : Gone) → ns ≡ gone.bytes ∷ gone.records ∷ []
    → numbers ≡ gone.horizon.epoch ∷ gone.horizon.number ∷ gone.horizon.open_then → bytes ≡ told_then gone end
told_is bytes ns behind numbers end tells then gone two three =
    let first : codes "head " ++ numbers_text ns ≡ head_line gone =
    ap (λ (l : List ℕ). codes "head " ++ numbers_text l) two ∙ sym (head_is gone) in
    let second : codes "horizon " ++ numbers_text numbers ≡ horizon_line gone.horizon =
    ap (λ (l : List ℕ). codes "horizon " ++ numbers_text l) three ∙ sym (horizon_is gone.horizon) in
    tells.text ∙ ap (λ (l : List ℕ). line_then l behind) first
    ∙ ap (λ (l : List ℕ). line_then (head_line gone) l) (then.text ∙ ap (λ (l : List ℕ). line_then l end) second)

pub counts_are : (gone : Gone) (ns : List ℕ) → ns ≡ gone.bytes ∷ gone.records ∷ [] → All IsU64 ns → IsHorizon gone.horizon → IsGone gone
counts_are gone ns is fit own =
    let all : All IsU64 (gone.bytes ∷ gone.records ∷ []) = All-same IsU64 (gone.bytes ∷ gone.records ∷ []) ns (sym is) fit in
    record {
      bytes = All-head IsU64 gone.bytes (gone.records ∷ []) all;
      records = All-head IsU64 gone.records [] (All-tail IsU64 gone.bytes (gone.records ∷ []) all);
      horizon = own;
    }

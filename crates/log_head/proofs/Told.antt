-- What the two lines of a head tell, and that bytes begin with one such head.
use Rattle.std.proofs.Common.{append_assoc, ◌≡◌, ◌≢◌, ℕ, ◌+◌, ◌<◌, ◌≤◌, ◌^◌, ◌==◌, Bool, true, false, List, [], ◌∷◌, ◌++◌, length, take, drop, Option, Some, None, MatchOption, bytes_eq, Bor, All, codes, refl, sym, ap, ◌∙◌, arith}
use Rattle.std.specs.Prelude.{nat_lt, nat_le, ◌&&◌}
use Rattle.std.specs.List.{list_any}
use Rattle.std.specs.Fmt.{decimal}
use Rattle.std.proofs.lemmas.Bool.{and_parts, or_parts, eq-eqb, leb-true}
use Rattle.std.proofs.lemmas.List.{append_cancel_left}
use Rattle.std.proofs.lemmas.List.Elements.{All-nil, All-cons, All-head, All-tail, All-append}
use Rattle.site_folder.specs.Identity.{IsOneLine, line_then}
use Rattle.site_folder.proofs.LineLemmas.{begins_with, begins_not, one_cut}
use Rattle.log_head.specs.declared.gone.Gone.{Gone}
use Rattle.log_head.specs.Horizons.{HorizonValue, IsHorizon, horizon_of, rises_from}
use Rattle.log_head.specs.Heads.{IsU64, IsGone, numbers_text, spaced, head_line, horizon_line, told_then}
use Rattle.log_head.proofs.NumberLines.{spaced_text, spaced_line, same_spaced}

by_test : (w : List ℕ) → list_any (λ b. b == 10) w ≡ false → IsOneLine w
by_test [] e = All-nil (λ b. b ≢ 10)
by_test (b ∷ w) e =
    let h = or_parts (b == 10) (list_any (λ b. b == 10) w) e in
    All-cons (λ b. b ≢ 10) b w (λ is. let same : (b == 10) ≡ true = eq-eqb b 10 is in let not : (b == 10) ≡ false = h.0 in cc) (by_test w h.1)

-- what stands behind a word
pub stripped : (bytes word : List ℕ) (r : Option (Bor (List ℕ)))
    → MatchOption r (bytes_eq (take (length word) bytes) word ≡ false)
    (λ x. (bytes_eq (take (length word) bytes) word ≡ true) × (x.now ≡ drop (length word) bytes) × (length x.now + length word ≡ length bytes))
    → MatchOption r ((rest : List ℕ) → bytes ≢ word ++ rest) (λ x. bytes ≡ word ++ x.now)
stripped bytes word None other = begins_not bytes word other
stripped bytes word (Some x) same = begins_with bytes x.now word same.0 same.1

-- ---- numbers of a horizon

pub rising_fits : (above most : ℕ) (ns : List ℕ) → most < 2 ^ 32 → rises_from above most ns ≡ true → All (λ n. n < 2 ^ 32) ns
rising_fits above most [] few e = All-nil (λ n. n < 2 ^ 32)
rising_fits above most (n ∷ ns) few e =
    let p = and_parts (nat_lt above n && nat_le n most) (rises_from n most ns) e in
    let q = and_parts (nat_lt above n) (nat_le n most) p.0 in
    let up_to : n ≤ most = leb-true n most q.1 in
    All-cons (λ n. n < 2 ^ 32) n ns (omega (arith, up_to, few)) (rising_fits n most ns few p.1)

pub horizon_fits : (h : HorizonValue) → IsHorizon h → All (λ n. n < 2 ^ 32) (h.epoch ∷ h.number ∷ h.open_then)
horizon_fits h own =
    All-cons (λ n. n < 2 ^ 32) h.epoch (h.number ∷ h.open_then) (omega (arith, own.few_epochs))
    (All-cons (λ n. n < 2 ^ 32) h.number h.open_then (omega (arith, own.few_numbers))
    (rising_fits 0 h.number h.open_then (omega (arith, own.few_numbers)) own.rising))

wider : (ns : List ℕ) → All (λ n. n < 2 ^ 32) ns → All IsU64 ns
wider [] all = All-nil IsU64
wider (n ∷ ns) all = All-cons IsU64 n ns (omega (arith, All-head (λ n. n < 2 ^ 32) n ns all)) (wider ns (All-tail (λ n. n < 2 ^ 32) n ns all))

pub horizon_numbers : (h : HorizonValue) → IsHorizon h → All IsU64 (h.epoch ∷ h.number ∷ h.open_then)
horizon_numbers h own = wider (h.epoch ∷ h.number ∷ h.open_then) (horizon_fits h own)

pub counts : (gone : Gone) → IsGone gone → All IsU64 (gone.bytes ∷ gone.records ∷ [])
counts gone own = All-cons IsU64 gone.bytes (gone.records ∷ []) own.bytes (All-cons IsU64 gone.records [] own.records (All-nil IsU64))

-- ---- both lines

pub head_is : (gone : Gone) → head_line gone ≡ codes "head " ++ numbers_text (gone.bytes ∷ gone.records ∷ [])
head_is gone = ap (λ (l : List ℕ). codes "head" ++ l) (spaced_text gone.bytes (gone.records ∷ []))

pub horizon_is : (h : HorizonValue) → horizon_line h ≡ codes "horizon " ++ numbers_text (h.epoch ∷ h.number ∷ h.open_then)
horizon_is h = ap (λ (l : List ℕ). codes "horizon" ++ l) (spaced_text h.epoch (h.number ∷ h.open_then))

pub word_head : IsOneLine (codes "head ")
word_head = by_test (codes "head ") refl

pub word_horizon : IsOneLine (codes "horizon ")
word_horizon = by_test (codes "horizon ") refl

pub head_one : (gone : Gone) → IsGone gone → IsOneLine (head_line gone)
head_one gone own =
    All-append (λ b. b ≢ 10) (codes "head") (spaced (gone.bytes ∷ gone.records ∷ [])) (by_test (codes "head") refl)
    (spaced_line (gone.bytes ∷ gone.records ∷ []) (counts gone own))

pub horizon_one : (h : HorizonValue) → IsHorizon h → IsOneLine (horizon_line h)
horizon_one h own =
    All-append (λ b. b ≢ 10) (codes "horizon") (spaced (h.epoch ∷ h.number ∷ h.open_then)) (by_test (codes "horizon") refl)
    (spaced_line (h.epoch ∷ h.number ∷ h.open_then) (horizon_numbers h own))

-- they tell one thing, and one rest
pub record SameTold (gone other : Gone) (rest more : List ℕ) : Type 0 where
  pub gone_is : gone ≡ other
  pub rest_is : rest ≡ more

same_gone : (gone other : Gone) → gone.bytes ∷ gone.records ∷ [] ≡ other.bytes ∷ other.records ∷ []
    → gone.horizon.epoch ∷ gone.horizon.number ∷ gone.horizon.open_then ≡ other.horizon.epoch ∷ other.horizon.number ∷ other.horizon.open_then
    → gone ≡ other
same_gone gone other two three =
    let bytes : gone.bytes ≡ other.bytes = cc in
    let records : gone.records ≡ other.records = cc in
    let epoch : gone.horizon.epoch ≡ other.horizon.epoch = cc in
    let number : gone.horizon.number ≡ other.horizon.number = cc in
    let open_then : gone.horizon.open_then ≡ other.horizon.open_then = cc in
    let by_bytes : ℕ → Gone = λ n. record { bytes = n; records = gone.records; horizon = gone.horizon } in
    let by_records : ℕ → Gone = λ n. record { bytes = other.bytes; records = n; horizon = gone.horizon } in
    let by_horizon : HorizonValue → Gone = λ h. record { bytes = other.bytes; records = other.records; horizon = h } in
    let horizon : gone.horizon ≡ other.horizon =
    ap (λ (n : ℕ). horizon_of n gone.horizon.number gone.horizon.open_then) epoch
    ∙ ap (λ (n : ℕ). horizon_of other.horizon.epoch n gone.horizon.open_then) number
    ∙ ap (λ (l : List ℕ). horizon_of other.horizon.epoch other.horizon.number l) open_then in
    ap by_bytes bytes ∙ ap by_records records ∙ ap by_horizon horizon

pub told_same : (gone other : Gone) (rest more : List ℕ) → IsGone gone → IsGone other → told_then gone rest ≡ told_then other more
    → SameTold gone other rest more
told_same gone other rest more own also is =
    let first = one_cut (head_line gone) (head_line other) (line_then (horizon_line gone.horizon) rest)
    (line_then (horizon_line other.horizon) more) (head_one gone own) (head_one other also) is in
    let second = one_cut (horizon_line gone.horizon) (horizon_line other.horizon) rest more (horizon_one gone.horizon own.horizon)
    (horizon_one other.horizon also.horizon) first.rest in
    let two = same_spaced gone.bytes (gone.records ∷ []) other.bytes (other.records ∷ []) (counts gone own) (counts other also)
    (append_cancel_left (codes "head") _ _ first.front) in
    let three = same_spaced gone.horizon.epoch (gone.horizon.number ∷ gone.horizon.open_then) other.horizon.epoch
    (other.horizon.number ∷ other.horizon.open_then) (horizon_numbers gone.horizon own.horizon) (horizon_numbers other.horizon also.horizon)
    (append_cancel_left (codes "horizon") _ _ second.front) in
    record { gone_is = same_gone gone other two three; rest_is = second.rest }

-- what stands behind them may be longer
pub told_more : (gone : Gone) (rest more : List ℕ) → told_then gone rest ++ more ≡ told_then gone (rest ++ more)
told_more gone rest more =
    append_assoc (head_line gone) (10 ∷ line_then (horizon_line gone.horizon) rest) more
    ∙ ap (λ (l : List ℕ). line_then (head_line gone) l) (append_assoc (horizon_line gone.horizon) (10 ∷ rest) more)

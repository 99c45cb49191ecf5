-- Reading a summary's rights and totals one after the other, as loops do.
use Rattle.std.proofs.Common.{◌≡◌, ℕ, suc, ◌+◌, ◌-◌, ◌<◌, ◌≤◌, Bool, true, false, ◌&&◌, cond, leb, List, [], ◌∷◌, ◌++◌, length, drop, get_or, Option, Some, None, refl, sym, ap, ◌∙◌, subst, arith}
use Rattle.std.proofs.lemmas.Bool.{le-leb, leb-true}
use Rattle.line_words.specs.Reading.{◌>>=◌, word_at}
use Rattle.line_words.proofs.Numbers.{bind_some}
use Rattle.std.proofs.lemmas.Option.{some_pair_parts}
use Rattle.kept_records.specs.declared.total.Total.{Total}
use Rattle.kept_records.specs.declared.total.Cut.{Cut}
use Rattle.kept_records.specs.Summary.{is_before, is_cut_before, rises, cuts_rise}
use Rattle.kept_records.specs.Reading.{number_within, total_from, cut_from, cut_at, rights_from, listed_at, groups_from, word_is, is_next_accept, is_next_gift}

abbrev Words : Type 0
Words = List (List ℕ)

abbrev right_at : Words → Option (ℕ × Words)
right_at ws = word_at (number_within 0 2_000_000_000_000_000) ws

-- one pair more
step_rights : (n : ℕ) (read : List (ℕ × ℕ)) (ws as1 bs : Words) (lower raise : ℕ) (total : Option (List (ℕ × ℕ) × Words))
    → right_at ws ≡ Some (lower, as1) → right_at as1 ≡ Some (raise, bs) → lower + raise ≤ 2_000_000_000_000_000
    → rights_from (suc n) read ws ≡ total → rights_from n (read ++ (lower, raise) ∷ []) bs ≡ total
unfolding rights_from
step_rights n read ws as1 bs lower raise total a b few so_far =
    let low : leb (lower + raise) 2_000_000_000_000_000 ≡ true = le-leb _ _ few in
    let one : rights_from (suc n) read ws ≡ rights_from n (read ++ (lower, raise) ∷ []) bs = rw (a, b, low) refl in
    sym one ∙ so_far

none_lower : (n : ℕ) (read : List (ℕ × ℕ)) (ws : Words) (total : Option (List (ℕ × ℕ) × Words)) → right_at ws ≡ None
    → rights_from (suc n) read ws ≡ total → total ≡ None
unfolding rights_from
none_lower n read ws total a so_far = let one : rights_from (suc n) read ws ≡ None = rw a refl in sym so_far ∙ one

none_raise : (n : ℕ) (read : List (ℕ × ℕ)) (ws as1 : Words) (lower : ℕ) (total : Option (List (ℕ × ℕ) × Words))
    → right_at ws ≡ Some (lower, as1) → right_at as1 ≡ None → rights_from (suc n) read ws ≡ total → total ≡ None
unfolding rights_from
none_raise n read ws as1 lower total a b so_far = let one : rights_from (suc n) read ws ≡ None = rw (a, b) refl in sym so_far ∙ one

none_sum : (n : ℕ) (read : List (ℕ × ℕ)) (ws as1 bs : Words) (lower raise : ℕ) (total : Option (List (ℕ × ℕ) × Words))
    → right_at ws ≡ Some (lower, as1) → right_at as1 ≡ Some (raise, bs) → leb (lower + raise) 2_000_000_000_000_000 ≡ false
    → rights_from (suc n) read ws ≡ total → total ≡ None
unfolding rights_from
none_sum n read ws as1 bs lower raise total a b many so_far = let one : rights_from (suc n) read ws ≡ None = rw (a, b, many) refl in
    sym so_far ∙ one

pred_is : (n : ℕ) → 0 < n → n ≡ suc (n - 1)
pred_is n some = omega arith

abbrev SoFar : ℕ → List (ℕ × ℕ) → Words → Option (List (ℕ × ℕ) × Words) → Type 0
SoFar n read ws total = rights_from n read ws ≡ total

at_suc : (n : ℕ) (read : List (ℕ × ℕ)) (ws : Words) (total : Option (List (ℕ × ℕ) × Words)) → 0 < n → SoFar n read ws total
    → SoFar (suc (n - 1)) read ws total
at_suc n read ws total some h = subst (λ (x : ℕ). SoFar x read ws total) (pred_is n some) h

pub rights_step : (n : ℕ) (read : List (ℕ × ℕ)) (ws as1 bs : Words) (lower raise : ℕ) (total : Option (List (ℕ × ℕ) × Words)) → 0 < n
    → right_at ws ≡ Some (lower, as1) → right_at as1 ≡ Some (raise, bs) → lower + raise ≤ 2_000_000_000_000_000
    → rights_from n read ws ≡ total → rights_from (n - 1) (read ++ (lower, raise) ∷ []) bs ≡ total
rights_step n read ws as1 bs lower raise total some a b few h =
    step_rights (n - 1) read ws as1 bs lower raise total a b few (at_suc n read ws total some h)

pub rights_none_lower : (n : ℕ) (read : List (ℕ × ℕ)) (ws : Words) (total : Option (List (ℕ × ℕ) × Words)) → 0 < n → right_at ws ≡ None
    → rights_from n read ws ≡ total → total ≡ None
rights_none_lower n read ws total some a h = none_lower (n - 1) read ws total a (at_suc n read ws total some h)

pub rights_none_raise : (n : ℕ) (read : List (ℕ × ℕ)) (ws as1 : Words) (lower : ℕ) (total : Option (List (ℕ × ℕ) × Words)) → 0 < n
    → right_at ws ≡ Some (lower, as1) → right_at as1 ≡ None → rights_from n read ws ≡ total → total ≡ None
rights_none_raise n read ws as1 lower total some a b h = none_raise (n - 1) read ws as1 lower total a b (at_suc n read ws total some h)

not_le : (m n : ℕ) → n < m → leb m n ≡ false
not_le m n more = by (leb m n) refl
  where
    by : (b : Bool) → leb m n ≡ b → leb m n ≡ false
    by true is = absurd (omega (arith, leb-true m n is, more))
    by false is = is

pub rights_none_sum : (n : ℕ) (read : List (ℕ × ℕ)) (ws as1 bs : Words) (lower raise : ℕ) (total : Option (List (ℕ × ℕ) × Words)) → 0 < n
    → right_at ws ≡ Some (lower, as1) → right_at as1 ≡ Some (raise, bs) → 2_000_000_000_000_000 < lower + raise
    → rights_from n read ws ≡ total → total ≡ None
rights_none_sum n read ws as1 bs lower raise total some a b many h =
    none_sum (n - 1) read ws as1 bs lower raise total a b (not_le (lower + raise) 2_000_000_000_000_000 many)
    (at_suc n read ws total some h)

pub rights_end : (n : ℕ) (read : List (ℕ × ℕ)) (ws : Words) (total : Option (List (ℕ × ℕ) × Words)) → n ≡ 0 → rights_from n read ws ≡ total
    → total ≡ Some (read, ws)
unfolding rights_from
rights_end n read ws total none h = sym h ∙ ap (λ (x : ℕ). rights_from x read ws) none

-- ---- groups

abbrev pub Three : Type 0
Three = List Total × List Total × List Cut

bind_none : {A B : Type 0} (o : Option A) (ws : B) → ◌>>=◌ {A = A} {B = A × B} o (λ t. Some (t, ws)) ≡ None → o ≡ None
bind_none None ws e = refl
bind_none (Some t) ws e = absurd cc

found_at : {A : Type 0} (o : Option A) (ws rest : Words) (t : A) → ◌>>=◌ {A = A} {B = A × Words} o (λ t'. Some (t', ws)) ≡ Some (t, rest)
    → (o ≡ Some t) × (ws ≡ rest)
found_at None ws rest t e = absurd cc
found_at (Some x) ws rest t e = let p = some_pair_parts x t ws rest e in (ap (λ z. Some z) p.0, p.1)

-- a total given up
pub cut_step : (gifts accepts : List Total) (cuts : List Cut) (l : List ℕ) (ws : Words) (t : Cut) (rest : Words) (total : Option Three)
    → word_is 116 l ≡ true → cut_at ws ≡ Some (t, rest) → groups_from gifts accepts cuts (l ∷ ws) ≡ total
    → groups_from gifts accepts (cuts ++ t ∷ []) rest ≡ total
unfolding groups_from cut_at
cut_step gifts accepts cuts l [] t rest total is a h = absurd cc
cut_step gifts accepts cuts l (w ∷ []) t rest total is a h = absurd cc
cut_step gifts accepts cuts l (w ∷ v ∷ []) t rest total is a h = absurd cc
cut_step gifts accepts cuts l (w ∷ v ∷ x ∷ []) t rest total is a h =
    let p = found_at (cut_from (w ∷ v ∷ x ∷ [])) [] rest t a in
    let one : groups_from gifts accepts cuts (l ∷ w ∷ v ∷ x ∷ []) ≡ groups_from gifts accepts (cuts ++ t ∷ []) [] = rw (is, p.0) refl in
    ap (λ (z : Words). groups_from gifts accepts (cuts ++ t ∷ []) z) (sym p.1) ∙ sym one ∙ h
cut_step gifts accepts cuts l (w ∷ v ∷ x ∷ y ∷ ws) t rest total is a h =
    let p = found_at (cut_from (w ∷ v ∷ x ∷ [])) (y ∷ ws) rest t a in
    let one : groups_from gifts accepts cuts (l ∷ w ∷ v ∷ x ∷ y ∷ ws) ≡ groups_from gifts accepts (cuts ++ t ∷ []) (y ∷ ws) =
    rw (is, p.0) refl in
    ap (λ (z : Words). groups_from gifts accepts (cuts ++ t ∷ []) z) (sym p.1) ∙ sym one ∙ h

pub cut_none : (gifts accepts : List Total) (cuts : List Cut) (l : List ℕ) (ws : Words) (total : Option Three) → word_is 116 l ≡ true
    → cut_at ws ≡ None → groups_from gifts accepts cuts (l ∷ ws) ≡ total → total ≡ None
unfolding groups_from cut_at
cut_none gifts accepts cuts l [] total is a h = sym h
cut_none gifts accepts cuts l (w ∷ []) total is a h = sym h
cut_none gifts accepts cuts l (w ∷ v ∷ []) total is a h = sym h
cut_none gifts accepts cuts l (w ∷ v ∷ x ∷ []) total is a h =
    let none = bind_none (cut_from (w ∷ v ∷ x ∷ [])) [] a in
    let one : groups_from gifts accepts cuts (l ∷ w ∷ v ∷ x ∷ []) ≡ None = rw (is, none) refl in
    sym h ∙ one
cut_none gifts accepts cuts l (w ∷ v ∷ x ∷ y ∷ ws) total is a h =
    let none = bind_none (cut_from (w ∷ v ∷ x ∷ [])) (y ∷ ws) a in
    let one : groups_from gifts accepts cuts (l ∷ w ∷ v ∷ x ∷ y ∷ ws) ≡ None = rw (is, none) refl in
    sym h ∙ one

-- a total given or accepted
abbrev pub groups_then : List Total → List Total → List Cut → List ℕ → Total → Words → Option Three
groups_then gifts accepts cuts l t rest =
    cond (is_next_accept l cuts) (groups_from gifts (accepts ++ t ∷ []) cuts rest)
    (cond (is_next_gift l accepts cuts) (groups_from (gifts ++ t ∷ []) accepts cuts rest) None)

groups_step : (gifts accepts : List Total) (cuts : List Cut) (l : List ℕ) (ws : Words) (t : Total) (rest : Words) (total : Option Three)
    → word_is 116 l ≡ false → listed_at ws ≡ Some (t, rest) → groups_from gifts accepts cuts (l ∷ ws) ≡ total
    → groups_then gifts accepts cuts l t rest ≡ total
unfolding groups_from listed_at
groups_step gifts accepts cuts l [] t rest total is a h = absurd cc
groups_step gifts accepts cuts l (w ∷ []) t rest total is a h = absurd cc
groups_step gifts accepts cuts l (w ∷ v ∷ []) t rest total is a h = absurd cc
groups_step gifts accepts cuts l (w ∷ v ∷ x ∷ []) t rest total is a h = absurd cc
groups_step gifts accepts cuts l (w ∷ v ∷ x ∷ y ∷ ws) t rest total is a h =
    let p = found_at (total_from (w ∷ v ∷ x ∷ y ∷ [])) ws rest t a in
    let one : groups_from gifts accepts cuts (l ∷ w ∷ v ∷ x ∷ y ∷ ws) ≡ groups_then gifts accepts cuts l t ws = rw (is, p.0) refl in
    ap (λ (z : Words). groups_then gifts accepts cuts l t z) (sym p.1) ∙ sym one ∙ h

pub groups_none : (gifts accepts : List Total) (cuts : List Cut) (l : List ℕ) (ws : Words) (total : Option Three) → word_is 116 l ≡ false
    → listed_at ws ≡ None → groups_from gifts accepts cuts (l ∷ ws) ≡ total → total ≡ None
unfolding groups_from listed_at
groups_none gifts accepts cuts l [] total is a h = sym h
groups_none gifts accepts cuts l (w ∷ []) total is a h = sym h
groups_none gifts accepts cuts l (w ∷ v ∷ []) total is a h = sym h
groups_none gifts accepts cuts l (w ∷ v ∷ x ∷ []) total is a h =
    let one : groups_from gifts accepts cuts (l ∷ w ∷ v ∷ x ∷ []) ≡ None = rw is refl in
    sym h ∙ one
groups_none gifts accepts cuts l (w ∷ v ∷ x ∷ y ∷ ws) total is a h =
    let none = bind_none (total_from (w ∷ v ∷ x ∷ y ∷ [])) ws a in
    let one : groups_from gifts accepts cuts (l ∷ w ∷ v ∷ x ∷ y ∷ ws) ≡ None = rw (is, none) refl in
    sym h ∙ one

pub groups_end : (gifts accepts : List Total) (cuts : List Cut) (total : Option Three) → groups_from gifts accepts cuts [] ≡ total
    → total ≡ Some (gifts, accepts, cuts)
unfolding groups_from
groups_end gifts accepts cuts total h = sym h

-- ---- totals that rise

pub rises_step : (ts : List Total) (d e : Total) → 1 < length ts
    → rises ts ≡ (is_before (get_or ts 0 d) (get_or ts 1 e) && rises (drop 1 ts))
rises_step [] d e many = absurd (omega arith)
rises_step (a ∷ []) d e many = absurd (omega arith)
rises_step (a ∷ b ∷ ts) d e many = refl

pub rises_few : (ts : List Total) → length ts ≤ 1 → rises ts ≡ true
rises_few [] few = refl
rises_few (a ∷ []) few = refl
rises_few (a ∷ b ∷ ts) few = absurd (omega arith)

pub cuts_rise_step : (ts : List Cut) (d e : Cut) → 1 < length ts
    → cuts_rise ts ≡ (is_cut_before (get_or ts 0 d) (get_or ts 1 e) && cuts_rise (drop 1 ts))
cuts_rise_step [] d e many = absurd (omega arith)
cuts_rise_step (a ∷ []) d e many = absurd (omega arith)
cuts_rise_step (a ∷ b ∷ ts) d e many = refl

pub cuts_rise_few : (ts : List Cut) → length ts ≤ 1 → cuts_rise ts ≡ true
cuts_rise_few [] few = refl
cuts_rise_few (a ∷ []) few = refl
cuts_rise_few (a ∷ b ∷ ts) few = absurd (omega arith)

-- what a total's four words leave is shorter
pub listed_shorter : (ws : Words) (t : Total) (rest : Words) → listed_at ws ≡ Some (t, rest) → length rest ≤ length ws
unfolding listed_at
listed_shorter [] t rest a = absurd cc
listed_shorter (w ∷ []) t rest a = absurd cc
listed_shorter (w ∷ v ∷ []) t rest a = absurd cc
listed_shorter (w ∷ v ∷ x ∷ []) t rest a = absurd cc
listed_shorter (w ∷ v ∷ x ∷ y ∷ ws) t rest a =
    let b = bind_some (total_from (w ∷ v ∷ x ∷ y ∷ [])) (λ t'. Some (t', ws)) (t, rest) a in
    let p = some_pair_parts b.0 t ws rest b.2 in
    omega (arith, ap (λ (z : Words). length z) p.1)

pub cut_shorter : (ws : Words) (t : Cut) (rest : Words) → cut_at ws ≡ Some (t, rest) → length rest ≤ length ws
unfolding cut_at
cut_shorter [] t rest a = absurd cc
cut_shorter (w ∷ []) t rest a = absurd cc
cut_shorter (w ∷ v ∷ []) t rest a = absurd cc
cut_shorter (w ∷ v ∷ x ∷ ws) t rest a =
    let p = found_at (cut_from (w ∷ v ∷ x ∷ [])) ws rest t a in
    omega (arith, ap (λ (z : Words). length z) p.1)

-- the three ways to go on
module _ (gifts accepts : List Total) (cuts : List Cut) (l : List ℕ) (ws : Words) (t : Total) (rest : Words) (total : Option Three)
    (not_cut : word_is 116 l ≡ false) (at : listed_at ws ≡ Some (t, rest)) (so_far : groups_from gifts accepts cuts (l ∷ ws) ≡ total) where
  abbrev as_accept : Option Three
  as_accept = groups_from gifts (accepts ++ t ∷ []) cuts rest

  abbrev gift_or : Bool → Option Three
  gift_or b = cond b (groups_from (gifts ++ t ∷ []) accepts cuts rest) None

  step : cond (is_next_accept l cuts) as_accept (gift_or (is_next_gift l accepts cuts)) ≡ total
  step = groups_step gifts accepts cuts l ws t rest total not_cut at so_far

  pub then_accept : is_next_accept l cuts ≡ true → groups_from gifts (accepts ++ t ∷ []) cuts rest ≡ total
  then_accept is = sym (ap (λ (b : Bool). cond b as_accept (gift_or (is_next_gift l accepts cuts))) is) ∙ step

  not_accept : is_next_accept l cuts ≡ false → gift_or (is_next_gift l accepts cuts) ≡ total
  not_accept is = sym (ap (λ (b : Bool). cond b as_accept (gift_or (is_next_gift l accepts cuts))) is) ∙ step

  pub then_gift : is_next_accept l cuts ≡ false → is_next_gift l accepts cuts ≡ true
      → groups_from (gifts ++ t ∷ []) accepts cuts rest ≡ total
  then_gift isnt is = sym (ap gift_or is) ∙ not_accept isnt

  pub then_neither : is_next_accept l cuts ≡ false → is_next_gift l accepts cuts ≡ false → total ≡ None
  then_neither isnt off = sym (not_accept isnt) ∙ ap gift_or off

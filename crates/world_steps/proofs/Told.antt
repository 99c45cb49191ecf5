-- The steps that a trace and what is kept beside it tell, read from the newest on.
use Rattle.std.proofs.Common.{◌≡◌, ℕ, suc, ◌+◌, ◌-◌, ◌<◌, ◌≤◌, List, [], ◌∷◌, ◌++◌, take, reverse, length, get_or, sym, ◌∙◌, ap, arith, Option, Some, None}
use Rattle.std.proofs.Math.Seq.{take-suc, take-length}
use Rattle.std.proofs.lemmas.List.{reverse-append, append_assoc, append-nil}
use Rattle.field_bounds.specs.declared.entry.Entry.{Entry}
use Rattle.world_steps.specs.declared.step.WorldStep.{WorldStep}
use Rattle.world_steps.specs.declared.beside_trace.Way.{Way}
use Rattle.world_steps.specs.Kept.{steps_told, with_step}

-- the ways that are left, with the newest in front
left_is : (ways : List Way) (i : ℕ) (d : Way) → i < length ways
    → reverse (take (length ways - i) ways) ≡ get_or ways (length ways - 1 - i) d ∷ reverse (take (length ways - (i + 1)) ways)
left_is ways i d below =
    let j : ℕ = length ways - 1 - i in
    let next : length ways - i ≡ suc j = omega (arith, below) in
    let rest : j ≡ length ways - (i + 1) = omega (arith, below) in
    ap (λ (n : ℕ). reverse (take n ways)) next
    ∙ ap (λ (l : List Way). reverse l) (take-suc ways j d (omega (arith, below)))
    ∙ reverse-append (take j ways) (get_or ways j d ∷ [])
    ∙ ap (λ (n : ℕ). get_or ways j d ∷ reverse (take n ways)) rest

module _ (all : List WorldStep) (ways : List Way) where
  -- what is told so far, and by what is left, is all
  abbrev pub Told : ℕ → List WorldStep → List Entry → List ℕ → List ℕ → Type 0
  Told i steps entries numbers torn =
      steps ++ steps_told (reverse entries) (reverse (take (length ways - i) ways)) (reverse numbers) (reverse torn) ≡ all

  pub told_start : (steps : List WorldStep) (entries : List Entry) (numbers torn : List ℕ) → steps ≡ []
      → steps_told (reverse entries) (reverse ways) (reverse numbers) (reverse torn) ≡ all → Told 0 steps entries numbers torn
  told_start steps entries numbers torn none is =
      let whole : length ways - 0 ≡ length ways = omega arith in
      ap (λ (l : List WorldStep). l ++ steps_told (reverse entries) (reverse (take (length ways - 0) ways)) (reverse numbers)
      (reverse torn)) none
      ∙ ap (λ (l : List Way). steps_told (reverse entries) (reverse l) (reverse numbers) (reverse torn))
      (ap (λ (n : ℕ). take n ways) whole ∙ take-length ways)
      ∙ is

  -- what one more way tells
  one_more : (i : ℕ) (way : Way) (steps : List WorldStep) (entries entries' : List Entry) (numbers numbers' torn torn' : List ℕ)
      (found : Option WorldStep) → i < length ways
      → way ≡ get_or ways (length ways - 1 - i) way
      → ((rest : List Way) → steps_told (reverse entries) (way ∷ rest) (reverse numbers) (reverse torn)
      ≡ with_step found (steps_told (reverse entries') rest (reverse numbers') (reverse torn')))
      → Told i steps entries numbers torn
      → steps ++ with_step found (steps_told (reverse entries') (reverse (take (length ways - (i + 1)) ways)) (reverse numbers')
      (reverse torn')) ≡ all
  one_more i way steps entries entries' numbers numbers' torn torn' found below is tells told =
      let rest = reverse (take (length ways - (i + 1)) ways) in
      ap (λ (l : List WorldStep). steps ++ l) (sym (tells rest))
      ∙ ap (λ (l : List Way). steps ++ steps_told (reverse entries) l (reverse numbers) (reverse torn))
      (ap (λ (w : Way). w ∷ rest) is ∙ sym (left_is ways i way below))
      ∙ told

  pub told_on : (i : ℕ) (way : Way) (steps more : List WorldStep) (step : WorldStep) (entries entries' : List Entry)
      (numbers numbers' torn torn' : List ℕ) → i < length ways
      → way ≡ get_or ways (length ways - 1 - i) way
      → ((rest : List Way) → steps_told (reverse entries) (way ∷ rest) (reverse numbers) (reverse torn)
      ≡ with_step (Some step) (steps_told (reverse entries') rest (reverse numbers') (reverse torn')))
      → more ≡ steps ++ step ∷ [] → Told i steps entries numbers torn → Told (i + 1) more entries' numbers' torn'
  told_on i way steps more step entries entries' numbers numbers' torn torn' below way_is tells is told =
      let rest = steps_told (reverse entries') (reverse (take (length ways - (i + 1)) ways)) (reverse numbers') (reverse torn') in
      ap (λ (l : List WorldStep). l ++ rest) is ∙ append_assoc steps (step ∷ []) rest
      ∙ one_more i way steps entries entries' numbers numbers' torn torn' (Some step) below way_is tells told

  pub told_stop : (i : ℕ) (way : Way) (steps : List WorldStep) (entries entries' : List Entry) (numbers numbers' torn torn' : List ℕ)
      → i < length ways
      → way ≡ get_or ways (length ways - 1 - i) way
      → ((rest : List Way) → steps_told (reverse entries) (way ∷ rest) (reverse numbers) (reverse torn)
      ≡ with_step None (steps_told (reverse entries') rest (reverse numbers') (reverse torn')))
      → Told i steps entries numbers torn → steps ≡ all
  told_stop i way steps entries entries' numbers numbers' torn torn' below way_is tells told =
      sym (append-nil steps) ∙ one_more i way steps entries entries' numbers numbers' torn torn' None below way_is tells told

  pub told_end : (i : ℕ) (steps : List WorldStep) (entries : List Entry) (numbers torn : List ℕ) → length ways ≤ i
      → Told i steps entries numbers torn → steps ≡ all
  told_end i steps entries numbers torn past told =
      let none : length ways - i ≡ 0 = omega (arith, past) in
      sym (append-nil steps)
      ∙ sym (ap (λ (n : ℕ). steps ++ steps_told (reverse entries) (reverse (take n ways)) (reverse numbers) (reverse torn)) none)
      ∙ told

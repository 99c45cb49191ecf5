-- What the steps of a new file come to.
use Rattle.std.proofs.Common.{◌≡◌, ◌⊎◌, ℕ, ◌≤◌, List, [], ◌++◌, inl, inr, length, take, Option, None, Some, option_map, Result, Ok, Err, IfErr, OnOk, sym, ap, subst, ◌∙◌, arith}
use Rattle.std.specs.Io.KnownBytes.{append_known}
use Rattle.std.proofs.lemmas.List.{take_all}
use Rattle.file_medium.specs.Copies.{IsCopyOf}
use Rattle.file_medium.specs.Files.{IsSpared}

known_behind : (begun : Option (List ℕ)) (head held : List ℕ) → IsCopyOf begun []
    → IsCopyOf (append_known (append_known begun head) held) (head ++ held)
known_behind None head held none = tt
known_behind (Some xs) head held none = ap (λ (l : List ℕ). (l ++ head) ++ held) none

-- all that was written, and synced
pub written : (begun one two synced : Option (List ℕ)) (head held : List ℕ) (n m : ℕ)
    → one ≡ append_known begun (take n head) → length head ≤ n → two ≡ append_known one (take m held) → length held ≤ m
    → synced ≡ two → IsCopyOf begun [] → IsCopyOf synced (head ++ held)
written begun one two synced head held n m first whole second all same none =
    let is : synced ≡ append_known (append_known begun head) held =
    same ∙ second ∙ ap (λ (k : Option (List ℕ)). append_known k (take m held)) first
    ∙ ap (λ (l : List ℕ). append_known (append_known begun l) (take m held)) (take_all n head whole)
    ∙ ap (append_known (append_known begun head)) (take_all m held all) in
    subst (λ (k : Option (List ℕ)). IsCopyOf k (head ++ held)) (sym is) (known_behind begun head held none)

-- ---- what the new file in its place is

pub placed : {T E : Type 0} (r : Result T E) (new bytes safe : Option (List ℕ)) (least : Option ℕ) (text : List ℕ) → IsCopyOf new text
    → OnOk r ((bytes ≡ new) × (safe ≡ new) × (least ≡ option_map (λ held. length held) new))
    → OnOk r (IsCopyOf bytes text × IsCopyOf safe text)
placed (Ok x) new bytes safe least text is p =
    (subst (λ (k : Option (List ℕ)). IsCopyOf k text) (sym p.0) is, subst (λ (k : Option (List ℕ)). IsCopyOf k text) (sym p.1) is)
placed (Err e) new bytes safe least text is p = tt

pub placed_safe : {T E : Type 0} (r : Result T E) (new bytes safe : Option (List ℕ)) (least : Option ℕ)
    → OnOk r ((bytes ≡ new) × (safe ≡ new) × (least ≡ option_map (λ held. length held) new)) → OnOk r (safe ≡ bytes)
placed_safe (Ok x) new bytes safe least p = p.1 ∙ sym p.0
placed_safe (Err e) new bytes safe least p = tt

spares_all : (new : Option (List ℕ)) (text : List ℕ) → IsCopyOf new text → IsSpared (length text) (option_map (λ held. length held) new)
spares_all None text is = tt
spares_all (Some xs) text is = let lengths : length xs ≡ length text = ap length is in omega (arith, lengths)

pub placed_spares : {T E : Type 0} (r : Result T E) (new bytes safe : Option (List ℕ)) (least : Option ℕ) (text : List ℕ) → IsCopyOf new text
    → OnOk r ((bytes ≡ new) × (safe ≡ new) × (least ≡ option_map (λ held. length held) new)) → OnOk r (IsSpared (length text) least)
placed_spares (Ok x) new bytes safe least text is p = subst (IsSpared (length text)) (sym p.2) (spares_all new text is)
placed_spares (Err e) new bytes safe least text is p = tt

-- ---- what a fault tells of it

pub fault_for : {T E : Type 0} (r : Result T E) (P Q : E → Type 0) → ((e : E) → P e → Q e) → IfErr r P → IfErr r Q
fault_for (Ok x) P Q f p = p
fault_for (Err e) P Q f p = f e p

pub either_whole : (safe before old new : Option (List ℕ)) (text : List ℕ) → before ≡ old → IsCopyOf new text
    → (safe ≡ before) ⊎ (safe ≡ new) → (safe ≡ old) ⊎ IsCopyOf safe text
either_whole safe before old new text same is (inl stays) = inl (stays ∙ same)
either_whole safe before old new text same is (inr goes) = inr (subst (λ (k : Option (List ℕ)). IsCopyOf k text) (sym goes) is)

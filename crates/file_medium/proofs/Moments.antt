-- What stays safe in a run of calls of a file (this project).
use Rattle.std.proofs.Common.{◌≡◌, ◌≤◌, inl, inr, ℕ, List, [], ◌∷◌, length, take, min, Option, None, Some, sym, ap, subst, ◌∙◌, arith}
use Rattle.std.proofs.lemmas.List.{length-take}
use lib.Seq.{take-take}
use Rattle.file_medium.specs.Files.{IsSpared, KeepsFront, cut_known, least_known}
use Rattle.file_medium.specs.Moments.{Moment, AreCalls, last_moment}
use Rattle.file_medium.proofs.Fronts.{keeps-cut, keeps-still}

-- What every cut has left at the end, every cut had left before.
spared-before : (n l : ℕ) (first : Moment) (calls : List Moment) → AreCalls first calls → first.least ≡ Some l
    → IsSpared n (last_moment first calls).least → n ≤ l
spared-before n l first [] are known spared = subst (IsSpared n) known spared
spared-before n l first (next ∷ rest) (inl call, are) known spared = spared-before n l next rest are (call.least ∙ known) spared
spared-before n l first (next ∷ rest) (inr call, are) known spared =
    let less : n ≤ min call.left l =
    spared-before n (min call.left l) next rest are (call.least ∙ ap (least_known call.left) known) spared in
    omega (arith, less)

-- The number stays known.
least-after : (l : ℕ) (first : Moment) (calls : List Moment) → AreCalls first calls → first.least ≡ Some l
    → (after : ℕ) × ((last_moment first calls).least ≡ Some after)
least-after l first [] are known = (l, known)
least-after l first (next ∷ rest) (inl call, are) known = least-after l next rest are (call.least ∙ known)
least-after l first (next ∷ rest) (inr call, are) known =
    least-after (min call.left l) next rest are (call.least ∙ ap (least_known call.left) known)

-- A front that a cut doesn't reach stays.
keeps-under : (n left : ℕ) (old new : Option (List ℕ)) → n ≤ left → KeepsFront (cut_known n old) new
    → KeepsFront (cut_known n old) (cut_known left new)
keeps-under n left None new less kept = tt
keeps-under n left (Some xs) None less kept = kept
keeps-under n left (Some xs) (Some ys) less kept =
    let short : length (take n xs) ≤ left = omega (arith, less, length-take n xs) in
    kept ∙ sym (take-take (length (take n xs)) left ys short)

-- What no cut reaches up to a moment is safe then.
stays : (n l : ℕ) (safe : Option (List ℕ)) (first : Moment) (calls : List Moment) → AreCalls first calls → first.least ≡ Some l
    → IsSpared n (last_moment first calls).least → KeepsFront (cut_known n safe) first.safe
    → KeepsFront (cut_known n safe) (last_moment first calls).safe
stays n l safe first [] are known spared kept = kept
stays n l safe first (next ∷ rest) (inl call, are) known spared kept =
    stays n l safe next rest are (call.least ∙ known) spared (keeps-still (cut_known n safe) first.safe next.safe kept call.kept)
stays n l safe first (next ∷ rest) (inr call, are) known spared kept =
    let lower : next.least ≡ Some (min call.left l) = call.least ∙ ap (least_known call.left) known in
    let less : n ≤ min call.left l = spared-before n (min call.left l) next rest are lower spared in
    stays n (min call.left l) safe next rest are lower spared
    (subst (KeepsFront (cut_known n safe)) (sym call.safe) (keeps-under n call.left safe first.safe (omega (arith, less)) kept))

pub stays-safe : (n l : ℕ) (first : Moment) (before after : List Moment) → AreCalls first before
    → AreCalls (last_moment first before) after → first.least ≡ Some l
    → IsSpared n (last_moment (last_moment first before) after).least
    → KeepsFront (cut_known n first.safe) (last_moment first before).safe
stays-safe n l first before after are more known spared =
    let between = least-after l first before are known in
    let less : n ≤ between.0 = spared-before n between.0 (last_moment first before) after more between.1 spared in
    stays n l first.safe first before are known (subst (IsSpared n) (sym between.1) less) (keeps-cut n first.safe)

-- The kinds of word that arguments are: each is read as it is spelled.
use Rattle.std.proofs.Common.{◌≡◌, ℕ, ◌+◌, ◌^◌, ◌<◌, true, false, cond, eqb, ltb, List, ◌∷◌, ◌++◌, length, get_or, take, drop, Option, Some, None, refl, sym, ap, subst, ◌∙◌, arith, add-one}
use Rattle.std.specs.Prelude.{position, ◌==◌}
use Rattle.std.specs.List.{position_or_len}
use Rattle.std.specs.Fmt.{decimal}
use Rattle.std.proofs.lemmas.Bool.{eqb-true, lt-ltb, ne_eqb, eq-eqb, cond-true}
use Rattle.std.proofs.lemmas.Option.{same_Some}
use Rattle.std.proofs.lemmas.Str.Parse.{digit_at}
use Rattle.std.proofs.lemmas.Fmt.{decimal_is_IsNumeral}
use Rattle.std.proofs.lemmas.List.Quantifiers.{position-Some}
use Rattle.std.proofs.lemmas.List.Sums.{position_or_len_is}
use Rattle.std.proofs.lemmas.List.{length-append, take-append-drop, get_or_append_left}
use Rattle.std.proofs.Math.Seq.{drop-cons, take-append_seam, drop-append-add, get_or-append_seam}
use Rattle.field_bounds.specs.declared.id.SiteNo.{SiteNo}
use Rattle.field_bounds.specs.declared.id.TxnId.{TxnId}
use Rattle.field_bounds.specs.declared.kind.Kind.{Kind}
use Rattle.field_bounds.specs.declared.kind.Kind.TheVariants.{Lower, Raise}
use Rattle.field_bounds.specs.Schema.{SchemaValue}
use Rattle.field_bounds.specs.Limits.{IsSchema}
use Rattle.line_words.specs.Reading.{◌>>=◌, below}
use Rattle.line_words.proofs.Numbers.{bind_some}
use Rattle.line_words.proofs.WordLemmas.{IsWord-append, decimal_word}
use Rattle.line_words.proofs.Forms.{IsRead}
use Rattle.line_words.proofs.WordKinds.{below_takes, below_again, table_read}
use Rattle.entry_text.specs.Spelling.{site_text, id_text, kind_text, field_text}
use Rattle.entry_text.specs.Ranges.{SiteFits, IdFits, FieldFits}
use Rattle.entry_text.specs.Reading.{site_of, id_of, kind_of, kind_table, field_of}
use Rattle.entry_text.proofs.FieldLemmas.{field_takes, field_again, field_word}

site_takes : (w : List ℕ) (s : SiteNo) → site_of w ≡ Some s → SiteFits s × (w ≡ site_text s)
unfolding site_of
site_takes w s e =
    let b = bind_some (below (2 ^ 16) w) (λ n. Some (record { 0 = n })) s e in
    let t = below_takes (2 ^ 16) w b.0 b.1 in
    let n-is : b.0 ≡ s.0 = ap (λ (g : SiteNo). g.0) (same_Some _ _ b.2) in
    (subst (λ (n : ℕ). n < 2 ^ 16) n-is t.0, t.1 ∙ ap decimal n-is)

site_again : (s : SiteNo) → SiteFits s → site_of (site_text s) ≡ Some s
unfolding site_of
site_again s fits = rw (below_again (2 ^ 16) s.0 (omega arith) fits) refl

pub site_read : IsRead SiteFits site_text site_of
site_read = record { takes = site_takes; again = site_again; plain = λ s fits. decimal_word s.0 (omega arith) }

pub field_read : (schema : SchemaValue) → IsSchema schema → IsRead FieldFits (field_text schema) (field_of schema)
field_read schema is = record { takes = field_takes schema is; again = field_again schema is; plain = field_word schema is }

-- ---- ids

abbrev to_id : ℕ → ℕ → Option TxnId
to_id e n = Some (record { epoch = e; number = n })

id_takes : (w : List ℕ) (t : TxnId) → id_of w ≡ Some t → IdFits t × (w ≡ id_text t)
unfolding id_of
id_takes w t e =
    let b = bind_some (position (λ b. b == 46) w) (λ at. below (2 ^ 32) (take at w) >>= λ e. below (2 ^ 32) (drop (at + 1) w)
    >>= λ n. to_id e n) t e in
    let i = b.0 in
    let p = position-Some (λ b. b == 46) w i 0 b.1 in
    let f = bind_some (below (2 ^ 32) (take i w)) (λ e. below (2 ^ 32) (drop (i + 1) w) >>= λ n. to_id e n) t b.2 in
    let g = bind_some (below (2 ^ 32) (drop (i + 1) w)) (λ n. to_id f.0 n) t f.2 in
    let same = same_Some _ _ g.2 in
    let epoch-is : f.0 ≡ t.epoch = ap (λ (t : TxnId). t.epoch) same in
    let number-is : g.0 ≡ t.number = ap (λ (t : TxnId). t.number) same in
    let et = below_takes (2 ^ 32) (take i w) f.0 f.1 in
    let nt = below_takes (2 ^ 32) (drop (i + 1) w) g.0 g.1 in
    let dot : get_or w i 0 ≡ 46 = eqb-true (get_or w i 0) 46 p.1 in
    let rest : drop i w ≡ get_or w i 0 ∷ drop (i + 1) w = rw add-one (drop-cons w i 0 p.0) in
    let parts : w ≡ take i w ++ (46 ∷ drop (i + 1) w) =
    sym (take-append-drop i w) ∙ ap (λ (l : List ℕ). take i w ++ l) (rest ∙ ap (λ (b : ℕ). b ∷ drop (i + 1) w) dot) in (
      (subst (λ (n : ℕ). n < 2 ^ 32) epoch-is et.0, subst (λ (n : ℕ). n < 2 ^ 32) number-is nt.0),
      parts ∙ ap (λ (l : List ℕ). l ++ (46 ∷ drop (i + 1) w)) (et.1 ∙ ap decimal epoch-is)
          ∙ ap (λ (l : List ℕ). decimal t.epoch ++ (46 ∷ l)) (nt.1 ∙ ap decimal number-is),
    )

-- the first dot
dot_at : (e : ℕ) (w : List ℕ) → e < 2 ^ 64 → position (λ b. b == 46) (decimal e ++ (46 ∷ w)) ≡ Some (length (decimal e))
dot_at e w small =
    let d = decimal e in
    let all = (decimal_is_IsNumeral e small).0.1 in
    let whole = d ++ (46 ∷ w) in
    let long : length d < length whole = omega (arith, length-append d (46 ∷ w)) in
    let before : (k : ℕ) → k < length d → eqb (get_or whole k 0) 46 ≡ false = λ k lt.
    ne_eqb (get_or whole k 0) 46 (λ h. let r = digit_at d k all lt in omega (arith, get_or_append_left d (46 ∷ w) 0 k lt)) in
    let at : length d < length whole → eqb (get_or whole (length d) 0) 46 ≡ true = λ h. eq-eqb _ 46 (get_or-append_seam d 46 w 0) in
    let place : position_or_len (λ b. b == 46) whole ≡ length d =
    position_or_len_is (λ b. b == 46) whole (length d) 0 (omega arith) before at in
    ap (λ (n : ℕ). cond (ltb n (length whole)) (Some n) None) place
    ∙ cond-true (ltb (length d) (length whole)) _ _ (lt-ltb (length d) (length whole) long)

id_again : (t : TxnId) → IdFits t → id_of (id_text t) ≡ Some t
unfolding id_of
id_again t fits =
    let w = id_text t in
    let d = decimal t.epoch in
    let front : take (length d) w ≡ d = take-append_seam d (46 ∷ decimal t.number) in
    let back : drop (length d + 1) w ≡ decimal t.number = drop-append-add d (46 ∷ decimal t.number) 1 in
    ap (λ (o : Option ℕ). o >>= λ at. below (2 ^ 32) (take at w) >>= λ e. below (2 ^ 32) (drop (at + 1) w) >>= λ n. to_id e n)
    (dot_at t.epoch (decimal t.number) (omega (arith, fits.0)))
    ∙ ap (λ (o : Option ℕ). o >>= λ e. below (2 ^ 32) (drop (length d + 1) w) >>= λ n. to_id e n)
    (ap (below (2 ^ 32)) front ∙ below_again (2 ^ 32) t.epoch (omega arith) fits.0)
    ∙ ap (λ (o : Option ℕ). o >>= λ n. to_id t.epoch n) (ap (below (2 ^ 32)) back ∙ below_again (2 ^ 32) t.number (omega arith) fits.1)

pub id_read : IsRead IdFits id_text id_of
id_read = record {
  takes = id_takes;
  again = id_again;
  plain = λ t fits. IsWord-append (decimal t.epoch) (46 ∷ decimal t.number) (decimal_word t.epoch (omega (arith, fits.0)))
      ((omega arith, omega arith), decimal_word t.number (omega (arith, fits.1)));
}

-- ---- kinds

kind_again : (k : Kind) → kind_of (kind_text k) ≡ Some k
unfolding kind_of
kind_again Lower = refl
kind_again Raise = refl

pub kind_read : IsRead (λ (k : Kind). Unit {0}) kind_text kind_of
unfolding kind_of
kind_read = table_read kind_text kind_table (refl, (refl, tt)) refl kind_again

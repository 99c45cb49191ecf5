-- Where entries are cut.
use Rattle.std.proofs.Common.{◌≡◌, ℕ, zero, suc, ◌+◌, ◌-◌, ◌≤◌, ◌<◌, Bool, true, false, cond, List, [], ◌∷◌, length, map, take, reverse, get_or, refl, sym, ap, subst, ◌∙◌, arith}
use Rattle.std.proofs.lemmas.List.{take_more, take_all, take-map, get_or-map, length-map, reverse-append}
use Rattle.field_bounds.specs.declared.entry.Entry.{Entry}
use Rattle.site_trace.specs.declared.reading.TracedEntry.{TracedEntry}
use Rattle.site_trace.specs.declared.reading.Trace.{Trace}
use Rattle.site_trace.specs.Traces.{entries_of}
use Rattle.site_trace.specs.Records.{leaves_record, records_left}
use Rattle.site_trace.specs.Ends.{front_length, left_by, IsEnd}
use Rattle.site_trace.specs.Kept.{IsCutAt}
use Rattle.site_trace.specs.Keeping.{left_in, IsCutBehind}

one_if : (v : Bool) (n : ℕ) → n ≤ cond v 1 0 + n
one_if true n = omega arith
one_if false n = omega arith

-- one entry more
pub left_more : (es : List Entry) (n : ℕ) (d : Entry) → n < length es
    → left_in es (n + 1) ≡ cond (leaves_record (reverse (take n es)) (get_or es n d).command (get_or es n d).reply) 1 0 + left_in es n
left_more es n d within =
    ap records_left (ap reverse (take_more es n d within) ∙ reverse-append (take n es) (get_or es n d ∷ []))

left_no_less : (es : List Entry) (n : ℕ) (d : Entry) → n < length es → left_in es n ≤ left_in es (n + 1)
left_no_less es n d within =
    let more = left_more es n d within in
    let least = one_if (leaves_record (reverse (take n es)) (get_or es n d).command (get_or es n d).reply) (left_in es n) in
    omega (arith, more, least)

left_grows : (es : List Entry) (d : Entry) (n k : ℕ) → n + k ≤ length es → left_in es n ≤ left_in es (n + k)
left_grows es d n zero within = let same : left_in es (n + 0) ≡ left_in es n = ap (left_in es) (omega arith) in omega (arith, same)
left_grows es d n (suc k) within =
    let here = left_grows es d n k (omega (arith, within)) in
    let more = left_no_less es (n + k) d (omega (arith, within)) in
    let same : left_in es (n + suc k) ≡ left_in es (n + k + 1) = ap (left_in es) (omega arith) in
    omega (arith, here, more, same)

left_grows_to : (es : List Entry) (d : Entry) (n m : ℕ) → n ≤ m → m ≤ length es → left_in es n ≤ left_in es m
left_grows_to es d n m up within =
    let same : left_in es (n + (m - n)) ≡ left_in es m = ap (left_in es) (omega (arith, up)) in
    let grows = left_grows es d n (m - n) (omega (arith, up, within)) in
    omega (arith, grows, same)

-- all entries
pub left_all : (es : List Entry) → left_in es (length es) ≡ records_left (reverse es)
left_all es = ap (λ (l : List Entry). records_left (reverse l)) (take_all (length es) es (omega arith))

-- the cut in front of an entry that leaves one record more
pub cut_before : (es : List Entry) (kept n : ℕ) (d : Entry) → n < length es → left_in es n ≡ kept
    → leaves_record (reverse (take n es)) (get_or es n d).command (get_or es n d).reply ≡ true → IsCutBehind es kept n
cut_before es kept n d within counted leaves =
    let next : left_in es (n + 1) ≡ 1 + left_in es n = left_more es n d within ∙ ap (λ (v : Bool). cond v 1 0 + left_in es n) leaves in
    record {
      within = omega (arith, within);
      leaves = counted;
      longest = λ m more all.
          let grows = left_grows_to es d (n + 1) m (omega (arith, more)) all in
          omega (arith, grows, next, counted);
    }

-- the cut behind all entries
pub cut_behind : (es : List Entry) (kept n : ℕ) → n ≡ length es → left_in es n ≡ kept → IsCutBehind es kept n
cut_behind es kept n end counted = record {
  within = omega (arith, end);
  leaves = counted;
  longest = λ m more all. absurd (omega (arith, more, all, end));
}

-- ---- entries that are told by other things

-- one more, by what the look at it says
pub told_leaves : {X : Type 0} (told : X → Entry) (xs : List X) (n : ℕ) (d : X) (e : Entry) (v : Bool) → n < length xs
    → e ≡ told (get_or xs n d) → v ≡ leaves_record (reverse (map told (take n xs))) e.command e.reply
    → v ≡ leaves_record (reverse (take n (map told xs))) (get_or (map told xs) n (told d)).command (get_or (map told xs) n (told d)).reply
told_leaves told xs n d e v within is leaves =
    leaves ∙ ap (λ (l : List Entry). leaves_record (reverse l) e.command e.reply) (sym (take-map told n xs))
    ∙ ap (λ (x : Entry). leaves_record (reverse (take n (map told xs))) x.command x.reply) (is ∙ sym (get_or-map told xs n d (told d) within))

pub told_more : {X : Type 0} (told : X → Entry) (xs : List X) (n : ℕ) (d : X) (e : Entry) (v : Bool) → n < length xs
    → e ≡ told (get_or xs n d) → v ≡ leaves_record (reverse (map told (take n xs))) e.command e.reply
    → left_in (map told xs) (n + 1) ≡ cond v 1 0 + left_in (map told xs) n
told_more told xs n d e v within is leaves =
    left_more (map told xs) n (told d) (omega (arith, within, length-map xs told))
    ∙ ap (λ (b : Bool). cond b 1 0 + left_in (map told xs) n) (sym (told_leaves told xs n d e v within is leaves))

pub told_cut : {X : Type 0} (told : X → Entry) (xs : List X) (kept n : ℕ) (d : X) (e : Entry) (v : Bool) → n < length xs
    → e ≡ told (get_or xs n d) → v ≡ leaves_record (reverse (map told (take n xs))) e.command e.reply → v ≡ true
    → left_in (map told xs) n ≡ kept → IsCutBehind (map told xs) kept n
told_cut told xs kept n d e v within is leaves too counted =
    cut_before (map told xs) kept n (told d) (omega (arith, within, length-map xs told)) counted
    (sym (told_leaves told xs n d e v within is leaves) ∙ too)

-- ---- entries with the places of their lines

left_same : (ts : List TracedEntry) (n : ℕ) → left_in (entries_of ts) n ≡ left_by ts n
left_same ts n = ap (λ (l : List Entry). records_left (reverse l)) (take-map (λ (t : TracedEntry). t.entry) n ts)

pub cut_traced : (ts : List TracedEntry) (kept n : ℕ) → IsCutBehind (entries_of ts) kept n → IsCutAt ts kept n
cut_traced ts kept n cut =
    let size = length-map ts (λ (t : TracedEntry). t.entry) in
    record {
      within = omega (arith, cut.within, size);
      leaves = sym (left_same ts n) ∙ cut.leaves;
      longest = λ m more all.
          let leaves = cut.longest m more (omega (arith, all, size)) in
          omega (arith, leaves, left_same ts m);
    }

-- where the line of an entry begins, and where none is left
pub front_at : (ts : List TracedEntry) (all n : ℕ) (d : TracedEntry) → n < length ts → front_length ts all n ≡ (get_or ts n d).start
front_at [] all n d within = absurd (omega (arith, within))
front_at (t ∷ ts) all zero d within = refl
front_at (t ∷ ts) all (suc n) d within = front_at ts all n d (omega (arith, within))

pub front_past : (ts : List TracedEntry) (all n : ℕ) → length ts ≤ n → front_length ts all n ≡ all
front_past [] all n past = refl
front_past (t ∷ ts) all zero past = absurd (omega (arith, past))
front_past (t ∷ ts) all (suc n) past = front_past ts all n (omega (arith, past))

pub end_behind : (trace : Trace) (kept n size : ℕ) (ts : List TracedEntry) → ts ≡ trace.entries.items → IsCutBehind (entries_of ts) kept n
    → size ≡ front_length ts trace.length n → IsEnd trace kept (record { entries = n; length = size })
end_behind trace kept n size ts is behind bytes =
    let cut : IsCutAt trace.entries.items kept n = subst (λ (l : List TracedEntry). IsCutAt l kept n) is (cut_traced ts kept n behind) in
    record {
      within = cut.within;
      leaves = cut.leaves;
      longest = cut.longest;
      bytes = bytes ∙ ap (λ (l : List TracedEntry). front_length l trace.length n) is;
    }

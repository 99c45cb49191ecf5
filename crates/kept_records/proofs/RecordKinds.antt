-- What is read from words is a record of those words, and the words of a record are read as that record.
use Rattle.std.proofs.Common.{◌≡◌, ℕ, zero, suc, ◌+◌, ◌++◌, append_assoc, ◌≤◌, Bool, Option, true, false, ◌&&◌, cond, eqb, leb, List, [], ◌∷◌, length, Some, None, refl, sym, ap, subst, ◌∙◌, inl, inr, arith, ℤ}
use Rattle.std.specs.Fmt.{decimal, signed_decimal}
use Rattle.std.specs.List.{AllByRecursion}
use Rattle.std.proofs.lemmas.Bool.{and_parts, leb-true, le-leb, eqb-true, cases_Bool}
use Rattle.std.proofs.lemmas.Option.{cond_some, same_Some, some_pair_parts}
use Rattle.std.proofs.lemmas.List.{append-nil}
use Rattle.field_bounds.specs.declared.kind.Kind.{Kind}
use Rattle.field_bounds.specs.declared.id.TxnId.{TxnId}
use Rattle.field_bounds.specs.declared.entry.Escrow.{Escrow}
use Rattle.field_bounds.specs.Limits.{max_fields}
use Rattle.field_bounds.specs.Owed.{max_change, max_total, max_escrows, max_number, max_epoch}
use Rattle.line_words.specs.Reading.{◌>>=◌, word_at, only_value}
use Rattle.line_words.proofs.Numbers.{bind_some}
use Rattle.line_words.proofs.WordLemmas.{IsWord}
use Rattle.line_words.proofs.Forms.{taking, word_again}
use Rattle.kept_records.specs.declared.record.Record.{Record}
use Rattle.kept_records.specs.declared.record.Record.TheVariants.{Commit, Gift, Accept, Tighten, Restart, Summary}
use Rattle.kept_records.specs.declared.total.Total.{Total}
use Rattle.kept_records.specs.declared.total.Cut.{Cut}
use Rattle.kept_records.specs.Text.{letter_of, words_of, kind_word, escrow_words, total_words, cut_words, rights_words, group_words, cuts_words, summary_words, max_place, IsChange, IsEscrow, IsTotal, AreRights, IsListed, IsListedCut, IsSummary, IsRecord}
use Rattle.kept_records.specs.Summary.{SummaryValue, summary_told, summary_record, rises, cuts_rise}
use Rattle.kept_records.specs.Reading.{number_within, change_of, kind_of, total_from, gift_from, accept_from, cut_from, tighten_from, restart_from, escrows_from, commit_from, rights_from, groups_from, summary_from, word_is, is_none_of, is_next_accept, is_next_gift, letter_at, record_from, record_of}
use Rattle.kept_records.proofs.OneWord.{number_law, change_law, kind_law, letter_word}

cond_is : {A : Type 0} (b : Bool) (o : Option A) (y : A) → cond b o None ≡ Some y → (b ≡ true) × (o ≡ Some y)
cond_is true o y e = (refl, e)
cond_is false o y e = absurd cc

cond_then : {A : Type 0} (b : Bool) (x y : Option A) (z : A) → b ≡ true → cond b x y ≡ Some z → x ≡ Some z
cond_then true x y z is e = e
cond_then false x y z is e = cc

cond_else : {A : Type 0} (b : Bool) (x y : Option A) (z : A) → b ≡ false → cond b x y ≡ Some z → y ≡ Some z
cond_else true x y z is e = cc
cond_else false x y z is e = e

ended_is : {A : Type 0} (x : A) (ws : List (List ℕ)) (y : A) → only_value (x, ws) ≡ Some y → (ws ≡ []) × (x ≡ y)
ended_is x [] y e = (refl, same_Some x y e)
ended_is x (w ∷ ws) y e = absurd cc

-- a record of a letter and words
abbrev pub Spells : ℕ → List (List ℕ) → Record → Type 0
Spells letter ws r = (letter_of r ≡ letter) × (words_of r ≡ ws) × IsRecord r

-- ---- totals

abbrev made : ℕ → ℕ → Kind → ℕ → Total
made other field kind total = record { site = record { 0 = other }; field = record { 0 = field }; kind = kind; total = total }

abbrev words_in : Total → List (List ℕ)
words_in t = total_words t.site t.field t.kind t.total

abbrev Fits : Total → Type 0
Fits t = (t.site.0 ≤ max_place) × (t.field.0 ≤ max_place) × IsTotal t.total

total_takes : (ws : List (List ℕ)) (t : Total) → total_from ws ≡ Some t → (words_in t ≡ ws) × Fits t
unfolding total_from
total_takes ws t e =
    taking (number_law 0 max_place (omega arith)) (λ other. word_at (number_within 0 max_place) other.1 >>= λ field. word_at kind_of field.1
    >>= λ kind. word_at (number_within 1 max_total) kind.1
    >>= λ total. only_value (made other.0 field.0 kind.0 total.0, total.1)) ws t e (λ other as1 a-fits a-is a-on.
    taking (number_law 0 max_place (omega arith)) (λ field. word_at kind_of field.1 >>= λ kind. word_at (number_within 1 max_total) kind.1
    >>= λ total. only_value (made other field.0 kind.0 total.0, total.1)) as1 t a-on (λ field bs b-fits b-is b-on.
    taking kind_law (λ kind. word_at (number_within 1 max_total) kind.1
    >>= λ total. only_value (made other field kind.0 total.0, total.1)) bs t b-on (λ kind cs c-fits c-is c-on.
    taking (number_law 1 max_total (omega arith)) (λ total. only_value (made other field kind total.0, total.1)) cs t c-on
    (λ total ds d-fits d-is d-on.
    let end = ended_is (made other field kind total) ds t d-on in
    let is : ws ≡ words_in (made other field kind total) =
    a-is ∙ ap (λ (l : List (List ℕ)). decimal other ∷ l)
    (b-is ∙ ap (λ (l : List (List ℕ)). decimal field ∷ l)
    (c-is ∙ ap (λ (l : List (List ℕ)). kind_word kind ∷ l) (d-is ∙ ap (λ (l : List (List ℕ)). decimal total ∷ l) end.0))) in
    subst (λ (x : Total). (words_in x ≡ ws) × Fits x) end.1 (sym is, (a-fits.1, b-fits.1, (omega (arith, d-fits.0), d-fits.1)))))))

total_again : (t : Total) → Fits t → total_from (words_in t) ≡ Some t
unfolding total_from
total_again t fits =
    word_again (number_law 0 max_place (omega arith)) _ t.site.0 _ (omega arith, fits.0)
    ∙ word_again (number_law 0 max_place (omega arith)) _ t.field.0 _ (omega arith, fits.1)
    ∙ word_again kind_law _ t.kind _ tt
    ∙ word_again (number_law 1 max_total (omega arith)) _ t.total [] (omega (arith, fits.2.0), fits.2.1)

-- ---- gifts and acceptances

-- what is made of a total is spelled by the words of the total
told_takes : (letter : ℕ) (make : Total → Record) → ((t : Total) → Fits t → Spells letter (words_in t) (make t))
    → (ws : List (List ℕ)) (r : Record)
    → (total_from ws >>= λ t. Some (make t)) ≡ Some r → Spells letter ws r
told_takes letter make spells ws r e =
    let b = bind_some (total_from ws) (λ t. Some (make t)) r e in
    let h = total_takes ws b.0 b.1 in
    subst (Spells letter ws) (same_Some (make b.0) r b.2) (subst (λ (l : List (List ℕ)). Spells letter l (make b.0)) h.0 (spells b.0 h.1))

gift_takes : (ws : List (List ℕ)) (r : Record) → gift_from ws ≡ Some r → Spells 71 ws r
unfolding gift_from
gift_takes ws r e = told_takes 71 (λ t. Gift t.site t.field t.kind t.total) (λ t fits. (refl, refl, fits)) ws r e

gift_again : (t : Total) → Fits t → gift_from (words_in t) ≡ Some (Gift t.site t.field t.kind t.total)
unfolding gift_from
gift_again t fits = rw (total_again t fits) refl

accept_takes : (ws : List (List ℕ)) (r : Record) → accept_from ws ≡ Some r → Spells 65 ws r
unfolding accept_from
accept_takes ws r e = told_takes 65 (λ t. Accept t.site t.field t.kind t.total) (λ t fits. (refl, refl, fits)) ws r e

accept_again : (t : Total) → Fits t → accept_from (words_in t) ≡ Some (Accept t.site t.field t.kind t.total)
unfolding accept_from
accept_again t fits = rw (total_again t fits) refl

-- ---- tightenings

abbrev cut_made : ℕ → Kind → ℕ → Cut
cut_made field kind total = record { field = record { 0 = field }; kind = kind; total = total }

abbrev words_of_cut : Cut → List (List ℕ)
words_of_cut t = cut_words t.field t.kind t.total

cut_takes : (ws : List (List ℕ)) (t : Cut) → cut_from ws ≡ Some t → (words_of_cut t ≡ ws) × IsListedCut t
unfolding cut_from
cut_takes ws t e =
    taking (number_law 0 max_place (omega arith)) (λ field. word_at kind_of field.1 >>= λ kind. word_at (number_within 1 max_change) kind.1
    >>= λ total. only_value (cut_made field.0 kind.0 total.0, total.1)) ws t e (λ field bs b-fits b-is b-on.
    taking kind_law (λ kind. word_at (number_within 1 max_change) kind.1
    >>= λ total. only_value (cut_made field kind.0 total.0, total.1)) bs t b-on (λ kind cs c-fits c-is c-on.
    taking (number_law 1 max_change (omega arith)) (λ total. only_value (cut_made field kind total.0, total.1)) cs t c-on
    (λ total ds d-fits d-is d-on.
    let end = ended_is (cut_made field kind total) ds t d-on in
    let is : ws ≡ decimal field ∷ kind_word kind ∷ decimal total ∷ [] =
    b-is ∙ ap (λ (l : List (List ℕ)). decimal field ∷ l)
    (c-is ∙ ap (λ (l : List (List ℕ)). kind_word kind ∷ l) (d-is ∙ ap (λ (l : List (List ℕ)). decimal total ∷ l) end.0)) in
    subst (λ (x : Cut). (words_of_cut x ≡ ws) × IsListedCut x) end.1 (sym is, (b-fits.1, (omega (arith, d-fits.0), d-fits.1))))))

cut_again : (t : Cut) → IsListedCut t → cut_from (words_of_cut t) ≡ Some t
unfolding cut_from
cut_again t fits =
    word_again (number_law 0 max_place (omega arith)) _ t.field.0 _ (omega arith, fits.0)
    ∙ word_again kind_law _ t.kind _ tt
    ∙ word_again (number_law 1 max_change (omega arith)) _ t.total [] (omega (arith, fits.1.0), fits.1.1)

tighten_takes : (ws : List (List ℕ)) (r : Record) → tighten_from ws ≡ Some r → Spells 84 ws r
unfolding tighten_from
tighten_takes ws r e =
    let b = bind_some (cut_from ws) (λ t. Some (Tighten t.field t.kind t.total)) r e in
    let h = cut_takes ws b.0 b.1 in
    subst (Spells 84 ws) (same_Some (Tighten b.0.field b.0.kind b.0.total) r b.2) (refl, h.0, h.1)

tighten_again : (t : Cut) → IsListedCut t → tighten_from (words_of_cut t) ≡ Some (Tighten t.field t.kind t.total)
unfolding tighten_from
tighten_again t fits = rw (cut_again t fits) refl

-- ---- restarts

restart_takes : (ws : List (List ℕ)) (r : Record) → restart_from ws ≡ Some r → Spells 82 ws r
unfolding restart_from
restart_takes ws r e =
    taking (number_law 1 max_epoch (omega arith)) (λ epoch. only_value (Restart epoch.0, epoch.1)) ws r e (λ epoch rest fits is on.
    let end = ended_is (Restart epoch) rest r on in
    subst (Spells 82 ws) end.1 (refl, sym (is ∙ ap (λ (l : List (List ℕ)). decimal epoch ∷ l) end.0), (omega (arith, fits.0), fits.1)))

restart_again : (epoch : ℕ) → IsRecord (Restart epoch) → restart_from (decimal epoch ∷ []) ≡ Some (Restart epoch)
unfolding restart_from
restart_again epoch fits = word_again (number_law 1 max_epoch (omega arith)) (λ e. only_value (Restart e.0, e.1)) epoch []
    (omega (arith, fits.0), fits.1)

-- ---- commits

one_more : (w v : List ℕ) (ws : List (List ℕ)) (f : ℕ) (z : ℤ) (rest es : List Escrow) → w ≡ decimal f → f ≤ max_place
    → v ≡ signed_decimal z → IsChange z → escrow_words rest ≡ ws → AllByRecursion IsEscrow rest
    → record { field = record { 0 = f }; change = z } ∷ rest ≡ es → (escrow_words es ≡ (w ∷ v ∷ ws)) × AllByRecursion IsEscrow es
one_more w v ws f z rest es field below change fits words all is =
    subst (λ (l : List Escrow). (escrow_words l ≡ (w ∷ v ∷ ws)) × AllByRecursion IsEscrow l) is (
      ap (λ (l : List (List ℕ)). decimal f ∷ signed_decimal z ∷ l) words ∙ ap (λ (t : List ℕ). decimal f ∷ t ∷ ws) (sym change)
          ∙ ap (λ (t : List ℕ). t ∷ v ∷ ws) (sym field),
      ((below, fits), all),
    )

escrows_take : (ws : List (List ℕ)) (es : List Escrow) → escrows_from ws ≡ Some es → (escrow_words es ≡ ws) × AllByRecursion IsEscrow es
unfolding escrows_from
escrows_take [] es e = subst (λ (x : List Escrow). (escrow_words x ≡ []) × AllByRecursion IsEscrow x) (same_Some [] es e) (refl, tt)
escrows_take (w ∷ []) es e = absurd cc
escrows_take (w ∷ v ∷ ws) es e =
    let a = bind_some (number_within 0 max_place w)
    (λ field. change_of v >>= λ change. escrows_from ws
    >>= λ rest. Some (record { field = record { 0 = field }; change = change } ∷ rest)) es e in
    let b = bind_some (change_of v) (λ change. escrows_from ws
    >>= λ rest. Some (record { field = record { 0 = a.0 }; change = change } ∷ rest)) es a.2 in
    let c = bind_some (escrows_from ws) (λ rest. Some (record { field = record { 0 = a.0 }; change = b.0 } ∷ rest)) es b.2 in
    let x = (number_law 0 max_place (omega arith)).takes w a.0 a.1 in
    let y = change_law.takes v b.0 b.1 in
    let z = escrows_take ws c.0 c.1 in
    one_more w v ws a.0 b.0 c.0 es x.1 x.0.1 y.1 y.0 z.0 z.1 (same_Some (record { field = record { 0 = a.0 }; change = b.0 } ∷ c.0) es c.2)

escrows_again : (es : List Escrow) → AllByRecursion IsEscrow es → escrows_from (escrow_words es) ≡ Some es
unfolding escrows_from
escrows_again [] fits = refl
escrows_again (e ∷ es) fits =
    rw (
      (number_law 0 max_place (omega arith)).again e.field.0 (omega arith, fits.0.0),
      change_law.again e.change fits.0.1,
      escrows_again es fits.1,
    ) refl

commit_takes : (ws : List (List ℕ)) (r : Record) → commit_from ws ≡ Some r → Spells 67 ws r
unfolding commit_from
commit_takes ws r e =
    taking (number_law 0 max_epoch (omega arith)) (λ epoch. word_at (number_within 1 max_number) epoch.1 >>= λ number. escrows_from number.1
    >>= λ es. cond (leb 1 (length es) && leb (length es) max_escrows)
    (Some (Commit (record { epoch = epoch.0; number = number.0 }) es)) None) ws r e (λ epoch as1 a-fits a-is a-on.
    taking (number_law 1 max_number (omega arith))
    (λ number. escrows_from number.1 >>= λ es.
    cond (leb 1 (length es) && leb (length es) max_escrows) (Some (Commit (record { epoch = epoch; number = number.0 }) es)) None) as1 r
    a-on (λ number bs b-fits b-is b-on.
    let c = bind_some (escrows_from bs) (λ es. cond (leb 1 (length es) && leb (length es) max_escrows)
    (Some (Commit (record { epoch = epoch; number = number }) es)) None) r b-on in
    let all : Record = Commit (record { epoch = epoch; number = number }) c.0 in
    let h = cond_some (leb 1 (length c.0) && leb (length c.0) max_escrows) all r c.2 in
    let g = and_parts (leb 1 (length c.0)) (leb (length c.0) max_escrows) h.0 in
    let z = escrows_take bs c.0 c.1 in
    let is : ws ≡ decimal epoch ∷ decimal number ∷ escrow_words c.0 =
    a-is ∙ ap (λ (l : List (List ℕ)). decimal epoch ∷ l) (b-is ∙ ap (λ (l : List (List ℕ)). decimal number ∷ l) (sym z.0)) in
    subst (Spells 67 ws) h.1 (
      refl,
      sym is,
      (
        a-fits.1,
        omega (arith, b-fits.0),
        b-fits.1,
        omega (arith, leb-true _ _ g.0),
        leb-true _ _ g.1,
        z.1,
      ),
    )))

commit_again : (txn : TxnId) (es : List Escrow) → IsRecord (Commit txn es)
    → commit_from (decimal txn.epoch ∷ decimal txn.number ∷ escrow_words es) ≡ Some (Commit txn es)
unfolding commit_from
commit_again txn es fits =
    let low : leb 1 (length es) ≡ true = le-leb _ _ (omega (arith, fits.3)) in
    let high : leb (length es) 16 ≡ true = le-leb _ _ fits.4 in
    word_again (number_law 0 max_epoch (omega arith)) _ txn.epoch _ (omega arith, fits.0)
    ∙ word_again (number_law 1 max_number (omega arith)) _ txn.number _ (omega (arith, fits.1), fits.2)
    ∙ rw (escrows_again es fits.5, low, high) refl

-- ---- summaries

-- the pairs behind those that were read
pub record RightsRead (read : List (ℕ × ℕ)) (n : ℕ) (ws : List (List ℕ)) (all : List (ℕ × ℕ)) (rest : List (List ℕ)) : Type 0 where
  pub more : List (ℕ × ℕ)
  pub parts : all ≡ read ++ more
  pub count : length more ≡ n
  pub words : ws ≡ rights_words more ++ rest
  pub fits : AllByRecursion AreRights more

rights_take : (n : ℕ) (read : List (ℕ × ℕ)) (ws : List (List ℕ)) (all : List (ℕ × ℕ)) (rest : List (List ℕ))
    → rights_from n read ws ≡ Some (all, rest) → RightsRead read n ws all rest
unfolding rights_from
rights_take zero read ws all rest e =
    let p = some_pair_parts read all ws rest e in
    record { more = []; parts = sym p.0 ∙ sym (append-nil read); count = refl; words = p.1; fits = tt }
rights_take (suc n) read ws all rest e =
    let law = number_law 0 max_change (omega arith) in
    taking law (λ lower. word_at (number_within 0 max_change) lower.1
    >>= λ raise. cond (leb (lower.0 + raise.0) max_change) (rights_from n (read ++ (lower.0, raise.0) ∷ []) raise.1) None) ws (
      all,
      rest,
    ) e (λ lower as1 a-fits a-is a-on.
    taking law (λ raise. cond (leb (lower + raise.0) max_change) (rights_from n (read ++ (lower, raise.0) ∷ []) raise.1) None) as1 (
      all,
      rest,
    ) a-on (λ raise bs b-fits b-is b-on.
    let h = cond_is (leb (lower + raise) max_change) (rights_from n (read ++ (lower, raise) ∷ []) bs) (all, rest) b-on in
    let later = rights_take n (read ++ (lower, raise) ∷ []) bs all rest h.1 in
    record {
      more = (lower, raise) ∷ later.more;
      parts = later.parts ∙ append_assoc read ((lower, raise) ∷ []) later.more;
      count = omega (arith, later.count);
      words = a-is ∙ ap (λ (l : List (List ℕ)). decimal lower ∷ l) (b-is ∙ ap (λ (l : List (List ℕ)). decimal raise ∷ l) later.words);
      fits = (leb-true _ _ h.0, later.fits);
    }))

rights_again : (more read : List (ℕ × ℕ)) (rest : List (List ℕ)) → AllByRecursion AreRights more
    → rights_from (length more) read (rights_words more ++ rest) ≡ Some (read ++ more, rest)
unfolding rights_from
rights_again [] read rest fits = ap (λ (l : List (ℕ × ℕ)). Some (l, rest)) (sym (append-nil read))
rights_again (r ∷ more) read rest fits =
    let law = number_law 0 max_change (omega arith) in
    let few : leb (r.0 + r.1) max_change ≡ true = le-leb _ _ fits.0 in
    word_again law _ r.0 _ (omega arith, omega (arith, fits.0))
    ∙ word_again law _ r.1 _ (omega arith, omega (arith, fits.0))
    ∙ rw few (rights_again more (read ++ r ∷ []) rest fits.1 ∙ ap (λ (l : List (ℕ × ℕ)). Some (l, rest)) (append_assoc read (r ∷ []) more))

-- the totals behind those that were read
abbrev Groups : Type 0
Groups = List Total × List Total × List Cut

abbrev groups_words : List Total → List Total → List Cut → List (List ℕ)
groups_words gifts accepts cuts = group_words 103 gifts ++ (group_words 97 accepts ++ cuts_words cuts)

pub record GroupsRead (gifts accepts : List Total) (cuts : List Cut) (ws : List (List ℕ)) (all : Groups) : Type 0 where
  pub more_gifts : List Total
  pub more_accepts : List Total
  pub more_cuts : List Cut
  pub gifts_parts : all.0 ≡ gifts ++ more_gifts
  pub accepts_parts : all.1 ≡ accepts ++ more_accepts
  pub cuts_parts : all.2 ≡ cuts ++ more_cuts
  pub words : ws ≡ groups_words more_gifts more_accepts more_cuts
  pub gifts_fit : AllByRecursion IsListed more_gifts
  pub accepts_fit : AllByRecursion IsListed more_accepts
  pub cuts_fit : AllByRecursion IsListedCut more_cuts
  pub in_order : is_none_of accepts ≡ false → more_gifts ≡ []
  pub cuts_last : is_none_of cuts ≡ false → (more_gifts ≡ []) × (more_accepts ≡ [])

letter_word_is : (letter : ℕ) (l : List ℕ) → word_is letter l ≡ true → l ≡ letter ∷ []
letter_word_is letter [] h = cc
letter_word_is letter (c ∷ []) h = ap (λ (x : ℕ). x ∷ []) (eqb-true c letter h)
letter_word_is letter (c ∷ d ∷ ds) h = cc

some_of : {A : Type 0} (ts : List A) (t : A) → is_none_of (ts ++ t ∷ []) ≡ false
some_of [] t = refl
some_of (x ∷ ts) t = refl

one_group : (letter : ℕ) (l w v x y : List ℕ) (ws : List (List ℕ)) (t : Total) (more : List Total) (behind : List (List ℕ))
    → l ≡ letter ∷ [] → words_in t ≡ (w ∷ v ∷ x ∷ y ∷ []) → ws ≡ group_words letter more ++ behind
    → (l ∷ w ∷ v ∷ x ∷ y ∷ ws) ≡ group_words letter (t ∷ more) ++ behind
one_group letter l w v x y ws t more behind is told rest =
    ap (λ (a : List ℕ). a ∷ w ∷ v ∷ x ∷ y ∷ ws) is
    ∙ ap (λ (b : List (List ℕ)). (letter ∷ []) ∷ (b ++ ws)) (sym told)
    ∙ ap (λ (b : List (List ℕ)). (letter ∷ []) ∷ (words_in t ++ b)) rest
    ∙ ap (λ (b : List (List ℕ)). (letter ∷ []) ∷ b) (sym (append_assoc (words_in t) (group_words letter more) behind))

no_groups : (more_gifts more_accepts : List Total) (more_cuts : List Cut) → more_gifts ≡ [] → more_accepts ≡ []
    → groups_words more_gifts more_accepts more_cuts ≡ cuts_words more_cuts
no_groups g a c no-g no-a = ap (λ (x : List Total). groups_words x a c) no-g ∙ ap (λ (x : List Total). groups_words [] x c) no-a

-- one total given up more
group_cut : (gifts accepts : List Total) (cuts : List Cut) (l w v x : List ℕ) (ws : List (List ℕ)) (all : Groups) (t : Cut)
    → word_is 116 l ≡ true → cut_from (w ∷ v ∷ x ∷ []) ≡ Some t
    → GroupsRead gifts accepts (cuts ++ t ∷ []) ws all → GroupsRead gifts accepts cuts (l ∷ w ∷ v ∷ x ∷ ws) all
group_cut gifts accepts cuts l w v x ws all t is found later =
    let told = cut_takes (w ∷ v ∷ x ∷ []) t found in
    let none = later.cuts_last (some_of cuts t) in
    record {
      more_gifts = [];
      more_accepts = [];
      more_cuts = t ∷ later.more_cuts;
      gifts_parts = later.gifts_parts ∙ ap (λ (z : List Total). gifts ++ z) none.0;
      accepts_parts = later.accepts_parts ∙ ap (λ (z : List Total). accepts ++ z) none.1;
      cuts_parts = later.cuts_parts ∙ append_assoc cuts (t ∷ []) later.more_cuts;
      words =
          ap (λ (a : List ℕ). a ∷ w ∷ v ∷ x ∷ ws) (letter_word_is 116 l is)
          ∙ ap (λ (b : List (List ℕ)). (116 ∷ []) ∷ (b ++ ws)) (sym told.0)
          ∙ ap (λ (b : List (List ℕ)). (116 ∷ []) ∷ (words_of_cut t ++ b))
          (later.words ∙ no_groups later.more_gifts later.more_accepts later.more_cuts none.0 none.1);
      gifts_fit = tt;
      accepts_fit = tt;
      cuts_fit = (told.1, later.cuts_fit);
      in_order = λ h. refl;
      cuts_last = λ h. (refl, refl);
    }

no_more : (gifts accepts : List Total) (cuts : List Cut) (all : Groups) → Some (gifts, accepts, cuts) ≡ Some all
    → GroupsRead gifts accepts cuts [] all
no_more gifts accepts cuts all e =
    let same : (gifts, accepts, cuts) ≡ all = same_Some (gifts, accepts, cuts) all e in
    record {
      more_gifts = [];
      more_accepts = [];
      more_cuts = [];
      gifts_parts = ap (λ (x : Groups). x.0) (sym same) ∙ sym (append-nil gifts);
      accepts_parts = ap (λ (x : Groups). x.1) (sym same) ∙ sym (append-nil accepts);
      cuts_parts = ap (λ (x : Groups). x.2) (sym same) ∙ sym (append-nil cuts);
      words = refl;
      gifts_fit = tt;
      accepts_fit = tt;
      cuts_fit = tt;
      in_order = λ h. refl;
      cuts_last = λ h. (refl, refl);
    }

three_parts : (a b c : Bool) → (a && b && c) ≡ true → (a ≡ true) × (b ≡ true) × (c ≡ true)
three_parts true true true h = (refl, refl, refl)
three_parts false b c h = cc
three_parts true false c h = cc
three_parts true true false h = cc

not_none : {A : Type 0} {B : Type 0} (ts : List A) → is_none_of ts ≡ true → is_none_of ts ≡ false → B
not_none ts yes_ no_ = absurd cc

groups_take : (gifts accepts : List Total) (cuts : List Cut) (ws : List (List ℕ)) (all : Groups)
    → groups_from gifts accepts cuts ws ≡ Some all → GroupsRead gifts accepts cuts ws all
unfolding groups_from
groups_take gifts accepts cuts [] all e = no_more gifts accepts cuts all e
groups_take gifts accepts cuts (l ∷ []) all e = absurd cc
groups_take gifts accepts cuts (l ∷ w ∷ []) all e = absurd cc
groups_take gifts accepts cuts (l ∷ w ∷ v ∷ []) all e = absurd cc
groups_take gifts accepts cuts (l ∷ w ∷ v ∷ x ∷ []) all e =
    let last = cut_from (w ∷ v ∷ x ∷ []) >>= λ t. Some (gifts, accepts, cuts ++ t ∷ []) in
    let h = cond_is (word_is 116 l) last all e in
    let b = bind_some (cut_from (w ∷ v ∷ x ∷ [])) (λ t. Some (gifts, accepts, cuts ++ t ∷ [])) all h.1 in
    group_cut gifts accepts cuts l w v x [] all b.0 h.0 b.1 (no_more gifts accepts (cuts ++ b.0 ∷ []) all b.2)
groups_take gifts accepts cuts (l ∷ w ∷ v ∷ x ∷ y ∷ ws) all e =
    let as_accept = λ (t : Total). groups_from gifts (accepts ++ t ∷ []) cuts ws in
    let as_gift = λ (t : Total). groups_from (gifts ++ t ∷ []) accepts cuts ws in
    let gift_or = λ (t : Total). cond (is_next_gift l accepts cuts) (as_gift t) None in
    let as_total = total_from (w ∷ v ∷ x ∷ y ∷ []) >>= λ t. cond (is_next_accept l cuts) (as_accept t) (gift_or t) in
    let as_cut = cut_from (w ∷ v ∷ x ∷ []) >>= λ t. groups_from gifts accepts (cuts ++ t ∷ []) (y ∷ ws) in
    elim (cases_Bool (word_is 116 l)) [
      | inl is ↦
          let b = bind_some (cut_from (w ∷ v ∷ x ∷ [])) (λ t. groups_from gifts accepts (cuts ++ t ∷ []) (y ∷ ws)) all
          (cond_then (word_is 116 l) as_cut as_total all is e) in
          group_cut gifts accepts cuts l w v x (y ∷ ws) all b.0 is b.1 (groups_take gifts accepts (cuts ++ b.0 ∷ []) (y ∷ ws) all b.2)
      | inr no-cut ↦
          let b = bind_some (total_from (w ∷ v ∷ x ∷ y ∷ [])) (λ t. cond (is_next_accept l cuts) (as_accept t) (gift_or t)) all
          (cond_else (word_is 116 l) as_cut as_total all no-cut e) in
          let t = b.0 in
          let told = total_takes (w ∷ v ∷ x ∷ y ∷ []) t b.1 in
          elim (cases_Bool (is_next_accept l cuts)) [
            | inl is ↦
                let parts = and_parts (is_none_of cuts) (word_is 97 l) is in
                let later = groups_take gifts (accepts ++ t ∷ []) cuts ws all
                (cond_then (is_next_accept l cuts) (as_accept t) (gift_or t) all is b.2) in
                let none : later.more_gifts ≡ [] = later.in_order (some_of accepts t) in
                record {
                  more_gifts = [];
                  more_accepts = t ∷ later.more_accepts;
                  more_cuts = later.more_cuts;
                  gifts_parts = later.gifts_parts ∙ ap (λ (z : List Total). gifts ++ z) none;
                  accepts_parts = later.accepts_parts ∙ append_assoc accepts (t ∷ []) later.more_accepts;
                  cuts_parts = later.cuts_parts;
                  words = one_group 97 l w v x y ws t later.more_accepts (cuts_words later.more_cuts) (letter_word_is 97 l parts.1) told.0
                      (later.words ∙ ap (λ (z : List Total). groups_words z later.more_accepts later.more_cuts) none);
                  gifts_fit = tt;
                  accepts_fit = (told.1, later.accepts_fit);
                  cuts_fit = later.cuts_fit;
                  in_order = λ h. refl;
                  cuts_last = λ h. not_none cuts parts.0 h;
                }
            | inr isnt ↦ elim (cases_Bool (is_next_gift l accepts cuts)) [
              | inl is ↦
                  let parts = three_parts (is_none_of accepts) (is_none_of cuts) (word_is 103 l) is in
                  let later = groups_take (gifts ++ t ∷ []) accepts cuts ws all
                  (cond_then (is_next_gift l accepts cuts) (as_gift t) None all is
                  (cond_else (is_next_accept l cuts) (as_accept t) (gift_or t) all isnt b.2)) in
                  record {
                    more_gifts = t ∷ later.more_gifts;
                    more_accepts = later.more_accepts;
                    more_cuts = later.more_cuts;
                    gifts_parts = later.gifts_parts ∙ append_assoc gifts (t ∷ []) later.more_gifts;
                    accepts_parts = later.accepts_parts;
                    cuts_parts = later.cuts_parts;
                    words = one_group 103 l w v x y ws t later.more_gifts (group_words 97 later.more_accepts ++ cuts_words later.more_cuts)
                        (letter_word_is 103 l parts.2) told.0 later.words;
                    gifts_fit = (told.1, later.gifts_fit);
                    accepts_fit = later.accepts_fit;
                    cuts_fit = later.cuts_fit;
                    in_order = λ h. not_none accepts parts.0 h;
                    cuts_last = λ h. not_none cuts parts.1 h;
                  }
              | inr neither ↦ let h : None ≡ Some all =
                  cond_else (is_next_gift l accepts cuts) (as_gift t) None all neither
                  (cond_else (is_next_accept l cuts) (as_accept t) (gift_or t) all isnt b.2) in absurd cc
            ]
          ]
    ]

cuts_again : (gifts accepts : List Total) (cuts more : List Cut) → AllByRecursion IsListedCut more
    → groups_from gifts accepts cuts (cuts_words more) ≡ Some (gifts, accepts, cuts ++ more)
unfolding groups_from
cuts_again gifts accepts cuts [] fits = ap (λ (l : List Cut). Some (gifts, accepts, l)) (sym (append-nil cuts))
cuts_again gifts accepts cuts (t ∷ []) fits = rw (cut_again t fits.0) refl
cuts_again gifts accepts cuts (t ∷ s ∷ more) fits =
    rw (cut_again t fits.0) (cuts_again gifts accepts (cuts ++ t ∷ []) (s ∷ more) fits.1
    ∙ ap (λ (l : List Cut). Some (gifts, accepts, l)) (append_assoc cuts (t ∷ []) (s ∷ more)))

accepts_again : (gifts accepts more : List Total) (cuts : List Cut) → AllByRecursion IsListed more → AllByRecursion IsListedCut cuts
    → groups_from gifts accepts [] (group_words 97 more ++ cuts_words cuts) ≡ Some (gifts, accepts ++ more, cuts)
unfolding groups_from
accepts_again gifts accepts [] cuts fits fit = cuts_again gifts accepts [] cuts fit
    ∙ ap (λ (l : List Total). Some (gifts, l, cuts)) (sym (append-nil accepts))
accepts_again gifts accepts (t ∷ more) cuts fits fit =
    rw (total_again t fits.0) (accepts_again gifts (accepts ++ t ∷ []) more cuts fits.1 fit
    ∙ ap (λ (l : List Total). Some (gifts, l, cuts)) (append_assoc accepts (t ∷ []) more))

groups_again : (gifts more accepts : List Total) (cuts : List Cut) → AllByRecursion IsListed more → AllByRecursion IsListed accepts
    → AllByRecursion IsListedCut cuts
    → groups_from gifts [] [] (groups_words more accepts cuts) ≡ Some (gifts ++ more, accepts, cuts)
unfolding groups_from
groups_again gifts [] accepts cuts fits fit cut = accepts_again gifts [] accepts cuts fit cut
    ∙ ap (λ (l : List Total). Some (l, accepts, cuts)) (sym (append-nil gifts))
groups_again gifts (t ∷ more) accepts cuts fits fit cut =
    rw (total_again t fits.0) (groups_again (gifts ++ t ∷ []) more accepts cuts fits.1 fit cut
    ∙ ap (λ (l : List Total). Some (l, accepts, cuts)) (append_assoc gifts (t ∷ []) more))

abbrev all_rise : Groups → Bool
all_rise groups = rises groups.0 && rises groups.1 && cuts_rise groups.2

abbrev summary_then : ℕ → List (ℕ × ℕ) → Groups → Option Record
summary_then epoch rights groups =
    cond (all_rise groups)
    (Some (Summary epoch rights groups.0 groups.1 groups.2)) None

summary_takes : (ws : List (List ℕ)) (r : Record) → summary_from ws ≡ Some r → Spells 83 ws r
unfolding summary_from
summary_takes ws r e =
    taking (number_law 0 max_epoch (omega arith)) (λ epoch. word_at (number_within 1 max_fields) epoch.1
    >>= λ count. rights_from count.0 [] count.1 >>= λ rights. groups_from [] [] [] rights.1
    >>= λ groups. summary_then epoch.0 rights.0 groups) ws r e (λ epoch as1 a-fits a-is a-on.
    taking (number_law 1 max_fields (omega arith))
    (λ count. rights_from count.0 [] count.1 >>= λ rights. groups_from [] [] [] rights.1
    >>= λ groups. summary_then epoch rights.0 groups) as1 r a-on (λ count bs b-fits b-is b-on.
    let c = bind_some (rights_from count [] bs) (λ rights. groups_from [] [] [] rights.1
    >>= λ groups. summary_then epoch rights.0 groups) r b-on in
    let d = bind_some (groups_from [] [] [] c.0.1) (λ groups. summary_then epoch c.0.0 groups) r c.2 in
    let rows = rights_take count [] bs c.0.0 c.0.1 c.1 in
    let told = groups_take [] [] [] c.0.1 d.0 d.1 in
    let v : SummaryValue = record { epoch = epoch; rights = c.0.0; gifts = d.0.0; accepts = d.0.1; tightenings = d.0.2 } in
    let all : Record = summary_record v in
    let h = cond_some (all_rise d.0) all r d.2 in
    let rise = three_parts (rises d.0.0) (rises d.0.1) (cuts_rise d.0.2) h.0 in
    let rights-are : c.0.0 ≡ rows.more = rows.parts in
    let gifts-are : d.0.0 ≡ told.more_gifts = told.gifts_parts in
    let accepts-are : d.0.1 ≡ told.more_accepts = told.accepts_parts in
    let cuts-are : d.0.2 ≡ told.more_cuts = told.cuts_parts in
    let size : length c.0.0 ≡ count = ap length rights-are ∙ rows.count in
    let is : ws ≡ summary_words v =
    a-is ∙ ap (λ (l : List (List ℕ)). decimal epoch ∷ l)
    (b-is ∙ ap (λ (n : ℕ). decimal n ∷ bs) (sym size)
    ∙ ap (λ (l : List (List ℕ)). decimal (length c.0.0) ∷ l)
    (rows.words ∙ ap (λ (x : List (ℕ × ℕ)). rights_words x ++ c.0.1) (sym rights-are)
    ∙ ap (λ (l : List (List ℕ)). rights_words c.0.0 ++ l)
    (told.words ∙ ap (λ (x : List Total). groups_words x told.more_accepts told.more_cuts) (sym gifts-are)
    ∙ ap (λ (x : List Total). groups_words d.0.0 x told.more_cuts) (sym accepts-are)
    ∙ ap (λ (x : List Cut). groups_words d.0.0 d.0.1 x) (sym cuts-are)))) in
    let fits : IsSummary v =
    record {
      epoch = a-fits.1;
      some = omega (arith, size, b-fits.0);
      few = omega (arith, size, b-fits.1);
      rights = subst (λ (x : List (ℕ × ℕ)). AllByRecursion AreRights x) (sym rights-are) rows.fits;
      gifts = subst (λ (x : List Total). AllByRecursion IsListed x) (sym gifts-are) told.gifts_fit;
      gifts_rise = rise.0;
      accepts = subst (λ (x : List Total). AllByRecursion IsListed x) (sym accepts-are) told.accepts_fit;
      accepts_rise = rise.1;
      tightenings = subst (λ (x : List Cut). AllByRecursion IsListedCut x) (sym cuts-are) told.cuts_fit;
      tightenings_rise = rise.2;
    } in
    subst (Spells 83 ws) h.1 (refl, sym is, fits)))

summary_again : (v : SummaryValue) → IsSummary v → summary_from (summary_words v) ≡ Some (summary_record v)
unfolding summary_from
summary_again v fits =
    let behind = groups_words v.gifts v.accepts v.tightenings in
    word_again (number_law 0 max_epoch (omega arith)) _ v.epoch _ (omega arith, fits.epoch)
    ∙ word_again (number_law 1 max_fields (omega arith)) _ (length v.rights) _ (omega (arith, fits.some), fits.few)
    ∙ ap (λ (x : Option (List (ℕ × ℕ) × List (List ℕ))). x >>= λ rights. groups_from [] [] [] rights.1
    >>= λ groups. summary_then v.epoch rights.0 groups) (rights_again v.rights [] behind fits.rights)
    ∙ ap (λ (x : Option Groups). x >>= λ groups. summary_then v.epoch v.rights groups)
    (groups_again [] v.gifts v.accepts v.tightenings fits.gifts fits.accepts fits.tightenings)
    ∙ rw (fits.gifts_rise, fits.accepts_rise, fits.tightenings_rise) refl

-- ---- all kinds

letter_is : (w : List ℕ) (c : ℕ) → letter_at w ≡ Some c → w ≡ c ∷ []
letter_is [] c e = absurd cc
letter_is (x ∷ []) c e = ap (λ (y : ℕ). y ∷ []) (same_Some x c e)
letter_is (x ∷ y ∷ ys) c e = absurd cc

from_letter : (c : ℕ) (ws : List (List ℕ)) (r : Record) → record_from c ws ≡ Some r → Spells c ws r
from_letter c ws r e = elim (cases_Bool (eqb c 67)) [
  | inl is ↦ subst (λ (x : ℕ). Spells x ws r) (sym (eqb-true c 67 is)) (commit_takes ws r (sym (rw is refl) ∙ e))
  | inr a ↦ elim (cases_Bool (eqb c 71)) [
    | inl is ↦ subst (λ (x : ℕ). Spells x ws r) (sym (eqb-true c 71 is)) (gift_takes ws r (sym (rw (a, is) refl) ∙ e))
    | inr b ↦ elim (cases_Bool (eqb c 65)) [
      | inl is ↦ subst (λ (x : ℕ). Spells x ws r) (sym (eqb-true c 65 is)) (accept_takes ws r (sym (rw (a, b, is) refl) ∙ e))
      | inr d ↦ elim (cases_Bool (eqb c 82)) [
        | inl is ↦ subst (λ (x : ℕ). Spells x ws r) (sym (eqb-true c 82 is)) (restart_takes ws r (sym (rw (a, b, d, is) refl) ∙ e))
        | inr f ↦ elim (cases_Bool (eqb c 83)) [
          | inl is ↦ subst (λ (x : ℕ). Spells x ws r) (sym (eqb-true c 83 is)) (summary_takes ws r (sym (rw (a, b, d, f, is) refl) ∙ e))
          | inr g ↦ elim (cases_Bool (eqb c 84)) [
            | inl is ↦ subst (λ (x : ℕ). Spells x ws r) (sym (eqb-true c 84 is))
                (tighten_takes ws r (sym (rw (a, b, d, f, g, is) refl) ∙ e))
            | inr h ↦ let no : None ≡ Some r = sym (rw (a, b, d, f, g, h) refl) ∙ e in absurd cc
          ]
        ]
      ]
    ]
  ]
]

pub record_takes : (ws : List (List ℕ)) (r : Record) → record_of ws ≡ Some r → (((letter_of r ∷ []) ∷ words_of r) ≡ ws) × IsRecord r
unfolding record_of
record_takes [] r e = absurd cc
record_takes (w ∷ ws) r e =
    let b = bind_some (letter_at w) (λ letter. record_from letter ws) r e in
    let h = from_letter b.0 ws r b.2 in (
      ap (λ (l : List (List ℕ)). (letter_of r ∷ []) ∷ l) h.1 ∙ ap (λ (c : ℕ). (c ∷ []) ∷ ws) h.0
          ∙ ap (λ (x : List ℕ). x ∷ ws) (sym (letter_is w b.0 b.1)),
      h.2,
    )

pub record_again : (r : Record) → IsRecord r → record_of ((letter_of r ∷ []) ∷ words_of r) ≡ Some r
unfolding record_of
record_again (Commit txn es) fits = commit_again txn es fits
record_again (Gift to f k n) fits = gift_again (record { site = to; field = f; kind = k; total = n }) fits
record_again (Accept from f k n) fits = accept_again (record { site = from; field = f; kind = k; total = n }) fits
record_again (Tighten f k n) fits = tighten_again (record { field = f; kind = k; total = n }) fits
record_again (Restart epoch) fits = restart_again epoch fits
record_again (Summary epoch rights gifts accepts tightenings) fits = summary_again (summary_told epoch rights gifts accepts tightenings) fits

-- ---- the words of a record can be seen

total_plain : (t : Total) → Fits t → AllByRecursion IsWord (words_in t)
total_plain t fits = (
  (number_law 0 max_place (omega arith)).plain t.site.0 (omega arith, fits.0),
  (
    (number_law 0 max_place (omega arith)).plain t.field.0 (omega arith, fits.1),
    (kind_law.plain t.kind tt, ((number_law 1 max_total (omega arith)).plain t.total (omega (arith, fits.2.0), fits.2.1), tt)),
  ),
)

cut_plain : (t : Cut) → IsListedCut t → AllByRecursion IsWord (words_of_cut t)
cut_plain t fits = (
  (number_law 0 max_place (omega arith)).plain t.field.0 (omega arith, fits.0),
  (kind_law.plain t.kind tt, ((number_law 1 max_change (omega arith)).plain t.total (omega (arith, fits.1.0), fits.1.1), tt)),
)

escrows_plain : (es : List Escrow) → AllByRecursion IsEscrow es → AllByRecursion IsWord (escrow_words es)
escrows_plain [] fits = tt
escrows_plain (e ∷ es) fits = (
  (number_law 0 max_place (omega arith)).plain e.field.0 (omega arith, fits.0.0),
  (change_law.plain e.change fits.0.1, escrows_plain es fits.1),
)

words_append : (as1 bs : List (List ℕ)) → AllByRecursion IsWord as1 → AllByRecursion IsWord bs → AllByRecursion IsWord (as1 ++ bs)
words_append [] bs p q = q
words_append (a ∷ as1) bs p q = (p.0, words_append as1 bs p.1 q)

rights_plain : (rs : List (ℕ × ℕ)) → AllByRecursion AreRights rs → AllByRecursion IsWord (rights_words rs)
rights_plain [] fits = tt
rights_plain (r ∷ rs) fits =
    let law = number_law 0 max_change (omega arith) in
    (law.plain r.0 (omega arith, omega (arith, fits.0)), (law.plain r.1 (omega arith, omega (arith, fits.0)), rights_plain rs fits.1))

group_plain : (letter : ℕ) (ts : List Total) → 33 ≤ letter → letter ≤ 126 → AllByRecursion IsListed ts
    → AllByRecursion IsWord (group_words letter ts)
group_plain letter [] low high fits = tt
group_plain letter (t ∷ ts) low high fits = (
  letter_word letter low high,
  words_append (words_in t) (group_words letter ts) (total_plain t fits.0) (group_plain letter ts low high fits.1),
)

cuts_plain : (ts : List Cut) → AllByRecursion IsListedCut ts → AllByRecursion IsWord (cuts_words ts)
cuts_plain [] fits = tt
cuts_plain (t ∷ ts) fits = (
  letter_word 116 (omega arith) (omega arith),
  words_append (words_of_cut t) (cuts_words ts) (cut_plain t fits.0) (cuts_plain ts fits.1),
)

summary_plain : (v : SummaryValue) → IsSummary v → AllByRecursion IsWord ((83 ∷ []) ∷ summary_words v)
summary_plain v fits = (
  letter_word 83 (omega arith) (omega arith),
  (
    (number_law 0 max_epoch (omega arith)).plain v.epoch (omega arith, fits.epoch),
    (
      (number_law 1 max_fields (omega arith)).plain (length v.rights) (omega (arith, fits.some), fits.few),
      words_append (rights_words v.rights) (groups_words v.gifts v.accepts v.tightenings) (rights_plain v.rights fits.rights)
          (words_append (group_words 103 v.gifts) (group_words 97 v.accepts ++ cuts_words v.tightenings)
          (group_plain 103 v.gifts (omega arith) (omega arith) fits.gifts)
          (words_append (group_words 97 v.accepts) (cuts_words v.tightenings)
          (group_plain 97 v.accepts (omega arith) (omega arith) fits.accepts) (cuts_plain v.tightenings fits.tightenings))),
    ),
  ),
)

pub words_plain : (r : Record) → IsRecord r → AllByRecursion IsWord ((letter_of r ∷ []) ∷ words_of r)
words_plain (Commit txn es) fits = (
  letter_word 67 (omega arith) (omega arith),
  (
    (number_law 0 max_epoch (omega arith)).plain txn.epoch (omega arith, fits.0),
    ((number_law 1 max_number (omega arith)).plain txn.number (omega (arith, fits.1), fits.2), escrows_plain es fits.5),
  ),
)
words_plain (Gift to f k n) fits = (
  letter_word 71 (omega arith) (omega arith),
  total_plain (record { site = to; field = f; kind = k; total = n }) fits,
)
words_plain (Accept from f k n) fits = (
  letter_word 65 (omega arith) (omega arith),
  total_plain (record { site = from; field = f; kind = k; total = n }) fits,
)
words_plain (Tighten f k n) fits = (letter_word 84 (omega arith) (omega arith), cut_plain (record { field = f; kind = k; total = n }) fits)
words_plain (Restart epoch) fits = (
  letter_word 82 (omega arith) (omega arith),
  ((number_law 1 max_epoch (omega arith)).plain epoch (omega (arith, fits.0), fits.1), tt),
)
words_plain (Summary epoch rights gifts accepts tightenings) fits = summary_plain (summary_told epoch rights gifts accepts tightenings) fits

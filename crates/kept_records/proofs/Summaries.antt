-- Summaries change nothing that records stand for.
use Rattle.std.proofs.Common.{◌≡◌, ℕ, zero, suc, ◌+◌, ◌<◌, ◌≤◌, ◌==◌, Bool, true, false, cond, List, [], ◌∷◌, ◌++◌, length, refl, sym, ap, subst, ◌∙◌, arith, append_assoc}
use Rattle.std.specs.Prelude.{nat_le}
use Rattle.std.specs.List.{list_all}
use Rattle.std.proofs.lemmas.Bool.{eq-eqb, leb-false}
use Rattle.std.proofs.lemmas.List.{append-nil}
use Rattle.std.proofs.lemmas.List.Sums.{fold_push, sum_by_push}
use Rattle.field_bounds.specs.declared.kind.Kind.{Kind}
use Rattle.field_bounds.specs.declared.kind.Kind.TheVariants.{Lower, Raise}
use Rattle.field_bounds.specs.declared.entry.Escrow.{Escrow}
use Rattle.field_bounds.specs.Kind.{other, same_kind}
use Rattle.field_bounds.specs.Schema.{SchemaValue}
use Rattle.field_bounds.proofs.Sums.{sum_below-same}
use Rattle.kept_records.specs.declared.record.Record.{Record}
use Rattle.kept_records.specs.declared.record.Record.TheVariants.{Commit, Gift, Accept, Tighten, Restart, Summary}
use Rattle.kept_records.specs.declared.total.Total.{Total}
use Rattle.kept_records.specs.declared.total.Cut.{Cut}
use Rattle.kept_records.specs.Summary.{SummaryValue, summary_told, summary_record, one_total, totals_of_site, totals_of, one_cut, cuts_of, rights_of, same_rights, same_totals, same_cuts, same_summary}
use Rattle.kept_records.specs.Stands.{later, greatest, given_more, given_in, accepted_more, accepted_in, cut_more, cut_in, commits, committed_in, own_in, may_commit, may_follow, is_summary, plain, count_behind, since_summary, summary_of, piece, max_behind, LawfulBehind, Lawful}
use Rattle.kept_records.specs.Summaries.{SameSums}
use Rattle.kept_records.proofs.Pushes.{lawful_push}

-- ---- sums that pass over summaries

pub same_sums : (rs : List Record) → SameSums rs rs
same_sums rs = record { epoch = refl; given = λ to f k. refl; accepted = λ from f k. refl; cut = λ f k. refl; committed = λ f k. refl }

-- one record more on both sides
pub same_push : (as1 bs : List Record) (r : Record) → SameSums as1 bs → SameSums (as1 ++ r ∷ []) (bs ++ r ∷ [])
unfolding greatest given_in accepted_in cut_in committed_in
same_push as1 bs r h =
    record {
      epoch = fold_push later 0 as1 r ∙ ap (λ (n : ℕ). later n r) h.epoch ∙ sym (fold_push later 0 bs r);
      given = λ to f k. fold_push (given_more to f k) 0 as1 r ∙ ap (λ (n : ℕ). given_more to f k n r) (h.given to f k)
          ∙ sym (fold_push (given_more to f k) 0 bs r);
      accepted = λ from f k. fold_push (accepted_more from f k) 0 as1 r ∙ ap (λ (n : ℕ). accepted_more from f k n r) (h.accepted from f k)
          ∙ sym (fold_push (accepted_more from f k) 0 bs r);
      cut = λ f k. fold_push (cut_more f k) 0 as1 r ∙ ap (λ (n : ℕ). cut_more f k n r) (h.cut f k) ∙ sym (fold_push (cut_more f k) 0 bs r);
      committed = λ f k. sum_by_push (commits f k) as1 r ∙ ap (λ (n : ℕ). n + commits f k r) (h.committed f k)
          ∙ sym (sum_by_push (commits f k) bs r);
    }

-- a summary more on one side
pub same_summary_push : (as1 bs : List Record) (v : SummaryValue) → SameSums as1 bs → SameSums (as1 ++ summary_record v ∷ []) bs
unfolding greatest given_in accepted_in cut_in committed_in
same_summary_push as1 bs v h =
    let r : Record = summary_record v in
    record {
      epoch = fold_push later 0 as1 r ∙ h.epoch;
      given = λ to f k. fold_push (given_more to f k) 0 as1 r ∙ h.given to f k;
      accepted = λ from f k. fold_push (accepted_more from f k) 0 as1 r ∙ h.accepted from f k;
      cut = λ f k. fold_push (cut_more f k) 0 as1 r ∙ h.cut f k;
      committed = λ f k. omega (arith, sum_by_push (commits f k) as1 r, h.committed f k);
    }

pub own_same : (schema : SchemaValue) (s : ℕ) (as1 bs : List Record) → SameSums as1 bs → (f : ℕ) (k : Kind)
    → own_in schema s as1 f k ≡ own_in schema s bs f k
unfolding own_in
own_same schema s as1 bs h f k =
    omega (
      arith,
      h.committed f k,
      h.committed f (other k),
      h.cut f k,
      sum_below-same schema.sites (λ from. accepted_in as1 from f k) (λ from. accepted_in bs from f k) (λ from below. h.accepted from f k),
      sum_below-same schema.sites (λ to. given_in as1 to f k) (λ to. given_in bs to f k) (λ to below. h.given to f k),
    )

-- ---- the summary of records that stand for the same is the same

one_same : (F G : ℕ → ℕ → Kind → ℕ) → ((r f : ℕ) (k : Kind) → F r f k ≡ G r f k) → (r f : ℕ) (k : Kind)
    → one_total F r f k ≡ one_total G r f k
one_same F G h r f k = ap (λ (n : ℕ). cond (n == 0) []
    (record { site = record { 0 = r }; field = record { 0 = f }; kind = k; total = n } ∷ [])) (h r f k)

site_same : (F G : ℕ → ℕ → Kind → ℕ) → ((r f : ℕ) (k : Kind) → F r f k ≡ G r f k) → (r m : ℕ) → totals_of_site F r m ≡ totals_of_site G r m
unfolding totals_of_site
site_same F G h r zero = refl
site_same F G h r (suc m) = rw (site_same F G h r m, one_same F G h r m Lower, one_same F G h r m Raise) refl

totals_same : (F G : ℕ → ℕ → Kind → ℕ) → ((r f : ℕ) (k : Kind) → F r f k ≡ G r f k) → (s m n : ℕ) → totals_of F s m n ≡ totals_of G s m n
unfolding totals_of
totals_same F G h s m zero = refl
totals_same F G h s m (suc n) = rw (totals_same F G h s m n, site_same F G h n m) refl

one_cut_same : (F G : ℕ → Kind → ℕ) → ((f : ℕ) (k : Kind) → F f k ≡ G f k) → (f : ℕ) (k : Kind) → one_cut F f k ≡ one_cut G f k
one_cut_same F G h f k = ap (λ (n : ℕ). cond (n == 0) [] (record { field = record { 0 = f }; kind = k; total = n } ∷ [])) (h f k)

cuts_same : (F G : ℕ → Kind → ℕ) → ((f : ℕ) (k : Kind) → F f k ≡ G f k) → (m : ℕ) → cuts_of F m ≡ cuts_of G m
unfolding cuts_of
cuts_same F G h zero = refl
cuts_same F G h (suc m) = rw (cuts_same F G h m, one_cut_same F G h m Lower, one_cut_same F G h m Raise) refl

rights_same : (F G : ℕ → Kind → ℕ) → ((f : ℕ) (k : Kind) → F f k ≡ G f k) → (m : ℕ) → rights_of F m ≡ rights_of G m
unfolding rights_of
rights_same F G h zero = refl
rights_same F G h (suc m) = rw (rights_same F G h m, h m Lower, h m Raise) refl

pub summary_same : (schema : SchemaValue) (s : ℕ) (as1 bs : List Record) → SameSums as1 bs
    → summary_of schema s as1 ≡ summary_of schema s bs
unfolding summary_of
summary_same schema s as1 bs h =
    rw (
      h.epoch,
      rights_same (own_in schema s as1) (own_in schema s bs) (own_same schema s as1 bs h) (length schema.fields),
      totals_same (given_in as1) (given_in bs) h.given s (length schema.fields) schema.sites,
      totals_same (accepted_in as1) (accepted_in bs) h.accepted s (length schema.fields) schema.sites,
      cuts_same (cut_in as1) (cut_in bs) h.cut (length schema.fields),
    ) refl

-- ---- which records may stand doesn't rest on summaries

all_same : (p q : Escrow → Bool) → ((e : Escrow) → p e ≡ q e) → (es : List Escrow) → list_all p es ≡ list_all q es
all_same p q h [] = refl
all_same p q h (e ∷ es) = rw (h e, all_same p q h es) refl

pub may_same : (schema : SchemaValue) (s : ℕ) (as1 bs : List Record) → SameSums as1 bs → (r : Record)
    → may_follow schema s as1 r ≡ may_follow schema s bs r
may_same schema s as1 bs h (Commit txn es) =
    rw (
      h.epoch,
      all_same (may_commit schema s as1 es) (may_commit schema s bs es)
          (λ e. rw (own_same schema s as1 bs h e.field.0 Lower, own_same schema s as1 bs h e.field.0 Raise) refl) es,
    ) refl
may_same schema s as1 bs h (Gift to field kind total) = rw (h.given to.0 field.0 kind, own_same schema s as1 bs h field.0 kind) refl
may_same schema s as1 bs h (Accept from field kind total) =
    rw (
      h.accepted from.0 field.0 kind,
      h.cut field.0 Lower,
      h.cut field.0 Raise,
      own_same schema s as1 bs h field.0 Lower,
      own_same schema s as1 bs h field.0 Raise,
    ) refl
may_same schema s as1 bs h (Tighten field kind total) = rw (h.cut field.0 kind, own_same schema s as1 bs h field.0 kind) refl
may_same schema s as1 bs h (Restart epoch) = rw h.epoch refl
may_same schema s as1 bs h (Summary epoch rights gifts accepts tightenings) =
    ap (λ (x : SummaryValue). same_summary (summary_told epoch rights gifts accepts tightenings) x) (summary_same schema s as1 bs h)

-- ---- records without their summaries

plain_keeps : (front rs : List Record) (r : Record) → is_summary r ≡ false → front ++ plain (r ∷ rs) ≡ (front ++ r ∷ []) ++ plain rs
plain_keeps front rs r is = rw is (sym (append_assoc front (r ∷ []) (plain rs)))

plain_sums : (as1 bs rs : List Record) → SameSums as1 bs → SameSums (as1 ++ plain rs) (bs ++ rs)
plain_sums as1 bs [] h = subst (λ (x : List Record). SameSums x (bs ++ [])) (sym (append-nil as1))
    (subst (λ (x : List Record). SameSums as1 x) (sym (append-nil bs)) h)
plain_sums as1 bs (Summary epoch rights gifts accepts tightenings ∷ rs) h =
    subst (λ (x : List Record). SameSums (as1 ++ plain rs) x) (append_assoc bs (summary_record v ∷ []) rs)
    (plain_sums as1 (bs ++ summary_record v ∷ []) rs (turned (same_summary_push bs as1 v (turned h))))
  where
    v : SummaryValue
    v = summary_told epoch rights gifts accepts tightenings

    turned : {x y : List Record} → SameSums x y → SameSums y x
    turned h = record {
      epoch = sym h.epoch;
      given = λ to f k. sym (h.given to f k);
      accepted = λ from f k. sym (h.accepted from f k);
      cut =
          λ f k. sym (h.cut f k);
      committed = λ f k. sym (h.committed f k);
    }
plain_sums as1 bs (r ∷ rs) h =
    subst (λ (x : List Record). SameSums (as1 ++ plain (r ∷ rs)) x) (append_assoc bs (r ∷ []) rs)
    (subst (λ (x : List Record). SameSums x ((bs ++ r ∷ []) ++ rs)) (sym (plain_keeps as1 rs r refl))
    (plain_sums (as1 ++ r ∷ []) (bs ++ r ∷ []) rs (same_push as1 bs r h)))

-- they stand for the same
pub plain_same : (rs : List Record) → SameSums (plain rs) rs
plain_same rs = plain_sums [] [] rs (same_sums [])

plain_behind : (schema : SchemaValue) (s : ℕ) (as1 bs rs : List Record) → SameSums as1 bs → LawfulBehind schema s bs rs
    → LawfulBehind schema s as1 (plain rs)
plain_behind schema s as1 bs [] h lawful = tt
plain_behind schema s as1 bs (Summary epoch rights gifts accepts tightenings ∷ rs) h lawful =
    plain_behind schema s as1 (bs ++ summary_record v ∷ []) rs (turned (same_summary_push bs as1 v (turned h))) lawful.1
  where
    v : SummaryValue
    v = summary_told epoch rights gifts accepts tightenings

    turned : {x y : List Record} → SameSums x y → SameSums y x
    turned h = record {
      epoch = sym h.epoch;
      given = λ to f k. sym (h.given to f k);
      accepted = λ from f k. sym (h.accepted from f k);
      cut =
          λ f k. sym (h.cut f k);
      committed = λ f k. sym (h.committed f k);
    }
plain_behind schema s as1 bs (r ∷ rs) h lawful =
    (may_same schema s as1 bs h r ∙ lawful.0, plain_behind schema s (as1 ++ r ∷ []) (bs ++ r ∷ []) rs (same_push as1 bs r h) lawful.1)

-- and are lawful where all are
pub plain_lawful : (schema : SchemaValue) (s : ℕ) (rs : List Record) → Lawful schema s rs → Lawful schema s (plain rs)
plain_lawful schema s rs lawful = plain_behind schema s [] [] rs (same_sums []) lawful

-- ---- the summary of records may stand behind them

pub kind_refl : (k : Kind) → same_kind k k ≡ true
kind_refl Lower = refl
kind_refl Raise = refl

rights_refl : (rs : List (ℕ × ℕ)) → same_rights rs rs ≡ true
rights_refl [] = refl
rights_refl (r ∷ rs) = rw (eq-eqb r.0 r.0 refl, eq-eqb r.1 r.1 refl, rights_refl rs) refl

totals_refl : (ts : List Total) → same_totals ts ts ≡ true
totals_refl [] = refl
totals_refl (t ∷ ts) = rw (
  eq-eqb t.site.0 t.site.0 refl,
  eq-eqb t.field.0 t.field.0 refl,
  kind_refl t.kind,
  eq-eqb t.total t.total refl,
  totals_refl ts,
) refl

cuts_refl : (ts : List Cut) → same_cuts ts ts ≡ true
cuts_refl [] = refl
cuts_refl (t ∷ ts) = rw (eq-eqb t.field.0 t.field.0 refl, kind_refl t.kind, eq-eqb t.total t.total refl, cuts_refl ts) refl

pub summary_refl : (v : SummaryValue) → same_summary v v ≡ true
summary_refl v = rw (
  eq-eqb v.epoch v.epoch refl,
  rights_refl v.rights,
  totals_refl v.gifts,
  totals_refl v.accepts,
  cuts_refl v.tightenings,
) refl

-- so what is appended for a lawful record is lawful
pub piece_lawful : (schema : SchemaValue) (s : ℕ) (rs : List Record) (r : Record) → Lawful schema s rs → may_follow schema s rs r ≡ true
    → Lawful schema s (rs ++ piece schema s rs r)
piece_lawful schema s rs r lawful may = by (nat_le max_behind (since_summary rs + 1))
  where
    all : Record
    all = summary_record (summary_of schema s (rs ++ r ∷ []))

    one : Lawful schema s (rs ++ r ∷ [])
    one = lawful_push schema s rs r lawful may

    by : (due : Bool) → Lawful schema s (rs ++ r ∷ (cond due (all ∷ []) []))
    by false = one
    by true =
        subst (Lawful schema s) (append_assoc rs (r ∷ []) (all ∷ []))
        (lawful_push schema s (rs ++ r ∷ []) all one (summary_refl (summary_of schema s (rs ++ r ∷ []))))

-- ---- how many records stand behind the last summary

pub since_push : (rs : List Record) (r : Record) → since_summary (rs ++ r ∷ []) ≡ count_behind (since_summary rs) r
unfolding since_summary
since_push rs r = fold_push count_behind 0 rs r

count_more : (n : ℕ) (r : Record) → count_behind n r ≤ n + 1
count_more n (Summary epoch rights gifts accepts tightenings) = omega arith
count_more n (Commit txn es) = omega arith
count_more n (Gift to f k t) = omega arith
count_more n (Accept from f k t) = omega arith
count_more n (Tighten f k t) = omega arith
count_more n (Restart epoch) = omega arith

pub since_one : (rs : List Record) (r : Record) → since_summary (rs ++ r ∷ []) ≤ since_summary rs + 1
since_one rs r = omega (arith, since_push rs r, count_more (since_summary rs) r)

-- where the whole piece stands, fewer than 1,000 records stand behind the last summary
pub piece_bounds : (schema : SchemaValue) (s : ℕ) (rs : List Record) (r : Record) → since_summary (rs ++ piece schema s rs r) < max_behind
piece_bounds schema s rs r = by (nat_le max_behind (since_summary rs + 1)) refl
  where
    all : Record
    all = summary_record (summary_of schema s (rs ++ r ∷ []))

    by : (due : Bool) → nat_le max_behind (since_summary rs + 1) ≡ due → since_summary (rs ++ r ∷ (cond due (all ∷ []) [])) < max_behind
    by false is = omega (arith, since_one rs r, leb-false _ _ is)
    by true is =
        omega (arith, ap since_summary (sym (append_assoc rs (r ∷ []) (all ∷ []))), since_push (rs ++ r ∷ []) all)

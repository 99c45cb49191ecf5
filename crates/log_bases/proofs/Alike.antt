-- Records behind a base stand for the same, whatever stood in front of it.
use Rattle.std.proofs.Common.{◌≡◌, ◌≢◌, ℕ, ◌-◌, ◌==◌, ◌<◌, Bool, true, false, not, ◌&&◌, cond, List, [], ◌∷◌, ◌++◌, length, append_assoc, refl, sym, ap, ◌∙◌, subst, arith}
use Rattle.std.specs.Prelude.{nat_lt}
use Rattle.std.specs.List.{list_all}
use Rattle.std.proofs.Math.Path.{fun_ext}
use Rattle.std.proofs.lemmas.Bool.{and_parts, ltb-true, eq-eqb}
use Rattle.std.proofs.lemmas.List.{append-nil}
use Rattle.field_bounds.specs.declared.kind.Kind.{Kind}
use Rattle.field_bounds.specs.declared.kind.Kind.TheVariants.{Lower, Raise}
use Rattle.field_bounds.specs.declared.entry.Escrow.{Escrow}
use Rattle.field_bounds.specs.Kind.{same_kind}
use Rattle.field_bounds.specs.Schema.{SchemaValue}
use Rattle.kept_records.specs.declared.record.Record.{Record}
use Rattle.kept_records.specs.declared.record.Record.TheVariants.{Commit, Gift, Accept, Tighten, Restart, Summary}
use Rattle.kept_records.specs.Summary.{SummaryValue, summary_told, summary_record, same_summary}
use Rattle.kept_records.specs.Summaries.{TellsOf}
use Rattle.kept_records.specs.Stands.{later, greatest, given_more, given_in, accepted_more, accepted_in, cut_more, cut_in, own_in, is_field, is_other_site, may_commit, may_follow, summary_of, base_stood_for, LawfulBehind, Lawful}
use Rattle.kept_records.proofs.Pushes.{greatest_push, given_push, accepted_push, cut_push, lawful_push}
use Rattle.kept_records.proofs.Covering.{own_commit, own_gift, own_accept, own_tighten, own_restart, own_summary}
use Rattle.kept_records.proofs.Told.{summary_equal, summary_tells}
use Rattle.log_bases.specs.Bases.{IsPast}
use Rattle.log_bases.proofs.Outside.{given_outside, accepted_outside, cut_outside, own_outside}

-- what two lists stand for, field by field and site by site
pub record Alike (schema : SchemaValue) (s : ℕ) (as1 bs : List Record) : Type 0 where
  pub epoch : greatest as1 ≡ greatest bs
  pub own : (f : ℕ) (k : Kind) → own_in schema s as1 f k ≡ own_in schema s bs f k
  pub cut : (f : ℕ) (k : Kind) → cut_in as1 f k ≡ cut_in bs f k
  pub given : (to f : ℕ) (k : Kind) → given_in as1 to f k ≡ given_in bs to f k
  pub accepted : (from f : ℕ) (k : Kind) → accepted_in as1 from f k ≡ accepted_in bs from f k

module _ (schema : SchemaValue) (s : ℕ) where
  -- ---- the base of a history is one

  pub alike_base : (as1 bs : List Record) → Alike schema s as1 bs → (up : Bool) → base_stood_for schema s up as1 ≡ base_stood_for schema s up bs
  alike_base as1 bs h up =
      let rights : own_in schema s as1 ≡ own_in schema s bs = fun_ext (λ f. fun_ext (λ k. h.own f k)) in
      let cuts : cut_in as1 ≡ cut_in bs = fun_ext (λ f. fun_ext (λ k. h.cut f k)) in
      let given : given_in as1 ≡ given_in bs = fun_ext (λ to. fun_ext (λ f. fun_ext (λ k. h.given to f k))) in
      let accepted : accepted_in as1 ≡ accepted_in bs = fun_ext (λ to. fun_ext (λ f. fun_ext (λ k. h.accepted to f k))) in
      cc (h.epoch, rights, cuts, given, accepted)

  -- ---- the same records may follow

  all_same : (p q : Escrow → Bool) → ((e : Escrow) → p e ≡ q e) → (es : List Escrow) → list_all p es ≡ list_all q es
  all_same p q h [] = refl
  all_same p q h (e ∷ es) = rw (h e, all_same p q h es) refl

  pub alike_summary : (as1 bs : List Record) → Alike schema s as1 bs → summary_of schema s as1 ≡ summary_of schema s bs
  unfolding summary_of
  alike_summary as1 bs h =
      let rights : own_in schema s as1 ≡ own_in schema s bs = fun_ext (λ f. fun_ext (λ k. h.own f k)) in
      let cuts : cut_in as1 ≡ cut_in bs = fun_ext (λ f. fun_ext (λ k. h.cut f k)) in
      let given : given_in as1 ≡ given_in bs = fun_ext (λ to. fun_ext (λ f. fun_ext (λ k. h.given to f k))) in
      let accepted : accepted_in as1 ≡ accepted_in bs = fun_ext (λ to. fun_ext (λ f. fun_ext (λ k. h.accepted to f k))) in
      rw (h.epoch, rights, cuts, given, accepted) refl

  pub alike_may : (as1 bs : List Record) → Alike schema s as1 bs → (r : Record) → may_follow schema s as1 r ≡ may_follow schema s bs r
  alike_may as1 bs h (Commit txn es) =
      rw (
        h.epoch,
        all_same (may_commit schema s as1 es) (may_commit schema s bs es)
            (λ e. rw (h.own e.field.0 Lower, h.own e.field.0 Raise) refl) es,
      ) refl
  alike_may as1 bs h (Gift to field kind total) = rw (h.given to.0 field.0 kind, h.own field.0 kind) refl
  alike_may as1 bs h (Accept from field kind total) =
      rw (
        h.accepted from.0 field.0 kind,
        h.cut field.0 Lower,
        h.cut field.0 Raise,
        h.own field.0 Lower,
        h.own field.0 Raise,
      ) refl
  alike_may as1 bs h (Tighten field kind total) = rw (h.cut field.0 kind, h.own field.0 kind) refl
  alike_may as1 bs h (Restart epoch) = rw h.epoch refl
  alike_may as1 bs h (Summary epoch rights gifts accepts tightenings) =
      ap (λ (x : SummaryValue). same_summary (summary_told epoch rights gifts accepts tightenings) x) (alike_summary as1 bs h)

  -- ---- one record more on both sides

  own_push : (as1 bs : List Record) → Lawful schema s as1 → Lawful schema s bs → Alike schema s as1 bs → (r : Record)
      → may_follow schema s as1 r ≡ true → may_follow schema s bs r ≡ true → (f : ℕ) (k : Kind)
      → own_in schema s (as1 ++ r ∷ []) f k ≡ own_in schema s (bs ++ r ∷ []) f k
  own_push as1 bs la lb h (Commit txn es) ma mb f k =
      omega (arith, own_commit schema s as1 la txn es ma f k, own_commit schema s bs lb txn es mb f k, h.own f k)
  own_push as1 bs la lb h (Gift to field kind total) ma mb f k =
      omega (
        arith,
        own_gift schema s as1 la to field kind total ma f k,
        own_gift schema s bs lb to field kind total mb f k,
        h.own f k,
        ap (λ (n : ℕ). cond ((field.0 == f) && same_kind kind k) (total - n) 0) (h.given to.0 field.0 kind),
      )
  own_push as1 bs la lb h (Accept from field kind total) ma mb f k =
      omega (
        arith,
        own_accept schema s as1 la from field kind total ma f k,
        own_accept schema s bs lb from field kind total mb f k,
        h.own f k,
        ap (λ (n : ℕ). cond ((field.0 == f) && same_kind kind k) (total - n) 0) (h.accepted from.0 field.0 kind),
      )
  own_push as1 bs la lb h (Tighten field kind total) ma mb f k =
      omega (
        arith,
        own_tighten schema s as1 la field kind total ma f k,
        own_tighten schema s bs lb field kind total mb f k,
        h.own f k,
        ap (λ (n : ℕ). cond ((field.0 == f) && same_kind kind k) (total - n) 0) (h.cut field.0 kind),
      )
  own_push as1 bs la lb h (Restart epoch) ma mb f k =
      own_restart schema s as1 la epoch ma f k ∙ h.own f k ∙ sym (own_restart schema s bs lb epoch mb f k)
  own_push as1 bs la lb h (Summary epoch rights gifts accepts tightenings) ma mb f k =
      let v = summary_told epoch rights gifts accepts tightenings in
      own_summary schema s as1 la v ma f k ∙ h.own f k ∙ sym (own_summary schema s bs lb v mb f k)

  pub alike_push : (as1 bs : List Record) → Lawful schema s as1 → Lawful schema s bs → Alike schema s as1 bs → (r : Record)
      → may_follow schema s as1 r ≡ true → Alike schema s (as1 ++ r ∷ []) (bs ++ r ∷ [])
  alike_push as1 bs la lb h r may =
      let also : may_follow schema s bs r ≡ true = sym (alike_may as1 bs h r) ∙ may in
      record {
        epoch = greatest_push as1 r ∙ ap (λ (n : ℕ). later n r) h.epoch ∙ sym (greatest_push bs r);
        own = λ f k. own_push as1 bs la lb h r may also f k;
        cut = λ f k. cut_push f k as1 r ∙ ap (λ (n : ℕ). cut_more f k n r) (h.cut f k) ∙ sym (cut_push f k bs r);
        given = λ to f k. given_push to f k as1 r ∙ ap (λ (n : ℕ). given_more to f k n r) (h.given to f k) ∙ sym (given_push to f k bs r);
        accepted = λ from f k. accepted_push from f k as1 r ∙ ap (λ (n : ℕ). accepted_more from f k n r) (h.accepted from f k)
            ∙ sym (accepted_push from f k bs r);
      }

  -- what stands behind both
  pub record Goes (as1 bs rs : List Record) : Type 0 where
    pub lawful : Lawful schema s (bs ++ rs)
    pub alike : Alike schema s (as1 ++ rs) (bs ++ rs)

  pub goes_on : (as1 bs rs : List Record) → Lawful schema s as1 → Lawful schema s bs → Alike schema s as1 bs
      → LawfulBehind schema s as1 rs → Goes as1 bs rs
  goes_on as1 bs [] la lb h behind = record {
    lawful = subst (λ (x : List Record). Lawful schema s x) (sym (append-nil bs)) lb;
    alike = subst (λ (x : List Record). Alike schema s x (bs ++ [])) (sym (append-nil as1))
        (subst (λ (x : List Record). Alike schema s as1 x) (sym (append-nil bs)) h);
  }
  goes_on as1 bs (r ∷ rs) la lb h behind =
      let also : may_follow schema s bs r ≡ true = sym (alike_may as1 bs h r) ∙ behind.0 in
      let rest = goes_on (as1 ++ r ∷ []) (bs ++ r ∷ []) rs (lawful_push schema s as1 r la behind.0) (lawful_push schema s bs r lb also)
      (alike_push as1 bs la lb h r behind.0) behind.1 in
      record {
        lawful = subst (λ (x : List Record). Lawful schema s x) (append_assoc bs (r ∷ []) rs) rest.lawful;
        alike = subst (λ (x : List Record). Alike schema s x (bs ++ r ∷ rs)) (append_assoc as1 (r ∷ []) rs)
            (subst (λ (x : List Record). Alike schema s ((as1 ++ r ∷ []) ++ rs) x) (append_assoc bs (r ∷ []) rs) rest.alike);
      }

  -- ---- two pasts of one base

  module _ (base : SummaryValue) (p q : List Record) (is_p : IsPast schema s base p) (is_q : IsPast schema s base q) where
    tells_p : TellsOf schema s base p
    tells_p = subst (λ (x : SummaryValue). TellsOf schema s x p) (sym (summary_equal base (summary_of schema s p) is_p.told)) (summary_tells schema s p)

    tells_q : TellsOf schema s base q
    tells_q = subst (λ (x : SummaryValue). TellsOf schema s x q) (sym (summary_equal base (summary_of schema s q) is_q.told)) (summary_tells schema s q)

    field_in : (f : ℕ) → is_field schema f ≡ true → f < length schema.fields
    field_in f is = ltb-true _ _ is

    own_by : (b : Bool) (f : ℕ) (k : Kind) → is_field schema f ≡ b → own_in schema s p f k ≡ own_in schema s q f k
    own_by true f k is = sym (tells_p.rights f k (field_in f is)) ∙ tells_q.rights f k (field_in f is)
    own_by false f k is = own_outside schema s f k is p is_p.lawful ∙ sym (own_outside schema s f k is q is_q.lawful)

    cut_by : (b : Bool) (f : ℕ) (k : Kind) → is_field schema f ≡ b → cut_in p f k ≡ cut_in q f k
    cut_by true f k is = sym (tells_p.cut f k (field_in f is)) ∙ tells_q.cut f k (field_in f is)
    cut_by false f k is = cut_outside schema s f k is p is_p.lawful ∙ sym (cut_outside schema s f k is q is_q.lawful)

    not_same : (to : ℕ) → not (to == s) ≡ true → to ≢ s
    not_same to h e = let here : (to == s) ≡ true = eq-eqb to s e in absurd cc

    abbrev at : ℕ → ℕ → Bool
    at to f = is_other_site schema s to && is_field schema f

    pub record Inside (to f : ℕ) : Type 0 where
      pub site_in : to < schema.sites
      pub apart : to ≢ s
      pub field : f < length schema.fields

    inside : (to f : ℕ) → at to f ≡ true → Inside to f
    inside to f is =
        let parts = and_parts (is_other_site schema s to) (is_field schema f) is in
        let site = and_parts (nat_lt to schema.sites) (not (to == s)) parts.0 in
        record { site_in = ltb-true _ _ site.0; apart = not_same to site.1; field = field_in f parts.1 }

    given_by : (b : Bool) (to f : ℕ) (k : Kind) → at to f ≡ b → given_in p to f k ≡ given_in q to f k
    given_by true to f k is =
        let here = inside to f is in
        sym (tells_p.given to f k here.site_in here.apart here.field) ∙ tells_q.given to f k here.site_in here.apart here.field
    given_by false to f k is = given_outside schema s to f k is p is_p.lawful ∙ sym (given_outside schema s to f k is q is_q.lawful)

    accepted_by : (b : Bool) (to f : ℕ) (k : Kind) → at to f ≡ b → accepted_in p to f k ≡ accepted_in q to f k
    accepted_by true to f k is =
        let here = inside to f is in
        sym (tells_p.accepted to f k here.site_in here.apart here.field) ∙ tells_q.accepted to f k here.site_in here.apart here.field
    accepted_by false to f k is = accepted_outside schema s to f k is p is_p.lawful ∙ sym (accepted_outside schema s to f k is q is_q.lawful)

    pub pasts_alike : Alike schema s p q
    pasts_alike = record {
      epoch = sym tells_p.epoch ∙ tells_q.epoch;
      own = λ f k. own_by (is_field schema f) f k refl;
      cut = λ f k. cut_by (is_field schema f) f k refl;
      given = λ to f k. given_by (at to f) to f k refl;
      accepted = λ from f k. accepted_by (at from f) from f k refl;
    }

  behind_of : (front as1 rs : List Record) → LawfulBehind schema s front (as1 ++ rs) → LawfulBehind schema s (front ++ as1) rs
  behind_of front [] rs lawful = subst (λ (x : List Record). LawfulBehind schema s x rs) (sym (append-nil front)) lawful
  behind_of front (r ∷ as1) rs lawful =
      subst (λ (x : List Record). LawfulBehind schema s x rs) (append_assoc front (r ∷ []) as1) (behind_of (front ++ r ∷ []) as1 rs lawful.1)

  -- whatever stands behind one past may stand behind the other, and stands for the same
  pub behind_pasts : (base : SummaryValue) (p q : List Record) → IsPast schema s base p → IsPast schema s base q → (rs : List Record)
      → Lawful schema s (p ++ summary_record base ∷ rs) → Goes p q (summary_record base ∷ rs)
  behind_pasts base p q is_p is_q rs lawful =
      goes_on p q (summary_record base ∷ rs) is_p.lawful is_q.lawful (pasts_alike base p q is_p is_q)
      (behind_of [] p (summary_record base ∷ rs) lawful)

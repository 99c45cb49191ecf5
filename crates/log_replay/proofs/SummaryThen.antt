-- What a standing comes to with one record more is what the records and that one stand for.
use Rattle.std.proofs.Common.{◌≡◌, ◌≢◌, ℕ, ◌-◌, ◌≤◌, ◌<◌, ◌==◌, max, Bool, true, false, ◌&&◌, cond, List, [], ◌∷◌, ◌++◌, length, refl, sym, ◌∙◌, ap, arith}
use Rattle.std.specs.List.{list_all}
use Rattle.std.proofs.lemmas.Bool.{and_parts, ltb-true}
use Rattle.field_bounds.specs.declared.kind.Kind.{Kind}
use Rattle.field_bounds.specs.declared.kind.Kind.TheVariants.{Lower, Raise}
use Rattle.field_bounds.specs.declared.id.SiteNo.{SiteNo}
use Rattle.field_bounds.specs.declared.id.FieldNo.{FieldNo}
use Rattle.field_bounds.specs.Kind.{other, same_kind}
use Rattle.field_bounds.specs.Schema.{SchemaValue}
use Rattle.field_bounds.specs.Limits.{IsSchema}
use Rattle.field_bounds.specs.Owed.{max_change}
use Rattle.kept_records.specs.declared.record.Record.{Record}
use Rattle.kept_records.specs.declared.record.Record.TheVariants.{Commit, Gift, Accept, Tighten, Restart, Summary}
use Rattle.kept_records.specs.Stands.{later, greatest, given_in, accepted_in, cut_in, own_in, is_field, is_other_site, is_summary, may_commit, summary_of}
use Rattle.kept_records.proofs.Pushes.{greatest_push, given_push, accepted_push, cut_push}
use Rattle.kept_records.proofs.Covering.{key, at_key, on_field, commit_within, gift_parts, accept_parts, tighten_parts, own_commit, own_gift, own_accept, own_tighten, own_restart, own_within, width_few}
use Rattle.site_rights.specs.Rights.{cut_at}
use Rattle.gift_ledger.specs.Ledger.{total_at, accepted_at}
use Rattle.log_replay.specs.declared.standing.Standing.{Standing}
use Rattle.log_replay.specs.Standing.{IsOther}
use Rattle.log_replay.specs.Resuming.{MayFollowNext}
use Rattle.log_replay.specs.Telling.{side_with, cut_with}
use Rattle.log_replay.specs.After.{gift_told, accept_told, tightening_told, HasSlotFor, rise_of, CanMove, own_after, summary_then}
use Rattle.log_replay.proofs.StandingLaws.{four_first, is_other, here_only}
use Rattle.log_replay.proofs.Told.{rights_same, totals_same, cuts_same}

-- ---- a total told anew, where it is no less than the one before, is the greater of both

total_here : (a b c : Bool) (total at in_ : ℕ) → at ≡ in_ → (a ≡ true → b ≡ true → c ≡ true → in_ ≤ total)
    → cond (a && b && c) total at ≡ cond (b && c && a) (max total in_) in_
total_here true true true total at in_ same above = let le = above refl refl refl in omega (arith, le)
total_here true true false total at in_ same above = same
total_here true false c total at in_ same above = same
total_here false true true total at in_ same above = same
total_here false true false total at in_ same above = same
total_here false false c total at in_ same above = same

cut_here : (on : Bool) (total at in_ : ℕ) → at ≡ in_ → (on ≡ true → in_ ≤ total) → cond on total at ≡ cond on (max total in_) in_
cut_here true total at in_ same above = let le = above refl in omega (arith, le)
cut_here false total at in_ same above = same

three_first : (a b c : Bool) → (a && b && c) ≡ true → a ≡ true
three_first true b c h = refl
three_first false b c h = cc

module _ (schema : SchemaValue) (old : Standing) (rs : List Record) where
  abbrev site : ℕ
  site = old.ledger.site

  -- the record may stand next
  abbrev Next : Record → Type 0
  Next r0 = MayFollowNext schema old rs r0

  -- the site and the field of a total are another site and a field of the schema
  other_of : (r f : ℕ) (c d : Bool) → (is_other_site schema site r && is_field schema f && c && d) ≡ true → IsOther schema site r f
  other_of r f c d may = is_other schema site r f (four_first (is_other_site schema site r) (is_field schema f) c d may)

  gift_other : (to : SiteNo) (field : FieldNo) (kind : Kind) (total : ℕ) → Next (Gift to field kind total)
      → IsOther schema site to.0 field.0
  gift_other to field kind total next = other_of to.0 field.0 _ _ next.may

  accept_other : (from : SiteNo) (field : FieldNo) (kind : Kind) (total : ℕ) → Next (Accept from field kind total)
      → IsOther schema site from.0 field.0
  accept_other from field kind total next = other_of from.0 field.0 _ _ next.may

  cut_in_rows : (field : FieldNo) (kind : Kind) (total : ℕ) → Next (Tighten field kind total) → field.0 < length old.rights
  cut_in_rows field kind total next =
      let on = three_first (is_field schema field.0) _ _ next.may in
      omega (arith, ltb-true field.0 (length schema.fields) on, next.stands.count)

  pub place_for : (r0 : Record) → Next r0 → HasSlotFor old r0
  place_for (Commit txn es) next = tt
  place_for (Gift to field kind total) next = next.stands.place to.0 field.0 (gift_other to field kind total next)
  place_for (Accept from field kind total) next = next.stands.place from.0 field.0 (accept_other from field kind total next)
  place_for (Tighten field kind total) next = cut_in_rows field kind total next
  place_for (Restart epoch) next = tt
  place_for (Summary epoch rights gifts accepts tightenings) next = tt

  -- ---- totals

  gifts_then : (r0 : Record) → Next r0 → (r f : ℕ) (k : Kind) → IsOther schema site r f
      → side_with (gift_told r0) true old.ledger r f k ≡ given_in (rs ++ r0 ∷ []) r f k
  gifts_then (Commit txn es) next r f k o = next.stands.given r f k o ∙ sym (given_push r f k rs (Commit txn es))
  gifts_then (Gift to field kind total) next r f k o =
      total_here (to.0 == r) (field.0 == f) (same_kind kind k) total (total_at old.ledger r f k) (given_in rs r f k)
      (next.stands.given r f k o)
      (λ a b c.
      let on : key field.0 kind to.0 f k r ≡ true = rw (b, c, a) refl in
      let same = at_key (given_in rs) field.0 kind to.0 f k r on in
      let parts = gift_parts schema site rs to field kind total next.may in
      omega (arith, parts.1, same))
      ∙ sym (given_push r f k rs (Gift to field kind total))
  gifts_then (Accept from field kind total) next r f k o =
      next.stands.given r f k o ∙ sym (given_push r f k rs (Accept from field kind total))
  gifts_then (Tighten field kind total) next r f k o = next.stands.given r f k o ∙ sym (given_push r f k rs (Tighten field kind total))
  gifts_then (Restart epoch) next r f k o = next.stands.given r f k o ∙ sym (given_push r f k rs (Restart epoch))
  gifts_then (Summary epoch rights gifts accepts tightenings) next r f k o =
      next.stands.given r f k o ∙ sym (given_push r f k rs (Summary epoch rights gifts accepts tightenings))

  accepts_then : (r0 : Record) → Next r0 → (r f : ℕ) (k : Kind) → IsOther schema site r f
      → side_with (accept_told r0) false old.ledger r f k ≡ accepted_in (rs ++ r0 ∷ []) r f k
  accepts_then (Commit txn es) next r f k o = next.stands.accepted r f k o ∙ sym (accepted_push r f k rs (Commit txn es))
  accepts_then (Gift to field kind total) next r f k o =
      next.stands.accepted r f k o ∙ sym (accepted_push r f k rs (Gift to field kind total))
  accepts_then (Accept from field kind total) next r f k o =
      total_here (from.0 == r) (field.0 == f) (same_kind kind k) total (accepted_at old.ledger r f k) (accepted_in rs r f k)
      (next.stands.accepted r f k o)
      (λ a b c.
      let on : key field.0 kind from.0 f k r ≡ true = rw (b, c, a) refl in
      let same = at_key (accepted_in rs) field.0 kind from.0 f k r on in
      let parts = accept_parts schema site rs from field kind total next.may in
      omega (arith, parts.1, same))
      ∙ sym (accepted_push r f k rs (Accept from field kind total))
  accepts_then (Tighten field kind total) next r f k o =
      next.stands.accepted r f k o ∙ sym (accepted_push r f k rs (Tighten field kind total))
  accepts_then (Restart epoch) next r f k o = next.stands.accepted r f k o ∙ sym (accepted_push r f k rs (Restart epoch))
  accepts_then (Summary epoch rights gifts accepts tightenings) next r f k o =
      next.stands.accepted r f k o ∙ sym (accepted_push r f k rs (Summary epoch rights gifts accepts tightenings))

  cuts_then : (r0 : Record) → Next r0 → (f : ℕ) (k : Kind) → f < length old.rights
      → cut_with (tightening_told r0) old.rights f k ≡ cut_in (rs ++ r0 ∷ []) f k
  cuts_then (Commit txn es) next f k l = next.stands.cut f k l ∙ sym (cut_push f k rs (Commit txn es))
  cuts_then (Gift to field kind total) next f k l = next.stands.cut f k l ∙ sym (cut_push f k rs (Gift to field kind total))
  cuts_then (Accept from field kind total) next f k l = next.stands.cut f k l ∙ sym (cut_push f k rs (Accept from field kind total))
  cuts_then (Tighten field kind total) next f k l =
      cut_here ((field.0 == f) && same_kind kind k) total (cut_at old.rights f k) (cut_in rs f k) (next.stands.cut f k l)
      (λ on.
      let same = on_field (λ x y. cut_in rs x y) field.0 f kind k on in
      let parts = tighten_parts schema site rs field kind total next.may in
      omega (arith, parts.0, same))
      ∙ sym (cut_push f k rs (Tighten field kind total))
  cuts_then (Restart epoch) next f k l = next.stands.cut f k l ∙ sym (cut_push f k rs (Restart epoch))
  cuts_then (Summary epoch rights gifts accepts tightenings) next f k l =
      next.stands.cut f k l ∙ sym (cut_push f k rs (Summary epoch rights gifts accepts tightenings))

  -- ---- rights

  given_before : (to : SiteNo) (field : FieldNo) (kind : Kind) (total : ℕ) → Next (Gift to field kind total)
      → total_at old.ledger to.0 field.0 kind ≡ given_in rs to.0 field.0 kind
  given_before to field kind total next = next.stands.given to.0 field.0 kind (gift_other to field kind total next)

  accepted_before : (from : SiteNo) (field : FieldNo) (kind : Kind) (total : ℕ) → Next (Accept from field kind total)
      → accepted_at old.ledger from.0 field.0 kind ≡ accepted_in rs from.0 field.0 kind
  accepted_before from field kind total next = next.stands.accepted from.0 field.0 kind (accept_other from field kind total next)

  cut_before : (field : FieldNo) (kind : Kind) (total : ℕ) → Next (Tighten field kind total)
      → cut_at old.rights field.0 kind ≡ cut_in rs field.0 kind
  cut_before field kind total next = next.stands.cut field.0 kind (cut_in_rows field kind total next)

  rights_then : (r0 : Record) → is_summary r0 ≡ false → Next r0 → (f : ℕ) (k : Kind) → f < length old.rights
      → own_after old.rights r0 (rise_of old r0) f k ≡ own_in schema site (rs ++ r0 ∷ []) f k
  rights_then (Commit txn es) plain next f k l =
      omega (arith, next.stands.own f k l, own_commit schema site rs next.lawful txn es next.may f k)
  rights_then (Gift to field kind total) plain next f k l =
      let before = given_before to field kind total next in
      omega (
        arith,
        next.stands.own f k l,
        own_gift schema site rs next.lawful to field kind total next.may f k,
        ap (λ (n : ℕ). cond ((field.0 == f) && same_kind kind k) (total - n) 0) before,
      )
  rights_then (Accept from field kind total) plain next f k l =
      let before = accepted_before from field kind total next in
      omega (
        arith,
        next.stands.own f k l,
        own_accept schema site rs next.lawful from field kind total next.may f k,
        ap (λ (n : ℕ). cond ((field.0 == f) && same_kind kind k) (total - n) 0) before,
      )
  rights_then (Tighten field kind total) plain next f k l =
      let before = cut_before field kind total next in
      omega (
        arith,
        next.stands.own f k l,
        own_tighten schema site rs next.lawful field kind total next.may f k,
        ap (λ (n : ℕ). cond ((field.0 == f) && same_kind kind k) (total - n) 0) before,
      )
  rights_then (Restart epoch) plain next f k l =
      omega (arith, next.stands.own f k l, own_restart schema site rs next.lawful epoch next.may f k)
  rights_then (Summary epoch rights gifts accepts tightenings) plain next f k l = absurd cc

  -- what the record takes is owned, and what it adds is within the greatest change
  module _ (good : IsSchema schema) where
    own_few : (r0 : Record) → Next r0 → (f : ℕ) (k : Kind) → own_in schema site rs f k ≤ max_change
    own_few r0 next f Lower = omega (arith, own_within schema good site next.site_in rs next.lawful f, width_few schema.fields good.each f)
    own_few r0 next f Raise = omega (arith, own_within schema good site next.site_in rs next.lawful f, width_few schema.fields good.each f)

    pub can_move : (r0 : Record) → Next r0 → (f : ℕ) (k : Kind) → f < length old.rights → CanMove old.rights r0 (rise_of old r0) f k
    can_move (Commit txn es) next f k l =
        let all = and_parts (txn.epoch == greatest rs) (list_all (may_commit schema site rs es) es) next.may in (
          omega (arith, next.stands.own f k l, commit_within schema site rs es all.1 f k),
          omega (arith, commit_within schema site rs es all.1 f (other k), own_few (Commit txn es) next f (other k)),
        )
    can_move (Gift to field kind total) next f k l =
        let before = given_before to field kind total next in
        let parts = gift_parts schema site rs to field kind total next.may in
        let amount = total - total_at old.ledger to.0 field.0 kind in
        let within = here_only (λ x y. own_in schema site rs x y) field.0 f kind k amount (omega (arith, parts.2, before)) in
        (omega (arith, next.stands.own f k l, within), omega arith)
    can_move (Accept from field kind total) next f k l =
        let before = accepted_before from field kind total next in
        let parts = accept_parts schema site rs from field kind total next.may in
        let amount = total - accepted_at old.ledger from.0 field.0 kind in
        let few : amount ≤ max_change = omega (arith, parts.2, before, width_few schema.fields good.each field.0) in
        (omega arith, here_only (λ x y. max_change) field.0 f kind k amount few)
    can_move (Tighten field kind total) next f k l =
        let before = cut_before field kind total next in
        let parts = tighten_parts schema site rs field kind total next.may in
        let amount = total - cut_at old.rights field.0 kind in
        let within = here_only (λ x y. own_in schema site rs x y) field.0 f kind k amount (omega (arith, parts.1, before)) in
        (omega (arith, next.stands.own f k l, within), omega arith)
    can_move (Restart epoch) next f k l = (omega arith, omega arith)
    can_move (Summary epoch rights gifts accepts tightenings) next f k l = (omega arith, omega arith)

  -- ---- all of it

  pub after_is : (r0 : Record) → is_summary r0 ≡ false → Next r0 → summary_then schema old r0 ≡ summary_of schema site (rs ++ r0 ∷ [])
  unfolding summary_of
  after_is r0 plain next =
      let m = length schema.fields in
      let n = schema.sites in
      let all = rs ++ r0 ∷ [] in
      let was = next.stands in
      let rights =
      rights_same (own_after old.rights r0 (rise_of old r0)) (own_in schema site all) m
      (λ f k below. rights_then r0 plain next f k (omega (arith, below, was.count))) in
      let cuts =
      cuts_same (cut_with (tightening_told r0) old.rights) (cut_in all) m
      (λ f k below. cuts_then r0 next f k (omega (arith, below, was.count))) in
      let other_site : (r f : ℕ) → r < n → r ≢ site → f < m → IsOther schema site r f = λ r f site_in apart field_in.
      record { other = apart; site_in = site_in; field_in = field_in } in
      let gifts =
      totals_same (side_with (gift_told r0) true old.ledger) (given_in all) site m n
      (λ r f k site_in apart field_in. gifts_then r0 next r f k (other_site r f site_in apart field_in)) in
      let accepts =
      totals_same (side_with (accept_told r0) false old.ledger) (accepted_in all) site m n
      (λ r f k site_in apart field_in. accepts_then r0 next r f k (other_site r f site_in apart field_in)) in
      let epoch : later old.epoch r0 ≡ greatest all = ap (λ (e : ℕ). later e r0) was.epoch ∙ sym (greatest_push rs r0) in
      cc (epoch, rights, gifts, accepts, cuts)

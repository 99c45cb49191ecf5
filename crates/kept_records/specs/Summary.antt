-- What a summary tells, and the canonical summary of numbers (this project).
use Rattle.std.specs.Prelude.{ℕ, zero, suc, ◌==◌, ◌&&◌, ◌||◌, nat_lt, Bool, true, false, if◌then◌else◌, List, [], ◌∷◌, ◌++◌, slice_index_or, fold}
use Rattle.field_bounds.specs.declared.kind.Kind.{Kind}
use Rattle.field_bounds.specs.declared.kind.Kind.TheVariants.{Lower, Raise}
use Rattle.field_bounds.specs.Kind.{same_kind}
use Rattle.kept_records.specs.declared.total.Total.{Total}
use Rattle.kept_records.specs.declared.total.Cut.{Cut}
use Rattle.kept_records.specs.declared.record.Record.{Record}
use Rattle.kept_records.specs.declared.record.Record.TheVariants.{Summary}

-- An epoch, the own rights field by field, and the totals given, accepted and given up for good.
pub record SummaryValue : Type 0 where
  pub epoch : ℕ
  pub rights : List (ℕ × ℕ)
  pub gifts : List Total
  pub accepts : List Total
  pub tightenings : List Cut

-- The same of these numbers.
abbrev pub summary_told : ℕ → List (ℕ × ℕ) → List Total → List Total → List Cut → SummaryValue
summary_told epoch rights gifts accepts tightenings =
    record { epoch = epoch; rights = rights; gifts = gifts; accepts = accepts; tightenings = tightenings }

-- The record that tells it.
abbrev pub summary_record : SummaryValue → Record
summary_record v = Summary v.epoch v.rights v.gifts v.accepts v.tightenings

-- ---- totals in order

-- The total of a site, a field and a kind, where it is above 0.
abbrev pub one_total : (ℕ → ℕ → Kind → ℕ) → ℕ → ℕ → Kind → List Total
one_total totals r f k =
    if totals r f k == 0 then [] else record { site = record { 0 = r }; field = record { 0 = f }; kind = k; total = totals r f k } ∷ []

-- Those of one site, of the fields below m, field by field and lowering before raising.
unfoldable pub totals_of_site : (ℕ → ℕ → Kind → ℕ) → ℕ → ℕ → List Total
totals_of_site totals r zero = []
totals_of_site totals r (suc m) = totals_of_site totals r m ++ (one_total totals r m Lower ++ one_total totals r m Raise)

-- Those of the sites below n but s, site by site.
unfoldable pub totals_of : (ℕ → ℕ → Kind → ℕ) → ℕ → ℕ → ℕ → List Total
totals_of totals s m zero = []
totals_of totals s m (suc n) = totals_of totals s m n ++ (if n == s then [] else totals_of_site totals n m)

-- The total given up of a field and a kind, where it is above 0, and those of the fields below m.
abbrev pub one_cut : (ℕ → Kind → ℕ) → ℕ → Kind → List Cut
one_cut cuts f k = if cuts f k == 0 then [] else record { field = record { 0 = f }; kind = k; total = cuts f k } ∷ []

unfoldable pub cuts_of : (ℕ → Kind → ℕ) → ℕ → List Cut
cuts_of cuts zero = []
cuts_of cuts (suc m) = cuts_of cuts m ++ (one_cut cuts m Lower ++ one_cut cuts m Raise)

-- The rights of the fields below m, to lower and to raise each.
unfoldable pub rights_of : (ℕ → Kind → ℕ) → ℕ → List (ℕ × ℕ)
rights_of rights zero = []
rights_of rights (suc m) = rights_of rights m ++ (rights m Lower, rights m Raise) ∷ []

-- ---- whether two summaries are the same

abbrev pub same_rights : List (ℕ × ℕ) → List (ℕ × ℕ) → Bool
same_rights [] [] = true
same_rights (a ∷ as1) (b ∷ bs) = (a.0 == b.0) && (a.1 == b.1) && same_rights as1 bs
same_rights as1 bs = false

abbrev pub same_total : Total → Total → Bool
same_total a b = (a.site.0 == b.site.0) && (a.field.0 == b.field.0) && same_kind a.kind b.kind && (a.total == b.total)

abbrev pub same_totals : List Total → List Total → Bool
same_totals [] [] = true
same_totals (a ∷ as1) (b ∷ bs) =
    same_total a b && same_totals as1 bs
same_totals as1 bs = false

abbrev pub same_cut : Cut → Cut → Bool
same_cut a b = (a.field.0 == b.field.0) && same_kind a.kind b.kind && (a.total == b.total)

abbrev pub same_cuts : List Cut → List Cut → Bool
same_cuts [] [] = true
same_cuts (a ∷ as1) (b ∷ bs) = same_cut a b && same_cuts as1 bs
same_cuts as1 bs = false

abbrev pub same_summary : SummaryValue → SummaryValue → Bool
same_summary a b =
    (a.epoch == b.epoch) && same_rights a.rights b.rights && same_totals a.gifts b.gifts && same_totals a.accepts b.accepts
    && same_cuts a.tightenings b.tightenings

-- ---- totals that rise strictly by site, field and kind

abbrev pub kind_number : Kind → ℕ
kind_number Lower = 0
kind_number Raise = 1

abbrev pub is_before : Total → Total → Bool
is_before a b =
    nat_lt a.site.0 b.site.0
    || ((a.site.0 == b.site.0) && (nat_lt a.field.0 b.field.0
    || ((a.field.0 == b.field.0) && nat_lt (kind_number a.kind) (kind_number b.kind))))

abbrev pub rises : List Total → Bool
rises [] = true
rises (a ∷ []) = true
rises (a ∷ b ∷ ts) = is_before a b && rises (b ∷ ts)

-- The same by field and kind.
abbrev pub is_cut_before : Cut → Cut → Bool
is_cut_before a b =
    nat_lt a.field.0 b.field.0 || ((a.field.0 == b.field.0) && nat_lt (kind_number a.kind) (kind_number b.kind))

abbrev pub cuts_rise : List Cut → Bool
cuts_rise [] = true
cuts_rise (a ∷ []) = true
cuts_rise (a ∷ b ∷ ts) = is_cut_before a b && cuts_rise (b ∷ ts)

-- ---- what a summary tells

-- The rights of a kind on a field, and none on a field that isn't there.
abbrev pub rights_told : List (ℕ × ℕ) → ℕ → Kind → ℕ
rights_told rights f Lower = (slice_index_or rights f (0, 0)).0
rights_told rights f Raise = (slice_index_or rights f (0, 0)).1

-- The total of a site, a field and a kind: that of the last such one, and 0 where there is none.
abbrev pub told_more : ℕ → ℕ → Kind → ℕ → Total → ℕ
told_more r f k n t = if (t.site.0 == r) && (t.field.0 == f) && same_kind t.kind k then t.total else n

unfoldable pub total_told : List Total → ℕ → ℕ → Kind → ℕ
total_told ts r f k = fold (told_more r f k) 0 ts

-- The total given up of a field and a kind: that of the last such one, and 0 where there is none.
abbrev pub cut_told_more : ℕ → Kind → ℕ → Cut → ℕ
cut_told_more f k n t = if (t.field.0 == f) && same_kind t.kind k then t.total else n

unfoldable pub cut_told : List Cut → ℕ → Kind → ℕ
cut_told ts f k = fold (cut_told_more f k) 0 ts

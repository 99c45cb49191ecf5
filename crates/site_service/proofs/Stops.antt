-- A stop leaves a front of the records, which is what a front of the history leaves (this project).
use Rattle.std.proofs.Common.{◌≡◌, refl, ℕ, ◌≤◌, Bool, true, eqb, List, [], ◌∷◌, ◌++◌, length, take, drop, sym, ap, subst, ◌∙◌, arith, append-nil, append_assoc}
use Rattle.std.specs.List.{flat_map, list_any, AllByRecursion}
use Rattle.std.proofs.lemmas.List.{length-append, take-append-le, take-append-drop, take_at}
use Rattle.field_bounds.specs.Schema.{SchemaValue}
use Rattle.field_bounds.specs.Effects.{Base}
use Rattle.field_bounds.specs.Owed.{place}
use Rattle.field_bounds.specs.declared.entry.Entry.{Entry}
use Rattle.kept_records.specs.declared.record.Record.{Record}
use Rattle.kept_records.specs.Text.{text, IsRecord}
use Rattle.kept_records.specs.Logs.{HasNoLf, IsLog}
use Rattle.kept_records.specs.Stands.{plain}
use Rattle.kept_records.proofs.Bytes.{one_cut, has_it}
use Rattle.kept_records.proofs.Lines.{body, body_without, begins, first_text}
use Rattle.kept_state.specs.Keeps.{Keeps, adds}
use Rattle.kept_state.proofs.Adding.{length_adds}
use Rattle.site_step.specs.Site.{SiteValue, base_of, HoldsLog}
use Rattle.site_step.proofs.Holding.{plain_append}
use Rattle.site_service.specs.Stops.{KeepsFront}

-- A front that is shorter than the whole is a front of what stands before the last piece, of at most one record.
shorter : (before piece front : List Record) (r : Record) (back : List Record) → length piece ≤ 1 → before ++ piece ≡ front ++ r ∷ back
    → before ≡ front ++ drop (length front) before
shorter before piece front r back small same =
    let whole = ap length same in
    let left = length-append before piece in
    let right = length-append front (r ∷ back) in
    let within : length front ≤ length before = omega (arith, whole, left, right, small) in
    let head : take (length front) before ≡ front =
    sym (take-append-le (length front) before piece within) ∙ ap (λ l. take (length front) l) same ∙ take_at front (r ∷ back) (length front) refl in
    sym (take-append-drop (length front) before) ∙ ap (λ l. l ++ drop (length front) before) head

nothing_behind : (bs front : List Record) (r : Record) (back : List Record) → bs ≡ front ++ r ∷ back → length bs ≤ length front → ⊥
nothing_behind bs front r back same within =
    let whole = ap length same in
    let right = length-append front (r ∷ back) in
    omega (arith, whole, right, within)

pub leaves_front : (schema : SchemaValue) (s : ℕ) (base : Base) (bs : List Record) (kept : Bool) (o : List Entry) (rs front back : List Record)
    → Keeps schema s base bs kept o rs → rs ≡ front ++ back → length bs ≤ length front → KeepsFront schema s base bs o front
leaves_front schema s base bs kept o rs front [] keeps same within = record {
  newer = [];
  older = o;
  kept = kept;
  split = refl;
  keeps = subst (Keeps schema s base bs kept o) (same ∙ append-nil front) keeps;
}
leaves_front schema s base bs kept [] rs front (r ∷ back) keeps same within =
    absurd (nothing_behind bs front r back (sym keeps ∙ same) within)
leaves_front schema s base bs kept (e ∷ o) rs front (r ∷ back) keeps same within =
    let before = keeps.0 in
    let piece = adds (place schema s base o) e.command e.reply keeps.1 before in
    let small = length_adds (place schema s base o) e.command e.reply keeps.1 before in
    let rest = leaves_front schema s base bs _ o before front (drop (length front) before) keeps.2
    (shorter before piece front r back small (sym keeps.4 ∙ same)) within in
    record {
      newer = e ∷ rest.newer;
      older = rest.older;
      kept = rest.kept;
      split = ap (λ l. e ∷ l) rest.split;
      keeps = rest.keeps;
    }

-- ---- a front of the bytes

-- bytes in which no line ends don't begin with a record's line
no_line : (a : List ℕ) (s : Record) (ss : List Record) (b : List ℕ) → HasNoLf a → a ≡ flat_map text (s ∷ ss) ++ b → ⊥
no_line a s ss b none e =
    let t : list_any (λ x. eqb x 10) a ≡ true = ap (list_any (λ x. eqb x 10)) (e ∙ first_text s ss b)
    ∙ has_it 10 (body s) (flat_map text ss ++ b) in
    absurd cc

-- a log of which more bytes are a log has a front of the records
front_of : (all front : List Record) (end rest back : List ℕ) → AllByRecursion IsRecord all → AllByRecursion IsRecord front → HasNoLf end
    → flat_map text all ++ end ≡ flat_map text front ++ (rest ++ back) → (more : List Record) × (all ≡ front ++ more)
front_of all [] end rest back p q none e = (all, refl)
front_of [] (r ∷ front) end rest back p q none e = absurd (no_line end r front (rest ++ back) none e)
front_of (s ∷ all) (r ∷ front) end rest back p q none e =
    let same = one_cut 10 (body s) (body r) (flat_map text all ++ end) (flat_map text front ++ (rest ++ back)) (body_without s p.0)
    (body_without r q.0) (sym (first_text s all end) ∙ e ∙ first_text r front (rest ++ back)) in
    let heads : s ≡ r =
    sym (begins r s [] q.0 p.0 (ap (λ (l : List ℕ). l ++ 10 ∷ []) same.front ∙ sym (append-nil (text r)))).0 in
    let more = front_of all front end rest back p.1 q.1 none same.rest in
    (more.0, ap (λ (x : Record). x ∷ all) heads ∙ ap (λ (l : List Record). r ∷ l) more.1)

pub leaves_lines : (v : SiteValue) (left back : List ℕ) (front : List Record) (rest : List ℕ) → HoldsLog v → v.bytes ≡ left ++ back
    → IsLog left front rest → length (plain v.based) ≤ length (plain front)
    → KeepsFront v.schema v.site.0 (base_of v) (plain v.based) v.history (plain front)
leaves_lines v left back front rest holds parts log within =
    let all = holds.log.all in
    let joined : flat_map text all ++ holds.rest ≡ flat_map text front ++ (rest ++ back) =
    sym holds.log.log.parts ∙ parts ∙ ap (λ (l : List ℕ). l ++ back) log.parts ∙ append_assoc (flat_map text front) rest back in
    let more = front_of all front holds.rest rest back holds.log.log.each log.each holds.log.log.no_lf joined in
    let plains : holds.records ≡ plain front ++ plain more.0 =
    sym holds.log.told ∙ ap plain more.1 ∙ plain_append front more.0 in
    leaves_front v.schema v.site.0 (base_of v) (plain v.based) holds.kept v.history holds.records (plain front) (plain more.0) holds.keeps
    plains within

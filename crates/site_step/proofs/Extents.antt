-- How far a site's log reached when the site was last up.
use Rattle.std.proofs.Common.{◌≡◌, ℕ, ◌+◌, Bool, false, List, [], ◌∷◌, ◌++◌, length, drop, refl, sym, ap, subst, ◌∙◌, arith, append_assoc, Option, Some, None}
use Rattle.std.specs.Prelude.{nat_le, if◌then◌else◌}
use Rattle.std.specs.List.{flat_map}
use Rattle.std.proofs.Math.Seq.{drop-append_seam}
use Rattle.std.proofs.lemmas.List.{append-nil, length-append}
use Rattle.std.proofs.lemmas.List.Concat.{flat_map-append}
use Rattle.field_bounds.specs.declared.entry.Last.TheVariants.{Kept, Lost}
use Rattle.field_bounds.specs.Schema.{SchemaValue}
use Rattle.kept_records.specs.declared.record.Record.{Record}
use Rattle.kept_records.specs.Text.{text}
use Rattle.kept_records.specs.Logs.{IsLog}
use Rattle.kept_records.specs.Keeping.{starts_with_no_restart}
use Rattle.kept_records.specs.ReadingBack.{told_length, PartsAt, AreBehind}
use Rattle.kept_records.specs.Stands.{is_summary, plain, since_summary, max_behind, piece}
use Rattle.kept_records.proofs.Summaries.{piece_bounds}
use Rattle.kept_state.specs.Doubt.{found_of}
use Rattle.site_step.specs.declared.extent.Extent.{Extent}
use Rattle.site_step.specs.State.{starts_with_summary, counted_from, Reaches, ReachesAll, one_record_longer}
use Rattle.site_step.specs.Site.{doubt_behind}
use Rattle.site_step.specs.Resuming.{found_by}
use Rattle.site_step.proofs.Holding.{plain_append, plain_cons, plain_piece, piece_since}

-- all records are the first ones
pub reach_all : (e : Extent) (gone held rs : List Record) → rs ≡ gone ++ held → ReachesAll e held rs → Reaches e gone held
reach_all e gone held rs parts all = record {
  before = held;
  behind = [];
  all = sym (append-nil held);
  count = all.count ∙ ap (λ (x : List Record). length (plain x)) parts;
  length_is = all.length_is;
  first_ =
      refl;
}

-- a site that counts one more counts one more with those that it doesn't count
pub longer_counted : (uncounted size : ℕ) (e : Extent) {later : Extent} → later ≡ one_record_longer e size
    → counted_from uncounted later ≡ one_record_longer (counted_from uncounted e) size
longer_counted uncounted size e is =
    ap (counted_from uncounted) is
    ∙ ap (λ (n : ℕ). record {
      count = n;
      length = told_length (e.length + size);
      behind = if nat_le max_behind (e.behind + 1) then 0 else e.behind + 1;
    }) (omega arith)

-- and so where a restart found more
pub reach_counted : (uncounted more size behinds : ℕ) (e : Extent) {later : Extent}
    → later ≡ record { count = e.count + more + 1; length = size; behind = behinds }
    → counted_from uncounted later ≡ record { count = uncounted + e.count + more + 1; length = size; behind = behinds }
reach_counted uncounted more size behinds e is =
    ap (counted_from uncounted) is
    ∙ ap (λ (n : ℕ). record { count = n; length = size; behind = behinds }) (omega arith)

-- once what a record adds stands behind them
pub reach_next : (schema : SchemaValue) (s : ℕ) (held rs : List Record) (r : Record) → is_summary r ≡ false → (next : Extent)
    → next.count ≡ length (plain rs) + 1
    → next.length ≡ told_length (length (flat_map text (held ++ piece schema s rs r)))
    → next.behind ≡ (if nat_le max_behind (since_summary rs + 1) then 0 else since_summary rs + 1)
    → ReachesAll next (held ++ piece schema s rs r) (rs ++ piece schema s rs r)
reach_next schema s held rs r one next count long behind = record {
  count = omega (arith, count, ap length (plain_piece schema s rs r one), length-append (plain rs) (r ∷ []));
  length_is = long;
  behind = behind ∙ sym (piece_since schema s rs r one);
  few = piece_bounds schema s rs r;
}

pub reach_extended : (schema : SchemaValue) (s : ℕ) (held rs : List Record) (r : Record) → is_summary r ≡ false → (e : Extent)
    → ReachesAll e held rs
    → ReachesAll (one_record_longer e (length (flat_map text (piece schema s rs r)))) (held ++ piece schema s rs r)
    (rs ++ piece schema s rs r)
reach_extended schema s held rs r one e was =
    let size : ℕ = length (flat_map text (piece schema s rs r)) in
    let long : e.length ≡ told_length (length (flat_map text held)) = was.length_is in
    let more : length (flat_map text (held ++ piece schema s rs r)) ≡ length (flat_map text held) + size =
    ap length (flat_map-append text held (piece schema s rs r)) ∙ length-append (flat_map text held) (flat_map text (piece schema s rs r)) in
    reach_next schema s held rs r one (one_record_longer e size) (omega (arith, was.count)) (omega (arith, long, more))
    (ap (λ (n : ℕ). if nat_le max_behind (n + 1) then 0 else n + 1) was.behind)

first_more : (as1 bs : List Record) → starts_with_summary as1 ≡ false → starts_with_summary bs ≡ false
    → starts_with_summary (as1 ++ bs) ≡ false
first_more [] bs a b = b
first_more (r ∷ as1) bs a b = a

-- more records behind those that there were
pub reach_more : (e : Extent) (gone held more : List Record) → starts_with_summary more ≡ false → Reaches e gone held
    → Reaches e gone (held ++ more)
reach_more e gone held more none r = record {
  before = r.before;
  behind = r.behind ++ more;
  all = ap (λ (x : List Record). x ++ more) r.all ∙ append_assoc r.before r.behind more;
  count = r.count;
  length_is = r.length_is;
  first_ = first_more r.behind more r.first_ none;
}

pub reach_seam : (e : Extent) (bytes : List ℕ) (gone held : List Record) (rest : List ℕ) → IsLog bytes held rest → Reaches e gone held
    → PartsAt bytes e.length
reach_seam e bytes gone held rest log r = record {
  before = r.before;
  behind = r.behind;
  rest = rest;
  log = subst (λ (x : List Record). IsLog bytes x rest) r.all log;
  place_is = r.length_is;
}

pub behind_is : (e : Extent) (bytes : List ℕ) (gone held : List Record) (rest : List ℕ) → IsLog bytes held rest → (r : Reaches e gone held)
    → (found : List Record) → AreBehind bytes e.length found → found ≡ r.behind
behind_is e bytes gone held rest log r found stand = stand r.before r.behind rest
    (subst (λ (x : List Record). IsLog bytes x rest) r.all log) r.length_is

-- all records are those that are gone, those of the others that stand first, and those behind them
parts_all : (gone held rs before behind : List Record) → rs ≡ gone ++ held → held ≡ before ++ behind
    → plain rs ≡ plain (gone ++ before) ++ plain behind
parts_all gone held rs before behind parts all =
    ap plain (parts ∙ ap (λ (x : List Record). gone ++ x) all ∙ sym (append_assoc gone before behind)) ∙ plain_append (gone ++ before) behind

pub count_more : (e : Extent) (gone held rs : List Record) → rs ≡ gone ++ held → (r : Reaches e gone held) (found : List Record)
    → found ≡ r.behind
    → e.count + length (plain found) ≡ length (plain rs)
count_more e gone held rs parts r found same =
    omega (
      arith,
      ap (λ (x : List Record). length (plain x)) same,
      ap length (parts_all gone held rs r.before r.behind parts r.all),
      length-append (plain (gone ++ r.before)) (plain r.behind),
      r.count,
    )

-- where no summary stands first, leaving them out changes nothing of that
first_plain : (rs : List Record) → starts_with_summary rs ≡ false → starts_with_no_restart (plain rs) ≡ starts_with_no_restart rs
first_plain [] none = refl
first_plain (r ∷ rs) none = ap starts_with_no_restart (plain_cons r rs none)

-- what became of the record in doubt is told by those behind the first ones
pub last_is : (doubt : Option ℕ) (e : Extent) (gone held rs : List Record) → rs ≡ gone ++ held → (r : Reaches e gone held)
    (found : List Record) → found ≡ r.behind
    → ((n : ℕ) → doubt ≡ Some n → n ≡ e.count)
    → found_by doubt found ≡ found_of doubt (plain rs)
last_is None e gone held rs parts r found same place = refl
last_is (Some n) e gone held rs parts r found same place =
    let first : List Record = gone ++ r.before in
    let at : n ≡ length (plain first) = place n refl ∙ r.count in
    let left : drop n (plain rs) ≡ plain r.behind =
    ap (λ (m : ℕ). drop m (plain rs)) at
    ∙ ap (drop (length (plain first))) (parts_all gone held rs r.before r.behind parts r.all)
    ∙ drop-append_seam (plain first) (plain r.behind) in
    let told : starts_with_no_restart (drop n (plain rs)) ≡ starts_with_no_restart found =
    ap starts_with_no_restart left ∙ first_plain r.behind r.first_ ∙ ap starts_with_no_restart (sym same) in
    sym (ap (λ (b : Bool). if b then Kept else Lost) told)

-- and doesn't depend on how many are counted
pub found_counted : (uncounted : ℕ) (doubt : Option ℕ) (found : List Record) → found_by doubt found ≡ found_by (doubt_behind uncounted doubt) found
found_counted uncounted None found = refl
found_counted uncounted (Some n) found = refl

-- A log, cut where a summary's line starts.
use Rattle.std.proofs.Common.{◌≡◌, ◌≢◌, ℕ, ◌+◌, ◌-◌, ◌<◌, ◌≤◌, Bool, true, false, eqb, List, [], ◌∷◌, ◌++◌, length, take, drop, get_or, refl, sym, ap, subst, ◌∙◌, arith, append_assoc}
use Rattle.std.specs.Prelude.{◌||◌}
use Rattle.std.specs.List.{flat_map, list_any, AllByRecursion}
use Rattle.std.proofs.Math.Seq.{get_or-append_seam}
use Rattle.std.proofs.lemmas.Bool.{false≢true}
use Rattle.std.proofs.lemmas.List.{append-nil, take_at, drop_at, drop-drop, length-append, length-drop, get_or-drop}
use Rattle.std.proofs.lemmas.List.Concat.{flat_map-append}
use Rattle.kept_records.specs.declared.record.Record.{Record}
use Rattle.kept_records.specs.declared.record.Record.TheVariants.{Commit, Gift, Accept, Tighten, Restart, Summary}
use Rattle.kept_records.specs.Summary.{SummaryValue, summary_told, summary_record}
use Rattle.kept_records.specs.Text.{text, IsRecord}
use Rattle.kept_records.specs.Logs.{IsLog}
use Rattle.kept_records.specs.ReadingBack.{IsSummaryLine}
use Rattle.kept_records.specs.Stands.{is_summary}
use Rattle.kept_records.proofs.Cursors.{has_lf, is_one, shifted}
use Rattle.kept_records.proofs.Lines.{body, body_without, first_text, regrouped}
use Rattle.kept_records.proofs.Windows.{window_last}
use Rattle.site_step.specs.Shortening.{CanGo, behind_line, IsFrontEnd}
use Rattle.site_step.proofs.FrontEnds.{behind_first}
use Rattle.site_step.proofs.Fronts.{text_long}
use Rattle.site_step.proofs.Prefixes.{all_first, all_last}

-- ---- a summary among records

as_summary : (r : Record) → is_summary r ≡ true → (base : SummaryValue) × (r ≡ summary_record base)
as_summary (Summary epoch rights gifts accepts tightenings) is = (summary_told epoch rights gifts accepts tightenings, refl)
as_summary (Commit txn es) is = absurd (false≢true is)
as_summary (Gift to f k t) is = absurd (false≢true is)
as_summary (Accept from f k t) is = absurd (false≢true is)
as_summary (Tighten f k t) is = absurd (false≢true is)
as_summary (Restart epoch) is = absurd (false≢true is)

any_there : (mid : List Record) (base : SummaryValue) (more : List Record) → list_any is_summary (mid ++ summary_record base ∷ more) ≡ true
any_there [] base more = refl
any_there (r ∷ mid) base more = rw (any_there mid base more) (either (is_summary r))
  where
    either : (b : Bool) → (b || true) ≡ true
    either true = refl
    either false = refl

-- the records in front of a summary, and behind it
record Found (rs : List Record) : Type 0 where
  mid : List Record
  base : SummaryValue
  more : List Record
  parts : rs ≡ mid ++ summary_record base ∷ more

find_by : (r : Record) (rs : List Record) (b : Bool) → is_summary r ≡ b → list_any is_summary (r ∷ rs) ≡ true
    → (list_any is_summary rs ≡ true → Found rs) → Found (r ∷ rs)
find_by r rs true is some more =
    let found = as_summary r is in
    record { mid = []; base = found.0; more = rs; parts = ap (λ (x : Record). x ∷ rs) found.1 }
find_by r rs false is some more =
    let found = more (subst (λ (b : Bool). (b || list_any is_summary rs) ≡ true) is some) in
    record { mid = r ∷ found.mid; base = found.base; more = found.more; parts = ap (λ (l : List Record). r ∷ l) found.parts }

find_summary : (rs : List Record) → list_any is_summary rs ≡ true → Found rs
find_summary [] some = absurd (false≢true some)
find_summary (r ∷ rs) some = find_by r rs (is_summary r) refl some (λ more. find_summary rs more)

-- ---- the line of a summary

-- behind a record, as in kept_records
line_next : (r : Record) (v : SummaryValue) (more : List ℕ) → IsSummaryLine (text r ++ (text (summary_record v) ++ more)) (length (text r))
line_next r v more =
    let next = text (summary_record v) ++ more in
    let size : length (text r) ≡ length (body r) + 1 = length-append (body r) (10 ∷ []) in
    let before : length (text r) - 1 ≡ length (body r) = omega (arith, size) in
    let there : drop (length (text r)) (text r ++ next) ≡ next = drop_at (text r) next (length (text r)) refl in
    record {
      some = omega (arith, size);
      within = omega (arith, length-append (text r) next, length-append (text (summary_record v)) more, text_long (summary_record v));
      behind =
          ap (λ (i : ℕ). get_or (text r ++ next) i 0) before ∙ ap (λ (l : List ℕ). get_or l (length (body r)) 0) (regrouped r next)
          ∙ get_or-append_seam (body r) 10 next 0;
      letter = ap (λ (i : ℕ). get_or (text r ++ next) i 0) (none_added (length (text r)))
          ∙ sym (get_or-drop (length (text r)) (text r ++ next) 0 0) ∙ ap (λ (l : List ℕ). get_or l 0 0) there;
      ends = ap (list_any (λ x. eqb x 10)) there ∙ has_lf (summary_record v) more;
    }
  where
    none_added : (n : ℕ) → n ≡ n + 0
    none_added n = omega arith

-- behind a record and others
line_further : (r : Record) (rs : List Record) (v : SummaryValue) (more : List ℕ)
    → IsSummaryLine (text r ++ (flat_map text rs ++ (text (summary_record v) ++ more))) (length (text r) + length (flat_map text rs))
line_further r [] v more =
    subst (λ (n : ℕ). IsSummaryLine (text r ++ (text (summary_record v) ++ more)) n) (none_added (length (text r))) (line_next r v more)
  where
    none_added : (n : ℕ) → n ≡ n + 0
    none_added n = omega arith
line_further r (q ∷ rs) v more =
    let next = text (summary_record v) ++ more in
    let moved = shifted (text r) (text q ++ (flat_map text rs ++ next)) (length (text q) + length (flat_map text rs)) (line_further q rs v more) in
    subst (λ (n : ℕ). IsSummaryLine (text r ++ (flat_map text (q ∷ rs) ++ next)) (length (text r) + n))
    (sym (length-append (text q) (flat_map text rs)))
    (subst (λ (l : List ℕ). IsSummaryLine (text r ++ l) (length (text r) + (length (text q) + length (flat_map text rs))))
    (sym (append_assoc (text q) (flat_map text rs) next)) moved)

-- the texts of records, cut between two
texts_cut : (before after : List Record) (rest : List ℕ)
    → flat_map text (before ++ after) ++ rest ≡ flat_map text before ++ (flat_map text after ++ rest)
texts_cut before after rest =
    ap (λ (l : List ℕ). l ++ rest) (flat_map-append text before after) ∙ append_assoc (flat_map text before) (flat_map text after) rest

line_of : (bytes : List ℕ) (gone : List Record) (base : SummaryValue) (behind : List Record) → gone ≢ []
    → bytes ≡ flat_map text (gone ++ summary_record base ∷ behind) ++ [] → IsSummaryLine bytes (length (flat_map text gone))
line_of bytes [] base behind some is = absurd (some refl)
line_of bytes (r ∷ gone) base behind some is =
    let next = text (summary_record base) ++ (flat_map text behind ++ []) in
    let last : flat_map text (summary_record base ∷ behind) ++ [] ≡ next = append_assoc (text (summary_record base)) (flat_map text behind) [] in
    let whole : bytes ≡ text r ++ (flat_map text gone ++ next) =
    is ∙ texts_cut (r ∷ gone) (summary_record base ∷ behind) [] ∙ ap (λ (l : List ℕ). flat_map text (r ∷ gone) ++ l) last
    ∙ append_assoc (text r) (flat_map text gone) next in
    subst (λ (n : ℕ). IsSummaryLine bytes n) (sym (length-append (text r) (flat_map text gone)))
    (subst (λ (l : List ℕ). IsSummaryLine l (length (text r) + length (flat_map text gone))) (sym whole)
    (line_further r gone base (flat_map text behind ++ [])))

-- ---- the cut

-- a log's records, cut in front of the summary whose line starts at this place
pub record SplitAt (bytes : List ℕ) (rs : List Record) (place : ℕ) : Type 0 where
  pub gone : List Record
  pub base : SummaryValue
  pub behind : List Record
  pub parts : rs ≡ gone ++ summary_record base ∷ behind
  pub front : IsLog (take place bytes) gone []
  pub stays : IsLog (drop place bytes) (summary_record base ∷ behind) []
  pub size : place ≡ length (flat_map text gone)

split_by : (bytes : List ℕ) (rs before : List Record) (base : SummaryValue) (behind : List Record) (place : ℕ) → IsLog bytes rs []
    → place ≤ length bytes → rs ≡ before ++ summary_record base ∷ behind → IsLog (drop place bytes) (summary_record base ∷ behind) []
    → SplitAt bytes rs place
split_by bytes rs before base behind place log within parts stays =
    let rest = flat_map text (summary_record base ∷ behind) ++ [] in
    let whole : bytes ≡ flat_map text before ++ rest =
    log.parts ∙ ap (λ (x : List Record). flat_map text x ++ []) parts ∙ texts_cut before (summary_record base ∷ behind) [] in
    let size : place ≡ length (flat_map text before) = omega (
      arith,
      ap length whole,
      length-append (flat_map text before) rest,
      ap length stays.parts,
      length-drop place bytes,
      within,
    ) in
    record {
      gone = before;
      base = base;
      behind = behind;
      parts = parts;
      front = record {
        parts = ap (take place) whole ∙ take_at (flat_map text before) rest place (sym size) ∙ sym (append-nil (flat_map text before));
        each = all_first before (summary_record base ∷ behind) (subst (λ (x : List Record). AllByRecursion IsRecord x) parts log.each);
        no_lf = refl;
      };
      stays = stays;
      size = size;
    }

pub split_at : (bytes : List ℕ) (rs : List Record) (place : ℕ) → IsLog bytes rs [] → IsSummaryLine bytes place → SplitAt bytes rs place
split_at bytes rs place log line =
    let last = window_last bytes bytes 0 place rs [] refl line log in by last.before last.records last.parts last.log
  where
    letter : get_or (drop place bytes) 0 0 ≡ 83
    letter = get_or-drop place bytes 0 0 ∙ ap (λ (i : ℕ). get_or bytes i 0) (omega arith) ∙ line.letter

    by : (before records : List Record) → rs ≡ before ++ records → IsLog (drop place bytes) records [] → SplitAt bytes rs place
    by before [] parts stays = absurd (false≢true (sym (ap (list_any (λ x. eqb x 10)) stays.parts) ∙ line.ends))
    by before (r ∷ behind) parts stays =
        let base = as_summary r (is_one r (flat_map text behind ++ [])
        (ap (λ (l : List ℕ). get_or l 0 0) (sym (stays.parts ∙ append_assoc (text r) (flat_map text behind) [])) ∙ letter)) in
        split_by bytes rs before base.0 behind place log (omega (arith, line.within))
        (parts ∙ ap (λ (x : Record). before ++ x ∷ behind) base.1)
        (subst (λ (x : Record). IsLog (drop place bytes) (x ∷ behind) []) base.1 stays)

-- so many bytes stand behind the summary's line
line_behind : (bytes : List ℕ) (r : Record) (behind : List Record) → IsLog bytes (r ∷ behind) [] → behind_line bytes ≡ length (flat_map text behind)
line_behind bytes r behind log =
    ap behind_line (log.parts ∙ first_text r behind []) ∙ behind_first (body r) (flat_map text behind ++ []) (body_without r log.each.0)
    ∙ ap length (append-nil (flat_map text behind))

-- a line of the bytes is one of the rest of them
line_back : (bytes : List ℕ) (place next : ℕ) → place < next → IsSummaryLine bytes next → IsSummaryLine (drop place bytes) (next - place)
line_back bytes place next less line =
    let n : ℕ = next - place in
    let there : place + n ≡ next = omega (arith, less) in
    let before : place + (n - 1) ≡ next - 1 = omega (arith, less) in
    let moved : drop n (drop place bytes) ≡ drop next bytes = drop-drop n place bytes ∙ ap (λ (i : ℕ). drop i bytes) there in
    record {
      some = omega (arith, less);
      within = omega (arith, less, line.within, length-drop place bytes);
      behind = get_or-drop place bytes (n - 1) 0 ∙ ap (λ (i : ℕ). get_or bytes i 0) before ∙ line.behind;
      letter = get_or-drop place bytes n 0 ∙ ap (λ (i : ℕ). get_or bytes i 0) there ∙ line.letter;
      ends = ap (list_any (λ x. eqb x 10)) moved ∙ line.ends;
    }

-- ---- where a front can be let go

-- another summary stands behind the one at the place
another_there : (bytes : List ℕ) (base : SummaryValue) (behind : List Record) (place next : ℕ) → place < next → IsSummaryLine bytes next
    → IsLog (drop place bytes) (summary_record base ∷ behind) [] → list_any is_summary behind ≡ true
another_there bytes base behind place next less line stays =
    let further = split_at (drop place bytes) (summary_record base ∷ behind) (next - place) stays (line_back bytes place next less line) in
    by further.gone further.base further.behind further.parts further.size
  where
    tails : {r : Record} {rest : List Record} → summary_record base ∷ behind ≡ r ∷ rest → behind ≡ rest
    tails same = ap (drop 1) same

    by : (gone : List Record) (other : SummaryValue) (more : List Record)
        → summary_record base ∷ behind ≡ gone ++ summary_record other ∷ more → next - place ≡ length (flat_map text gone)
        → list_any is_summary behind ≡ true
    by [] other more parts size = absurd (omega (arith, size, less))
    by (r ∷ mid) other more parts size = ap (list_any is_summary) (tails parts) ∙ any_there mid other more

pub can_go : (bytes : List ℕ) (keep place : ℕ) (rs : List Record) → IsLog bytes rs [] → IsFrontEnd bytes keep place
    → (split : SplitAt bytes rs place) → CanGo bytes keep split.gone
can_go bytes keep place rs log is split = record {
  base = split.base;
  behind = split.behind;
  some = λ none. omega (arith, is.line.some, split.size, ap (λ (x : List Record). length (flat_map text x)) none);
  log = subst (λ (x : List Record). IsLog bytes x []) split.parts log;
  stays = omega (arith, is.stays, line_behind (drop place bytes) (summary_record split.base) split.behind split.stays);
  another = another_there bytes split.base split.behind place is.next is.behind is.another split.stays;
}

pub stays_enough : (bytes : List ℕ) (keep place : ℕ) (rs : List Record) → IsFrontEnd bytes keep place → SplitAt bytes rs place
    → keep ≤ length (drop place bytes)
stays_enough bytes keep place rs is split =
    let base = text (summary_record split.base) in
    let size : length (drop place bytes) ≡ length (base ++ flat_map text split.behind) =
    ap length (split.stays.parts ∙ append-nil (base ++ flat_map text split.behind)) in
    omega (
      arith,
      is.stays,
      line_behind (drop place bytes) (summary_record split.base) split.behind split.stays,
      size,
      length-append base (flat_map text split.behind),
    )

pub front_ends : (bytes : List ℕ) (keep : ℕ) (gone : List Record) → CanGo bytes keep gone → IsFrontEnd bytes keep (length (flat_map text gone))
front_ends bytes keep gone can =
    let first = summary_record can.base in
    let found = find_summary can.behind can.another in
    let further : List Record = gone ++ first ∷ found.mid in
    let parts : gone ++ first ∷ can.behind ≡ further ++ summary_record found.base ∷ found.more =
    ap (λ (x : List Record). gone ++ first ∷ x) found.parts
    ∙ sym (append_assoc gone (first ∷ found.mid) (summary_record found.base ∷ found.more)) in
    let rest = flat_map text (first ∷ can.behind) ++ [] in
    let whole : bytes ≡ flat_map text gone ++ rest = can.log.parts ∙ texts_cut gone (first ∷ can.behind) [] in
    let place : ℕ = length (flat_map text gone) in
    let stays : IsLog (drop place bytes) (first ∷ can.behind) [] = record {
      parts = ap (drop place) whole ∙ drop_at (flat_map text gone) rest place refl;
      each = all_last gone (first ∷ can.behind) can.log.each;
      no_lf = refl;
    } in
    record {
      line = line_of bytes gone can.base can.behind can.some can.log.parts;
      next = length (flat_map text further);
      behind = omega (
        arith,
        ap length (flat_map-append text gone (first ∷ found.mid)),
        length-append (flat_map text gone) (flat_map text (first ∷ found.mid)),
        length-append (text first) (flat_map text found.mid),
        text_long first,
      );
      another = line_of bytes further found.base found.more (some_more gone first found.mid)
          (can.log.parts ∙ ap (λ (x : List Record). flat_map text x ++ []) parts);
      stays = omega (arith, can.stays, line_behind (drop place bytes) first can.behind stays);
    }
  where
    some_more : (gone : List Record) (first : Record) (mid : List Record) → gone ++ first ∷ mid ≢ []
    some_more [] first mid none = cc
    some_more (r ∷ gone) first mid none = cc

-- A site that is opened behind a base, and the base that its log begins with.
use Rattle.std.proofs.Common.{◌≡◌, ◌≤◌, ℕ, true, false, List, [], ◌∷◌, ◌++◌, Option, None, Some, IfSome, IfNone, refl, sym, ap, ◌∙◌, subst, inr}
use Rattle.std.proofs.lemmas.Option.{same_Some}
use Rattle.std.specs.List.{flat_map, AllByRecursion}
use Rattle.field_bounds.specs.Schema.{SchemaValue}
use Rattle.field_bounds.specs.declared.id.SiteNo.{SiteNo}
use Rattle.field_bounds.specs.declared.id.TxnId.{TxnId}
use Rattle.kept_records.specs.declared.medium.Mishap.TheVariants.{Never}
use Rattle.kept_records.specs.declared.record.Record.{Record}
use Rattle.kept_records.specs.Text.{text, IsRecord}
use Rattle.kept_records.specs.Logs.{HasNoLf, IsLog}
use Rattle.kept_records.specs.Lines.{IsRecordAt, StartsBad}
use Rattle.kept_records.specs.Reading.{record_of}
use Rattle.kept_records.specs.Stands.{is_summary, plain, may_follow, Lawful}
use Rattle.kept_records.specs.Summary.{SummaryValue, summary_record}
use Rattle.kept_records.proofs.Bytes.{one_cut}
use Rattle.kept_records.proofs.Lines.{body, body_without, body_again, regrouped}
use Rattle.kept_records.proofs.Cursors.{no_line}
use Rattle.log_bases.specs.Bases.{IsPast}
use Rattle.log_bases.specs.Pasts.{past_of}
use Rattle.line_words.specs.Words.{words}
use Rattle.log_head.specs.declared.gone.Gone.{Gone}
use Rattle.script_input.specs.Lines.{last_part}
use Rattle.site_step.specs.Site.{SiteValue, Opens}
use Rattle.site_step.specs.Opening.{StartsWith, TellsLineBehind, SparesLogsBehind}
use Rattle.site_step.specs.Shortening.{has_commit}
use Rattle.site_step.specs.declared.site.opening.OpenFault.{OpenFault}
use Rattle.site_step.specs.declared.site.opening.OpenFault.TheVariants.{Device, Line, NoMemory}
use Rattle.site_service.specs.LetGo.{IsTold, let_go_of}
use Rattle.site_service.specs.Behind.{OpensBehind, IsBadBehind}
use Rattle.site_service.specs.Service.{StandsOnHeld}
use Rattle.site_service.proofs.Whole.{last_behind, texts_whole, rest_is_last}
use Rattle.site_service.proofs.Held.{begins_log}
use Rattle.site_service.proofs.PastCommits.{past_early, early_commit, early_passes}

-- ---- what it stands on

pub stands_behind : (schema : SchemaValue) (number : SiteNo) (held : List ℕ) (count : ℕ) (v : SiteValue)
    → Opens schema number (flat_map text v.gone ++ held) count v → last_part held ≡ [] → v.foretold ≡ Some Never
    → AllByRecursion IsRecord v.gone → StandsOnHeld v
stands_behind schema number held count v opens whole never each =
    let all : List ℕ = flat_map text v.gone ++ held in
    let none : opens.rest ≡ [] = sym (rest_is_last all v.based opens.rest opens.based)
    ∙ last_behind (flat_map text v.gone) held (texts_whole v.gone) ∙ whole in
    let log : IsLog v.bytes v.based [] = subst (λ (bytes : List ℕ). IsLog bytes v.based []) (sym opens.bytes)
    (subst (IsLog all v.based) none opens.based) in
    let lawful : Lawful v.schema v.site.0 v.based = subst (λ (s : SiteNo). Lawful v.schema s.0 v.based) (sym opens.site)
    (subst (λ (s : SchemaValue). Lawful s number.0 v.based) (sym opens.schema) opens.lawful) in
    let more = begins_log v.bytes v.gone held v.based [] opens.bytes each log in
    record {
      never = never;
      records = plain v.based;
      log = record { all = v.based; log = log; lawful = lawful; told = refl };
      held = more.0;
      parts = more.1;
    }

-- ---- by a copy of the bytes, behind the records that the base may stand behind by its numbers

module _ (schema : SchemaValue) (number : SiteNo) (held bytes : List ℕ) (base : SummaryValue) (copied : bytes ≡ held)
    (first : StartsWith held base) (past : IsPast schema number.0 base (past_of schema number.0 base)) where
  pub opens_base : (v : SiteValue) → Opens schema number (flat_map text (past_of schema number.0 base) ++ bytes) 0 v
      → v.gone ≡ past_of schema number.0 base → OpensBehind schema number held v
  opens_base v opens gone = record {
    base = base;
    first = first;
    past = subst (IsPast schema number.0 base) (sym gone) past;
    opens = subst (λ (b : List ℕ). Opens schema number (flat_map text v.gone ++ b) 0 v) copied
        (subst (λ (rs : List Record). Opens schema number (flat_map text rs ++ bytes) 0 v) (sym gone) opens);
  }

  pub bad_behind : (fault : OpenFault) → TellsLineBehind schema number.0 (past_of schema number.0 base) bytes fault
      → SparesLogsBehind schema number.0 (past_of schema number.0 base) bytes fault → IsBadBehind schema number held fault
  bad_behind (Line n) tells spares = inr (record {
    base = base;
    first = first;
    past = past_of schema number.0 base;
    is_past = past;
    tells = subst (λ (b : List ℕ). TellsLineBehind schema number.0 (past_of schema number.0 base) b (Line n)) copied tells;
    spares = subst (λ (b : List ℕ). SparesLogsBehind schema number.0 (past_of schema number.0 base) b (Line n)) copied spares;
  })
  bad_behind Device tells spares = tt
  bad_behind NoMemory tells spares = tt

pub early_gone : (schema : SchemaValue) (number : SiteNo) (base : SummaryValue) (gone : List Record) → gone ≡ past_of schema number.0 base
    → (txn : TxnId) → has_commit txn gone ≡ true → txn.epoch ≡ 0
early_gone schema number base gone is txn has =
    early_commit (past_of schema number.0 base) txn (past_early schema number.0 base) (sym (ap (has_commit txn) is) ∙ has)

-- ---- what is told

pub early_told : (gone : List Record) (told : Gone) → 1 ≤ told.horizon.epoch → ((txn : TxnId) → has_commit txn gone ≡ true → txn.epoch ≡ 0)
    → IsTold (let_go_of gone (Some told))
early_told gone told late early = record {
  none = λ none. let e : ◌≡◌ {A = Option Gone} (Some told) None = none in absurd cc;
  horizon = λ txn has. early_passes told.horizon late txn (early txn has);
}

-- ---- the record that bytes begin with

one_at : (bytes : List ℕ) (a b : Record) (x y : List ℕ) → IsRecordAt bytes a x → IsRecordAt bytes b y → a ≡ b
one_at bytes a b x y first second =
    let same = one_cut 10 (body a) (body b) x y (body_without a first.fits) (body_without b second.fits)
    (sym (regrouped a x) ∙ sym first.parts ∙ second.parts ∙ regrouped b y) in
    same_Some a b (sym (body_again a first.fits) ∙ ap (λ (l : List ℕ). record_of (words l)) same.front ∙ body_again b second.fits)

pub starts_if : (told : Option SummaryValue) (bytes : List ℕ) (r : Record) (behind : List ℕ) → IsRecordAt bytes r behind
    → IfSome told (λ base. summary_record base ≡ r) → IfSome told (StartsWith bytes)
starts_if None bytes r behind at is = tt
starts_if (Some base) bytes r behind at is = (behind, subst (λ (x : Record). IsRecordAt bytes x behind) (sym is) at)

pub none_if : (told : Option SummaryValue) (bytes : List ℕ) (r : Record) (behind : List ℕ) → IsRecordAt bytes r behind
    → IfNone told (is_summary r ≡ false) → IfNone told ((base : SummaryValue) → StartsWith bytes base → ⊥)
none_if (Some x) bytes r behind at other = tt
none_if None bytes r behind at other = λ base starts.
    let same : r ≡ summary_record base = one_at bytes r (summary_record base) behind starts.0 at starts.1 in
    let is : is_summary r ≡ true = ap is_summary same in
    let not_so : is_summary r ≡ false = other in
    absurd cc

pub bad_starts : (bytes : List ℕ) → StartsBad bytes → (base : SummaryValue) → StartsWith bytes base → ⊥
bad_starts bytes bad base starts =
    let r : Record = summary_record base in
    let same = one_cut 10 bad.line (body r) bad.behind starts.0 bad.one_line (body_without r starts.1.fits)
    (sym bad.parts ∙ starts.1.parts ∙ regrouped r starts.0) in
    bad.none r starts.1.fits (ap (λ (l : List ℕ). l ++ 10 ∷ []) (sym same.front))

pub end_starts : (bytes : List ℕ) → HasNoLf bytes → (base : SummaryValue) → StartsWith bytes base → ⊥
end_starts bytes none base starts = no_line bytes none base starts.0 starts.1.parts

-- what some records may stand in front of
pub past_one : (schema : SchemaValue) (s : ℕ) (bytes : List ℕ) (a b : SummaryValue) → StartsWith bytes a → StartsWith bytes b
    → (past : List Record) → IsPast schema s a past → IsPast schema s b past
past_one schema s bytes a b first second past is = record {
  each = is.each;
  lawful = is.lawful;
  told = subst (λ (r : Record). may_follow schema s past r ≡ true)
      (one_at bytes (summary_record a) (summary_record b) first.0 second.0 first.1 second.1) is.told;
}

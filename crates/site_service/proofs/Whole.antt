-- A site over a medium that doesn't fail goes on holding whole lines, and only appends.
use Rattle.std.proofs.Common.{◌≡◌, ℕ, ◌+◌, eqb, List, [], ◌∷◌, ◌++◌, Some, refl, sym, ap, ◌∙◌, subst, append_assoc, append-nil}
use Rattle.std.specs.List.{flat_map, list_any}
use Rattle.std.proofs.lemmas.Bool.{or_parts}
use Rattle.field_bounds.specs.Schema.{SchemaValue}
use Rattle.field_bounds.specs.declared.id.SiteNo.{SiteNo}
use Rattle.field_bounds.specs.declared.entry.Command.{Command}
use Rattle.field_bounds.specs.declared.entry.Reply.{Reply}
use Rattle.field_bounds.specs.declared.entry.Reply.TheVariants.{Restarted, Unsure, StillDown, Refused}
use Rattle.field_bounds.specs.Owed.{Place}
use Rattle.kept_records.specs.declared.medium.Mishap.TheVariants.{Never}
use Rattle.kept_records.specs.declared.record.Record.{Record}
use Rattle.kept_records.specs.declared.record.Record.TheVariants as records
use Rattle.kept_records.specs.Text.{text}
use Rattle.kept_records.specs.Logs.{HasNoLf, IsLog}
use Rattle.kept_records.specs.Keeping.{IsKept}
use Rattle.kept_records.specs.Stands.{greatest, piece, plain, Lawful}
use Rattle.kept_records.proofs.Lines.{body}
use Rattle.kept_state.specs.Keeps.{record_left, adds}
use Rattle.script_input.specs.Lines.{last_part, last_part_after}
use Rattle.script_input.proofs.LineLemmas.{last_part_after-append, last_part-broken}
use Rattle.site_step.specs.Site.{SiteValue, here, lines_behind, lines_of, AddsLines, Writes, Holds, Applies, Opens}
use Rattle.site_step.specs.Calls.{IsSure}
use Rattle.site_step.proofs.Lasting.{call_is_sure, call_stays}
use Rattle.site_step.proofs.Lines.{all_stay}
use Rattle.site_service.specs.Service.{IsWhole, Grows}

-- ---- the last line feed

-- bytes behind whole lines
pub last_behind : (lines more : List ℕ) → last_part lines ≡ [] → last_part (lines ++ more) ≡ last_part more
last_behind lines more whole = last_part_after-append [] lines more ∙ ap (λ (front : List ℕ). last_part_after front more) whole

text_whole : (r : Record) → last_part (text r) ≡ []
text_whole r = last_part-broken (body r)

pub texts_whole : (rs : List Record) → last_part (flat_map text rs) ≡ []
texts_whole [] = refl
texts_whole (r ∷ rs) = last_behind (text r) (flat_map text rs) (text_whole r) ∙ texts_whole rs

-- bytes in which no line ends
pub last_unbroken : (front bs : List ℕ) → HasNoLf bs → last_part_after front bs ≡ front ++ bs
last_unbroken front [] none = sym (append-nil front)
last_unbroken front (b ∷ bs) none =
    let parts = or_parts (eqb b 10) (list_any (λ (x : ℕ). eqb x 10) bs) none in
    rw parts.0 (last_unbroken (front ++ b ∷ []) bs parts.1 ∙ append_assoc front (b ∷ []) bs)

-- what stands behind the lines of a log
pub rest_is_last : (bytes : List ℕ) (rs : List Record) (rest : List ℕ) → IsLog bytes rs rest → last_part bytes ≡ rest
rest_is_last bytes rs rest log =
    ap last_part log.parts ∙ last_behind (flat_map text rs) rest (texts_whole rs) ∙ last_unbroken [] rest log.no_lf

-- ---- what a call leaves

lines_whole : (at : Place) (rs left : List Record) → last_part (flat_map (lines_behind at rs) left) ≡ []
lines_whole at rs [] = refl
lines_whole at rs (r ∷ more) =
    last_behind (lines_behind at rs r) (flat_map (lines_behind at rs) more) (texts_whole (piece at.schema at.site rs r))
    ∙ lines_whole at rs more

lines_of_whole : (at : Place) (command : Command) (rs : List Record) → last_part (lines_of at command rs) ≡ []
lines_of_whole at command rs = lines_whole at rs (record_left at command)

adds_whole : (at : Place) (command : Command) (old new : List ℕ) (rs : List Record) → IsLog old rs [] → AddsLines at command old new
    → last_part new ≡ []
adds_whole at command old new rs log adds =
    ap last_part (adds rs [] log) ∙ last_behind old (lines_of at command rs) (rest_is_last old rs [] log) ∙ lines_of_whole at command rs

pub writes_whole : (at : Place) (command : Command) (reply : Reply) (old new : List ℕ) (rs : List Record) → IsLog old rs [] → IsSure reply
    → Writes at command reply old new → last_part new ≡ []
writes_whole at command (Refused refusal) old new rs log sure writes = ap last_part writes ∙ rest_is_last old rs [] log
writes_whole at command Unsure old new rs log sure writes = absurd (sure.0 refl)
writes_whole at command StillDown old new rs log sure writes = absurd (sure.1 refl)
writes_whole at command (Restarted epoch found) old new rs log sure writes =
    let last = records.Restart (greatest rs + 1) in
    ap last_part (writes rs [] log) ∙ last_behind (flat_map text rs) (lines_behind at rs last) (texts_whole rs)
    ∙ texts_whole (piece at.schema at.site rs last)
writes_whole at command reply old new rs log sure writes = adds_whole at command old new rs log writes

pub grows_by : (before later : SiteValue) (command : Command) (reply : Reply) → Applies before command reply later → IsWhole before
    → Grows before later
grows_by before later command reply applies whole =
    let sure = call_is_sure before later whole.records [] command reply whole.log whole.never applies in
    let logs = applies.logs whole.records [] whole.log in
    let end = writes_whole (here before) command reply before.bytes later.bytes whole.log.all whole.log.log sure applies.writes_ in
    let none : logs.rest ≡ [] = sym (rest_is_last later.bytes logs.log.all logs.rest logs.log.log) ∙ end in
    let more = whole.records ++ adds (here before) command reply logs.stood whole.records in
    let added = all_stay before later whole.log.all command reply whole.log.log applies in
    record {
      whole = record {
        never = call_stays before later command reply whole.never applies;
        held = applies.same.gone ∙ whole.held;
        records = more;
        log = subst (Holds later.schema later.site.0 later.bytes more) none logs.log;
      };
      added = added.0;
      bytes = added.1;
      schema = applies.same.schema;
    }

-- a site that is as it was
pub grows_same : (before later : SiteValue) → later ≡ before → IsWhole before → Grows before later
grows_same before later same whole =
    subst (Grows before) (sym same) (record { whole = whole; added = []; bytes = sym (append-nil before.bytes); schema = refl })

-- a site that was opened over whole lines
pub whole_opened : (schema : SchemaValue) (number : SiteNo) (held : List ℕ) (count : ℕ) (v : SiteValue) → Opens schema number held count v
    → last_part held ≡ [] → v.foretold ≡ Some Never → v.gone ≡ [] → IsWhole v
whole_opened schema number held count v opens whole never none_gone =
    let none : opens.rest ≡ [] = sym (rest_is_last held v.based opens.rest opens.based) ∙ whole in
    let log : IsLog v.bytes v.based [] = subst (λ (bytes : List ℕ). IsLog bytes v.based []) (sym opens.bytes)
    (subst (IsLog held v.based) none opens.based) in
    let lawful : Lawful v.schema v.site.0 v.based = subst (λ (s : SiteNo). Lawful v.schema s.0 v.based) (sym opens.site)
    (subst (λ (s : SchemaValue). Lawful s number.0 v.based) (sym opens.schema) opens.lawful) in
    record {
      never = never;
      held = none_gone;
      records = plain v.based;
      log = record { all = v.based; log = log; lawful = lawful; told = refl };
    }

-- what it holds is a log
pub whole_kept : (v : SiteValue) → IsWhole v → IsKept v.bytes
whole_kept v whole = (whole.log.all, [], whole.log.log)

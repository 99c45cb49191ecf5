-- The first line that is written, and the serving behind it.
use Rattle.std.proofs.Common.{◌≡◌, ◌≢◌, ℕ, Bool, List, ◌++◌, length, drop, sym, ap, ◌∙◌, subst, inl, inr, Option, None, Some}
use Rattle.std.specs.Prelude.{IfSome, IfNone}
use Rattle.std.specs.List.{flat_map}
use Rattle.std.specs.Io.KnownBytes.{Appends}
use Rattle.std.proofs.Math.Seq.{drop-append_seam}
use Rattle.script_input.specs.Streams.{AppendsPrefix}
use Rattle.kept_records.specs.Text.{text}
use Rattle.log_head.specs.declared.gone.Gone.{Gone}
use Rattle.log_stand.specs.declared.stand.Stand.{Stand}
use Rattle.log_stand.specs.Stand.{IsStandOf}
use Rattle.held_logs.specs.Counts.{IsStandBehind}
use Rattle.site_step.specs.Site.{SiteValue}
use Rattle.site_step.specs.Shortening.{held_of}
use Rattle.site_service.specs.Answers.{held_in}
use Rattle.site_service.specs.Service.{ServiceValue, IsSettled}
use Rattle.site_folder.specs.Identity.{IdentityValue, log_name}
use Rattle.world_folders.specs.Logs.{HaveCome}
use Rattle.folder_faults.specs.declared.fault.Fault.{Fault}
use Rattle.folder_faults.specs.declared.fault.Why.TheVariants.{Plain}
use Rattle.folder_faults.specs.Faults.{IsRefused}
use Rattle.world_folders.specs.declared.reading.PathFault.{PathFault}
use Rattle.folder_serving.specs.Refusing.{IsPlainFault}
use Rattle.world_folders.specs.Reading.{IsRead}
use Rattle.folder_serving.specs.Serving.{IsNoPlain, version_of, ready_text, IsReadyLine, TellsReady, StopsAtReady}

-- what the medium of a site holds
pub held_medium : (v w : SiteValue) (held : List ℕ) → v.bytes ≡ flat_map text v.gone ++ held → v ≡ w → held ≡ held_of w
held_medium v w held is same =
    sym (ap (drop (length (flat_map text v.gone))) is ∙ drop-append_seam (flat_map text v.gone) held) ∙ ap held_of same

-- how far a log has come, by what is told of it
pub have_come : (told : Option Gone) (records : List ℕ) (stand : Stand) → IfNone told (IsStandOf records stand)
    → IfSome told (λ g. IsStandBehind g records stand) → HaveCome told records stand
have_come None records stand whole behind = whole
have_come (Some g) records stand whole behind = behind

-- the file is no log of version 1
pub no_plain : (holds : List ℕ → List ℕ → Type 0) (path piece : List ℕ) (identity : IdentityValue) (bytes name view prefix : List ℕ)
    → IsRead holds piece bytes → piece ≡ path → name ≡ log_name identity → view ≡ bytes → prefix ≡ name
    → ((rest : List ℕ) → view ≢ prefix ++ rest) → IsNoPlain holds path identity
no_plain holds path piece identity bytes name view prefix read is named view_is prefix_is none = record {
  bytes = bytes;
  read = subst (λ (p : List ℕ). IsRead holds p bytes) is read;
  other = λ rest same. none rest (view_is ∙ same ∙ ap (λ (n : List ℕ). n ++ rest) (sym (prefix_is ∙ named)));
}

-- the file is a log of version 1
pub plain : (fails : List ℕ → PathFault → Type 0) (holds : List ℕ → List ℕ → Type 0) (path piece at : List ℕ) (identity : IdentityValue)
    (bytes name view prefix rest : List ℕ) (fault : Fault) → IsRead holds piece bytes → piece ≡ path → name ≡ log_name identity
    → view ≡ bytes → prefix ≡ name → view ≡ prefix ++ rest → at ≡ path → IsRefused at Plain fault
    → IsPlainFault fails holds path identity fault
plain fails holds path piece at identity bytes name view prefix rest fault read is named view_is prefix_is begins place told =
    inr (inl (record {
      bytes = bytes;
      read = subst (λ (p : List ℕ). IsRead holds p bytes) is read;
      rest = rest;
      is = sym view_is ∙ begins ∙ ap (λ (n : List ℕ). n ++ rest) (prefix_is ∙ named);
      told = subst (λ (p : List ℕ). IsRefused p Plain fault) place told;
    }))

-- the line that tells it
pub ready_line : (shortens : Bool) (service : ServiceValue) (first again : Option Gone) (records : List ℕ) (stand : Stand) (version : ℕ)
    (line : List ℕ) → first ≡ service.served.let_go.told → again ≡ service.served.let_go.told → records ≡ held_in service.served
    → HaveCome first records stand → version ≡ version_of again shortens → line ≡ ready_text version stand
    → IsReadyLine shortens service line
ready_line shortens service first again records stand version line is too held come told text = record {
  stand = stand;
  stand_is = subst (λ (b : List ℕ). HaveCome service.served.let_go.told b stand) held
      (subst (λ (g : Option Gone). HaveCome g records stand) is come);
  text = text ∙ ap (λ (n : ℕ). ready_text n stand) (told ∙ ap (λ (g : Option Gone). version_of g shortens) too);
}

pub tells : (shortens : Bool) (before after : Option (List ℕ)) (service : ServiceValue) (line piece : List ℕ) → IsSettled service
    → IsReadyLine shortens service line → piece ≡ line → Appends before after piece → TellsReady shortens before after service
tells shortens before after service line piece safe told text written = record {
  safe = safe;
  line = line;
  line_is = told;
  written = subst (λ (p : List ℕ). Appends before after p) text written;
}

pub stops : (shortens : Bool) (before after : Option (List ℕ)) (service : ServiceValue) (line piece : List ℕ)
    → IsReadyLine shortens service line → piece ≡ line → AppendsPrefix before after piece → StopsAtReady shortens before after service
stops shortens before after service line piece told text written = inr (
  line,
  told,
  subst (λ (p : List ℕ). AppendsPrefix before after p) text written,
)

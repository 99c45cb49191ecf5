-- What the calls of a session do.
use Rattle.std.proofs.Common.{◌≡◌, ℕ, List, [], ◌++◌, codes, Option, Some, None, refl, ap, ◌∙◌, subst}
use Rattle.field_bounds.specs.Schema.{SchemaValue}
use Rattle.field_bounds.specs.declared.id.SiteNo.{SiteNo}
use Rattle.field_bounds.specs.declared.entry.Command.{Command}
use Rattle.field_bounds.specs.declared.entry.Reply.{Reply}
use Rattle.field_bounds.specs.declared.entry.Reply.TheVariants.{Begun, Granted, Committed, Aborted, Given, Stated, Spared, Tightened, Accepted, Between, Shares, Restarted, Unsure, StillDown, Refused}
use Rattle.field_bounds.specs.declared.entry.Last.{Last}
use Rattle.field_bounds.specs.declared.entry.Last.TheVariants.{Nothing}
use Rattle.entry_text.specs.Spelling.{reply_text}
use Rattle.entry_text.proofs.Entries.{entry_line}
use Rattle.kept_records.specs.declared.record.Record.{Record}
use Rattle.kept_state.specs.Doubt.{found_of}
use Rattle.site_step.specs.Calls.{IsSure}
use Rattle.site_step.specs.Site.{SiteValue, Applies, Opens, Logs, RestartsOver, doubt_from, entry_of}
use Rattle.site_step.proofs.Lasting.{call_is_sure}
use Rattle.site_step.specs.Opening.{TellsLine, IsFirstBad}
use Rattle.site_step.specs.declared.site.opening.OpenFault.{OpenFault}
use Rattle.site_step.specs.declared.site.opening.OpenFault.TheVariants.{Line}
use Rattle.kept_records.specs.declared.medium.Mishap.TheVariants.{Never}
use Rattle.script_input.specs.Lines.{last_part}
use Rattle.request_lines.specs.Requests.{Asks}
use Rattle.site_service.proofs.Whole.{grows_by, whole_opened}
use Rattle.site_handle.specs.Session.{IsSoundSession, Answers, Tells}

-- what is in doubt behind an answer that isn't
clear_after : (reply : Reply) (rs : List Record) (doubt : Option ℕ) → IsSure reply → doubt ≡ None → doubt_from reply rs doubt ≡ None
clear_after Unsure rs doubt sure is = absurd (sure.0 refl)
clear_after StillDown rs doubt sure is = absurd (sure.1 refl)
clear_after (Restarted epoch found) rs doubt sure is = refl
clear_after (Refused refusal) rs doubt sure is = is
clear_after (Begun txn) rs doubt sure is = is
clear_after Granted rs doubt sure is = is
clear_after Committed rs doubt sure is = is
clear_after Aborted rs doubt sure is = is
clear_after (Given total) rs doubt sure is = is
clear_after (Stated total) rs doubt sure is = is
clear_after (Spared amount total) rs doubt sure is = is
clear_after (Tightened total) rs doubt sure is = is
clear_after (Accepted gain) rs doubt sure is = is
clear_after (Between lo hi) rs doubt sure is = is
clear_after (Shares lower raise) rs doubt sure is = is

-- what a restart finds where nothing is in doubt
nothing_found : (reply : Reply) (rs : List Record) (doubt : Option ℕ) (rest : List ℕ) → doubt ≡ None → RestartsOver reply rs doubt rest
    → (epoch : ℕ) (found : Last) → reply ≡ Restarted epoch found → found ≡ Nothing
nothing_found reply rs doubt rest clear over epoch found is =
    (subst (λ (r : Reply). RestartsOver r rs doubt rest) is over).1 ∙ ap (λ (d : Option ℕ). found_of d rs) clear

module _ (before later : SiteValue) (command : Command) (reply : Reply) (sound : IsSoundSession before)
    (applies : Applies before command reply later) where
  sure : IsSure reply
  sure = call_is_sure before later sound.whole.records [] command reply sound.whole.log sound.whole.never applies

  logs : Logs before command reply later sound.whole.records
  logs = applies.logs sound.whole.records [] sound.whole.log

  pub answers_by : Answers before command reply later
  answers_by = record {
    applies = applies;
    grows = grows_by before later command reply applies sound.whole;
    sure = sure;
    nothing = nothing_found reply sound.whole.records before.doubt logs.rest sound.clear logs.restarts;
  }

  -- a session whose site went on
  pub sound_by : IsSoundSession later
  sound_by = record {
    whole = answers_by.grows.whole;
    clear = logs.doubt ∙ clear_after reply sound.whole.records before.doubt sure sound.clear;
  }

-- a session over whole lines, of a copy of the bytes
pub opened_by : (schema : SchemaValue) (number : SiteNo) (lines bytes : List ℕ) (site : SiteValue) → bytes ≡ lines → last_part lines ≡ []
    → Opens schema number bytes 0 site → site.foretold ≡ Some Never → site.gone ≡ [] → IsSoundSession site
opened_by schema number lines bytes site copied whole opens never none_gone =
    let here : Opens schema number lines 0 site = subst (λ (held : List ℕ). Opens schema number held 0 site) copied opens in
    record { whole = whole_opened schema number lines 0 site here whole never none_gone; clear = here.doubt }

-- the first bad line, by a copy
pub bad_by : (schema : SchemaValue) (s : ℕ) (lines bytes : List ℕ) (fault : OpenFault) (n : ℕ) → bytes ≡ lines
    → fault ≡ Line n → TellsLine schema s bytes fault → IsFirstBad schema s lines n
bad_by schema s lines bytes fault n copied is tells =
    subst (λ (held : List ℕ). IsFirstBad schema s held n) copied (subst (λ (f : OpenFault). TellsLine schema s bytes f) is tells)

-- the line that asks a command, an arrow and the reply are the entry's text
pub told_by : (before later : SiteValue) (line : List ℕ) (command : Command) (reply : Reply) (none text : List ℕ)
    → Asks before.schema before.site line command → Answers before command reply later → none ≡ []
    → text ≡ none ++ (line ++ (codes " -> " ++ reply_text reply)) → Tells before line text later
told_by before later line command reply none text asks answers is told =
    let behind : List ℕ = codes " -> " ++ reply_text reply in
    record {
      command = command;
      reply = reply;
      asked = asks;
      answers = answers;
      told = told ∙ ap (λ (l : List ℕ). l ++ (line ++ behind)) is ∙ ap (λ (l : List ℕ). l ++ behind) asks.text
          ∙ entry_line before.schema (entry_of before command reply);
    }

-- What keeps the link between a medium and its log.
use Rattle.std.proofs.Common.{◌≡◌, ℕ, Bool, true, false, List, [], ◌∷◌, ◌++◌, length, take, drop, Option, None, Some, Result, Ok, Err, IfErr, OnErr, refl, sym, ap, ◌∙◌, subst, append_assoc, append-nil, arith}
use Rattle.std.proofs.lemmas.List.{length-append, take-append-le, take_all, drop_all}
use Rattle.std.specs.Io.KnownBytes.{Appends, append_known}
use Rattle.field_bounds.specs.Schema.{SchemaValue}
use Rattle.field_bounds.specs.declared.id.SiteNo.{SiteNo}
use Rattle.field_bounds.specs.declared.entry.Command.{Command}
use Rattle.field_bounds.specs.declared.entry.Command.TheVariants.{Restart}
use Rattle.kept_records.specs.declared.medium.MediumFault.{MediumFault}
use Rattle.kept_records.specs.declared.medium.MediumFault.TheVariants as medium_faults
use Rattle.site_step.specs.Site.{SiteValue, Opens}
use Rattle.site_step.specs.Shortening.{held_of}
use Rattle.log_head.specs.declared.gone.Gone.{Gone}
use Rattle.site_step.specs.Opening.{TellsLine, SparesLogs, fault_of}
use Rattle.site_step.specs.declared.site.opening.OpenFault.{OpenFault}
use Rattle.site_step.specs.declared.site.opening.OpenFault.TheVariants.{Device, Line, NoMemory}
use Rattle.file_medium.specs.Copies.{IsCopyOf}
use Rattle.std.specs.List.{flat_map}
use Rattle.kept_records.specs.declared.record.Record.{Record}
use Rattle.kept_records.specs.Logs.{IsLog}
use Rattle.caller_keys.specs.Keys.{KeyNote, note_line, IsKeyed, AreLines, last_txn}
use Rattle.site_service.specs.declared.kept.KeptCommits.{KeptCommits}
use Rattle.site_service.specs.Kept.{LastNotes, last_of}
use Rattle.site_service.specs.LetGo.{IsTold, let_go_of, nothing_gone}
use Rattle.site_service.specs.Index.{IsIndexOf, AreNoteLines, IsBehind, IsFollowed, GoesOn, IsSoundService}
use Rattle.site_service.proofs.KeyedTexts.{keyed_more, lines_more, some_line}
use Rattle.site_service.proofs.Held.{held_log, held_goes, tells_whole}
use Rattle.site_service.specs.Answers.{Served, served_of, whole_of, held_in, Answered}
use Rattle.site_service.specs.Opening.{HoldsRecords, IsSafe, IsStarted, IsOpened, TellsBadLine}
use Rattle.script_input.specs.Streams.{AppendsPrefix, one_more}
use Rattle.site_service.specs.declared.fault.ServeFault.{ServeFault}
use Rattle.site_service.specs.declared.fault.ServeFault.TheVariants as faults
use Rattle.site_service.specs.Service.{ServiceValue, value_of, StandsOnHeld, HoldsText, AddsNotesFirst, IsSettled, KeepsLog, Tells, TellsEntry, HasApplied, HasAnswered, LetsOut, HoldsBack}

pub copy_more : (known : Option (List ℕ)) (held more : List ℕ) → IsCopyOf known held → IsCopyOf (append_known known more) (held ++ more)
copy_more None held more is = is
copy_more (Some xs) held more is = ap (λ (l : List ℕ). l ++ more) is

all_of : (bytes : List ℕ) → take (length bytes) bytes ≡ bytes
all_of bytes = take_all (length bytes) bytes (omega arith)

-- the text of a settled log
pub settled_text : (v : ServiceValue) → IsSettled v → HoldsText v.safe v.served.last (held_in v.served)
settled_text v settled = record { text = settled.text; copy = settled.safe; is = settled.is }

module _ (site : SiteValue) (last : LastNotes) (told : Option Gone) (lines : ℕ) (waiting : List ℕ) (log safe : Option (List ℕ))
    (least : Option ℕ) (settled : ℕ) (lost : Bool) (kept : KeptCommits) (unlogged : List ℕ)
    (sound : IsSoundService site (value_of site last told lines waiting log safe least settled lost) kept unlogged) where
  -- the site goes on, and lines are answered
  pub sound_grows : (later : SiteValue) (now : LastNotes) (more : ℕ) (text : List ℕ) (set : KeptCommits) (new : List ℕ) → GoesOn site later
      → IsIndexOf set (held_of later) → ((notes : List KeyNote) → IsBehind notes unlogged last → IsBehind notes new now)
      → IsSoundService later (value_of later now told more text log safe least settled lost) set new
  sound_grows later now more text set new grows index noting =
      let link = sound.linked in
      let behind = noting link.notes (record { more = link.more; lines = sound.noting; tells = link.tells }) in
      let grown = held_goes site later link.stands grows in
      let front : take settled (held_of later) ≡ take settled (held_of site) =
      ap (take settled) grown ∙ take-append-le settled (held_of site) grows.added link.within in
      record {
        linked = record {
          stands = grows.stands;
          let_go = subst (λ (rs : List Record). IsTold (let_go_of rs told)) (sym grows.gone) link.let_go;
          within = omega (arith, link.within, ap length grown, length-append (held_of site) grows.added);
          text = link.text;
          lines = link.lines;
          notes = link.notes;
          keyed = subst (IsKeyed link.text link.notes) (sym front) link.keyed;
          more = behind.more;
          tells = behind.tells;
          safe = link.safe;
          log = link.log;
        };
        index = index;
        noting = behind.lines;
      }

  -- what waits is another text
  pub sound_waits : (text : List ℕ) → IsSoundService site (value_of site last told lines text log safe least settled lost) kept unlogged
  sound_waits text =
      let link = sound.linked in
      record {
        linked = record {
          stands = link.stands;
          let_go = link.let_go;
          within = link.within;
          text = link.text;
          lines = link.lines;
          notes = link.notes;
          keyed = link.keyed;
          more = link.more;
          tells = link.tells;
          safe = link.safe;
          log = link.log;
        };
        index = sound.index;
        noting = sound.noting;
      }

  -- more of the medium was looked at
  pub sound_looked : (set : KeptCommits) → IsIndexOf set (held_of site)
      → IsSoundService site (value_of site last told lines waiting log safe least settled lost) set unlogged
  sound_looked set index = record { linked = sound.linked; index = index; noting = sound.noting }

  -- a call of the file has failed
  pub sound_lost : (fewest : Option ℕ) (other now : Option (List ℕ))
      → IsSoundService site (value_of site last told lines waiting other now fewest settled true) kept unlogged
  sound_lost fewest other now =
      let link = sound.linked in
      record {
        linked = record {
          stands = link.stands;
          let_go = link.let_go;
          within = link.within;
          text = link.text;
          lines = link.lines;
          notes = link.notes;
          keyed = link.keyed;
          more = link.more;
          tells = link.tells;
          safe = λ h. cc;
          log = λ h. cc;
        };
        index = sound.index;
        noting = sound.noting;
      }

  -- the file is as it was
  pub sound_put : (other now : Option (List ℕ)) (fewest : Option ℕ) → other ≡ log → now ≡ safe → fewest ≡ least
      → IsSoundService site (value_of site last told lines waiting other now fewest settled lost) kept unlogged
  sound_put other now fewest same_log same_safe same_least =
      let link = sound.linked in
      record {
        linked = record {
          stands = link.stands;
          let_go = link.let_go;
          within = link.within;
          text = link.text;
          lines = link.lines;
          notes = link.notes;
          keyed = link.keyed;
          more = link.more;
          tells = link.tells;
          safe = λ h. subst (λ (k : Option (List ℕ)). IsCopyOf k link.text) (sym same_safe) (link.safe h);
          log = λ h. subst (λ (k : Option (List ℕ)). IsCopyOf k link.text) (sym same_log) (link.log h);
        };
        index = sound.index;
        noting = sound.noting;
      }

  -- the text that the log holds once it has got the lines of notes, and the rest of what the medium holds
  abbrev grown_text : List ℕ
  grown_text = (sound.linked.text ++ unlogged) ++ drop settled (held_of site)

  site_log : IsLog (held_of site) sound.linked.stands.held []
  site_log = held_log site sound.linked.stands

  grown_keyed : IsKeyed grown_text (sound.linked.notes ++ sound.linked.more) (held_of site)
  grown_keyed =
      let link = sound.linked in
      subst (λ (l : List ℕ). IsKeyed ((link.text ++ l) ++ drop settled (held_of site)) (link.notes ++ link.more) (held_of site)) (sym sound.noting.lines)
      (keyed_more link.text link.notes link.more settled (held_of site) link.stands.held link.lines link.keyed sound.noting.each site_log)

  grown_lines : AreLines grown_text
  grown_lines =
      let link = sound.linked in
      subst (λ (l : List ℕ). AreLines ((link.text ++ l) ++ drop settled (held_of site))) (sym sound.noting.lines)
      (lines_more link.text link.more settled (held_of site) link.stands.held link.lines site_log)

  grown_copy : lost ≡ false → IsCopyOf (append_known (append_known log unlogged) (drop settled (held_of site))) grown_text
  grown_copy fine =
      copy_more (append_known log unlogged) (sound.linked.text ++ unlogged) (drop settled (held_of site))
      (copy_more log sound.linked.text unlogged (sound.linked.log fine))

  -- the log has got all
  pub sound_follows : (later : LastNotes) (fewest : Option ℕ) (grown now : Option (List ℕ)) (all : ℕ) (none : List ℕ) → later ≡ last
      → lost ≡ false → grown ≡ append_known (append_known log unlogged) (drop settled (held_of site)) → now ≡ grown → all ≡ length (held_of site)
      → none ≡ [] → IsSoundService site (value_of site later told lines waiting grown now fewest all lost) kept none
  sound_follows later fewest grown now all none same fine is kept_all size empty =
      let link = sound.linked in
      let copy : IsCopyOf grown grown_text = subst (λ (k : Option (List ℕ)). IsCopyOf k grown_text) (sym is) (grown_copy fine) in
      let taken : take all (held_of site) ≡ (held_of site) = ap (λ n. take n (held_of site)) size ∙ all_of (held_of site) in
      record {
        linked = record {
          stands = link.stands;
          let_go = link.let_go;
          within = omega (arith, size);
          text = grown_text;
          lines = grown_lines;
          notes = link.notes ++ link.more;
          keyed = subst (IsKeyed grown_text (link.notes ++ link.more)) (sym taken) grown_keyed;
          more = [];
          tells = λ key. ap (λ (f : LastNotes). last_of f key) same ∙ link.tells key
              ∙ ap (last_txn key) (sym (append-nil (link.notes ++ link.more)));
          safe = λ h. subst (λ (k : Option (List ℕ)). IsCopyOf k grown_text) (sym kept_all) copy;
          log = λ h. copy;
        };
        index = sound.index;
        noting = record { each = tt; lines = empty };
      }

  pub settled_follows : (later : LastNotes) (fewest : Option ℕ) (grown now : Option (List ℕ)) (all : ℕ) → later ≡ last → lost ≡ false
      → grown ≡ append_known (append_known log unlogged) (drop settled (held_of site)) → now ≡ grown
      → IsSettled (value_of site later told lines waiting grown now fewest all lost)
  settled_follows later fewest grown now all same fine is kept_all =
      let copy : IsCopyOf grown grown_text = subst (λ (k : Option (List ℕ)). IsCopyOf k grown_text) (sym is) (grown_copy fine) in
      record {
        sound = fine;
        text = grown_text;
        is = record {
          notes = sound.linked.notes ++ sound.linked.more;
          keyed = grown_keyed;
          tells = λ key. ap (λ (f : LastNotes). last_of f key) same ∙ sound.linked.tells key;
        };
        log = copy;
        safe = subst (λ (k : Option (List ℕ)). IsCopyOf k grown_text) (sym kept_all) copy;
      }

  -- notes first
  pub adds_first : (grown : Option (List ℕ)) → grown ≡ append_known (append_known log unlogged) (drop settled (held_of site)) → (text : List ℕ)
      → IsCopyOf log text → AddsNotesFirst grown text settled (held_of site)
  adds_first grown is text copy = record {
    notes = sound.linked.more;
    each = sound.noting.each;
    copy = subst (λ (k : Option (List ℕ)). IsCopyOf k ((text ++ flat_map note_line sound.linked.more) ++ drop settled (held_of site))) (sym is)
        (subst (λ (l : List ℕ). IsCopyOf (append_known (append_known log unlogged) (drop settled (held_of site))) ((text ++ l) ++ drop settled (held_of site)))
        sound.noting.lines
        (copy_more (append_known log unlogged) (text ++ unlogged) (drop settled (held_of site)) (copy_more log text unlogged copy)));
  }

  none_more : (more : List KeyNote) → AreNoteLines unlogged more → unlogged ≡ [] → more ≡ []
  none_more [] noting none = refl
  none_more (n ∷ ns) noting none =
      absurd (some_line n (flat_map note_line ns) (sym noting.lines ∙ none))

  -- all is settled
  pub settled_all : lost ≡ false → settled ≡ length (held_of site) → unlogged ≡ []
      → IsSettled (value_of site last told lines waiting log safe least settled lost)
  settled_all fine all none =
      let link = sound.linked in
      let whole : take settled (held_of site) ≡ (held_of site) = ap (λ n. take n (held_of site)) all ∙ all_of (held_of site) in
      let nothing : link.notes ++ link.more ≡ link.notes =
      ap (λ (ns : List KeyNote). link.notes ++ ns) (none_more link.more sound.noting none) ∙ append-nil link.notes in
      record {
        sound = fine;
        text = link.text;
        is = record {
          notes = link.notes;
          keyed = subst (IsKeyed link.text link.notes) whole link.keyed;
          tells = λ key. link.tells key ∙ ap (last_txn key) nothing;
        };
        log = link.log fine;
        safe = link.safe fine;
      }

-- nothing is added
pub adds_nothing : (v : ServiceValue) (text : List ℕ) → v.settled ≡ length (held_in v.served) → IsCopyOf v.log text
    → AddsNotesFirst v.log text v.settled (held_in v.served)
adds_nothing v text all copy =
    let none : drop v.settled (held_in v.served) ≡ [] = drop_all v.settled (held_in v.served) (omega (arith, all)) in
    record {
      notes = [];
      each = tt;
      copy = subst (IsCopyOf v.log) (sym (ap (λ (l : List ℕ). (text ++ []) ++ l) none ∙ append-nil (text ++ []) ∙ append-nil text)) copy;
    }

-- a text that the log held stands in front of what was added
pub front_safe : (log now : Option (List ℕ)) (first second text : List ℕ) → now ≡ append_known (append_known log first) second
    → IsCopyOf log text → IsSafe now text
front_safe None now first second text is copy = subst (λ (k : Option (List ℕ)). IsSafe k text) (sym is) tt
front_safe (Some xs) now first second text is copy =
    subst (λ (k : Option (List ℕ)). IsSafe k text) (sym is)
    (first ++ second, append_assoc xs first second ∙ ap (λ (l : List ℕ). l ++ (first ++ second)) copy)

-- what is safe of it is the text
pub copy_safe : (safe : Option (List ℕ)) (text : List ℕ) → IsCopyOf safe text → IsSafe safe text
copy_safe None text copy = tt
copy_safe (Some xs) text copy = ([], copy ∙ sym (append-nil text))

-- ---- a log that was read

-- a new service over what was read
pub sound_opened : (site : SiteValue) (last : LastNotes) (told : Option Gone) (lines : ℕ) (waiting : List ℕ)
    (log safe : Option (List ℕ)) (least : Option ℕ) (settled : ℕ) (kept : KeptCommits) (unlogged : List ℕ) → StandsOnHeld site → IsTold (let_go_of site.gone told) → settled ≡ length (held_of site) → IsFollowed log safe last (held_of site)
    → IsIndexOf kept (held_of site) → unlogged ≡ []
    → IsSoundService site (value_of site last told lines waiting log safe least settled false) kept unlogged
sound_opened site last told lines waiting log safe least settled kept unlogged stands let_go size follows index none =
    let all : take settled (held_of site) ≡ held_of site = ap (λ n. take n (held_of site)) size ∙ all_of (held_of site) in
    record {
      linked = record {
        stands = stands;
        let_go = let_go;
        within = omega (arith, size);
        text = follows.text;
        lines = follows.lines;
        notes = follows.is.notes;
        keyed = subst (IsKeyed follows.text follows.is.notes) (sym all) follows.is.keyed;
        more = [];
        tells = λ key. follows.is.tells key ∙ ap (last_txn key) (sym (append-nil follows.is.notes));
        safe = λ h. follows.safe;
        log = λ h. follows.log;
      };
      index = index;
      noting = record { each = tt; lines = none };
    }

-- only a bad line is named
pub names_none : (schema : SchemaValue) (number : SiteNo) (known : Option (List ℕ)) (fault : MediumFault)
    → TellsBadLine schema number known (fault_of fault)
names_none schema number known medium_faults.Device = tt
names_none schema number known medium_faults.NoMemory = tt

pub not_a_line : (fault : MediumFault) (n : ℕ) → fault_of fault ≡ Line n → ⊥
not_a_line medium_faults.Device n is = cc
not_a_line medium_faults.NoMemory n is = cc

pub names_line : (schema : SchemaValue) (number : SiteNo) (known : Option (List ℕ)) (held : List ℕ) (last : LastNotes) (records : List ℕ)
    (fault : OpenFault) → HoldsRecords known held last records → TellsLine schema number.0 records fault
    → SparesLogs schema number.0 records fault → TellsBadLine schema number known fault
names_line schema number known held last records (Line n) holds tells spares =
    record { held = held; last = last; records = records; holds = holds; tells = tells; spares = spares }
names_line schema number known held last records Device holds tells spares = tt
names_line schema number known held last records NoMemory holds tells spares = tt

-- ---- what a release leaves

pub on_write : {T : Type 0} (r : Result T ServeFault) (P : Type 0) (Q : ServeFault → Type 0) → (P → Q faults.Write)
    → IfErr r (λ fault. fault ≡ faults.Write) → OnErr r P → IfErr r Q
on_write (Ok x) P Q f is p = tt
on_write (Err fault) P Q f is p = subst Q (sym is) (f p)

module _ (site : SiteValue) (last : LastNotes) (told : Option Gone) (lines : ℕ) (waiting : List ℕ) (log safe : Option (List ℕ))
    (least : Option ℕ) (settled : ℕ) (lost : Bool) (old v : ServiceValue) (is : value_of site last told lines waiting log safe least settled lost ≡ v) (same : v.waiting ≡ old.waiting) (has : IsSettled v) (left : List ℕ)
    (none : left ≡ []) where
  texts_same : waiting ≡ old.waiting
  texts_same = ap (λ (s : ServiceValue). s.waiting) is ∙ same

  still_settled : IsSettled (value_of site last told lines left log safe least settled lost)
  still_settled = let here = subst IsSettled (sym is) has in
      record { sound = here.sound; text = here.text; is = here.is; log = here.log; safe = here.safe }

  pub lets_out : (before after : Option (List ℕ)) → Appends before after waiting
      → LetsOut before after old (value_of site last told lines left log safe least settled lost)
  lets_out before after out = record { settled = still_settled; out = subst (Appends before after) texts_same out; waiting = none }

  pub holds_back : (before after : Option (List ℕ)) → AppendsPrefix before after waiting
      → HoldsBack before after old (value_of site last told lines left log safe least settled lost) faults.Write
  holds_back before after front = (still_settled, subst (AppendsPrefix before after) texts_same front, none)

-- ---- what the calls leave, by the fields

module _ (site : SiteValue) (last : LastNotes) (told : Option Gone) (lines : ℕ) (waiting : List ℕ) (log safe : Option (List ℕ))
    (least : Option ℕ) (settled : ℕ) (lost : Bool) (v : ServiceValue) (is : value_of site last told lines waiting log safe least settled lost ≡ v) where
  pub log_kept : (later : SiteValue) (now : LastNotes) (more : ℕ) (text : List ℕ)
      → KeepsLog v (value_of later now told more text log safe least settled lost)
  log_kept later now more text = record {
    log = ap (λ (s : ServiceValue). s.log) is;
    safe = ap (λ (s : ServiceValue). s.safe) is;
    least = ap (λ (s : ServiceValue). s.least) is;
    settled = ap (λ (s : ServiceValue). s.settled) is;
    lost = ap (λ (s : ServiceValue). s.lost) is;
  }

  pub waits_same : (text : List ℕ) → text ≡ waiting → text ≡ v.waiting
  waits_same text same = same ∙ ap (λ (s : ServiceValue). s.waiting) is

  pub has_applied : (command : Command) (later : SiteValue) (text : List ℕ) → later.gone ≡ site.gone
      → TellsEntry command site later waiting text → HasApplied command v (value_of later last told lines text log safe least settled lost)
  has_applied command later text gone tells =
      subst (λ (old : ServiceValue). HasApplied command old (value_of later last told lines text log safe least settled lost)) is
      (record {
        tells = tells_whole site later command waiting text tells;
        last = refl;
        let_go = ap (λ (rs : List Record). let_go_of rs told) gone;
        lines = refl;
      })

  pub let_go_kept : (later : SiteValue) (now : LastNotes) (more : ℕ) → later.gone ≡ site.gone
      → (served_of later now told more).let_go ≡ v.served.let_go
  let_go_kept later now more gone =
      ap (λ (rs : List Record). let_go_of rs told) gone ∙ ap (λ (s : ServiceValue). s.served.let_go) is

  pub has_answered : (line : List ℕ) (later : SiteValue) (now : LastNotes) (number : ℕ) (text : List ℕ) → number ≡ one_more lines
      → Tells line (served_of site last told lines) (served_of later now told number) waiting text
      → HasAnswered line v (value_of later now told number text log safe least settled lost)
  has_answered line later now number text counted tells =
      subst (λ (old : ServiceValue). HasAnswered line old (value_of later now told number text log safe least settled lost)) is
      (record { text = tells.text; answer = record { counted = counted; answer = tells.answer }; added = tells.added })

-- what a restarted site leaves, once that is settled
pub applied_on : (command : Command) (old mid new : ServiceValue) → HasApplied command old mid → new.served ≡ mid.served
    → new.waiting ≡ mid.waiting → HasApplied command old new
applied_on command old mid new has served waiting = record {
  tells = record {
    text = has.tells.text;
    answered = subst (λ (s : Served). Answered old.served.site command s.site has.tells.text) (sym served) has.tells.answered;
    added = waiting ∙ has.tells.added;
  };
  last = ap (λ (s : Served). s.last) served ∙ has.last;
  let_go = ap (λ (s : Served). s.let_go) served ∙ has.let_go;
  lines = ap (λ (s : Served). s.lines) served ∙ has.lines;
}

-- a site that was opened and restarted
pub is_started : (opened : SiteValue) (last : LastNotes) (told : Option Gone) (lines : ℕ) (waiting : List ℕ) (log safe : Option (List ℕ))
    (least : Option ℕ) (settled : ℕ) (lost : Bool) (now : ServiceValue) → lines ≡ 0 → waiting ≡ []
    → HasApplied Restart (value_of opened last told lines waiting log safe least settled lost) now → IsSettled now
    → IsStarted (whole_of opened) last (let_go_of opened.gone told) now
is_started opened last told lines waiting log safe least settled lost now zero none has all =
    let text : has.tells.text ≡ now.waiting =
    sym (has.tells.added ∙ ap (λ (t : List ℕ). t ++ has.tells.text) none) in
    record {
      restarted = subst (Answered (whole_of opened) Restart now.served.site) text has.tells.answered;
      last = has.last;
      let_go_is = has.let_go;
      none = has.lines ∙ zero;
      settled = all;
    }

-- and a log's
pub is_opened : (schema : SchemaValue) (number : SiteNo) (known : Option (List ℕ)) (held : List ℕ) (last : LastNotes) (opened : SiteValue)
    (now : ServiceValue) → HoldsRecords known held last opened.bytes → Opens schema number opened.bytes 0 opened
    → IsStarted opened last nothing_gone now → IsOpened schema number known now
is_opened schema number known held last opened now holds opens started = record {
  held = held;
  last = last;
  records = opened.bytes;
  holds = holds;
  opened = opened;
  opens = opens;
  started = started;
}

-- no line is named
pub names_not : (schema : SchemaValue) (number : SiteNo) (known : Option (List ℕ)) (fault : OpenFault)
    → ((n : ℕ) → fault ≡ Line n → ⊥) → TellsBadLine schema number known fault
names_not schema number known (Line n) none = absurd (none n refl)
names_not schema number known Device none = tt
names_not schema number known NoMemory none = tt

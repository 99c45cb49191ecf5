-- What a line or a command adds to the output.
use Rattle.std.proofs.Common.{◌≡◌, ◌≢◌, ◌<◌, ◌⊎◌, ℕ, Bool, List, [], ◌∷◌, ◌++◌, length, Option, Some, None, Result, Ok, Err, OnErr, refl, sym, ap, ◌∙◌, subst, inl, inr, arith}
use Rattle.field_bounds.specs.Schema.{SchemaValue}
use Rattle.field_bounds.specs.declared.id.SiteNo.{SiteNo}
use Rattle.field_bounds.specs.declared.entry.Command.{Command}
use Rattle.field_bounds.specs.declared.entry.Command.TheVariants.{Commit}
use Rattle.field_bounds.specs.declared.entry.Reply.{Reply}
use Rattle.entry_text.specs.Spelling.{command_text, entry_text}
use Rattle.entry_text.specs.Lines.{max_line}
use Rattle.kept_records.specs.declared.record.Record.{Record}
use Rattle.site_step.specs.Site.{SiteValue, Applies}
use Rattle.site_step.specs.Shortening.{held_of}
use Rattle.log_head.specs.declared.gone.Gone.{Gone}
use Rattle.site_service.specs.declared.key_answer.KeyAnswer.{KeyAnswer}
use Rattle.site_service.specs.declared.key_answer.KeyAnswer.TheVariants.{No}
use Rattle.site_service.specs.LetGo.{let_go_of, commit_answer, key_answer}
use Rattle.request_lines.specs.declared.bad_line.BadLine.{BadLine}
use Rattle.request_lines.specs.declared.bad_line.BadLine.TheVariants.{TooLong, OtherSite, UnknownWord, NoField, NoCommand}
use Rattle.field_bounds.specs.declared.id.TxnId.{TxnId}
use Rattle.entry_text.specs.Ranges.{IdFits}
use Rattle.site_service.specs.Kept.{LastNotes, TellsCommit, TellsKey, kept_words, kept_key_words}
use Rattle.request_lines.specs.Requests.{kept_text, kept_key_text, Asks, AsksCommit}
use Rattle.site_service.specs.Answers.{Served, served_of, whole_of, IsStill, Answered, CarriedOut, LeavesCommand, NotesCommit, CommitsWith, CommittedWithKey, Passed, LeavesAnswer}
use Rattle.request_lines.specs.BadLines.{IsBad, bad_text}
use Rattle.request_lines.specs.declared.asking.KeyedCommit.{KeyedCommit}
use Rattle.request_lines.specs.Asking.{AsksKey, SpellsCommit}
use Rattle.site_service.specs.Service.{Tells, TellsEntry}
use Rattle.site_service.proofs.Held.{applies_whole, answered_whole}

-- where an error is told anything holds of it that holds
pub any_err : {T E : Type 0} (r : Result T E) (P : Type 0) → P → OnErr r P
any_err (Ok x) P p = tt
any_err (Err e) P p = p

-- a commit with a key with another name for the schema and the number
pub spells : (schema : SchemaValue) (number : SiteNo) (old : SiteValue) (line : List ℕ) (commit : KeyedCommit) → schema ≡ old.schema
    → number ≡ old.site → SpellsCommit schema number line commit → SpellsCommit old.schema old.site line commit
spells schema number old line commit own is spelled =
    subst (λ (n : SiteNo). SpellsCommit old.schema n line commit) is (subst (λ (s : SchemaValue). SpellsCommit s number line commit) own spelled)

-- a command's line with another name for the schema and the number
pub spells_as : (schema : SchemaValue) (number : SiteNo) (old : SiteValue) (line : List ℕ) (command : Command) → schema ≡ old.schema
    → number ≡ old.site → line ≡ command_text old.schema old.site command → line ≡ command_text schema number command
spells_as schema number old line command own is spelled =
    spelled ∙ ap (λ (s : SchemaValue). command_text s old.site command) (sym own)
    ∙ ap (λ (n : SiteNo). command_text schema n command) (sym is)

-- no is answered where no commit is kept
none_kept : (told : Option Gone) (since kept : Option TxnId) → key_answer told since kept ≡ No → kept ≡ None
none_kept told since None is = refl
none_kept told since (Some txn) is = absurd cc

-- an entry's text with another name for the schema and the number
module _ (schema : SchemaValue) (number : SiteNo) (old new : SiteValue) (own : schema ≡ old.schema) (is : number ≡ old.site) (command : Command)
    (reply : Reply) (applies : Applies old command reply new) where
  abbrev pub entry_line : SchemaValue → SiteNo → List ℕ
  entry_line s n = entry_text s (record { site = n; command = command; reply = reply }) ++ 10 ∷ []

  lines_same : entry_line schema number ≡ entry_line old.schema old.site
  lines_same = ap (λ (s : SchemaValue). entry_line s number) own ∙ ap (entry_line old.schema) is

  pub answered_entry : Answered old command new (entry_line schema number)
  answered_entry = record { reply = reply; applies = applies; told = lines_same }

  pub told_entry : (out grown : List ℕ) → grown ≡ out ++ entry_line schema number → TellsEntry command old new out grown
  told_entry out grown added = record { text = entry_line schema number; answered = answered_entry; added = added }

  pub left_entry : LeavesCommand old command new
  left_entry = inr (entry_line schema number, answered_entry)

-- a commit with a key
module _ (schema : SchemaValue) (number : SiteNo) (old new : SiteValue) (own : schema ≡ old.schema) (is : number ≡ old.site) (txn : TxnId)
    (reply : Reply) (applies : Applies old (Commit txn) reply new) (last later : LastNotes) (key : List ℕ)
    (notes : NotesCommit last later key txn reply) where
  abbrev pub commit_line : List ℕ
  commit_line = entry_text schema (record { site = number; command = Commit txn; reply = reply }) ++ 10 ∷ []

  pub commits_with : CommitsWith old last txn key new later commit_line
  commits_with = record {
    answered = record {
      reply = reply;
      applies = applies;
      told = lines_same schema number old new own is (Commit txn) reply applies;
    };
    notes = notes;
  }

commits_whole : (old new : SiteValue) (last later : LastNotes) (txn : TxnId) (key text : List ℕ)
    → CommitsWith old last txn key new later text → CommitsWith (whole_of old) last txn key (whole_of new) later text
commits_whole old new last later txn key text commits =
    record {
      answered = record {
        reply = commits.answered.reply;
        applies = applies_whole old new (Commit txn) commits.answered.reply commits.answered.applies;
        told = commits.answered.told;
      };
      notes = commits.notes;
    }

module _ (schema : SchemaValue) (number : SiteNo) (old : SiteValue) (own : schema ≡ old.schema) (is : number ≡ old.site) (last : LastNotes)
    (front : Option Gone) (before count : ℕ) where
  abbrev was : Served
  was = served_of old last front before

  abbrev now : Served
  now = served_of old last front count

  still : IsStill was now
  still = record { site = refl; last = refl; let_go = refl }

  -- nothing is let go by a call of the site
  same_gone : (new : SiteValue) → new.gone ≡ old.gone → let_go_of new.gone front ≡ let_go_of old.gone front
  same_gone new gone = ap (λ (rs : List Record). let_go_of rs front) gone

  still_by : (new : SiteValue) (later : LastNotes) → new ≡ old → later ≡ last → IsStill was (served_of new later front count)
  still_by new later same notes = record {
    site = ap whole_of same;
    last = notes;
    let_go = same_gone new (ap (λ (v : SiteValue). v.gone) same);
  }

  asks_here : (line : List ℕ) (command : Command) → Asks schema number line command → Asks old.schema old.site line command
  asks_here line command asks =
      subst (λ (n : SiteNo). Asks old.schema n line command) is (subst (λ (s : SchemaValue). Asks s number line command) own asks)

  -- a command
  carried_out : (line : List ℕ) (command : Command) (new : SiteValue) (text : List ℕ) → Asks schema number line command
      → Answered old command new text → CarriedOut was line (served_of new last front count) text
  carried_out line command new text asks answered =
      record {
        command = command;
        asks = asks_here line command asks;
        answered = answered_whole old new command text answered;
        last = refl;
        let_go = same_gone new answered.applies.same.gone;
      }

  pub told_command : (out grown line : List ℕ) (command : Command) (new : SiteValue) → Asks schema number line command
      → TellsEntry command old new out grown → Tells line was (served_of new last front count) out grown
  told_command out grown line command new asks told =
      record { text = told.text; answer = inl (carried_out line command new told.text asks told.answered); added = told.added }

  pub left_command : (line : List ℕ) (command : Command) (new : SiteValue) → Asks schema number line command
      → LeavesCommand old command new → LeavesAnswer was line (served_of new last front count)
  left_command line command new asks (inl same) = inl (still_by new last same refl)
  left_command line command new asks (inr did) = inr (did.0, inl (carried_out line command new did.0 asks did.1))

  -- nothing was done
  pub left_still : (line : List ℕ) → LeavesAnswer was line now
  left_still line = inl still

  -- a line that asks nothing
  passed : (line : List ℕ) (why : BadLine) → IsBad schema number line why → Passed was line now (bad_text count why)
  passed line why bad =
      record {
        why = why;
        bad = subst (λ (n : SiteNo). IsBad old.schema n line why) is (subst (λ (s : SchemaValue). IsBad s number line why) own bad);
        still = still;
        told = refl;
      }

  pub told_bad : (out grown line : List ℕ) (why : BadLine) → IsBad schema number line why → grown ≡ out ++ bad_text count why
      → Tells line was now out grown
  told_bad out grown line why bad added =
      record { text = bad_text count why; answer = inr (inr (inr (inr (inr (passed line why bad))))); added = added }

  -- of one that is too long the answer is that of another
  pub told_long : (out grown line whole : List ℕ) (why : BadLine) → max_line < length line → max_line < length whole
      → IsBad schema number line why → grown ≡ out ++ bad_text count why → Tells whole was now out grown
  told_long out grown line whole TooLong long more bad added = told_bad out grown whole TooLong more added
  told_long out grown line whole OtherSite long more bad added = absurd (omega (arith, long, bad.0))
  told_long out grown line whole UnknownWord long more bad added = absurd (omega (arith, long, bad.0.short))
  told_long out grown line whole NoField long more bad added = absurd (omega (arith, long, bad.0.short))
  told_long out grown line whole NoCommand long more bad added = absurd (omega (arith, long, bad.0.short))

  -- a question for a commit
  pub told_commit : (out grown line : List ℕ) (txn : TxnId) → IdFits txn × (line ≡ kept_text txn)
      → (kept : Bool) × TellsCommit (held_of old) txn kept × (grown ≡ out ++ (line ++ kept_words (commit_answer front txn kept)))
      → Tells line was now out grown
  told_commit out grown line txn asks told = record {
    text = line ++ kept_words (commit_answer front txn told.0);
    answer = inr (inr (inr (inl (record {
      txn = txn;
      fits = asks.0;
      asked = asks.1;
      kept = told.0;
      tells = told.1;
      still = still;
      told = refl;
    }))));
    added = told.2;
  }

  -- a question for a key
  pub told_key : (out grown line key : List ℕ) (since : Option TxnId) → AsksKey line key since
      → (kept : Option TxnId) × TellsKey (held_of old) last key kept
      × (grown ≡ out ++ (line ++ kept_key_words (key_answer front since kept))) → Tells line was now out grown
  told_key out grown line key since asks told = record {
    text = line ++ kept_key_words (key_answer front since told.0);
    answer = inr (inr (inr (inr (inl (record {
      key = key;
      since = since;
      is_key = asks.is_key;
      since_fits = asks.since_fits;
      asked = asks.text;
      kept = told.0;
      tells = told.1;
      still = still;
      told = refl;
    })))));
    added = told.2;
  }

  -- a commit with a key
  module _ (line : List ℕ) (txn : TxnId) (key : List ℕ) (since : Option TxnId) (asks : AsksCommit schema number line txn key since)
      (kept : Option TxnId) (tells : TellsKey (held_of old) last key kept) (answer : KeyAnswer) (answers : answer ≡ key_answer front since kept)
    where
      commit_here : AsksCommit old.schema old.site line txn key since
      commit_here =
          subst (λ (n : SiteNo). AsksCommit old.schema n line txn key since) is
          (subst (λ (s : SchemaValue). AsksCommit s number line txn key since) own asks)

      pub told_refused : (out grown : List ℕ) → answer ≢ No → grown ≡ out ++ (kept_key_text key ++ kept_key_words answer)
          → Tells line was now out grown
      told_refused out grown refuses added = record {
        text = kept_key_text key ++ kept_key_words answer;
        answer = inr (inr (inl (record {
          txn = txn;
          key = key;
          since = since;
          asks = commit_here;
          kept = kept;
          tells = tells;
          refuses = subst (λ (a : KeyAnswer). a ≢ No) answers refuses;
          still = still;
          told = ap (λ (a : KeyAnswer). kept_key_text key ++ kept_key_words a) answers;
        })));
        added = added;
      }

      module _ (is_no : answer ≡ No) (new : SiteValue) (later : LastNotes) where
        none : kept ≡ None
        none = none_kept front since kept (sym answers ∙ is_no)

        committed : (text : List ℕ) → CommitsWith old last txn key new later text
            → CommittedWithKey was line (served_of new later front count) text
        committed text commits = record {
          txn = txn;
          key = key;
          since = since;
          asks = commit_here;
          tells = subst (TellsKey (held_of old) last key) none tells;
          answer = ap (key_answer front since) (sym none) ∙ sym answers ∙ is_no;
          commits = commits_whole old new last later txn key text commits;
          let_go = same_gone new commits.answered.applies.same.gone;
        }

        pub told_committed : (out grown : List ℕ) → (text : List ℕ) × CommitsWith old last txn key new later text × (grown ≡ out ++ text)
            → Tells line was (served_of new later front count) out grown
        told_committed out grown told = record { text = told.0; answer = inr (inl (committed told.0 told.1)); added = told.2 }

        pub left_committed : ((new ≡ old) × (later ≡ last)) ⊎ ((text : List ℕ) × CommitsWith old last txn key new later text)
            → LeavesAnswer was line (served_of new later front count)
        left_committed (inl same) = inl (still_by new later same.0 same.1)
        left_committed (inr did) = inr (did.0, inr (inl (committed did.0 did.1)))

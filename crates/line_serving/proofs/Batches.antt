-- What was written when a batch is let out, and where the serving ends.
use Rattle.std.proofs.Common.{◌≡◌, ◌<◌, ℕ, List, [], ◌++◌, ◌+◌, ◌⊎◌, Option, Some, Result, length, take, refl, sym, ap, ◌∙◌, subst, inl, inr, append_assoc, append-nil, arith}
use Rattle.std.proofs.Math.Seq.{take-append-add}
use Rattle.std.proofs.lemmas.List.{length-append}
use Rattle.std.specs.Io.KnownBytes.{Appends, Consumes, Keeps}
use Rattle.std.proofs.KnownBytes.{Appends-trans, Consumes-nil, Consumes-trans, Consumes-kept}
use Rattle.script_input.specs.Lines.{whole_lines, last_part, whole_lines_after, last_part_after}
use Rattle.script_input.specs.Streams.{AppendsPrefix}
use Rattle.script_input.proofs.LineLemmas.{whole_lines_after-append, last_part_after-append}
use Rattle.site_service.specs.declared.fault.ServeFault.{ServeFault}
use Rattle.site_service.specs.declared.fault.ServeFault.TheVariants as faults
use Rattle.site_service.specs.Answers.{Served, held_in}
use Rattle.line_serving.specs.Keeping.{Shortens, AnswersBy}
use Rattle.site_service.specs.Service.{ServiceValue, HoldsText, IsSettled, KeepsLog, HasAnsweredAll, LetsOut, HoldsBack}
use Rattle.site_service.specs.Shortening.{LeavesEither}
use Rattle.line_serving.specs.Serving.{IsKeptOf, Serves, ServesPart, Stops, StopsAtOnce, IsOutAt, IsLongAt}
use Rattle.site_service.specs.Counting.{reads_failed, CountsReads, CountsWrites}
use Rattle.site_service.specs.Traces.{TraceValue, HasTold, HasKept}
use Rattle.site_service.proofs.Links.{settled_text}
use Rattle.line_serving.proofs.LessHeld.{answers_none, answers_more, answers_shorter, safe_at}
use Rattle.site_service.proofs.Tracing.{told_none, told_more, kept_of, kept_front}

-- nothing was answered
answers_still : (keep : Option ℕ) (start now : ServiceValue) → now.served ≡ start.served → AnswersBy keep start.served [] now.served []
answers_still keep start now same =
    subst (λ (s : Served). AnswersBy keep start.served [] s []) (sym same) (answers_none keep start.served)

-- what waited at first is let out, and nothing was read
pub serves_none : (keep : Option ℕ) (from before after : Option (List ℕ)) (trace : TraceValue) (start now : ServiceValue)
    → now.served ≡ start.served
    → LetsOut before after start now → ServesPart keep from from before after trace trace start now [] 0
serves_none keep from before after trace start now same out = record {
  serves = record {
    read = [];
    consumed = Consumes-nil from;
    text = [];
    answers = answers_still keep start now same;
    written = subst (Appends before after) (sym (append-nil start.waiting)) out.out;
    waiting = out.waiting;
    settled = out.settled;
    told = told_none trace;
  };
  kept = inl refl;
  some = omega arith;
}

-- what was let out couldn't be written whole
pub stops_first : (keep : Option ℕ) (from before after : Option (List ℕ)) (trace : TraceValue) (start now : ServiceValue)
    → now.served ≡ start.served
    → IsSettled now → AppendsPrefix before after start.waiting → Stops keep from from before after trace trace start now faults.Write
stops_first keep from before after trace start now same settled front = record {
  front = [];
  back = [];
  consumed = Consumes-nil from;
  last = now.served;
  text = [];
  answers = answers_still keep start now same;
  out = subst (AppendsPrefix before after) (sym (append-nil start.waiting)) front;
  safe = safe_at keep faults.Write now.served now.safe (settled_text now settled);
  told = kept_of trace trace [] (told_none trace);
  long = tt;
}

-- a front of what is known and of what is written after it
prefix_after : (before middle after : Option (List ℕ)) (written out : List ℕ) → Appends before middle written
    → AppendsPrefix middle after out → AppendsPrefix before after (written ++ out)
prefix_after before middle after written out wrote front = (
  length written + front.0,
  subst (Appends before after) (sym (take-append-add written out front.0))
      (Appends-trans before middle after written (take front.0 out) wrote front.1),
)

-- A fault in front of which all batches were let out: what was read since is the back.
pub stops_behind : (keep : Option ℕ) (from mid to before after : Option (List ℕ)) (trace half traced : TraceValue)
    (start now later : ServiceValue)
    (line piece : List ℕ) (reads : ℕ) (part : ServesPart keep from mid before after trace half start now line reads)
    → Consumes mid to piece
    → later.safe ≡ now.safe → HasKept trace traced part.serves.text → (fault : ServeFault)
    → IsOutAt fault before after (start.waiting ++ part.serves.text) → IsLongAt fault part.serves.read
    → Stops keep from to before after trace traced start later fault
stops_behind keep from mid to before after trace half traced start now later line piece reads part more same told fault out long =
    let s = part.serves in record {
      front = s.read;
      back = piece;
      consumed = Consumes-trans from mid to s.read piece s.consumed more;
      last = now.served;
      text = s.text;
      answers = s.answers;
      out = out;
      safe = safe_at keep fault now.served later.safe
          (subst (λ (k : Option (List ℕ)). HoldsText k now.served.last (held_in now.served)) (sym same) (settled_text now s.settled));
      told = told;
      long = long;
    }

-- no byte was read since
pub stops_kept : (keep : Option ℕ) (from mid to before after : Option (List ℕ)) (trace traced : TraceValue) (start now : ServiceValue)
    (line : List ℕ)
    (reads : ℕ) → ServesPart keep from mid before after trace traced start now line reads → Keeps mid to
    → Stops keep from to before after trace traced start now faults.Read
stops_kept keep from mid to before after trace traced start now line reads part keeps =
    let s = part.serves in record {
      front = s.read;
      back = [];
      consumed = subst (Consumes from to) (sym (append-nil s.read)) (Consumes-kept from mid to s.read s.consumed keeps);
      last = now.served;
      text = s.text;
      answers = s.answers;
      out = s.written;
      safe = safe_at keep faults.Read now.served now.safe (settled_text now s.settled);
      told = kept_of trace traced s.text s.told;
      long = tt;
    }

-- the end of the input
pub serves_all : (keep : Option ℕ) (from mid to before after : Option (List ℕ)) (trace traced : TraceValue) (start now : ServiceValue)
    (line : List ℕ)
    (reads : ℕ) → ServesPart keep from mid before after trace traced start now line reads → Consumes mid to []
    → Serves keep from to before after trace traced start now
serves_all keep from mid to before after trace traced start now line reads part none =
    let s = part.serves in record {
      read = s.read;
      consumed = subst (Consumes from to) (append-nil s.read) (Consumes-trans from mid to s.read [] s.consumed none);
      text = s.text;
      answers = s.answers;
      written = s.written;
      waiting = s.waiting;
      settled = s.settled;
      told = s.told;
    }

-- ---- a batch

module _ (keep : Option ℕ) (from mid to before half after : Option (List ℕ)) (trace earlier traced : TraceValue)
    (start now answered : ServiceValue)
    (line piece : List ℕ) (reads : ℕ) (part : ServesPart keep from mid before half trace earlier start now line reads)
    (more : Consumes mid to piece)
    (all : HasAnsweredAll (whole_lines_after (last_part part.serves.read) piece) now answered)
    (told : HasTold earlier traced answered.waiting) where
  lines_read : whole_lines (part.serves.read ++ piece) ≡ whole_lines part.serves.read ++ whole_lines_after (last_part part.serves.read) piece
  lines_read = whole_lines_after-append [] part.serves.read piece

  answers_read : AnswersBy keep start.served (whole_lines (part.serves.read ++ piece)) answered.served (part.serves.text ++ all.text)
  answers_read =
      subst (λ (ls : List (List ℕ)). AnswersBy keep start.served ls answered.served (part.serves.text ++ all.text)) (sym lines_read)
      (answers_more keep start.served now.served answered.served (whole_lines part.serves.read)
      (whole_lines_after (last_part part.serves.read) piece) part.serves.text all.text part.serves.answers all.answers)

  -- what waits is the text of the batch
  waits : answered.waiting ≡ all.text
  waits = all.added ∙ ap (λ (t : List ℕ). t ++ all.text) part.serves.waiting

  -- and the trace has grown by it
  told_batch : HasTold trace traced (part.serves.text ++ all.text)
  told_batch = subst (λ (t : List ℕ). HasTold trace traced (part.serves.text ++ t)) waits
      (told_more trace earlier traced part.serves.text answered.waiting part.serves.told told)

  texts : (start.waiting ++ part.serves.text) ++ answered.waiting ≡ start.waiting ++ (part.serves.text ++ all.text)
  texts = ap (λ (t : List ℕ). (start.waiting ++ part.serves.text) ++ t) waits ∙ append_assoc start.waiting part.serves.text all.text

  -- it is let out
  pub serves_batch : 0 < length piece → (later : ServiceValue) (left : List ℕ) → later.served ≡ answered.served
      → LetsOut half after answered later
      → IsKeptOf (last_part_after (last_part part.serves.read) piece) left
      → ServesPart keep from to before after trace traced start later left (reads + 1)
  serves_batch brought later left same out keeps = record {
    serves = record {
      read = part.serves.read ++ piece;
      consumed = Consumes-trans from mid to part.serves.read piece part.serves.consumed more;
      text = part.serves.text ++ all.text;
      answers =
          subst (λ s. AnswersBy keep start.served (whole_lines (part.serves.read ++ piece)) s (part.serves.text ++ all.text))
          (sym same) answers_read;
      written = subst (Appends before after) texts
          (Appends-trans before half after (start.waiting ++ part.serves.text) answered.waiting part.serves.written out.out);
      waiting = out.waiting;
      settled = out.settled;
      told = told_batch;
    };
    kept = subst (λ (p : List ℕ). IsKeptOf p left) (sym (last_part_after-append [] part.serves.read piece)) keeps;
    some = omega (arith, brought, part.some, length-append part.serves.read piece);
  }

  -- a front of it is written
  pub stops_batch : (later : ServiceValue) → later.served ≡ answered.served → IsSettled later → AppendsPrefix half after answered.waiting
      → Stops keep from to before after trace traced start later faults.Write
  stops_batch later same settled front = record {
    front = part.serves.read ++ piece;
    back = [];
    consumed = subst (Consumes from to) (sym (append-nil (part.serves.read ++ piece)))
        (Consumes-trans from mid to part.serves.read piece part.serves.consumed more);
    last = later.served;
    text = part.serves.text ++ all.text;
    answers =
        subst (λ s. AnswersBy keep start.served (whole_lines (part.serves.read ++ piece)) s (part.serves.text ++ all.text))
        (sym same) answers_read;
    out = subst (AppendsPrefix before after) texts
        (prefix_after before half after (start.waiting ++ part.serves.text) answered.waiting part.serves.written front);
    safe = safe_at keep faults.Write later.served later.safe (settled_text later settled);
    told = kept_of trace traced (part.serves.text ++ all.text) told_batch;
    long = tt;
  }

  -- the log failed behind the trace
  pub stops_device : (later : ServiceValue) → later.safe ≡ now.safe → half ≡ after
      → Stops keep from to before after trace traced start later faults.Device
  stops_device later same unwritten =
      subst (λ (w : Option (List ℕ)). Stops keep from to before w trace traced start later faults.Device) unwritten
      (stops_behind keep from mid to before half trace earlier traced start now later line piece reads part more same
      (kept_front trace traced part.serves.text all.text told_batch) faults.Device part.serves.written tt)

-- ---- a fault of a release

-- in the middle of a serving
pub stops_release : (keep : Option ℕ) (from mid to before half after : Option (List ℕ)) (trace earlier traced : TraceValue)
    (start now answered later : ServiceValue)
    (line piece : List ℕ) (reads : ℕ) (part : ServesPart keep from mid before half trace earlier start now line reads)
    → Consumes mid to piece
    → HasAnsweredAll (whole_lines_after (last_part part.serves.read) piece) now answered → HasTold earlier traced answered.waiting
    → KeepsLog now answered → later.served ≡ answered.served → (fault : ServeFault) → HoldsBack half after answered later fault
    → Stops keep from to before after trace traced start later fault
stops_release keep from mid to before half after trace earlier traced start now answered later line piece reads part more all told keeps same faults.Device held =
    stops_device keep from mid to before half after trace earlier traced start now answered line piece reads part more all told later
    (held.2 ∙ keeps.safe) (sym held.0)
stops_release keep from mid to before half after trace earlier traced start now answered later line piece reads part more all told keeps same faults.Write held =
    stops_batch keep from mid to before half after trace earlier traced start now answered line piece reads part more all told later same held.0 held.1
stops_release keep from mid to before half after trace earlier traced start now answered later line piece reads part more all told keeps same faults.Read held = absurd held
stops_release keep from mid to before half after trace earlier traced start now answered later line piece reads part more all told keeps same faults.TooLong held = absurd held
stops_release keep from mid to before half after trace earlier traced start now answered later line piece reads part more all told keeps same faults.NoMemory held = absurd held

-- before the first read
pub stops_at_first : (keep : Option ℕ) (from before after : Option (List ℕ)) (trace : TraceValue) (start now : ServiceValue)
    → now.served ≡ start.served
    → (fault : ServeFault) → HoldsBack before after start now fault
    → StopsAtOnce from from before after trace trace start now fault ⊎ Stops keep from from before after trace trace start now fault
stops_at_first keep from before after trace start now same faults.Device held =
    inl (record { device = refl; unread = refl; unwritten = held.0; untold = refl; safe = held.2 })
stops_at_first keep from before after trace start now same faults.Write held =
    inr (stops_first keep from before after trace start now same held.0 held.1)
stops_at_first keep from before after trace start now same faults.Read held = absurd held
stops_at_first keep from before after trace start now same faults.TooLong held = absurd held
stops_at_first keep from before after trace start now same faults.NoMemory held = absurd held

-- ---- a log that is shortened

module _ (keep : ℕ) (from to before after : Option (List ℕ)) (trace traced : TraceValue) (start now later : ServiceValue)
    (line : List ℕ) (reads : ℕ) (part : ServesPart (Some keep) from to before after trace traced start now line reads) where
  -- more of it was let go, or nothing
  pub serves_shorter : Shortens keep now.served later.served → later.waiting ≡ now.waiting → IsSettled later
      → ServesPart (Some keep) from to before after trace traced start later line reads
  serves_shorter goes same settled = record {
    serves = record {
      read = part.serves.read;
      consumed = part.serves.consumed;
      text = part.serves.text;
      answers = answers_shorter keep start.served now.served later.served (whole_lines part.serves.read) part.serves.text
          part.serves.answers goes;
      written = part.serves.written;
      waiting = same ∙ part.serves.waiting;
      settled = settled;
      told = part.serves.told;
    };
    kept = part.kept;
    some = part.some;
  }

  -- it isn't known whether it was
  pub stops_either : LeavesEither keep now.served later.safe
      → Stops (Some keep) from to before after trace traced start later faults.Device
  stops_either leaves = record {
    front = part.serves.read;
    back = [];
    consumed = subst (Consumes from to) (sym (append-nil part.serves.read)) part.serves.consumed;
    last = now.served;
    text = part.serves.text;
    answers = part.serves.answers;
    out = part.serves.written;
    safe = leaves;
    told = kept_of trace traced part.serves.text part.serves.told;
    long = tt;
  }

-- ---- what is counted

module _ (before after : Option (List ℕ)) (old new : ServiceValue) where
  pub held_reads : (fault : ServeFault) (count : ℕ) → HoldsBack before after old new fault → count ≡ reads_failed fault count
  held_reads faults.Device count held = refl
  held_reads faults.Write count held = refl
  held_reads faults.Read count held = absurd held
  held_reads faults.TooLong count held = absurd held
  held_reads faults.NoMemory count held = absurd held

  pub held_not_read : (fault : ServeFault) → HoldsBack before after old new fault → fault ≡ faults.Read → ⊥
  held_not_read fault held is = subst (HoldsBack before after old new) is held

pub writes_from : {T : Type 0} (r : Result T ServeFault) (start mid after : ℕ) → mid ≡ start → CountsWrites r mid after
    → CountsWrites r start after
writes_from r start mid after same counts = subst (λ n. CountsWrites r n after) same counts

pub reads_from : {T : Type 0} (r : Result T ServeFault) (start mid after : ℕ) → mid ≡ start → CountsReads r mid after
    → CountsReads r start after
reads_from r start mid after same counts = subst (λ n. CountsReads r n after) same counts

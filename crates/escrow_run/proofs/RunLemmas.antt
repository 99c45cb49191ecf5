-- What a run has written, line by line, and where it stops.
use Rattle.std.proofs.Common.{◌≡◌, ◌≢◌, ℕ, ◌+◌, ◌<◌, List, [], ◌∷◌, ◌++◌, Option, Result, Ok, Err, IfErr, OnErr, OnOk, length, take, reverse, refl, sym, ap, ◌∙◌, subst, append_assoc, append-nil, inl, inr, codes}
use Rattle.std.proofs.Math.Seq.{take-append-add}
use Rattle.std.specs.Io.KnownBytes.{Appends, Consumes}
use Rattle.std.proofs.KnownBytes.{Appends-trans}
use Rattle.field_bounds.specs.Schema.{SchemaValue}
use Rattle.entry_text.specs.Lines.{max_line}
use Rattle.script_input.specs.declared.fault.ScriptFault.{ScriptFault}
use Rattle.script_input.specs.declared.fault.ScriptFault.TheVariants.{Read, TooLong, Write, Header, BadLine, Work, Stuck, Illegal, NoMemory}
use Rattle.script_input.specs.declared.streams.CallEnd.{CallEnd}
use Rattle.script_input.specs.declared.reader.LineReader.{LineReader}
use Rattle.script_input.specs.Lines.{whole_lines}
use Rattle.script_input.specs.Faults.{HasEndedAt}
use Rattle.script_input.specs.Streams.{AppendsPrefix}
use Rattle.script_input.specs.Reader.{pending, Reads, GivesLine, StopsAt}
use Rattle.script_input.proofs.FaultLemmas.{explains_within}
use Rattle.script_input.proofs.ReaderLemmas.{within_gone}
use Rattle.world_steps.specs.View.{WorldValue}
use Rattle.escrow_run.specs.declared.script.Script.{Script}
use Rattle.escrow_run.specs.Text.{line_text, HasText, IsTextOf}
use Rattle.escrow_run.specs.Run.{Answered, HasWritten, Leaves, LeavesPrefix, LeavesAll, Stands, RunsThrough, StopsAfter, Answers, WritesFor, Fails}
use Rattle.escrow_run.proofs.TextLemmas.{long_is_bad, HasText-more}

-- ---- what is written for the lines that were given

-- one more is answered
pub stands_more : (before after : Option (List ℕ)) (old new : WorldValue) (out grown : List ℕ) (given : List (List ℕ)) (line : List ℕ)
    → Stands before after old out given → Answered line old new out grown → Stands before after new grown (given ++ line ∷ [])
stands_more before after old new out grown given line stands answered =
    let text : (stands.written ++ out) ++ answered.text ≡ stands.written ++ grown =
    append_assoc stands.written out answered.text ∙ ap (λ t. stands.written ++ t) (sym answered.written) in record {
      written = stands.written;
      appended = stands.appended;
      text = subst (λ (s : SchemaValue). HasText s (reverse new.steps) (given ++ line ∷ []) (stands.written ++ grown)) (sym answered.schema)
          (subst (HasText old.schema (reverse new.steps) (given ++ line ∷ [])) text
          (HasText-more old.schema (reverse old.steps) (reverse new.steps) given line (stands.written ++ out) answered.text stands.text
          answered.answer));
    }

-- one that is too long
pub stands_long : (before after : Option (List ℕ)) (world : WorldValue) (out grown : List ℕ) (given : List (List ℕ)) (line : List ℕ)
    → max_line < length line → grown ≡ out ++ line_text (codes "bad line") → Stands before after world out given
    → Stands before after world grown (given ++ line ∷ [])
stands_long before after world out grown given line long written stands =
    stands_more before after world world out grown given line stands (record {
      text = line_text (codes "bad line");
      schema = refl;
      answer = inl (long_is_bad world.schema line long, refl, refl);
      written = written;
    })

-- the output is written
pub stands_written : (before middle after : Option (List ℕ)) (old new : Script) (given : List (List ℕ))
    → Stands before middle old.machine.world old.out.items given → HasWritten old new → Appends middle after old.out.items
    → Stands before after new.machine.world new.out.items given
stands_written before middle after old new given stands step appended =
    let text : stands.written ++ old.out.items ≡ (stands.written ++ old.out.items) ++ new.out.items =
    sym (ap (λ l. (stands.written ++ old.out.items) ++ l) step.out ∙ append-nil (stands.written ++ old.out.items)) in record {
      written = stands.written ++ old.out.items;
      appended = Appends-trans before middle after stands.written old.out.items stands.appended appended;
      text = subst (λ m. HasText m.world.schema (reverse m.world.steps) given ((stands.written ++ old.out.items) ++ new.out.items))
          (sym step.machine) (subst (HasText old.machine.world.schema (reverse old.machine.world.steps) given) text stands.text);
    }

-- a front of what is known and of what is written after it
front_after : (before middle after : Option (List ℕ)) (written out : List ℕ) → Appends before middle written
    → AppendsPrefix middle after out → AppendsPrefix before after (written ++ out)
front_after before middle after written out wrote front = (
  length written + front.0,
  subst (Appends before after)
      (sym (take-append-add written out front.0))
      (Appends-trans before middle after written (take front.0 out) wrote front.1),
)

is_text : (before after : Option (List ℕ)) (world : WorldValue) (out : List ℕ) (given : List (List ℕ))
    (stands : Stands before after world out given) → IsTextOf given (stands.written ++ out)
is_text before after world out given stands = inr (world.schema, (reverse world.steps, stands.text))

leaves : (before after : Option (List ℕ)) (world : WorldValue) (out left : List ℕ) (given : List (List ℕ))
    → Stands before after world out given → left ≡ out → Leaves before after left given
leaves before after world out left given stands same = (
  stands.written,
  stands.appended,
  subst (λ l. IsTextOf given (stands.written ++ l)) (sym same) (is_text before after world out given stands),
)

-- ---- a fault behind the lines that are answered

pub stops_behind : (from to before after : Option (List ℕ)) (last : CallEnd) (world : WorldValue) (out left : List ℕ) (given : List (List ℕ))
    (fault : ScriptFault) → fault ≢ Write → StopsAt from to last given fault → Stands before after world out given → left ≡ out
    → StopsAfter from to before after last left fault
stops_behind from to before after last world out left given fault other stops stands same =
    inr (other, (given, (stops, leaves before after world out left given stands same)))

-- want of memory for the answer to a line
pub memory_at_line : (from to : Option (List ℕ)) (last : CallEnd) (r : LineReader) (given : List (List ℕ)) (most : ℕ)
    → GivesLine from to last given r most → StopsAt from to last given NoMemory
memory_at_line from to last r given most line = record {
  front = line.front;
  back = line.back;
  consumed = line.consumed;
  whole = line.whole;
  why = (line.within, line.near);
}

-- ---- a write that failed

-- the lines that were given are whole, or they are all at the end of the input
fails_behind : (from to before after : Option (List ℕ)) (last : CallEnd) (r : LineReader) (given : List (List ℕ)) → Reads from to last r given
    → LeavesPrefix before after given → Fails from to before after last Write
fails_behind from to before after last r given reads front = record {
  front = reads.gone;
  back = pending r;
  consumed = reads.consumed;
  why = tt;
  written = (
    within_gone from to last r given reads,
    elim reads.place [
      | inl at ↦ inl (subst (LeavesPrefix before after) at.whole front)
      | inr all ↦ inr (all.pending, subst (LeavesPrefix before after) (sym all.all) front)
    ],
  );
}

pub fails_write : (from to before middle after : Option (List ℕ)) (last : CallEnd) (r : LineReader) (world : WorldValue) (out : List ℕ)
    (given : List (List ℕ)) → Reads from to last r given → Stands before middle world out given → AppendsPrefix middle after out
    → Fails from to before after last Write
fails_write from to before middle after last r world out given reads stands front =
    fails_behind from to before after last r given reads (
      stands.written ++ out,
      is_text before middle world out given stands,
      front_after before middle after stands.written out stands.appended front,
    )

-- ---- the end of a run

pub answers_all : (from to before middle after : Option (List ℕ)) (last : CallEnd) (s : Script) → RunsThrough from to before middle last s
    → Appends middle after s.out.items → Answers from to before after
answers_all from to before middle after last s through appended =
    let (given, (all, stands)) = through in record {
      read = all.read;
      consumed = all.consumed;
      end = all.ended.0;
      within = all.within;
      schema = s.machine.world.schema;
      steps = reverse s.machine.world.steps;
      text = stands.written ++ s.out.items;
      answered = subst (λ lines. HasText s.machine.world.schema (reverse s.machine.world.steps) lines (stands.written ++ s.out.items))
          (sym all.all) stands.text;
      written = Appends-trans before middle after stands.written s.out.items stands.appended appended;
    }

-- the last write failed after a run that was through
pub fails_last : (from to before middle after : Option (List ℕ)) (last : CallEnd) (s : Script) → RunsThrough from to before middle last s
    → AppendsPrefix middle after s.out.items → Fails from to before after last Write
fails_last from to before middle after last s through front =
    let (given, (all, stands)) = through in record {
      front = all.read;
      back = [];
      consumed = subst (Consumes from to) (sym (append-nil all.read)) all.consumed;
      why = tt;
      written = (
        all.within,
        inr (
          refl,
          (
            stands.written ++ s.out.items,
            subst (λ lines. IsTextOf lines (stands.written ++ s.out.items)) (sym all.all) (is_text before middle s.machine.world s.out.items given stands),
            front_after before middle after stands.written s.out.items stands.appended front,
          ),
        ),
      );
    }

writes_other : (fault : ScriptFault) (front back : List ℕ) (before after : Option (List ℕ)) → fault ≢ Write
    → LeavesAll before after (whole_lines front) → WritesFor fault before after front back
writes_other Write front back before after other = absurd (other refl)
writes_other Read front back before after other = λ h. h
writes_other TooLong front back before after other = λ h. h
writes_other (Header e) front back before after other = λ h. h
writes_other (BadLine n) front back before after other = λ h. h
writes_other (Work e) front back before after other = λ h. h
writes_other Stuck front back before after other = λ h. h
writes_other Illegal front back before after other = λ h. h
writes_other NoMemory front back before after other = λ h. h

-- all of the text is written
fails_at : (from to before after : Option (List ℕ)) (last : CallEnd) (fault : ScriptFault) (given : List (List ℕ)) → fault ≢ Write
    → StopsAt from to last given fault → LeavesAll before after given → Fails from to before after last fault
fails_at from to before after last fault given other stops all = record {
  front = stops.front;
  back = stops.back;
  consumed = stops.consumed;
  why = stops.why;
  written = writes_other fault stops.front stops.back before after other (subst (LeavesAll before after) (sym stops.whole) all);
}

module _ (from to before middle after : Option (List ℕ)) (last : CallEnd) (out : List ℕ) (fault : ScriptFault) (other : fault ≢ Write)
    (stops : StopsAfter from to before middle last out fault) where
  -- what is written, with the buffer, is the text of the lines in front of the fault
  text_left : (given : List (List ℕ)) × (StopsAt from to last given fault × Leaves before middle out given)
  text_left = elim stops [ inl write ↦ absurd (other write.0) | inr at ↦ at.1 ]

  -- the buffer was written after the fault
  pub fails_other : Appends middle after out → Fails from to before after last fault
  fails_other appended =
      let (given, (at, (written, wrote, text))) = text_left in
      fails_at from to before after last fault given other at
      (written ++ out, text, Appends-trans before middle after written out wrote appended)

  -- it couldn't be written
  pub fails_again : AppendsPrefix middle after out → Fails from to before after last Write
  fails_again front =
      let (given, (at, (written, wrote, text))) = text_left in record {
        front = at.front;
        back = at.back;
        consumed = at.consumed;
        why = tt;
        written = (
          explains_within fault at.front at.back (HasEndedAt to last) other at.why,
          inl (
            written ++ out,
            subst (λ lines. IsTextOf lines (written ++ out)) (sym at.whole) text,
            front_after before middle after written out wrote front,
          ),
        );
      }

-- the write failed already
pub fails_written : (from to before after : Option (List ℕ)) (last : CallEnd) (out : List ℕ) (fault : ScriptFault) → fault ≡ Write
    → StopsAfter from to before after last out fault → Fails from to before after last fault
fails_written from to before after last out fault is stops = elim stops [
  | inl write ↦ subst (Fails from to before after last) (sym write.0) write.1
  | inr at ↦ absurd (at.0 is)
]

-- ---- what is said where a call ends

pub on_write : {T : Type 0} (r : Result T ScriptFault) (P : Type 0) (Q : ScriptFault → Type 0) → (P → Q Write)
    → IfErr r (λ fault. fault ≡ Write) → OnErr r P → IfErr r Q
on_write (Ok x) P Q f is p = tt
on_write (Err fault) P Q f is p = subst Q (sym is) (f p)

pub on_ok : {T : Type 0} (r : Result T ScriptFault) (P Q : Type 0) → (P → Q) → OnOk r P → OnOk r Q
on_ok (Ok x) P Q f p = f p
on_ok (Err fault) P Q f p = tt

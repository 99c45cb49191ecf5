-- What is answered of a reading.
use Rattle.std.proofs.Common.{◌≡◌, ℕ, List, [], Option, length, refl, sym, subst, inr, Bool, append-nil}
use Rattle.std.specs.Io.KnownBytes.{Consumes}
use Rattle.field_bounds.specs.Schema.{SchemaValue}
use Rattle.field_bounds.specs.declared.entry.Entry.{Entry}
use Rattle.central_rules.specs.declared.verdict.Verdict.{Verdict}
use Rattle.central_rules.specs.declared.verdict.Verdict.TheVariants as verdicts
use Rattle.central_rules.specs.Verdict.{verdict_of}
use Rattle.script_input.specs.declared.fault.ScriptFault.TheVariants.{Write}
use Rattle.script_input.specs.declared.streams.CallEnd.{CallEnd}
use Rattle.script_input.specs.Streams.{AppendsPrefix}
use Rattle.script_input.specs.Lines.{script_lines}
use Rattle.script_input.specs.Faults.{HasEndedAt, IsWithin}
use Rattle.escrow_audit.specs.declared.answer.AuditEnd.{AuditEnd}
use Rattle.escrow_audit.specs.declared.answer.AuditEnd.TheVariants as ends
use Rattle.escrow_audit.specs.Audit.{HasEntries, verdict_text, end_of, bad_entry_text, Fails}
use Rattle.escrow_audit.specs.Reading.{FindsIn, Tells, WantsIn}
use Rattle.escrow_audit.specs.declared.reading.ReadInput.{ReadInput}
use Rattle.escrow_audit.specs.declared.reading.ReadInput.TheVariants.{Entries, BadEntry}

-- the answer wasn't written whole
pub Fails-write : (from to before after : Option (List ℕ)) (last : CallEnd) (end : AuditEnd) (text bytes : List ℕ) → Tells from to last end text
    → bytes ≡ text
    → AppendsPrefix before after bytes → Fails from to before after last Write
Fails-write from to before after last end text bytes tells same front =
    let (read, (consumed, (within, audit))) = tells in record {
      front = read;
      back = [];
      consumed = subst (Consumes from to) (sym (append-nil read)) consumed;
      why = tt;
      written = (end, (text, (refl, (within, (audit, subst (AppendsPrefix before after) same front)))));
    }

-- no verdict ends as a bad entry does
no_bad_entry : (v : Verdict) → ends.BadEntry ≡ end_of v → ⊥
no_bad_entry verdicts.Legal e = cc
no_bad_entry (verdicts.Illegal at rule) e = cc

-- the verdict on all entries
module _ (from to : Option (List ℕ)) (last : CallEnd) (schema : SchemaValue) (entries : List Entry) (read : List ℕ) where
  pub tells_verdict : (end : AuditEnd) (text : List ℕ) → Consumes from to read → HasEndedAt to last → IsWithin read
      → HasEntries schema entries (script_lines read) → end ≡ end_of (verdict_of schema entries)
      → text ≡ verdict_text (verdict_of schema entries) (length entries) → Tells from to last end text
  tells_verdict ends.Legal text consumed ended within has is told = (
    read,
    (consumed, (within, (ended, record { schema = schema; entries = entries; good = has; ended = is; told = told }))),
  )
  tells_verdict ends.Illegal text consumed ended within has is told = (
    read,
    (consumed, (within, (ended, record { schema = schema; entries = entries; good = has; ended = is; told = told }))),
  )
  tells_verdict ends.BadEntry text consumed ended within has is told = absurd (no_bad_entry (verdict_of schema entries) is)

-- memory for the answer to what was found may be wanting
pub wants_found : {E : Type 0} (taken : SchemaValue → List Entry → E → Type 0) (keeps : Bool) (from to : Option (List ℕ)) (last : CallEnd) (found : ReadInput E)
    → FindsIn taken from to last found → WantsIn keeps from to last
wants_found taken keeps from to last (Entries schema all) (read, (consumed, (ended, (within, (entries, (has, are)))))) =
    let v = verdict_of schema entries in
    let text = verdict_text v (length entries) in
    inr (end_of v, (text, tells_verdict from to last schema entries read (end_of v) text consumed ended within has refl refl))
wants_found taken keeps from to last (BadEntry number) (read, (consumed, finds)) =
    inr (ends.BadEntry, (bad_entry_text number, (read, (consumed, (tt, (number, (finds, refl)))))))

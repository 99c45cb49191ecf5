use Rattle.std.proofs.Common.{◌≡◌, ◌≢◌, [], ◌∷◌, ◌++◌, sym, ap, append_assoc, ◌∙◌, rules}
use Rattle.caller_keys.specs.Keys.{KeyNote, IsNote, note_of, note_line}
use Rattle.caller_keys.proofs.OnNone.{on_ok}
use Rattle.caller_keys.proofs.Texts.{takes_note, takes_other}
use Rattle.caller_keys.proofs.split.take_line.Goals as goal

pub returns-in-Some : goal.returns-in-Some
returns-in-Some c =
    let key = c.in-Some.key.items in
    let line = c.args.line.now in
    let is : IsNote (note_of key c.in-Some.txn) × (line ++ 10 ∷ [] ≡ note_line (note_of key c.in-Some.txn)) = search rules in
    record {
      taken = on_ok c.note_read.result c.note_read.ensures.noted (λ tells.
          takes_note c.args.keys.now c.note_read.new.keys c.args.records.now.items line key c.in-Some.txn is.0 is.1
          (rw (sym c.as_slice.ensures.value) tells));
    }

pub returns-in_ok-push-in-None : goal.returns-in_ok-push-in-None
returns-in_ok-push-in-None c =
    let records = c.args.records.now.items in
    let line = c.args.line.now in
    let none : (n : KeyNote) → IsNote n → note_line n ≢ line ++ 10 ∷ [] = search rules in
    let first : c.extend_from_slice.new.self.items ≡ records ++ line = search rules in
    let second : c.push.new.self.items ≡ c.extend_from_slice.new.self.items ++ 10 ∷ [] = search rules in
    let is : c.push.new.self.items ≡ records ++ (line ++ 10 ∷ []) =
    second ∙ ap (λ l. l ++ 10 ∷ []) first ∙ append_assoc records line (10 ∷ []) in
    record { taken = takes_other c.args.keys.now records c.push.new.self.items line c.requires.line none is }

use Rattle.std.proofs.Common.{◌<◌, cond, Some, bytes_eq, rules, ap, ◌∙◌}
use Rattle.indexmap.specs.IndexMap.{Updates, spare}
use Rattle.caller_keys.specs.Tables.{KeyTableValue, last_in}
use Rattle.caller_keys.proofs.TableLemmas.{put_tells, tells_more}
use Rattle.caller_keys.proofs.table.KeyTable.note.Goals as goal

pub returns-clause-last : goal.returns-clause-last
returns-clause-last c =
    let room : 0 < spare c.self.inside.last = search rules in
    let updates : Updates bytes_eq c.self.inside.last c.insert.new.self c.stored.result (Some c.args.txn) = search rules in
    λ other.
    put_tells c.self.inside.last c.insert.new.self c.stored.result c.args.key.bytes.now c.args.txn c.stored.ensures updates other
    ∙ ap (λ (t : KeyTableValue). cond (bytes_eq c.args.key.bytes.now other) (Some c.args.txn) (last_in t other)) c.self.view_is

pub returns-clause-noted : goal.returns-clause-noted
returns-clause-noted c =
    let new : KeyTableValue = record { rows = c.insert.new.self.entries; room = spare c.insert.new.self } in
    tells_more c.args.self.now new c.args.key.bytes.now c.args.txn (returns-clause-last c)

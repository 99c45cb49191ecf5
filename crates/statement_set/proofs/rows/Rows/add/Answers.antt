use Rattle.std.proofs.Common.{◌∙◌, ap, sym, refl, List, ℕ, ◌++◌, ◌∷◌, [], length, set}
use Rattle.std.specs.List.{slice_get}
use Rattle.statement_set.specs.declared.row.Row.{Row}
use Rattle.statement_set.specs.declared.row.Channel.{Channel}
use Rattle.statement_set.specs.Rows.{slot_of, rows_told}
use Rattle.statement_set.proofs.Lists.{push_there}
use Rattle.statement_set.proofs.Told.{filed_same, filed_more, row_more}
use Rattle.statement_set.proofs.rows.Rows.add.Goals as goal

pub returns-in_err-push-clause-filed : goal.returns-in_err-push-clause-filed
returns-in_err-push-clause-filed c = filed_same c.args.self.now _ c.requires.filed refl c.in_err-push.ensures.items

pub returns-clause-filed : goal.returns-clause-filed
returns-clause-filed c =
    filed_more c.args.self.now _ c.requires.filed c.args.slot c.new.result c.requires.inside
    (c.requires.its ∙ ap (λ (channel : Channel). slot_of channel (length c.args.self.now.slots.items)) (sym c.new.ensures.channel))
    c.new.ensures.totals c.requires.free (ap (λ (i : ℕ). set c.args.self.now.slots.items c.args.slot i) (c.in-Ok.ensures.1 ∙ c.len-row.ensures ∙ c.args.self.now.rows.ok.0)) c.in_ok-push.ensures.items

pub returns-clause-told : goal.returns-clause-told
returns-clause-told c =
    ap (λ (l : List Row). rows_told l) c.in_ok-push.ensures.items ∙ row_more c.args.self.now.rows.items c.new.result c.new.ensures.totals

pub returns-clause-made : goal.returns-clause-made
returns-clause-made c = (
  c.new.result,
  ap (λ (l : List Row). slice_get l c.len-row.result) c.in_ok-push.ensures.items
      ∙ ap (λ (i : ℕ). slice_get (c.args.self.now.rows.items ++ c.new.result ∷ []) i) (c.len-row.ensures ∙ c.args.self.now.rows.ok.0)
      ∙ push_there c.args.self.now.rows.items c.new.result,
  c.new.ensures.channel,
)

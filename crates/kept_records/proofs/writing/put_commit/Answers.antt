use Rattle.std.proofs.Common.{◌++◌, ◌∷◌, [], List, ℕ, ap, refl, ◌∙◌}
use Rattle.kept_records.specs.declared.record.Record.TheVariants.{Commit}
use Rattle.kept_records.proofs.Spaced.{text_behind}
use Rattle.kept_records.proofs.writing.put_commit.Goals as goal

pub returns : goal.returns
returns c =
    record {
      text = text_behind (Commit c.args.txn c.args.escrows.now) 67 [] c.push.new.self.items c.push_commit.new.line.items
          c.push-2.new.self.items refl (c.in_ok-push.ensures.items ∙ ap (λ (l : List ℕ). l ++ 67 ∷ []) c.clear.ensures.items)
          c.in_ok-push_commit.ensures c.in_ok-push-2.ensures.items;
    }

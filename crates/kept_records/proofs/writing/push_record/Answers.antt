use Rattle.kept_records.proofs.Spaced.{text_behind}
use Rattle.kept_records.proofs.writing.push_record.Goals as goal

pub returns : goal.returns
returns c = text_behind c.args.kept.now c.letter.result c.args.line.now.items c.push.new.self.items c.push_words.new.line.items
    c.push-2.new.self.items c.letter.ensures c.in_ok-push.ensures.items c.in_ok-push_words.ensures c.in_ok-push-2.ensures.items

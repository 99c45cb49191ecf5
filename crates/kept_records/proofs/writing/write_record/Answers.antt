use Rattle.kept_records.proofs.Lines.{torn_text}
use Rattle.kept_records.proofs.writing.write_record.Goals as goal

pub returns-clause-torn : goal.returns-clause-torn
returns-clause-torn c = torn_text c.args.kept.now c.requires.ranges c.put_record.new.line.items c.in_ok-put_record.ensures.text

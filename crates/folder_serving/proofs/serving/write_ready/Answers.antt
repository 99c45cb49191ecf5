use Rattle.folder_serving.proofs.Ready.{stops, tells}
use Rattle.folder_serving.proofs.serving.write_ready.Goals as goal

pub returns-in-Ok-clause-ready : goal.returns-in-Ok-clause-ready
returns-in-Ok-clause-ready g c =
    tells c.args.shortens (g.W.Sink.bytes c.args.writer.now) (g.W.Sink.bytes c.write_all.new.self) c.args.service.now _
    c.as_bytes.result.now c.requires.safe c.in_ok-line.ensures.line c.as_bytes.ensures.value c.in-Ok.ensures.ok

pub returns-clause-refused : goal.returns-clause-refused
returns-clause-refused g c =
    stops c.args.shortens (g.W.Sink.bytes c.args.writer.now) (g.W.Sink.bytes c.write_all.new.self) c.args.service.now _
    c.as_bytes.result.now c.in_ok-line.ensures.line c.as_bytes.ensures.value c.in-Err.ensures.front

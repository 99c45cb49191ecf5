-- Each turn writes some bytes, what is written is in the sink, and no write was refused.
use Rattle.std.proofs.Common.{◌≡◌, ◌-◌, ◌≤◌, length, take}
use Rattle.std.specs.Io.KnownBytes.{Appends}
use Rattle.script_input.proofs.streams.Sink.write_all.Given as goal

abbrev pub invariant-loop-written : goal.invariant-loop-written
invariant-loop-written g l = record {
  within : l.written ≤ length l.piece;
  bytes : Appends (g.Self.Sink.bytes l.initial.self) (g.Self.Sink.bytes l.self) (take l.written l.piece);
  refusals : g.Self.Sink.refusals l.self ≡ g.Self.Sink.refusals l.initial.self;
}

abbrev pub decreases-loop-written : goal.decreases-loop-written
decreases-loop-written g l = length l.piece - l.written

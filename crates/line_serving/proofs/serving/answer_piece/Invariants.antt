-- Each turn answers a line of the piece.
use Rattle.std.proofs.Common.{ℕ, List, length}
use Rattle.site_service.specs.Service.{KeepsLog}
use Rattle.line_serving.specs.Serving.{IsKeptOf}
use Rattle.line_serving.proofs.Lines.{HasDone}
use Rattle.line_serving.proofs.serving.answer_piece.Given as goal

abbrev pub invariant-lines : goal.invariant-lines
invariant-lines g l = record {
  done : (part : List ℕ) → IsKeptOf part l.initial.line.items
      → HasDone part l.piece l.rest l.line.items l.initial.service l.service;
  log : KeepsLog l.initial.service l.service;
}

abbrev pub decreases-lines : goal.decreases-lines
decreases-lines g l = length l.rest

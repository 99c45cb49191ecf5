use Rattle.held_logs.proofs.Spared.{no_line, no_broken_rule}
use Rattle.held_logs.proofs.laws.named_lines_spare_lawful_logs.Goals as goal

pub returns : goal.returns
returns c = record {
  lines = λ schema s n held rest base past rs tells log is lawful. no_line schema s held base rs rest past log is lawful n tells;
  rules = λ schema s n held rest base past rs tells log is lawful. no_broken_rule schema s held base rs rest past log is lawful n tells;
}

use Rattle.std.proofs.Common.{inl, inr}
use Rattle.site_step.proofs.Excluded.{no_cut_when_full, no_needless_cut, read_comes_first, cut_is_never, read_is_never, as_under_never}
use Rattle.site_step.proofs.laws.no_needless_cut_or_failure.Goals as goal

pub returns-clause-refused : goal.returns-clause-refused
returns-clause-refused c = λ before later command refusal applies. (applies.writes_, applies.foretold)

pub returns-clause-full : goal.returns-clause-full
returns-clause-full c = λ before later rs rest reply log known most applies.
    no_cut_when_full before later rs rest reply log known most applies

pub returns-clause-whole : goal.returns-clause-whole
returns-clause-whole c = λ before later rs reply log known applies. no_needless_cut before later rs reply log known applies

pub returns-clause-read : goal.returns-clause-read
returns-clause-read c = λ before later rs rest reply log known applies. read_comes_first before later rs rest reply log known applies

pub returns-clause-others : goal.returns-clause-others
returns-clause-others c = λ before later rs rest mishap command reply log known which other applies. elim which [
  | inl cut ↦ as_under_never before later rs rest mishap command reply log known
      (rw cut (cut_is_never before rs rest command other)) applies
  | inr read ↦ as_under_never before later rs rest mishap command reply log known
      (rw read (read_is_never before rs rest command other)) applies
]

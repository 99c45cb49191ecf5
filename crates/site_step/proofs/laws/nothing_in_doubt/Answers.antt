use Rattle.site_step.proofs.Lasting.{call_is_sure, calls_are_sure, calls_stay}
use Rattle.site_step.proofs.laws.nothing_in_doubt.Goals as goal

pub returns-clause-call : goal.returns-clause-call
returns-clause-call c = λ before later command reply holds known applies.
    call_is_sure before later holds.records holds.rest command reply holds.log known applies

pub returns-clause-calls : goal.returns-clause-calls
returns-clause-calls c = λ before later calls holds known leads.
    calls_are_sure calls before later holds.records holds.rest holds.log known leads

pub returns-clause-lasts : goal.returns-clause-lasts
returns-clause-lasts c = λ before later calls known leads. calls_stay calls before later known leads

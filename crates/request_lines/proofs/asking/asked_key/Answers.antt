use Rattle.request_lines.proofs.Since.{if_none, asks_no_key, asks_bad_key}
use Rattle.request_lines.proofs.asking.asked_key.Goals as goal

pub returns-in_err-rest-clause-none : goal.returns-in_err-rest-clause-none
returns-in_err-rest-clause-none c =
    let split = c.split_since-since in
    if_none c.from_residual.result _
    (asks_no_key c.args.line.now split.result.0.now split.result.1 split.ensures c.in_err-rest.ensures.rest)

pub returns-in-None-clause-none : goal.returns-in-None-clause-none
returns-in-None-clause-none c =
    let split = c.split_since-since in
    asks_bad_key c.args.line.now split.result.0.now split.result.1 split.ensures c.in_ok-rest.rest.now c.in_ok-rest.ensures.rest
    c.in-None.ensures.key

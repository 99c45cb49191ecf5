use Rattle.request_lines.proofs.LastWords.{read_none, read_some, commit_is}
use Rattle.request_lines.proofs.asking.read_commit.Goals as goal

pub returns-in_err-site-clause-only : goal.returns-in_err-site-clause-only
returns-in_err-site-clause-only c = λ site txn fits id same.
    absurd (read_none c.args.schema.now c.args.text.now c.read_command.result c.in_err-site.was c.read_command.ensures.only site txn fits id same)

pub returns-in-Some-clause-only : goal.returns-in-Some-clause-only
returns-in-Some-clause-only c = λ site txn fits id same.
    let read = read_some c.args.schema.now c.args.text.now c.read_command.result c.in_ok-site.site c.in_ok-site.command c.in_ok-site.was
    c.read_command.ensures.only site txn fits id same in
    (read.0, commit_is c.in_ok-site.command c.in-Some.txn txn c.in-Some.ensures read.1)

pub returns-in-None-clause-only : goal.returns-in-None-clause-only
returns-in-None-clause-only c = λ site txn fits id same.
    c.in-None.ensures txn (read_some c.args.schema.now c.args.text.now c.read_command.result c.in_ok-site.site c.in_ok-site.command
    c.in_ok-site.was c.read_command.ensures.only site txn fits id same).1

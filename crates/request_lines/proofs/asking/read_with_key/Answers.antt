use Rattle.std.proofs.Common.{refl}
use Rattle.field_bounds.specs.declared.entry.Command.TheVariants.{Commit}
use Rattle.entry_text.specs.Spelling.{command_text}
use Rattle.request_lines.proofs.LastWords.{commit_cut, no_key, front_is}
use Rattle.request_lines.proofs.Since.{order_is, late_for}
use Rattle.request_lines.proofs.asking.read_with_key.Goals as goal

pub returns-in_err-spelled-clause-only : goal.returns-in_err-spelled-clause-only
returns-in_err-spelled-clause-only c = λ site txn key since fits asks.
    let split = c.split_since-since in
    absurd (c.in_err-spelled.ensures.none (command_text c.args.schema.now site (Commit txn)) key
    (commit_cut c.args.schema.now site split.result.0.now txn key asks.is_key
    (order_is c.args.line.now split.result.0.now split.result.1 split.ensures c.args.schema.now site txn key since asks)))

pub returns-in_err-key-clause-only : goal.returns-in_err-key-clause-only
returns-in_err-key-clause-only c = λ site txn key since fits asks.
    let split = c.split_since-since in
    absurd (no_key c.args.schema.now split.result.0.now c.in_ok-spelled.spelled.now c.in_ok-spelled.word.now c.in_ok-spelled.ensures.some
    c.in_err-key.ensures.key site txn key asks.is_key
    (order_is c.args.line.now split.result.0.now split.result.1 split.ensures c.args.schema.now site txn key since asks))

pub returns-in_err-site-clause-only : goal.returns-in_err-site-clause-only
returns-in_err-site-clause-only c = λ site txn key since fits asks.
    let split = c.split_since-since in
    absurd (c.in_err-site.ensures.only site txn fits asks.fits
    (front_is c.args.schema.now split.result.0.now c.in_ok-spelled.spelled.now c.in_ok-spelled.word.now c.in_ok-spelled.ensures.some site txn key
    asks.is_key (order_is c.args.line.now split.result.0.now split.result.1 split.ensures c.args.schema.now site txn key since asks)))

pub returns-then-not-is_behind_since-clause-only : goal.returns-then-not-is_behind_since-clause-only
returns-then-not-is_behind_since-clause-only c = λ site txn key since fits asks.
    let split = c.split_since-since in
    absurd (late_for c.args.line.now split.result.0.now split.result.1 split.ensures c.in_ok-site.txn (c.if-not-is_behind_since.ensures.no refl)
    c.args.schema.now site txn key since
    (c.in_ok-site.ensures.only site txn fits asks.fits
    (front_is c.args.schema.now split.result.0.now c.in_ok-spelled.spelled.now c.in_ok-spelled.word.now c.in_ok-spelled.ensures.some site txn key
    asks.is_key (order_is c.args.line.now split.result.0.now split.result.1 split.ensures c.args.schema.now site txn key since asks))).1 asks)

pub returns-clause-only : goal.returns-clause-only
returns-clause-only c = λ site txn key since fits asks.
    let split = c.split_since-since in
    (c.in_ok-site.ensures.only site txn fits asks.fits
    (front_is c.args.schema.now split.result.0.now c.in_ok-spelled.spelled.now c.in_ok-spelled.word.now c.in_ok-spelled.ensures.some site txn key
    asks.is_key (order_is c.args.line.now split.result.0.now split.result.1 split.ensures c.args.schema.now site txn key since asks))).0

use Rattle.std.proofs.Common.{◌^◌, sym}
use Rattle.line_words.proofs.Numbers.{number_takes}
use Rattle.std.proofs.lemmas.Option.{none-some}
use Rattle.escrow_run.proofs.LuckLemmas.{luck_joined, luck_cut, luck_spaced, if_none}
use Rattle.escrow_run.proofs.line.split_luck.Goals as goal

pub returns-in_err-front-clause-none : goal.returns-in_err-front-clause-none
returns-in_err-front-clause-none c =
    if_none c.from_residual.result _ (λ plain bytes small torn. luck_spaced c.args.line.now plain bytes c.in_err-front.ensures torn)

pub returns-in_err-bytes-clause-none : goal.returns-in_err-bytes-clause-none
returns-in_err-bytes-clause-none c =
    if_none c.from_residual-in_err-bytes.result _ (λ plain bytes small torn.
    none-some bytes (c.in_err-bytes.ensures.only bytes small
    (luck_cut c.args.line.now c.in_ok-front.front.now c.in_ok-front.word.now plain bytes small c.in_ok-front.ensures.0
    c.in_ok-front.ensures.1 torn).1))

pub returns-in_err-plain-clause-none : goal.returns-in_err-plain-clause-none
returns-in_err-plain-clause-none c =
    if_none c.from_residual-in_err-plain.result _ (λ plain bytes small torn.
    c.in_err-plain.ensures plain
    (luck_cut c.args.line.now c.in_ok-front.front.now c.in_ok-front.word.now plain bytes small c.in_ok-front.ensures.0
    c.in_ok-front.ensures.1 torn).0)

pub returns-clause-found : goal.returns-clause-found
returns-clause-found c = (
  luck_joined c.args.line.now c.in_ok-front.front.now c.in_ok-front.word.now c.in_ok-plain.plain.now c.in_ok-bytes.bytes
      c.in_ok-front.ensures.1 c.in_ok-bytes.ensures.found c.in_ok-plain.ensures,
  (number_takes (2 ^ 64) c.in_ok-front.word.now c.in_ok-bytes.bytes (sym c.in_ok-bytes.ensures.value)).0,
)

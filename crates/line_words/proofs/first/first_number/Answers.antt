use Rattle.line_words.proofs.FrontLemmas.{number_cut}
use Rattle.line_words.proofs.first.first_number.Goals as goal

pub returns : goal.returns
returns c = record {
  cut = number_cut c.args.bytes.now c.in_ok-number.count c.in_ok-number.number c.in_ok-number.ensures.value;
}

use Rattle.std.proofs.Common.{rules, ◌≡◌}
use Rattle.line_words.specs.Reading.{signed_of}
use Rattle.line_words.proofs.SignedNumbers.{minus_word, plain_word}
use Rattle.line_words.proofs.Forms.{read_says}
use Rattle.line_words.proofs.WordKinds.{signed_read}
use Rattle.line_words.proofs.number.read_signed.Goals as goal

pub returns-in-45 : goal.returns-in-45
returns-in-45 c =
    let value : c.negative.result ≡ signed_of c.args.word.now = search (rules, minus_word) in
    read_says signed_read c.args.word.now _ value

pub returns-in_default : goal.returns-in_default
unfolding signed_of
returns-in_default c =
    let value : c.positive.result ≡ signed_of c.args.word.now = search (rules, plain_word) in
    read_says signed_read c.args.word.now _ value

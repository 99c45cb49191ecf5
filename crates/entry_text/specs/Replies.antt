-- What words spell a reply, as functions on lists of words (this project).
use Rattle.std.specs.Prelude.{ℕ, ◌^◌, List, [], ◌∷◌, ◌++◌, Option, codes}
use Rattle.field_bounds.specs.declared.entry.Last.{Last}
use Rattle.field_bounds.specs.declared.entry.Last.TheVariants.{Nothing, Kept, Lost}
use Rattle.field_bounds.specs.declared.entry.Refusal.{Refusal}
use Rattle.field_bounds.specs.declared.entry.Refusal.TheVariants.{Down, NoSite, NoField, NoTransaction, Zero, TooLarge, Short, SelfGift, LedgerFull, NotYours, Forged, TooManyOpen, TooManyEscrows, NumbersFull, NothingGiven}
use Rattle.field_bounds.specs.declared.entry.Reply.{Reply}
use Rattle.field_bounds.specs.declared.entry.Reply.TheVariants.{Begun, Granted, Committed, Aborted, Given, Stated, Spared, Tightened, Accepted, Between, Shares, Restarted, Unsure, StillDown, Refused}
use Rattle.line_words.specs.Reading.{number_of, signed_of, below, beside, only_of}
use Rattle.entry_text.specs.Reading.{id_of, Reader, no_word, map_at, one_word, two_words, three_words, phrase, table_at}

-- ---- refusals

-- Refusals by their numbers, each with what its words after the number are: those of one digit.
abbrev pub one_digit_refusals : List (List ℕ × Reader Refusal)
one_digit_refusals =
    (codes "1", phrase (codes "down" ∷ []) Down)
    ∷ (codes "2", phrase (codes "no" ∷ codes "site" ∷ []) NoSite)
    ∷ (codes "3", phrase (codes "no" ∷ codes "field" ∷ []) NoField)
    ∷ (codes "4", phrase (codes "no" ∷ codes "transaction" ∷ []) NoTransaction)
    ∷ (codes "5", phrase (codes "zero" ∷ []) Zero)
    ∷ (codes "6", phrase (codes "too" ∷ codes "large" ∷ []) TooLarge)
    ∷ (codes "7", two_words (only_of (codes "short")) (number_of (2 ^ 64)) (λ a share. Short share))
    ∷ (codes "8", phrase (codes "self" ∷ codes "gift" ∷ []) SelfGift)
    ∷ (codes "9", three_words (only_of (codes "ledger")) (only_of (codes "full")) (number_of (2 ^ 64)) (λ a b total. LedgerFull total))
    ∷ []

-- Those of two digits.
abbrev pub two_digit_refusals : List (List ℕ × Reader Refusal)
two_digit_refusals =
    (codes "10", phrase (codes "not" ∷ codes "yours" ∷ []) NotYours)
    ∷ (codes "11", two_words (only_of (codes "forged")) (number_of (2 ^ 64)) (λ a room. Forged room))
    ∷ (codes "12", phrase (codes "too" ∷ codes "many" ∷ codes "open" ∷ []) TooManyOpen)
    ∷ (codes "13", phrase (codes "too" ∷ codes "many" ∷ codes "escrows" ∷ []) TooManyEscrows)
    ∷ (codes "14", phrase (codes "numbers" ∷ codes "full" ∷ []) NumbersFull)
    ∷ (codes "15", phrase (codes "nothing" ∷ codes "given" ∷ []) NothingGiven)
    ∷ []

-- The refusals by their numbers.
abbrev pub refusal_table : List (List ℕ × Reader Refusal)
refusal_table = one_digit_refusals ++ two_digit_refusals

-- The refusal of a list of words, and the words after it.
unfoldable pub refusal_at : Reader Refusal
refusal_at ws = table_at refusal_table ws

-- ---- replies

-- What restarts find, by their words.
abbrev pub found_table : List (List ℕ × Last)
found_table = (codes "nothing", Nothing) ∷ (codes "kept", Kept) ∷ (codes "lost", Lost) ∷ []

-- What a restart found, as the word tells it.
unfoldable pub found_of : List ℕ → Option Last
found_of w = beside found_table w

-- Replies by their first words, each with what its words after that are: those that tell of rights.
abbrev pub right_replies : List (List ℕ × Reader Reply)
right_replies =
    (codes "given", one_word (number_of (2 ^ 64)) Given)
    ∷ (codes "stated", one_word (number_of (2 ^ 64)) Stated)
    ∷ (codes "spared", two_words (number_of (2 ^ 64)) (number_of (2 ^ 64)) Spared)
    ∷ (codes "tightened", one_word (number_of (2 ^ 64)) Tightened)
    ∷ (codes "accepted", one_word (number_of (2 ^ 64)) Accepted)
    ∷ (codes "share", two_words (number_of (2 ^ 64)) (number_of (2 ^ 64)) Shares)
    ∷ []

-- The others.
abbrev pub other_replies : List (List ℕ × Reader Reply)
other_replies =
    (codes "begun", one_word id_of Begun)
    ∷ (codes "granted", no_word Granted)
    ∷ (codes "committed", no_word Committed)
    ∷ (codes "aborted", no_word Aborted)
    ∷ (codes "between", two_words signed_of signed_of Between)
    ∷ (codes "restarted", two_words (below (2 ^ 32)) found_of Restarted)
    ∷ (codes "unsure", no_word Unsure)
    ∷ (codes "still", phrase (codes "down" ∷ []) StillDown)
    ∷ (codes "refused", map_at refusal_at Refused)
    ∷ []

-- The replies by their first words.
abbrev pub reply_table : List (List ℕ × Reader Reply)
reply_table = other_replies ++ right_replies

-- The reply of a list of words, and the words after it.
unfoldable pub reply_at : Reader Reply
reply_at ws = table_at reply_table ws

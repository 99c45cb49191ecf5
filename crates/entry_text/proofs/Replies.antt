-- Replies are read as they are spelled.
use Rattle.std.proofs.Common.{◌≡◌, ℕ, ◌^◌, ◌<◌, arith, List, [], ◌∷◌, ◌++◌, Option, Some, refl, ap, ◌∙◌}
use Rattle.std.specs.Prelude.{codes}
use Rattle.std.specs.List.{AllByRecursion}
use Rattle.std.specs.Fmt.{decimal}
use Rattle.line_words.specs.Words.{words}
use Rattle.line_words.specs.Reading.{◌>>=◌, below, only_value}
use Rattle.field_bounds.specs.declared.entry.Last.{Last}
use Rattle.field_bounds.specs.declared.entry.Last.TheVariants.{Nothing, Kept, Lost}
use Rattle.field_bounds.specs.declared.entry.Refusal.{Refusal}
use Rattle.field_bounds.specs.declared.entry.Refusal.TheVariants.{Down, NoSite, NoField, NoTransaction, Zero, TooLarge, Short, SelfGift, LedgerFull, NotYours, Forged, TooManyOpen, TooManyEscrows, NumbersFull, NothingGiven}
use Rattle.field_bounds.specs.declared.entry.Reply.{Reply}
use Rattle.field_bounds.specs.declared.entry.Reply.TheVariants.{Begun, Granted, Committed, Aborted, Given, Stated, Spared, Tightened, Accepted, Between, Shares, Restarted, Unsure, StillDown, Refused}
use Rattle.line_words.proofs.WordLemmas.{IsWord, word_from_test}
use Rattle.line_words.proofs.Forms.{IsRead, IsForm, found, word_again, form_again}
use Rattle.line_words.proofs.WordKinds.{number_read, signed_read, below_read, only_read, table_read}
use Rattle.line_words.proofs.Lines.{line_found, line_fits}
use Rattle.entry_text.specs.Spelling.{found_text, refusal_words, reply_words, reply_text}
use Rattle.entry_text.specs.Ranges.{RefusalFits, ReplyFits}
use Rattle.entry_text.specs.Reading.{table_at}
use Rattle.entry_text.specs.Replies.{refusal_table, refusal_at, found_of, found_table, reply_table, reply_at}
use Rattle.entry_text.proofs.WordKinds.{id_read}
use Rattle.entry_text.proofs.Tables.{IsTable, ◌&◌, table_takes, phrase_row, phrase_again, words_from_test, map_row, one_row, two_row, three_row}

-- ---- refusals

refusal_rows : IsTable RefusalFits refusal_words refusal_table
refusal_rows =
    phrase_row _ _ Down (codes "1") (codes "down" ∷ []) refl tt refl
    & phrase_row _ _ NoSite (codes "2") (codes "no" ∷ codes "site" ∷ []) refl tt refl
    & phrase_row _ _ NoField (codes "3") (codes "no" ∷ codes "field" ∷ []) refl tt refl
    & phrase_row _ _ NoTransaction (codes "4") (codes "no" ∷ codes "transaction" ∷ []) refl tt refl
    & phrase_row _ _ Zero (codes "5") (codes "zero" ∷ []) refl tt refl
    & phrase_row _ _ TooLarge (codes "6") (codes "too" ∷ codes "large" ∷ []) refl tt refl
    & two_row _ _ (only_read (codes "short") refl) number_read (λ a share. Short share) (λ a share f g. (g, refl))
    & phrase_row _ _ SelfGift (codes "8") (codes "self" ∷ codes "gift" ∷ []) refl tt refl
    & three_row _ _ (only_read (codes "ledger") refl) (only_read (codes "full") refl) number_read (λ a b total. LedgerFull total)
    (λ a b total f g h. (h, refl))
    & phrase_row _ _ NotYours (codes "10") (codes "not" ∷ codes "yours" ∷ []) refl tt refl
    & two_row _ _ (only_read (codes "forged") refl) number_read (λ a room. Forged room) (λ a room f g. (g, refl))
    & phrase_row _ _ TooManyOpen (codes "12") (codes "too" ∷ codes "many" ∷ codes "open" ∷ []) refl tt refl
    & phrase_row _ _ TooManyEscrows (codes "13") (codes "too" ∷ codes "many" ∷ codes "escrows" ∷ []) refl tt refl
    & phrase_row _ _ NumbersFull (codes "14") (codes "numbers" ∷ codes "full" ∷ []) refl tt refl
    & phrase_row _ _ NothingGiven (codes "15") (codes "nothing" ∷ codes "given" ∷ []) refl tt refl
    & tt

refusal_takes : (ws : List (List ℕ)) (v : Refusal) (rest : List (List ℕ)) → refusal_at ws ≡ found v rest
    → RefusalFits v × (ws ≡ refusal_words v ++ rest)
unfolding refusal_at
refusal_takes = table_takes RefusalFits refusal_words refusal_table refusal_rows

refusal_again : (v : Refusal) (rest : List (List ℕ)) → RefusalFits v → refusal_at (refusal_words v ++ rest) ≡ found v rest
unfolding refusal_at table_at
refusal_again Down rest fits = phrase_again (codes "down" ∷ []) refl Down rest
refusal_again NoSite rest fits = phrase_again (codes "no" ∷ codes "site" ∷ []) refl NoSite rest
refusal_again NoField rest fits = phrase_again (codes "no" ∷ codes "field" ∷ []) refl NoField rest
refusal_again NoTransaction rest fits = phrase_again (codes "no" ∷ codes "transaction" ∷ []) refl NoTransaction rest
refusal_again Zero rest fits = phrase_again (codes "zero" ∷ []) refl Zero rest
refusal_again TooLarge rest fits = phrase_again (codes "too" ∷ codes "large" ∷ []) refl TooLarge rest
refusal_again (Short share) rest fits = word_again (only_read (codes "short") refl) _ tt _ tt ∙ word_again number_read _ share rest fits
refusal_again SelfGift rest fits = phrase_again (codes "self" ∷ codes "gift" ∷ []) refl SelfGift rest
refusal_again (LedgerFull total) rest fits =
    word_again (only_read (codes "ledger") refl) _ tt _ tt ∙ word_again (only_read (codes "full") refl) _ tt _ tt
    ∙ word_again number_read _ total rest fits
refusal_again NotYours rest fits = phrase_again (codes "not" ∷ codes "yours" ∷ []) refl NotYours rest
refusal_again (Forged room) rest fits = word_again (only_read (codes "forged") refl) _ tt _ tt ∙ word_again number_read _ room rest fits
refusal_again TooManyOpen rest fits = phrase_again (codes "too" ∷ codes "many" ∷ codes "open" ∷ []) refl TooManyOpen rest
refusal_again TooManyEscrows rest fits = phrase_again (codes "too" ∷ codes "many" ∷ codes "escrows" ∷ []) refl TooManyEscrows rest
refusal_again NumbersFull rest fits = phrase_again (codes "numbers" ∷ codes "full" ∷ []) refl NumbersFull rest
refusal_again NothingGiven rest fits = phrase_again (codes "nothing" ∷ codes "given" ∷ []) refl NothingGiven rest

refusal_plain : (v : Refusal) → RefusalFits v → AllByRecursion IsWord (refusal_words v)
refusal_plain Down fits = words_from_test (refusal_words Down) refl
refusal_plain NoSite fits = words_from_test (refusal_words NoSite) refl
refusal_plain NoField fits = words_from_test (refusal_words NoField) refl
refusal_plain NoTransaction fits = words_from_test (refusal_words NoTransaction) refl
refusal_plain Zero fits = words_from_test (refusal_words Zero) refl
refusal_plain TooLarge fits = words_from_test (refusal_words TooLarge) refl
refusal_plain (Short share) fits =
    word_from_test (codes "7") refl & word_from_test (codes "short") refl & number_read.plain share fits & tt
refusal_plain SelfGift fits = words_from_test (refusal_words SelfGift) refl
refusal_plain (LedgerFull total) fits =
    word_from_test (codes "9") refl & word_from_test (codes "ledger") refl & word_from_test (codes "full") refl
    & number_read.plain total fits & tt
refusal_plain NotYours fits = words_from_test (refusal_words NotYours) refl
refusal_plain (Forged room) fits =
    word_from_test (codes "11") refl & word_from_test (codes "forged") refl & number_read.plain room fits & tt
refusal_plain TooManyOpen fits = words_from_test (refusal_words TooManyOpen) refl
refusal_plain TooManyEscrows fits = words_from_test (refusal_words TooManyEscrows) refl
refusal_plain NumbersFull fits = words_from_test (refusal_words NumbersFull) refl
refusal_plain NothingGiven fits = words_from_test (refusal_words NothingGiven) refl

pub refusal_form : IsForm RefusalFits refusal_words refusal_at
refusal_form = record { takes = refusal_takes; again = refusal_again; plain = refusal_plain }

-- ---- what a restart found

last_again : (l : Last) → found_of (found_text l) ≡ Some l
unfolding found_of
last_again Nothing = refl
last_again Kept = refl
last_again Lost = refl

last_read : IsRead (λ (l : Last). Unit {0}) found_text found_of
unfolding found_of
last_read = table_read found_text found_table (refl, (refl, (refl, tt))) refl last_again

last_word : (l : Last) → IsWord (found_text l)
last_word l = last_read.plain l tt

epoch_read : IsRead (λ (n : ℕ). n < 2 ^ 32) decimal (below (2 ^ 32))
epoch_read = below_read (2 ^ 32) (omega arith)

-- ---- replies

reply_rows : IsTable ReplyFits reply_words reply_table
reply_rows =
    one_row _ _ id_read Begun (λ txn f. (f, refl))
    & phrase_row _ _ Granted (codes "granted") [] refl tt refl
    & phrase_row _ _ Committed (codes "committed") [] refl tt refl
    & phrase_row _ _ Aborted (codes "aborted") [] refl tt refl
    & two_row _ _ signed_read signed_read Between (λ lo hi f g. ((f, g), refl))
    & two_row _ _ epoch_read last_read Restarted (λ epoch found f g. (f, refl))
    & phrase_row _ _ Unsure (codes "unsure") [] refl tt refl
    & phrase_row _ _ StillDown (codes "still") (codes "down" ∷ []) refl tt refl
    & map_row _ _ refusal_form Refused (λ refusal f. (f, refl))
    & one_row _ _ number_read Given (λ total f. (f, refl))
    & one_row _ _ number_read Stated (λ total f. (f, refl))
    & two_row _ _ number_read number_read Spared (λ amount total f g. ((f, g), refl))
    & one_row _ _ number_read Tightened (λ total f. (f, refl))
    & one_row _ _ number_read Accepted (λ gain f. (f, refl))
    & two_row _ _ number_read number_read Shares (λ lower raise f g. ((f, g), refl))
    & tt

reply_takes : (ws : List (List ℕ)) (v : Reply) (rest : List (List ℕ)) → reply_at ws ≡ found v rest
    → ReplyFits v × (ws ≡ reply_words v ++ rest)
unfolding reply_at
reply_takes = table_takes ReplyFits reply_words reply_table reply_rows

reply_again : (v : Reply) (rest : List (List ℕ)) → ReplyFits v → reply_at (reply_words v ++ rest) ≡ found v rest
unfolding reply_at table_at
reply_again (Begun txn) rest fits = word_again id_read _ txn rest fits
reply_again Granted rest fits = refl
reply_again Committed rest fits = refl
reply_again Aborted rest fits = refl
reply_again (Given total) rest fits = word_again number_read _ total rest fits
reply_again (Stated total) rest fits = word_again number_read _ total rest fits
reply_again (Spared amount total) rest fits = word_again number_read _ amount _ fits.0 ∙ word_again number_read _ total rest fits.1
reply_again (Tightened total) rest fits = word_again number_read _ total rest fits
reply_again (Accepted gain) rest fits = word_again number_read _ gain rest fits
reply_again (Between lo hi) rest fits = word_again signed_read _ lo _ fits.0 ∙ word_again signed_read _ hi rest fits.1
reply_again (Shares lower raise) rest fits = word_again number_read _ lower _ fits.0 ∙ word_again number_read _ raise rest fits.1
reply_again (Restarted epoch found) rest fits = word_again epoch_read _ epoch _ fits ∙ word_again last_read _ found rest tt
reply_again Unsure rest fits = refl
reply_again StillDown rest fits = word_again (only_read (codes "down") refl) _ tt rest tt
reply_again (Refused refusal) rest fits = form_again refusal_form _ refusal rest fits

reply_plain : (v : Reply) → ReplyFits v → AllByRecursion IsWord (reply_words v)
reply_plain (Begun txn) fits = word_from_test (codes "begun") refl & id_read.plain txn fits & tt
reply_plain Granted fits = words_from_test (reply_words Granted) refl
reply_plain Committed fits = words_from_test (reply_words Committed) refl
reply_plain Aborted fits = words_from_test (reply_words Aborted) refl
reply_plain (Given total) fits = word_from_test (codes "given") refl & number_read.plain total fits & tt
reply_plain (Stated total) fits = word_from_test (codes "stated") refl & number_read.plain total fits & tt
reply_plain (Spared amount total) fits =
    word_from_test (codes "spared") refl & number_read.plain amount fits.0 & number_read.plain total fits.1 & tt
reply_plain (Tightened total) fits = word_from_test (codes "tightened") refl & number_read.plain total fits & tt
reply_plain (Accepted gain) fits = word_from_test (codes "accepted") refl & number_read.plain gain fits & tt
reply_plain (Between lo hi) fits = word_from_test (codes "between") refl & signed_read.plain lo fits.0 & signed_read.plain hi fits.1 & tt
reply_plain (Shares lower raise) fits =
    word_from_test (codes "share") refl & number_read.plain lower fits.0 & number_read.plain raise fits.1 & tt
reply_plain (Restarted epoch found) fits = word_from_test (codes "restarted") refl & epoch_read.plain epoch fits & last_word found & tt
reply_plain Unsure fits = words_from_test (reply_words Unsure) refl
reply_plain StillDown fits = words_from_test (reply_words StillDown) refl
reply_plain (Refused refusal) fits = word_from_test (codes "refused") refl & refusal_plain refusal fits

pub reply_form : IsForm ReplyFits reply_words reply_at
reply_form = record { takes = reply_takes; again = reply_again; plain = reply_plain }

-- what the reader of words says of bytes of which it leaves none
pub reply_cut : (bytes : List ℕ) (v : Reply) (left : List (List ℕ)) → reply_at (words bytes) ≡ found v left → left ≡ []
    → (bytes ≡ reply_text v) × ReplyFits v
reply_cut bytes v left e none =
    let whole : (reply_at (words bytes) >>= only_value) ≡ Some v =
    ap (λ (o : Option (Reply × List (List ℕ))). o >>= only_value) (e ∙ ap (λ (l : List (List ℕ)). found v l) none) in
    (line_found reply_form bytes v whole, line_fits reply_form bytes v whole)

-- The last line feed of bytes.
use Rattle.std.proofs.Common.{◌≡◌, ℕ, ◌+◌, List, [], ◌∷◌, ◌++◌, get_or, take, drop, Some, None, ap, ◌∙◌}
use Rattle.std.proofs.lemmas.List.{take_more}
use Rattle.std.proofs.lemmas.Bool.{eqb-true}
use Rattle.memchr.specs.Find.{IsLastByte, is_byte}
use Rattle.kept_records.specs.Logs.{HasNoLf}
use Rattle.script_input.specs.Lines.{last_part}
use Rattle.script_input.proofs.LineLemmas.{last_part-broken}
use Rattle.request_lines.proofs.NoBytes.{none_from}

pub last_byte : (bytes : List ℕ) (k : ℕ) → IsLastByte (is_byte 10) bytes (Some k)
    → (last_part (take (k + 1) bytes) ≡ []) × HasNoLf (drop (k + 1) bytes)
last_byte bytes k found =
    let is : get_or bytes k 0 ≡ 10 = eqb-true _ _ found.1 in (
      ap last_part (take_more bytes k 0 found.0.high ∙ ap (λ (b : ℕ). take k bytes ++ b ∷ []) is) ∙ last_part-broken (take k bytes),
      none_from 10 bytes (k + 1) found.0.after,
    )

pub no_byte : (bytes : List ℕ) → IsLastByte (is_byte 10) bytes None → HasNoLf (drop 0 bytes)
no_byte bytes none = none_from 10 bytes 0 none

use Rattle.std.proofs.Common.{◌≡◌, ◌%◌, ◌^◌, List, ◌∷◌, ◌++◌, [], ℕ, ap, ◌∙◌, rules, codes}
use Rattle.std.specs.Int.{w32, to_be_bytes}
use Rattle.std.specs.List.{sum}
use Rattle.hex.specs.Hex.{encode_lower}
use Rattle.sealed_text.specs.Seals.{weighted}
use Rattle.sealed_text.proofs.Cuts.{sum_is}
use Rattle.sealed_text.proofs.batch.sum_line.Goals as goal

pub returns : goal.returns
returns c =
    let batch = c.args.batch.now in
    let digits : c.encode_to_slice.new.output
    ≡ encode_lower (to_be_bytes w32 (sum batch % 2 ^ 32) ++ to_be_bytes w32 (weighted batch % 2 ^ 32)) = search rules in
    record { line = ap (λ (l : List ℕ). codes "sum " ++ l ++ 10 ∷ []) (digits ∙ sum_is batch) }

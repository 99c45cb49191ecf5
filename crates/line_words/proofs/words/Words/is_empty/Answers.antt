use Rattle.std.proofs.Common.{subst, List, ℕ, [], ◌≡◌}
use Rattle.std.specs.Prelude.{MatchBool, ◌≢◌}
use Rattle.line_words.proofs.WordLemmas.{is_empty_says}
use Rattle.line_words.proofs.words.Words.is_empty.Goals as goal

pub returns : goal.returns
returns c = record {
  none = subst (λ (ws : List (List ℕ)). MatchBool c.is_none.result (ws ≡ []) (ws ≢ [])) c.self.view_is
      (is_empty_says c.self.inside.left c.is_none.result c.is_none.ensures);
}

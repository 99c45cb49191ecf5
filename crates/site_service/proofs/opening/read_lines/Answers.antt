use Rattle.std.proofs.Common.{◌≡◌, List, ℕ, [], ◌++◌, take, drop, Option, sym, ap, subst, ◌∙◌}
use Rattle.std.proofs.lemmas.List.{take-append-drop}
use Rattle.kept_records.specs.Logs.{HasNoLf}
use Rattle.script_input.specs.Lines.{last_part}
use Rattle.file_medium.specs.Copies.{IsCopyOf}
use Rattle.site_service.proofs.opening.read_lines.Goals as goal

pub returns-clause-lines : goal.returns-clause-lines
returns-clause-lines g c =
    let held = c.in_ok-held.held.items in
    let kept = c.lines_length-kept.result in
    let is = c.as_slice.ensures.value in
    let cut : c.truncate.new.self.items ≡ take kept held = c.truncate.ensures.items in
    record {
      bytes = held;
      torn = drop kept held;
      copy = subst (λ (k : Option (List ℕ)). IsCopyOf k held) c.read_whole.ensures.bytes c.in_ok-held.ensures.copy;
      lines = record {
        parts = sym (take-append-drop kept held) ∙ ap (λ (l : List ℕ). l ++ drop kept held) (sym cut);
        whole = ap last_part cut ∙ subst (λ (l : List ℕ). last_part (take kept l) ≡ []) is c.lines_length-kept.ensures.whole;
        no_lf = subst (λ (l : List ℕ). HasNoLf (drop kept l)) is c.lines_length-kept.ensures.rest;
      };
    }

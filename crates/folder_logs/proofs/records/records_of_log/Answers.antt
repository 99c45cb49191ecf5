use Rattle.std.proofs.Common.{◌≡◌, ℕ, List, ◌++◌, ◌∙◌, ap, sym, inr}
use Rattle.site_folder.specs.Identity.{log_name, sealed_log_name}
use Rattle.folder_logs.proofs.records.records_of_log.Goals as goal

pub returns-in-Some-clause-held : goal.returns-in-Some-clause-held
returns-in-Some-clause-held c = inr (record {
  text = c.in-Some.text.now;
  file_is =
      c.in-Some.ensures.rest
      ∙ ap (λ (n : List ℕ). n ++ c.in-Some.text.now) (c.as_slice.ensures.value ∙ c.in_ok-name.ensures.name);
  unsealed = c.in_ok-unsealed.unsealed;
  closed = c.in_ok-unsealed.ensures.ok;
  has = c.in_ok-without_notes.ensures.has;
})

pub returns-clause-fault : goal.returns-clause-fault
returns-clause-fault c =
    let plain : c.as_slice-2.result.now ≡ log_name c.args.identity.now = c.as_slice-2.ensures.value ∙ c.in_ok-name-2.ensures.name in
    let sealed : c.as_slice.result.now ≡ sealed_log_name c.args.identity.now = c.as_slice.ensures.value ∙ c.in_ok-name.ensures.name in
    record {
      plain = λ rest e. c.in-None.ensures.rest rest (e ∙ ap (λ (n : List ℕ). n ++ rest) (sym plain));
      sealed = λ rest e. c.in_default.ensures.rest rest (e ∙ ap (λ (n : List ℕ). n ++ rest) (sym sealed));
    }

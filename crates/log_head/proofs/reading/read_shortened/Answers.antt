use Rattle.std.proofs.Common.{◌≡◌, ◌-◌, ℕ, List, ◌++◌, length, take, refl, sym, ap, ◌∙◌}
use Rattle.sealed_text.specs.Seals.{sum_line}
use Rattle.site_folder.specs.Identity.{file_name}
use Rattle.log_head.specs.Heads.{version_line, shortened_lines}
use Rattle.log_head.proofs.HeadsRead.{changed_lines, changed_sum, lines_are, front_is, begins_shortened, not_named}
use Rattle.log_head.proofs.reading.read_shortened.Goals as goal

pub returns-in_default-clause-refused : goal.returns-in_default-clause-refused
returns-in_default-clause-refused c =
    not_named c.args.bytes.now c.as_slice.result.now (file_name version_line c.args.identity.now) (c.as_slice.ensures.value ∙ c.in_ok-name.ensures)
    c.in_default.ensures.rest

pub returns-in_default-2-clause-refused : goal.returns-in_default-2-clause-refused
returns-in_default-2-clause-refused c =
    let v = c.args.identity.now in
    let told = c.in-Some.told.now in
    let named : c.as_slice.result.now ≡ file_name version_line v = c.as_slice.ensures.value ∙ c.in_ok-name.ensures in
    changed_lines v c.args.bytes.now told (c.in-Some.ensures.rest ∙ ap (λ (l : List ℕ). l ++ told) named)
    (rw c.in_default-2.is at c.in_ok-gone.ensures.none)

pub returns-in-Some-behind-clause-found : goal.returns-in-Some-behind-clause-found
returns-in-Some-behind-clause-found c =
    let v = c.args.identity.now in
    let bytes = c.args.bytes.now in
    let told = c.in-Some.told.now in
    let gone = c.in-Some-2.gone in
    let rest = c.in-Some-2.rest.now in
    let named : c.as_slice.result.now ≡ file_name version_line v = c.as_slice.ensures.value ∙ c.in_ok-name.ensures in
    let is = lines_are v bytes told gone rest (c.in-Some.ensures.rest ∙ ap (λ (l : List ℕ). l ++ told) named)
    (rw c.in-Some-2.is at c.in_ok-gone.ensures.some) in
    begins_shortened v bytes (take (length bytes - length rest) bytes) gone rest c.sum_line-sum.result c.in-Some-behind.field-0.now
    _ (rw c.in-Some-2.is at c.in_ok-gone.ensures.own) is (front_is bytes (shortened_lines v gone) rest is) c.sum_line-sum.ensures.line
    c.in-Some-behind.ensures.rest refl

pub returns-clause-refused : goal.returns-clause-refused
returns-clause-refused c =
    let v = c.args.identity.now in
    let bytes = c.args.bytes.now in
    let told = c.in-Some.told.now in
    let gone = c.in-Some-2.gone in
    let rest = c.in-Some-2.rest.now in
    let named : c.as_slice.result.now ≡ file_name version_line v = c.as_slice.ensures.value ∙ c.in_ok-name.ensures in
    let begins = c.in-Some.ensures.rest ∙ ap (λ (l : List ℕ). l ++ told) named in
    let tells = rw c.in-Some-2.is at c.in_ok-gone.ensures.some in
    let is = lines_are v bytes told gone rest begins tells in
    let closes : c.sum_line-sum.result ≡ sum_line (shortened_lines v gone) =
    c.sum_line-sum.ensures.line ∙ ap sum_line (front_is bytes (shortened_lines v gone) rest is) in
    changed_sum v bytes told gone rest begins tells (rw c.in-Some-2.is at c.in_ok-gone.ensures.own)
    (not_named rest c.sum_line-sum.result (sum_line (shortened_lines v gone)) closes c.in-None.ensures.rest)

-- The texts of identities: each is of one, and it is refused for no fault.
use Rattle.std.proofs.Common.{append_assoc, codes, Option, Some, None, ◌≡◌, ◌≢◌, slice_index, ℕ, List, [], ◌∷◌, ◌++◌, Result, Ok, Err, refl, sym, ap, ◌∙◌, arith, inl, inr}
use Rattle.std.specs.Prelude.{IfOk, IfErr, MatchResult}
use Rattle.std.specs.Fmt.{decimal}
use Rattle.std.proofs.lemmas.List.{append_cancel_left}
use Rattle.std.proofs.lemmas.Fmt.{decimal_injective}
use Rattle.sealed_text.specs.Seals.{sum_line}
use Rattle.field_bounds.specs.Schema.{SchemaValue}
use Rattle.field_bounds.specs.Header.{schema_of}
use Rattle.field_bounds.specs.declared.id.SiteNo.{SiteNo}
use Rattle.field_bounds.proofs.Alone.{schema_of-limits}
use Rattle.site_folder.specs.declared.fault.IdentityFault.{IdentityFault}
use Rattle.site_folder.specs.declared.fault.IdentityFault.TheVariants.{Version, NoIdentity, World, Name, Lines, Header, Number, NoMemory}
use Rattle.site_folder.specs.Identity.{IdentityValue, IsIdentity, IsOneLine, IsNamed, world_text, world_digest, world_name, version_line, line_then, name_behind, name_then, told_text, identity_text, file_name, log_name, sealed_head, sealed_log_name, trace_name, HaveOneName, AreOneWorld}
use Rattle.site_folder.specs.Reading.{Tells, TellsLines, TellsNone, MakesNone, IsVersion, IsRefused}
use Rattle.site_folder.proofs.LineLemmas.{world_name_line, own_name_line, number_line, world_line, no_line, one_cut, SameTold, same_lines}

-- the lines of an identity
own_lines : (v : IdentityValue) → IsIdentity v
    → Tells (told_text v.name v.number.0 (world_name v) v.header) v.name v.number.0 (world_name v) v.header
own_lines v own =
    let limits = schema_of-limits v.header v.schema own.schema in
    record {
      text = refl;
      fits = omega (arith, own.number, limits.few_sites);
      name_line = own_name_line v.name own.named;
      world_line = world_name_line v.name v.header;
      header_line = own.line;
    }

-- its text tells them
own_text : (v : IdentityValue) → IsIdentity v → (text : List ℕ) → text ≡ identity_text v
    → TellsLines text v.name v.number.0 (world_name v) v.header
own_text v own text is = record { rest = told_text v.name v.number.0 (world_name v) v.header; version = is; lines = own_lines v own }

-- a text that tells lines, and is an identity's, tells the identity's
same_as_told : (v : IdentityValue) → IsIdentity v → (text : List ℕ) → text ≡ identity_text v → (name : Option (List ℕ)) (n : ℕ)
    (world header : List ℕ) → TellsLines text name n world header → SameTold name v.name n v.number.0 world (world_name v) header v.header
same_as_told v own text is name n world header l =
    same_lines text name v.name n v.number.0 world (world_name v) header v.header l (own_text v own text is)

-- why a name, a number and a header make none that make one
not_none : (v : IdentityValue) → IsIdentity v → (name : Option (List ℕ)) (n : ℕ) (header : List ℕ) (fault : IdentityFault) → name ≡ v.name
    → n ≡ v.number.0 → header ≡ v.header → MakesNone name n header fault → fault ≡ NoMemory
not_none v own name n header Name name-is number-is header-is none = absurd (none (rw name-is own.named))
not_none v own name n header Lines name-is number-is header-is none = absurd (none.1 (rw header-is own.line))
not_none v own name n header (Header fault) name-is number-is header-is none =
    let tells : schema_of header ≡ Ok v.schema = ap schema_of header-is ∙ own.schema in
    let not : schema_of header ≡ Err fault = none.2 in
    absurd cc
not_none v own name n header Number name-is number-is header-is none =
    let other = none.2 in
    let tells : schema_of header ≡ Ok v.schema = ap schema_of header-is ∙ own.schema in
    let another : schema_of header ≡ Ok other.schema = other.tells in
    let same : other.schema ≡ v.schema = cc in
    let sites : other.schema.sites ≡ v.schema.sites = ap (λ (s : SchemaValue). s.sites) same in
    absurd (omega (arith, own.number, other.beyond, sites, number-is))
not_none v own name n header NoMemory name-is number-is header-is none = refl
not_none v own name n header Version name-is number-is header-is none = absurd none
not_none v own name n header NoIdentity name-is number-is header-is none = absurd none
not_none v own name n header World name-is number-is header-is none = absurd none

-- one line less, for the faults of the name, the number and the header
not_told_none : (v : IdentityValue) → IsIdentity v → (text : List ℕ) → text ≡ identity_text v → (fault : IdentityFault) → TellsNone text fault
    → fault ≡ NoMemory
not_told_none v own text is fault told =
    let same = same_as_told v own text is told.name told.number (world_digest told.name told.header) told.header told.lines in
    not_none v own told.name told.number told.header fault same.name same.number same.header told.none

pub version_is_one : (name : Option (List ℕ)) → IsVersion (version_line name)
version_is_one None = inl refl
version_is_one (Some name) = inr refl

never_refused : (v : IdentityValue) → IsIdentity v → (text : List ℕ) → text ≡ identity_text v → (fault : IdentityFault) → IsRefused text fault
    → fault ≡ NoMemory
never_refused v own text is Version refused =
    absurd (refused (version_line v.name) (told_text v.name v.number.0 (world_name v) v.header) (version_is_one v.name) is)
never_refused v own text is NoIdentity refused = absurd (refused.none v.name v.number.0 (world_name v) v.header (own_text v own text is))
never_refused v own text is World refused =
    let same = same_as_told v own text is refused.name refused.number refused.world refused.header refused.lines in
    absurd (refused.other (same.world ∙ ap (λ (n : Option (List ℕ)). world_digest n v.header) (sym same.name)
    ∙ ap (world_digest refused.name) (sym same.header)))
never_refused v own text is Name refused = not_told_none v own text is Name refused
never_refused v own text is (Header fault) refused = not_told_none v own text is (Header fault) refused
never_refused v own text is Number refused = not_told_none v own text is Number refused
never_refused v own text is Lines refused = absurd refused
never_refused v own text is NoMemory refused = refl

same_site : (a b : SiteNo) → a.0 ≡ b.0 → a ≡ b
same_site a b e = ap (λ (n : ℕ). let site : SiteNo = record { 0 = n } in site) e

same_value : (v w : IdentityValue) → v.number ≡ w.number → v.name ≡ w.name → v.header ≡ w.header → v.schema ≡ w.schema → v ≡ w
same_value v w number name header schema =
    let numbered : SiteNo → IdentityValue = λ n. record { number = n; name = v.name; header = v.header; schema = v.schema } in
    let named : Option (List ℕ) → IdentityValue = λ n. record { number = w.number; name = n; header = v.header; schema = v.schema } in
    let headed : List ℕ → IdentityValue = λ h. record { number = w.number; name = w.name; header = h; schema = v.schema } in
    let told : SchemaValue → IdentityValue = λ s. record { number = w.number; name = w.name; header = w.header; schema = s } in
    ap numbered number ∙ ap named name ∙ ap headed header ∙ ap told schema

-- two identities of one text are one
same_identity : (v w : IdentityValue) → IsIdentity v → IsIdentity w → (text : List ℕ) → text ≡ identity_text v → text ≡ identity_text w → v ≡ w
same_identity v w own other text is also =
    let same = same_as_told w other text also v.name v.number.0 (world_name v) v.header (own_text v own text is) in
    let number : v.number ≡ w.number = same_site v.number w.number same.number in
    let tells : schema_of v.header ≡ Ok w.schema = ap schema_of same.header ∙ other.schema in
    let own_tells : schema_of v.header ≡ Ok v.schema = own.schema in
    same_value v w number same.name same.header cc

-- what a reading answers of the text of an identity
pub only_by : (text : List ℕ) (read : Result IdentityValue IdentityFault) → IfOk read IsIdentity → IfOk read (λ i. text ≡ identity_text i)
    → IfErr read (IsRefused text) → (v : IdentityValue) → IsIdentity v → text ≡ identity_text v
    → MatchResult read (λ i. i ≡ v) (λ fault. fault ≡ NoMemory)
only_by text (Ok i) whole found refused v own is = same_identity i v whole own text found is
only_by text (Err fault) whole found refused v own is = never_refused v own text is fault refused

-- ---- texts as they are written

-- a line for a name that is there, behind a line of which the line feed is still to come
pub name_lines : (name : Option (List ℕ)) (line rest : List ℕ) → (line ++ name_behind name) ++ 10 ∷ rest ≡ line_then line (name_then name rest)
name_lines None line rest = append_assoc line [] (10 ∷ rest)
name_lines (Some name) line rest = append_assoc line (10 ∷ codes "name " ++ name) (10 ∷ rest)

-- ---- texts of worlds

one_text : (name other : Option (List ℕ)) (header another : List ℕ) → IsNamed name → IsNamed other → IsOneLine header → IsOneLine another
    → world_text name header ≡ world_text other another → (name ≡ other) × (header ≡ another)
one_text None None header another own also line too is = (refl, is)
one_text (Some name) (Some other) header another own also line too is =
    let same = one_cut name other header another (own_name_line (Some name) own) (own_name_line (Some other) also) is in
    (ap (λ (l : List ℕ). Some l) same.front, same.rest)
one_text None (Some other) header another own also line too is = absurd (no_line header other another line is)
one_text (Some name) None header another own also line too is = absurd (no_line another name header too (sym is))

pub one_world : (v w : IdentityValue) → IsIdentity v → IsIdentity w → world_text v.name v.header ≡ world_text w.name w.header → AreOneWorld v w
one_world v w own other is =
    let same = one_text v.name w.name v.header w.header own.named other.named own.line other.line is in
    record { name = same.0; header = same.1 }

-- ---- names of files

-- a line, and what stands behind it, with more behind that
line_more : (line rest more : List ℕ) → line_then line rest ++ more ≡ line_then line (rest ++ more)
line_more line rest more = append_assoc line (10 ∷ rest) more

number_is_line : (v : IdentityValue) → IsIdentity v → IsOneLine (codes "number " ++ decimal v.number.0)
number_is_line v own = number_line v.number.0 (own_lines v own).fits

world_is_line : (v : IdentityValue) → IsOneLine (codes "world " ++ world_name v)
world_is_line v = world_line (world_name v) (world_name_line v.name v.header)

-- what stands behind the first line of a name, with more behind it
abbrev behind_version : IdentityValue → List ℕ → List ℕ
behind_version v more = line_then (codes "number " ++ decimal v.number.0) (line_then (codes "world " ++ world_name v) more)

name_more : (version : List ℕ) (v : IdentityValue) (more : List ℕ) → file_name version v ++ more ≡ line_then version (behind_version v more)
name_more version v more =
    line_more version (behind_version v []) more
    ∙ ap (λ (l : List ℕ). line_then version l)
    (line_more (codes "number " ++ decimal v.number.0) (line_then (codes "world " ++ world_name v) []) more
    ∙ ap (λ (l : List ℕ). line_then (codes "number " ++ decimal v.number.0) l) (line_more (codes "world " ++ world_name v) [] more))

pub one_name : (version : List ℕ) (v w : IdentityValue) (rest more : List ℕ) → IsIdentity v → IsIdentity w
    → file_name version v ++ rest ≡ file_name version w ++ more → HaveOneName v w
one_name version v w rest more own other is =
    let same : version ++ (10 ∷ behind_version v rest) ≡ version ++ (10 ∷ behind_version w more) =
    sym (name_more version v rest) ∙ is ∙ name_more version w more in
    let cut : 10 ∷ behind_version v rest ≡ 10 ∷ behind_version w more =
    append_cancel_left version (10 ∷ behind_version v rest) (10 ∷ behind_version w more) same in
    let behind : behind_version v rest ≡ behind_version w more = cc in
    let one = one_cut (codes "number " ++ decimal v.number.0) (codes "number " ++ decimal w.number.0) _ _ (number_is_line v own)
    (number_is_line w other) behind in
    let two = one_cut (codes "world " ++ world_name v) (codes "world " ++ world_name w) rest more (world_is_line v)
    (world_is_line w) one.rest in
    let digits : decimal v.number.0 ≡ decimal w.number.0 = append_cancel_left (codes "number ") _ _ one.front in
    record {
      number = same_site v.number w.number (decimal_injective v.number.0 w.number.0 (own_lines v own).fits (own_lines w other).fits digits);
      world = append_cancel_left (codes "world ") _ _ two.front;
    }

-- the name of a log is no front of that of a trace: behind `escrow ` they differ
pub other_kind : (v w : IdentityValue) (rest more : List ℕ) → log_name v ++ rest ≢ trace_name w ++ more
other_kind v w rest more is =
    let at : slice_index (log_name v ++ rest) 7 ≡ slice_index (trace_name w ++ more) 7 = ap (λ (l : List ℕ). slice_index l 7) is in
    let letters : ◌≡◌ {A = ℕ} 108 116 = at in
    absurd (omega (arith, letters))

-- what stands behind the first three lines of the name of a log of version 2, with more behind it
abbrev behind_world_line : IdentityValue → List ℕ → List ℕ
behind_world_line v more = line_then (codes "head 0 0") [] ++ (sum_line (sealed_head v) ++ more)

sealed_more : (v : IdentityValue) (more : List ℕ)
    → sealed_log_name v ++ more ≡ file_name (codes "escrow log 2") v ++ behind_world_line v more
sealed_more v more =
    append_assoc (sealed_head v) (sum_line (sealed_head v)) more
    ∙ append_assoc (file_name (codes "escrow log 2") v) (line_then (codes "head 0 0") []) (sum_line (sealed_head v) ++ more)

pub one_sealed_name : (v w : IdentityValue) (rest more : List ℕ) → IsIdentity v → IsIdentity w
    → sealed_log_name v ++ rest ≡ sealed_log_name w ++ more → HaveOneName v w
one_sealed_name v w rest more own other is =
    one_name (codes "escrow log 2") v w (behind_world_line v rest) (behind_world_line w more) own other
    (sym (sealed_more v rest) ∙ is ∙ sealed_more w more)

-- nor is that of a log of version 2
pub other_sealed_kind : (v w : IdentityValue) (rest more : List ℕ) → sealed_log_name v ++ rest ≢ trace_name w ++ more
other_sealed_kind v w rest more is =
    let at : slice_index (sealed_log_name v ++ rest) 7 ≡ slice_index (trace_name w ++ more) 7 = ap (λ (l : List ℕ). slice_index l 7) is in
    let letters : ◌≡◌ {A = ℕ} 108 116 = at in
    absurd (omega (arith, letters))

-- the names of logs of two versions differ at the end of their first lines
pub other_version_of_log : (v w : IdentityValue) (rest more : List ℕ) → log_name v ++ rest ≢ sealed_log_name w ++ more
other_version_of_log v w rest more is =
    let at : slice_index (log_name v ++ rest) 11 ≡ slice_index (sealed_log_name w ++ more) 11 = ap (λ (l : List ℕ). slice_index l 11) is in
    let letters : ◌≡◌ {A = ℕ} 49 50 = at in
    absurd (omega (arith, letters))

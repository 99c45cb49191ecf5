-- Heads of a site's log: bytes begin with one of them at most.
use Rattle.std.proofs.Common.{append_assoc, ◌≡◌, ◌≢◌, ℕ, ◌+◌, ◌-◌, List, [], ◌∷◌, ◌++◌, length, take, length-append, codes, slice_index, Result, Ok, Err, refl, sym, ap, subst, ◌∙◌, arith}
use Rattle.std.specs.Prelude.{IfOk, IfErr, MatchResult}
use Rattle.std.proofs.lemmas.List.{append_cancel_left, take_at}
use Rattle.sealed_text.specs.Seals.{sum_line}
use Rattle.sealed_text.proofs.Cuts.{length-sum_line}
use Rattle.site_folder.specs.Identity.{IdentityValue, IsIdentity, HaveOneName, file_name, log_name, sealed_log_name, trace_name}
use Rattle.site_folder.proofs.IdentityLemmas.{one_name, other_version_of_log}
use Rattle.log_head.specs.declared.fault.HeadFault.{HeadFault}
use Rattle.log_head.specs.declared.fault.HeadFault.TheVariants.{Other, Changed, NoMemory}
use Rattle.log_head.specs.declared.gone.Gone.{Gone}
use Rattle.log_head.specs.declared.gone.Head.{Head}
use Rattle.log_head.specs.declared.gone.HeadKind.{HeadKind}
use Rattle.log_head.specs.declared.gone.HeadKind.TheVariants.{Plain, Sealed, Shortened}
use Rattle.log_head.specs.Heads.{IsGone, IsKind, BeginsWith, IsOther, IsChanged, IsRefused, IsNotShortened, version_line, told_then, shortened_lines, shortened_name, head_text}
use Rattle.log_head.proofs.Told.{SameTold, told_same, told_more}

-- what stands behind the first three lines of a shortened log
abbrev pub behind_name : IdentityValue → Gone → List ℕ → List ℕ
behind_name v gone rest = told_then gone (sum_line (shortened_lines v gone) ++ rest)

pub lines_more : (v : IdentityValue) (gone : Gone) (rest : List ℕ)
    → shortened_lines v gone ++ rest ≡ file_name version_line v ++ told_then gone rest
lines_more v gone rest =
    append_assoc (file_name version_line v) (told_then gone []) rest
    ∙ ap (λ (l : List ℕ). file_name version_line v ++ l) (told_more gone [] rest)

pub shortened_more : (v : IdentityValue) (gone : Gone) (rest : List ℕ)
    → shortened_name v gone ++ rest ≡ file_name version_line v ++ behind_name v gone rest
shortened_more v gone rest =
    append_assoc (shortened_lines v gone) (sum_line (shortened_lines v gone)) rest
    ∙ lines_more v gone (sum_line (shortened_lines v gone) ++ rest)

-- ---- laws

pub one_site : (v w : IdentityValue) (gone other : Gone) (rest more : List ℕ) → IsIdentity v → IsIdentity w
    → shortened_name v gone ++ rest ≡ shortened_name w other ++ more → HaveOneName v w
one_site v w gone other rest more own also is =
    one_name version_line v w (behind_name v gone rest) (behind_name w other more) own also
    (sym (shortened_more v gone rest) ∙ is ∙ shortened_more w other more)

pub same_head : (v : IdentityValue) (gone other : Gone) (rest more : List ℕ) → IsGone gone → IsGone other
    → shortened_name v gone ++ rest ≡ shortened_name v other ++ more → SameTold gone other rest more
same_head v gone other rest more own also is =
    let told = told_same gone other (sum_line (shortened_lines v gone) ++ rest) (sum_line (shortened_lines v other) ++ more) own also
    (append_cancel_left (file_name version_line v) _ _ (sym (shortened_more v gone rest) ∙ is ∙ shortened_more v other more)) in
    let one : sum_line (shortened_lines v gone) ≡ sum_line (shortened_lines v other) =
    ap (λ (g : Gone). sum_line (shortened_lines v g)) told.gone_is in
    record {
      gone_is = told.gone_is;
      rest_is = append_cancel_left (sum_line (shortened_lines v other)) rest more
          (ap (λ (l : List ℕ). l ++ rest) (sym one) ∙ told.rest_is);
    }

pub not_plain : (v w : IdentityValue) (gone : Gone) (rest more : List ℕ) → shortened_name v gone ++ rest ≢ log_name w ++ more
not_plain v w gone rest more is =
    let at : slice_index (shortened_name v gone ++ rest) 11 ≡ slice_index (log_name w ++ more) 11 = ap (λ (l : List ℕ). slice_index l 11) is in
    let letters : ◌≡◌ {A = ℕ} 51 49 = at in
    absurd (omega (arith, letters))

pub not_sealed : (v w : IdentityValue) (gone : Gone) (rest more : List ℕ) → shortened_name v gone ++ rest ≢ sealed_log_name w ++ more
not_sealed v w gone rest more is =
    let at : slice_index (shortened_name v gone ++ rest) 11 ≡ slice_index (sealed_log_name w ++ more) 11 =
    ap (λ (l : List ℕ). slice_index l 11) is in
    let letters : ◌≡◌ {A = ℕ} 51 50 = at in
    absurd (omega (arith, letters))

pub not_trace : (v w : IdentityValue) (gone : Gone) (rest more : List ℕ) → shortened_name v gone ++ rest ≢ trace_name w ++ more
not_trace v w gone rest more is =
    let at : slice_index (shortened_name v gone ++ rest) 7 ≡ slice_index (trace_name w ++ more) 7 = ap (λ (l : List ℕ). slice_index l 7) is in
    let letters : ◌≡◌ {A = ℕ} 108 116 = at in
    absurd (omega (arith, letters))

-- ---- what a reading answers

-- the front that was summed
pub front_is : (bytes lines rest : List ℕ) → bytes ≡ lines ++ rest → take (length bytes - length rest) bytes ≡ lines
front_is bytes lines rest is =
    let size : length bytes - length rest ≡ length lines =
    omega (arith, ap (length {A = ℕ}) is, length-append lines rest) in
    ap (λ (n : ℕ). take n bytes) size ∙ ap (take (length lines)) is ∙ take_at lines rest (length lines) refl

pub changed_lines : (v : IdentityValue) (bytes told : List ℕ) → bytes ≡ file_name version_line v ++ told
    → ((gone : Gone) (rest : List ℕ) → IsGone gone → told ≢ told_then gone rest) → IsChanged v bytes
changed_lines v bytes told is none = record {
  behind = told;
  begins = is;
  none = λ gone rest own e. none gone (sum_line (shortened_lines v gone) ++ rest) own
      (append_cancel_left (file_name version_line v) told (behind_name v gone rest) (sym is ∙ e ∙ shortened_more v gone rest));
}

pub changed_sum : (v : IdentityValue) (bytes told : List ℕ) (gone : Gone) (rest : List ℕ) → bytes ≡ file_name version_line v ++ told
    → told ≡ told_then gone rest → IsGone gone → ((more : List ℕ) → rest ≢ sum_line (shortened_lines v gone) ++ more) → IsChanged v bytes
changed_sum v bytes told gone rest is tells own none = record {
  behind = told;
  begins = is;
  none = λ other more also e.
      let same = told_same other gone (sum_line (shortened_lines v other) ++ more) rest also own
      (append_cancel_left (file_name version_line v) (behind_name v other more) (told_then gone rest)
      (sym (shortened_more v other more) ∙ sym e ∙ is ∙ ap (λ (l : List ℕ). file_name version_line v ++ l) tells)) in
      none more (sym same.rest_is ∙ ap (λ (g : Gone). sum_line (shortened_lines v g) ++ more) same.gone_is);
}

-- all bytes in front of the sum
pub lines_are : (v : IdentityValue) (bytes told : List ℕ) (gone : Gone) (rest : List ℕ) → bytes ≡ file_name version_line v ++ told
    → told ≡ told_then gone rest → bytes ≡ shortened_lines v gone ++ rest
lines_are v bytes told gone rest is tells =
    is ∙ ap (λ (l : List ℕ). file_name version_line v ++ l) tells ∙ sym (lines_more v gone rest)

pub begins_shortened : (v : IdentityValue) (bytes lines : List ℕ) (gone : Gone) (rest sum more : List ℕ) (length_ : ℕ) → IsGone gone
    → bytes ≡ shortened_lines v gone ++ rest → lines ≡ shortened_lines v gone → sum ≡ sum_line lines → rest ≡ sum ++ more
    → length_ ≡ length bytes - length rest + 21 → BeginsWith v bytes (record { kind = Shortened gone; length = length_ })
begins_shortened v bytes lines gone rest sum more length_ own is lines-is sum-is behind size =
    let closes : sum ≡ sum_line (shortened_lines v gone) = sum-is ∙ ap sum_line lines-is in
    record {
      rest = more;
      bytes_are = is ∙ ap (λ (l : List ℕ). shortened_lines v gone ++ l) (behind ∙ ap (λ (l : List ℕ). l ++ more) closes)
          ∙ sym (append_assoc (shortened_lines v gone) (sum_line (shortened_lines v gone)) more);
      length_is = omega (
        arith,
        size,
        ap (length {A = ℕ}) is,
        length-append (shortened_lines v gone) rest,
        length-append (shortened_lines v gone) (sum_line (shortened_lines v gone)),
        length-sum_line (shortened_lines v gone),
      );
      kind = own;
    }

other_name : (v : IdentityValue) (rest more : List ℕ) → log_name v ++ rest ≢ file_name version_line v ++ more
other_name v rest more is =
    let at : slice_index (log_name v ++ rest) 11 ≡ slice_index (file_name version_line v ++ more) 11 = ap (λ (l : List ℕ). slice_index l 11) is in
    let letters : ◌≡◌ {A = ℕ} 49 51 = at in
    absurd (omega (arith, letters))

other_sealed : (v : IdentityValue) (rest more : List ℕ) → sealed_log_name v ++ rest ≢ file_name version_line v ++ more
other_sealed v rest more is =
    let at : slice_index (sealed_log_name v ++ rest) 11 ≡ slice_index (file_name version_line v ++ more) 11 =
    ap (λ (l : List ℕ). slice_index l 11) is in
    let letters : ◌≡◌ {A = ℕ} 50 51 = at in
    absurd (omega (arith, letters))

pub refused_by : (v : IdentityValue) (bytes : List ℕ) (fault : HeadFault) → ((rest : List ℕ) → bytes ≢ sealed_log_name v ++ rest)
    → ((rest : List ℕ) → bytes ≢ log_name v ++ rest) → IsNotShortened v bytes fault → IsRefused v bytes fault
refused_by v bytes Other sealed plain none = record { plain = plain; sealed = sealed; shortened = none }
refused_by v bytes Changed sealed plain none = none
refused_by v bytes NoMemory sealed plain none = tt

pub refused_then : (v : IdentityValue) (bytes : List ℕ) (read : Result Head HeadFault) → ((rest : List ℕ) → bytes ≢ sealed_log_name v ++ rest)
    → ((rest : List ℕ) → bytes ≢ log_name v ++ rest) → IfErr read (IsNotShortened v bytes) → IfErr read (IsRefused v bytes)
refused_then v bytes (Ok head) sealed plain none = tt
refused_then v bytes (Err fault) sealed plain none = refused_by v bytes fault sealed plain none

same_kind : (v : IdentityValue) (a b : HeadKind) (rest more : List ℕ) → IsKind a → IsKind b → head_text v a ++ rest ≡ head_text v b ++ more → a ≡ b
same_kind v Plain Plain rest more own also is = refl
same_kind v Plain Sealed rest more own also is = absurd (other_version_of_log v v rest more is)
same_kind v Plain (Shortened g) rest more own also is = absurd (not_plain v v g more rest (sym is))
same_kind v Sealed Plain rest more own also is = absurd (other_version_of_log v v more rest (sym is))
same_kind v Sealed Sealed rest more own also is = refl
same_kind v Sealed (Shortened g) rest more own also is = absurd (not_sealed v v g more rest (sym is))
same_kind v (Shortened g) Plain rest more own also is = absurd (not_plain v v g rest more is)
same_kind v (Shortened g) Sealed rest more own also is = absurd (not_sealed v v g rest more is)
same_kind v (Shortened g) (Shortened h) rest more own also is = ap Shortened (same_head v g h rest more own also is).gone_is

never_refused : (v : IdentityValue) (bytes : List ℕ) (kind : HeadKind) (rest : List ℕ) → IsKind kind → bytes ≡ head_text v kind ++ rest
    → (fault : HeadFault) → IsRefused v bytes fault → fault ≡ NoMemory
never_refused v bytes Plain rest own is Other refused = absurd (refused.plain rest is)
never_refused v bytes Sealed rest own is Other refused = absurd (refused.sealed rest is)
never_refused v bytes (Shortened g) rest own is Other refused =
    absurd (refused.shortened (behind_name v g rest) (is ∙ shortened_more v g rest))
never_refused v bytes Plain rest own is Changed refused = absurd (other_name v rest refused.behind (sym is ∙ refused.begins))
never_refused v bytes Sealed rest own is Changed refused = absurd (other_sealed v rest refused.behind (sym is ∙ refused.begins))
never_refused v bytes (Shortened g) rest own is Changed refused = absurd (refused.none g rest own is)
never_refused v bytes kind rest own is NoMemory refused = refl

-- the answer over the text of a head
pub only_by : (v : IdentityValue) (bytes : List ℕ) (read : Result Head HeadFault) → IfOk read (BeginsWith v bytes)
    → IfErr read (IsRefused v bytes) → (kind : HeadKind) (rest : List ℕ) → IsKind kind → bytes ≡ head_text v kind ++ rest
    → MatchResult read (λ head. head.kind ≡ kind) (λ fault. fault ≡ NoMemory)
only_by v bytes (Ok head) found refused kind rest own is =
    same_kind v head.kind kind found.rest rest found.kind own (sym found.bytes_are ∙ is)
only_by v bytes (Err fault) found refused kind rest own is = never_refused v bytes kind rest own is fault refused

-- the name of a log that wasn't shortened
pub begins_sealed : (v : IdentityValue) (bytes name rest : List ℕ) (size : ℕ) → name ≡ sealed_log_name v → bytes ≡ name ++ rest → size ≡ length name
    → BeginsWith v bytes (record { kind = Sealed; length = size })
begins_sealed v bytes name rest size named is sized = record {
  rest = rest;
  bytes_are = is ∙ ap (λ (l : List ℕ). l ++ rest) named;
  length_is = sized ∙ ap (length {A = ℕ}) named;
  kind = tt;
}

pub begins_plain : (v : IdentityValue) (bytes name rest : List ℕ) (size : ℕ) → name ≡ log_name v → bytes ≡ name ++ rest → size ≡ length name
    → BeginsWith v bytes (record { kind = Plain; length = size })
begins_plain v bytes name rest size named is sized = record {
  rest = rest;
  bytes_are = is ∙ ap (λ (l : List ℕ). l ++ rest) named;
  length_is = sized ∙ ap (length {A = ℕ}) named;
  kind = tt;
}

-- bytes that don't begin with a name
pub not_named : (bytes name own : List ℕ) → name ≡ own → ((rest : List ℕ) → bytes ≢ name ++ rest) → (rest : List ℕ) → bytes ≢ own ++ rest
not_named bytes name own named none rest e = none rest (e ∙ ap (λ (l : List ℕ). l ++ rest) (sym named))

-- What stands behind the head of a log.
use Rattle.std.proofs.Common.{◌≡◌, ℕ, List, ◌++◌, length, take, drop, sym, ap, subst, ◌∙◌, ◌⊎◌, inl, inr}
use Rattle.std.proofs.lemmas.List.{take_at, take-append-drop}
use Rattle.site_folder.specs.Identity.{IdentityValue}
use Rattle.log_head.specs.declared.gone.Gone.{Gone}
use Rattle.log_head.specs.declared.gone.Head.{Head}
use Rattle.log_head.specs.declared.gone.HeadKind.{HeadKind}
use Rattle.log_head.specs.declared.gone.HeadKind.TheVariants.{Plain, Sealed, Shortened}
use Rattle.log_head.specs.Heads.{BeginsWith, IsGone, IsKind, head_text, shortened_name}
use Rattle.folder_logs.specs.Files.{IsOtherLog}

-- ---- a head of version 3

-- The first so many bytes are the head that tells this to be gone.
pub record ShortFront (v : IdentityValue) (bytes : List ℕ) (n : ℕ) (gone : Gone) : Type 0 where
  pub told : IsGone gone
  pub front : take n bytes ≡ shortened_name v gone
  pub whole : bytes ≡ shortened_name v gone ++ drop n bytes

front_by : (v : IdentityValue) (bytes : List ℕ) (kind : HeadKind) (n : ℕ) (rest : List ℕ) (gone : Gone) → bytes ≡ head_text v kind ++ rest
    → n ≡ length (head_text v kind) → IsKind kind → kind ≡ Shortened gone → ShortFront v bytes n gone
front_by v bytes kind n rest gone parts size own is =
    let named : head_text v kind ≡ shortened_name v gone = ap (head_text v) is in
    let front : take n bytes ≡ head_text v kind = ap (take n) parts ∙ take_at (head_text v kind) rest n (sym size) in
    record {
      told = subst IsKind is own;
      front = front ∙ named;
      whole = sym (take-append-drop n bytes) ∙ ap (λ (l : List ℕ). l ++ drop n bytes) (front ∙ named);
    }

pub short_front : (v : IdentityValue) (bytes : List ℕ) (head : Head) (n : ℕ) (gone : Gone) → BeginsWith v bytes head → head.length ≡ n
    → head.kind ≡ Shortened gone → ShortFront v bytes n gone
short_front v bytes head n gone begins same is =
    front_by v bytes head.kind n begins.rest gone begins.bytes_are (sym same ∙ begins.length_is) begins.kind is

-- bytes that begin with no name of version 1 or 2 begin with no head of them
pub other_head : (v : IdentityValue) (bytes : List ℕ) (head : Head) → IsOtherLog v bytes → BeginsWith v bytes head
    → (head.kind ≡ Plain) ⊎ (head.kind ≡ Sealed) → ⊥
other_head v bytes head other begins (inl is) =
    other.plain begins.rest (begins.bytes_are ∙ ap (λ (kind : HeadKind). head_text v kind ++ begins.rest) is)
other_head v bytes head other begins (inr is) =
    other.sealed begins.rest (begins.bytes_are ∙ ap (λ (kind : HeadKind). head_text v kind ++ begins.rest) is)

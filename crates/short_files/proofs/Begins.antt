-- What the head of a file tells of all of it, and of what stands behind it (this project).
use Rattle.std.proofs.Common.{append_assoc, ◌≡◌, ℕ, List, ◌++◌, length, take, drop, Option, None, Some, inl, inr, refl, sym, ap, subst, ◌∙◌, arith}
use Rattle.std.proofs.lemmas.List.{take-append-drop, take_all, drop_at}
use Rattle.file_medium.specs.Files.{KeepsFront, ReadsAt}
use Rattle.file_medium.specs.Copies.{IsCopyOf}
use Rattle.file_swap.specs.Heads.{joined}
use Rattle.named_log.specs.Names.{behind}
use Rattle.sealed_log.specs.Sealed.{KeepsAll, Opens, Refuses as RefusesSealed}
use Rattle.sealed_log.specs.declared.fault.SealFault.{SealFault}
use Rattle.sealed_log.specs.declared.fault.SealFault.TheVariants.{Damaged, Ended, Device, NoMemory}
use Rattle.site_folder.specs.Identity.{IdentityValue}
use Rattle.log_head.specs.declared.gone.Gone.{Gone}
use Rattle.short_files.specs.declared.fault.ShortFault.{ShortFault}
use Rattle.short_files.specs.Short.{BeginsAs, HasBehind, IsKept, IsOfHead, IsRefusedFor, KeepsBatches, OpensShort, Refuses, ShortValue, head_of, of_seal}

-- the first bytes tell the head of all
pub begins_more : (v : IdentityValue) (known : Option (List ℕ)) (n : ℕ) (buffer : List ℕ) (front : Option Gone) → ReadsAt known 0 n buffer
    → BeginsAs v (Some (take n buffer)) front → BeginsAs v known front
begins_more v None n buffer front reads begins = tt
begins_more v (Some xs) n buffer front reads begins = (
  begins.0 ++ drop n xs,
  sym (take-append-drop n xs) ∙ ap (λ (l : List ℕ). l ++ drop n xs) (sym reads.0 ∙ begins.1)
      ∙ append_assoc (head_of v front) begins.0 (drop n xs),
)

-- and so does a copy
pub begins_copy : (v : IdentityValue) (known : Option (List ℕ)) (text : List ℕ) (front : Option Gone) → IsCopyOf known text
    → BeginsAs v (Some text) front → BeginsAs v known front
begins_copy v None text front copy begins = tt
begins_copy v (Some xs) text front copy begins = subst (λ l. BeginsAs v (Some l) front) (sym copy) begins

pub refuses_copy : (v : IdentityValue) (known : Option (List ℕ)) (text : List ℕ) (fault : ShortFault) → IsCopyOf known text
    → IsRefusedFor v text fault → Refuses v known fault
refuses_copy v None text fault copy refused = tt
refuses_copy v (Some xs) text fault copy refused = subst (λ l. IsRefusedFor v l fault) (sym copy) refused

-- what stands behind the head
behind-head : (v : IdentityValue) (text name rest : List ℕ) (front : Option Gone) → text ≡ head_of v front ++ rest → name ≡ head_of v front
    → drop (length name) text ≡ rest
behind-head v text name rest front is same =
    ap (λ (l : List ℕ). drop (length l) text) same ∙ ap (drop (length (head_of v front))) is
    ∙ drop_at (head_of v front) rest (length (head_of v front)) refl

pub opens-behind : (v : IdentityValue) (known named : Option (List ℕ)) (name : List ℕ) (front : Option Gone) (f : ShortValue)
    → BeginsAs v known front → name ≡ head_of v front → named ≡ behind (length name) known → f.gone ≡ front → Opens named f.log
    → OpensShort v known f
opens-behind v None named name front f begins same is told opens = tt
opens-behind v (Some text) named name front f begins same is told opens = record {
  rest = begins.0;
  text_is = begins.1 ∙ ap (λ g. head_of v g ++ begins.0) (sym told);
  log = subst (λ k. Opens k f.log) (is ∙ ap Some (behind-head v text name begins.0 front begins.1 same)) opens;
}

refuses-rest : (v : IdentityValue) (text rest : List ℕ) (front : Option Gone) (fault : SealFault) → text ≡ head_of v front ++ rest
    → RefusesSealed (Some rest) fault → IsRefusedFor v text (of_seal fault)
refuses-rest v text rest front (Damaged line) is refused = record { gone = front; rest = rest; text_is = is; holds = refused }
refuses-rest v text rest front Ended is refused = record { gone = front; rest = rest; text_is = is; holds = refused }
refuses-rest v text rest front Device is refused = tt
refuses-rest v text rest front NoMemory is refused = tt

pub refuses-behind : (v : IdentityValue) (known named : Option (List ℕ)) (name : List ℕ) (front : Option Gone) (fault : SealFault)
    → BeginsAs v known front → name ≡ head_of v front → named ≡ behind (length name) known → RefusesSealed named fault
    → Refuses v known (of_seal fault)
refuses-behind v None named name front fault begins same is refused = tt
refuses-behind v (Some text) named name front fault begins same is refused =
    refuses-rest v text begins.0 front fault begins.1
    (subst (λ k. RefusesSealed k fault) (is ∙ ap Some (behind-head v text name begins.0 front begins.1 same)) refused)

-- a head, and what stands behind it, are the file
pub joined-copy : (head rest : Option (List ℕ)) (name held : List ℕ) → IsCopyOf head name → IsCopyOf rest held
    → IsCopyOf (joined head rest) (name ++ held)
joined-copy None rest name held first second = tt
joined-copy (Some xs) None name held first second = tt
joined-copy (Some xs) (Some ys) name held first second =
    ap (λ (l : List ℕ). l ++ ys) first ∙ ap (λ (l : List ℕ). name ++ l) second

-- ---- a file that isn't taken

front-same : (known : Option (List ℕ)) → KeepsFront known known
front-same None = tt
front-same (Some xs) = sym (take_all (length xs) xs (omega arith))

pub kept-same : (v : IdentityValue) (known safe new : Option (List ℕ)) → new ≡ safe → IsKept v known safe new
kept-same v None safe new same = tt
kept-same v (Some text) safe new same = inl (subst (KeepsFront safe) (sym same) (front-same safe))

pub kept-front : (v : IdentityValue) (known safe new : Option (List ℕ)) → KeepsFront safe new → IsKept v known safe new
kept-front v None safe new front = tt
kept-front v (Some text) safe new front = inl front

pub kept-batches : (v : IdentityValue) (known safe named_safe left new : Option (List ℕ)) (name : List ℕ) (place : ℕ) (front : Option Gone)
    → BeginsAs v known front → name ≡ head_of v front → named_safe ≡ behind (length name) known → KeepsAll named_safe left
    → behind place new ≡ left → IsKept v known safe new
kept-batches v None safe named_safe left new name place front begins same is keeps back = tt
kept-batches v (Some text) safe named_safe left new name place front begins same is keeps back = inr (record {
  gone = front;
  rest = begins.0;
  text_is = begins.1;
  place = place;
  keeps = subst (λ k. KeepsAll k (behind place new)) (is ∙ ap Some (behind-head v text name begins.0 front begins.1 same))
      (subst (KeepsAll named_safe) (sym back) keeps);
})

-- no fault of the batches is one of the head
pub seal-not-head : (fault : SealFault) → IsOfHead (of_seal fault) → ⊥
seal-not-head (Damaged line) is = is
seal-not-head Ended is = is
seal-not-head Device is = is
seal-not-head NoMemory is = is

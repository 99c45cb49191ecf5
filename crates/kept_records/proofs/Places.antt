-- What stands behind a place in the bytes of a log.
use Rattle.std.proofs.Common.{◌≡◌, ℕ, ◌-◌, ◌^◌, ◌<◌, ◌≤◌, List, [], ◌∷◌, ◌++◌, length, take, drop, sym, ap, subst, ◌∙◌, arith, append_assoc}
use Rattle.std.specs.List.{flat_map, AllByRecursion}
use Rattle.std.proofs.lemmas.List.{drop_at, take_all, length-append, length-drop}
use Rattle.std.proofs.lemmas.List.Concat.{flat_map-append}
use Rattle.kept_records.specs.declared.record.Record.{Record}
use Rattle.kept_records.specs.Text.{text, IsRecord}
use Rattle.kept_records.specs.Logs.{IsLog}
use Rattle.kept_records.specs.ReadingBack.{told_length}

all_behind : (before behind : List Record) → AllByRecursion IsRecord (before ++ behind) → AllByRecursion IsRecord behind
all_behind [] behind all = all
all_behind (r ∷ before) behind all = all_behind before behind all.1

-- the bytes, cut where the texts of the first records end
cut_at : (bytes : List ℕ) (before behind : List Record) (rest : List ℕ) → IsLog bytes (before ++ behind) rest
    → bytes ≡ flat_map text before ++ (flat_map text behind ++ rest)
cut_at bytes before behind rest log =
    log.parts ∙ ap (λ (l : List ℕ). l ++ rest) (flat_map-append text before behind)
    ∙ append_assoc (flat_map text before) (flat_map text behind) rest

pub inside : (bytes : List ℕ) (before behind : List Record) (rest : List ℕ) → IsLog bytes (before ++ behind) rest
    → length (flat_map text before) ≤ length bytes
inside bytes before behind rest log = omega (
  arith,
  ap length (cut_at bytes before behind rest log),
  length-append (flat_map text before) (flat_map text behind ++ rest),
)

-- bytes that are read are no more than a usize tells
pub place_within : (bytes : List ℕ) (before behind : List Record) (rest : List ℕ) (place : ℕ) → IsLog bytes (before ++ behind) rest
    → length bytes < 2 ^ 64 → place ≡ told_length (length (flat_map text before))
    → place ≤ length bytes
place_within bytes before behind rest place log few is = omega (arith, inside bytes before behind rest log, few, is)

pub log_behind : (bytes : List ℕ) (before behind : List Record) (rest : List ℕ) (place : ℕ) → IsLog bytes (before ++ behind) rest
    → length bytes < 2 ^ 64 → place ≡ told_length (length (flat_map text before))
    → IsLog (drop place bytes) behind rest
log_behind bytes before behind rest place log few is =
    let exact : length (flat_map text before) ≡ place = omega (arith, inside bytes before behind rest log, few, is) in
    record {
      parts = ap (drop place) (cut_at bytes before behind rest log)
          ∙ drop_at (flat_map text before) (flat_map text behind ++ rest) place exact;
      each = all_behind before behind log.each;
      no_lf = log.no_lf;
    }

-- the same of a slice of them
pub log_of_slice : (bytes held : List ℕ) (before behind : List Record) (rest : List ℕ) (place : ℕ) → held ≡ bytes
    → IsLog bytes (before ++ behind) rest → length held < 2 ^ 64
    → place ≡ told_length (length (flat_map text before)) → IsLog (take (length held - place) (drop place held)) behind rest
log_of_slice bytes held before behind rest place same log few is =
    let log_held = subst (λ (l : List ℕ). IsLog l (before ++ behind) rest) (sym same) log in
    subst (λ (l : List ℕ). IsLog l behind rest) (sym
    (take_all (length held - place) (drop place held) (omega (arith, length-drop place held))))
    (log_behind held before behind rest place log_held few is)

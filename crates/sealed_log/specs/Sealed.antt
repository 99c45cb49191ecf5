-- A log in the batches of a file that sums close, as its callers see it (this project).
use Rattle.std.specs.Prelude.{◌≡◌, ◌≤◌, ◌<◌, ◌+◌, ◌==◌, ◌⊎◌, if◌then◌else◌, ℕ, zero, suc, List, [], ◌∷◌, length, take, All, ⊤, Bool, true, false, Option, None, Some, option_map}
use Rattle.std.specs.List.{concat}
use Rattle.std.specs.Io.KnownBytes.{append_known}
use Rattle.file_medium.specs.Copies.{IsFrontOf}
use Rattle.file_medium.specs.Files.{SparesFront}
use Rattle.file_swap.specs.Heads.{LeavesEither}
use Rattle.sealed_text.specs.Seals.{IsBatch, IsRecords, IsTorn, BeginsWith, Unseals, IsDamagedAt, sealed_batch, sealed_text, closed_text}
use Rattle.sealed_text.specs.declared.reading.Unsealed.{Unsealed}
use Rattle.sealed_log.specs.declared.fault.SealFault.{SealFault}
use Rattle.sealed_log.specs.declared.fault.SealFault.TheVariants.{Damaged, Ended, Device, NoMemory}

-- The log as its callers see it: the records of the closed batches and of the open one, and those that are safe, each where they
-- are known; how many bytes of records are closed; the open batch; whether a sync has failed; whether the world was ended; what
-- the file holds, and what of it is safe, where they are known; how many bytes of records were closed when it was opened, which
-- are the fewest that a cut of it has left; the fewest bytes that a cut of the file has left, where that is known; and the head in
-- front of what the file holds, where that is known.
pub record SealedBatches : Type 0 where
  pub bytes : Option (List ℕ)
  pub safe : Option (List ℕ)
  pub closed : ℕ
  pub batch : List ℕ
  pub is_lost : Bool
  pub is_ended : Bool
  pub file : Option (List ℕ)
  pub file_safe : Option (List ℕ)
  pub opened : ℕ
  pub file_least : Option ℕ
  pub head : Option (List ℕ)

-- A text without its sum lines: from each `s` (115) on the next 21 bytes are left out. So many bytes are left out before.
abbrev pub leaving_out : ℕ → List ℕ → List ℕ
leaving_out count [] = []
leaving_out zero (b ∷ bs) = if b == 115 then leaving_out 20 bs else b ∷ leaving_out zero bs
leaving_out (suc count) (b ∷ bs) = leaving_out count bs

-- The known bytes without their sum lines, of which so many are of records: what stands behind them is the end of the world.
abbrev pub closed_of : ℕ → Option (List ℕ) → Option (List ℕ)
closed_of closed known = option_map (λ text. take closed (leaving_out 0 text)) known

-- What callers see of a log: of the file, what it holds, what of it is safe, what its cuts have left and its head, and of the open
-- batch.
abbrev pub log_of : ℕ → Bool → Bool → Option (List ℕ) → Option (List ℕ) → List ℕ → ℕ → Option ℕ → Option (List ℕ) → SealedBatches
log_of closed is_lost is_ended file safe batch opened file_least head = record {
  bytes = append_known (closed_of closed file) batch;
  safe = closed_of closed safe;
  closed = closed;
  batch = batch;
  is_lost = is_lost;
  is_ended = is_ended;
  file = file;
  file_safe = safe;
  opened = opened;
  file_least = file_least;
  head = head;
}

-- The text is that of closed batches, of which the records have so many bytes; behind them stands the end of the world where it
-- was ended.
pub record IsClosed (closed : ℕ) (is_ended : Bool) (text : List ℕ) : Type 0 where
  pub batches : List (List ℕ)
  pub records : All IsRecords batches
  pub text_is : text ≡ closed_text is_ended batches
  pub closed_is : closed ≡ length (concat batches)

-- The bytes are closed so, where they are known.
abbrev pub AreClosed : ℕ → Bool → Option (List ℕ) → Type 0
AreClosed closed is_ended None = ⊤
AreClosed closed is_ended (Some text) = IsClosed closed is_ended text

-- The open batch: nothing yet, or whole lines.
abbrev pub IsOpen : List ℕ → Type 0
IsOpen batch = (batch ≡ []) ⊎ IsBatch batch

-- What holds of every log: the safe bytes of the file are closed, and are all that it holds, unless a call of it has failed; the records
-- that are kept in memory are the first ones; the open batch has whole lines, and room for the line that closes it; and what was
-- closed at the opening still is.
pub record IsSealed (closed : ℕ) (is_lost is_ended : Bool) (file safe : Option (List ℕ)) (records batch : List ℕ) (room opened : ℕ)
    : Type 0 where
  pub is_closed : is_lost ≡ false → AreClosed closed is_ended safe
  pub is_safe : is_lost ≡ false → file ≡ safe
  pub few : length records ≤ closed
  pub front : IsFrontOf (closed_of closed safe) records
  pub whole : IsOpen batch
  pub has_room : 0 < length batch → length batch + 21 ≤ room
  pub opened_is : opened ≤ closed

-- The file held closed batches and what a stop leaves; now it holds the closed ones alone, of which these are the records.
pub record CutsTorn (text : List ℕ) (file bytes : Option (List ℕ)) : Type 0 where
  pub batches : List (List ℕ)
  pub torn : List ℕ
  pub begins : BeginsWith text batches torn
  pub is_torn : IsTorn torn
  pub file_is : file ≡ Some (sealed_text batches)
  pub bytes_are : bytes ≡ Some (concat batches)

-- What a stop leaves was cut off so, where the bytes of the file are known.
abbrev pub Closes : Option (List ℕ) → Option (List ℕ) → List ℕ → Type 0
Closes None file records = file ≡ None
Closes (Some text) file records = CutsTorn text file (Some records)

-- The log was opened so, where the bytes of the file are known.
abbrev pub Opens : Option (List ℕ) → SealedBatches → Type 0
Opens None log = (log.file ≡ None) × (log.bytes ≡ None)
Opens (Some text) log = CutsTorn text log.file log.bytes

-- The text is that of a world that was ended.
pub record IsEnded (text : List ℕ) : Type 0 where
  pub unsealed : Unsealed
  pub unseals : Unseals text unsealed
  pub ended : unsealed.is_ended ≡ true

-- Why a log isn't opened. Of a call of the file that failed, and of want of memory, nothing can be said.
abbrev pub IsRefusedFor : List ℕ → SealFault → Type 0
IsRefusedFor text (Damaged line) = IsDamagedAt text line
IsRefusedFor text Ended = IsEnded text
IsRefusedFor text Device = ⊤
IsRefusedFor text NoMemory = ⊤

-- The log isn't opened for that, where the bytes of the file are known.
abbrev pub Refuses : Option (List ℕ) → SealFault → Type 0
Refuses None fault = ⊤
Refuses (Some text) fault = IsRefusedFor text fault

-- Closed batches of records that stand at the front of the one text stand at the front of the other.
pub record KeepsClosed (old new : List ℕ) : Type 0 where
  pub keeps : (batches : List (List ℕ)) (rest : List ℕ) → BeginsWith old batches rest → (tail : List ℕ) × BeginsWith new batches tail

-- The same of bytes, where those of the one are known: then those of the other are too.
abbrev pub KeepsAll : Option (List ℕ) → Option (List ℕ) → Type 0
KeepsAll None new = ⊤
KeepsAll (Some old) None = ⊥
KeepsAll (Some old) (Some new) = KeepsClosed old new

-- What is safe is what was, or has all that sums close in what the file held.
abbrev pub LosesNothing : Option (List ℕ) → Option (List ℕ) → Option (List ℕ) → Type 0
LosesNothing held safe new = (new ≡ safe) ⊎ KeepsAll held new

-- From the one moment to the other no cut of the file went in front of the end of a closed batch of records that it held.
abbrev pub SparesClosed : Option (List ℕ) → Option ℕ → Option ℕ → Type 0
SparesClosed None old new = ⊤
SparesClosed (Some text) old new = (batches : List (List ℕ)) (rest : List ℕ) → BeginsWith text batches rest
    → SparesFront (length (sealed_text batches)) old new

-- A file that isn't taken is as it was: it holds the same bytes, all of them safe, and no cut was made.
pub record IsUntouched (bytes : Option (List ℕ)) (least : Option ℕ) (new new_safe : Option (List ℕ)) (new_least : Option ℕ) : Type 0 where
  pub bytes_are : new ≡ bytes
  pub all_safe : new_safe ≡ bytes
  pub not_cut : new_least ≡ least

-- So many are the known bytes.
abbrev pub IsLengthOf : Option (List ℕ) → ℕ → Type 0
IsLengthOf None count = ⊤
IsLengthOf (Some xs) count = count ≡ length xs

-- It isn't known which file is there, and the log is lost: a stop of the machine leaves what was safe of the old file behind its
-- head, or the new file, whole.
pub record IsInDoubt (old new : SealedBatches) (file : List ℕ) : Type 0 where
  pub same : new ≡ record old {
    bytes = new.bytes;
    safe = new.safe;
    is_lost = true;
    file = new.file;
    file_safe = new.file_safe;
    file_least = new.file_least;
    head = new.head;
  }
  pub left : LeavesEither old.head old.file_safe new.head new.file_safe file

-- What was added to a file for a batch: nothing for none, and else the batch and the line that closes it.
abbrev pub sealed_open : List ℕ → List ℕ
sealed_open [] = []
sealed_open (b ∷ bs) = sealed_batch (b ∷ bs)

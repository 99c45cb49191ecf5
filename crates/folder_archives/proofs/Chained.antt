-- Parts that are verified one by one, from the log back.
use Rattle.std.proofs.Common.{◌≡◌, ℕ, ◌+◌, List, [], ◌∷◌, ◌++◌, length, Option, None, Some, refl, ap, subst, ◌∙◌, arith, zero-add, length-append}
use Rattle.std.specs.Prelude.{not}
use Rattle.std.specs.List.{flat_map}
use Rattle.std.proofs.lemmas.List.Concat.{flat_map-append}
use Rattle.std.proofs.lemmas.List.Elements.{filter-append}
use Rattle.kept_records.specs.declared.record.Record.{Record}
use Rattle.kept_records.specs.Stands.{is_summary, plain}
use Rattle.kept_records.specs.Text.{text}
use Rattle.site_folder.specs.Identity.{IdentityValue}
use Rattle.log_head.specs.declared.gone.Gone.{Gone}
use Rattle.held_logs.specs.Counts.{told_number}
use Rattle.held_logs.specs.Held.{Holds}
use Rattle.world_folders.specs.Logs.{AreOfLog}
use Rattle.world_folders.specs.Reading.{IsRead}
use Rattle.log_archives.specs.Chains.{PartValue}
use Rattle.log_archives.specs.Heads.{bytes_told, records_told}
use Rattle.log_archives.specs.Joints.{Joins}
use Rattle.log_archives.proofs.Chains.{joined_from, told_joined}
use Rattle.folder_archives.specs.declared.beginning.Beginning.{Beginning}
use Rattle.folder_archives.specs.declared.verifying.LogTotals.{LogTotals}
use Rattle.folder_archives.specs.Verified.{AreVerified, IsVerified, part_path, path_of}
use Rattle.folder_archives.specs.Steps.{AreLogTotals, PartBegins, IsLastPart, IsNextPart, IsPart}
use Rattle.folder_archives.proofs.Firsts.{joins_on}

-- a file that was read at its path
pub of_log : (holds : List ℕ → List ℕ → Type 0) (at path : List ℕ) (identity : IdentityValue) (file slice : List ℕ) (gone : Option Gone)
    (held : List ℕ) → at ≡ path → slice ≡ file → IsRead holds at file → Holds identity slice gone held
    → AreOfLog holds path identity gone held
of_log holds at path identity file slice gone held place same read holds_it = record {
  file = file;
  read = subst (λ (p : List ℕ). IsRead holds p file) place read;
  held = subst (λ (f : List ℕ). Holds identity f gone held) same holds_it;
}

plain_behind : (past rs : List Record) → length (plain (past ++ rs)) ≡ length (plain past) + length (plain rs)
plain_behind past rs =
    ap length (filter-append (λ r. not (is_summary r)) past rs) ∙ length-append (plain past) (plain rs)

size_behind : (past rs : List Record) → length (flat_map text (past ++ rs)) ≡ length (flat_map text past) + length (flat_map text rs)
size_behind past rs = ap length (flat_map-append text past rs) ∙ length-append (flat_map text past) (flat_map text rs)

module _ (holds : List ℕ → List ℕ → Type 0) (log : List ℕ) (identity : IdentityValue) (totals : LogTotals) where
  -- the parts from one on that lies at this path
  record FromPart (path : List ℕ) (gone : Option Gone) (held : List ℕ) : Type 0 where
    pub all : AreVerified holds log identity gone held
    pub place : path ≡ path_of log all.parts
    pub amount : AreLogTotals gone all.records totals

  -- the log is the last part
  last_part : (gone : Option Gone) (held : List ℕ) → AreOfLog holds log identity gone held → IsLastPart identity gone held totals
      → FromPart log gone held
  last_part gone held read last = record {
    all = record { parts = []; records = last.records; read = read; joined = (last.rest, last.log, last.from) };
    place = refl;
    amount = last.amount;
  }

  -- and one more in front of those that were verified
  one_more : (next : Beginning) (path : List ℕ) (gone : Option Gone) (held : List ℕ) → IsNextPart holds log identity next totals
      → path ≡ part_path log next.told.bytes → AreOfLog holds path identity gone held
      → Joins identity.schema identity.number.0 gone held next.told next.base.items → FromPart path gone held
  one_more next path gone held behind place read joins =
      let on = joins_on behind.held next.base.items behind.line identity.schema identity.number.0 gone held next.told joins in
      let part : PartValue = record { gone = next.told; held = behind.held } in
      let rs : List Record = behind.all.records in
      let count : next.told.records + length (plain rs) ≡ records_told gone + length (plain (on.front ++ rs)) =
      omega (arith, on.tells.records, plain_behind on.front rs) in
      let size : next.told.bytes + length (flat_map text rs) ≡ bytes_told gone + length (flat_map text (on.front ++ rs)) =
      omega (arith, on.tells.bytes, size_behind on.front rs) in
      record {
        all = record {
          parts = part ∷ behind.all.parts;
          records = on.front ++ rs;
          read = (subst (λ (p : List ℕ). AreOfLog holds p identity gone held) place read, behind.all.read);
          joined = (on, rs, refl, behind.all.joined);
        };
        place = place;
        amount = record {
          records = behind.amount.records ∙ ap told_number count;
          bytes = behind.amount.bytes ∙ ap told_number size;
        };
      }

  -- up to one of which nothing is gone
  all_from : (path : List ℕ) (gone : Option Gone) (held : List ℕ) → FromPart path gone held → gone ≡ None
      → IsVerified holds log identity totals
  all_from path gone held from none =
      let is = subst (λ (g : Option Gone). FromPart path g held) none from in
      record {
        held = held;
        all = is.all;
        lawful = joined_from identity.schema identity.number.0 None held is.all.parts is.all.records is.all.joined;
        told = told_joined identity.schema identity.number.0 None held is.all.parts is.all.records [] refl is.all.joined;
        count = is.amount.records ∙ ap told_number (zero-add (length (plain is.all.records)));
        size = is.amount.bytes ∙ ap told_number (zero-add (length (flat_map text is.all.records)));
      }

  -- or else on from there
  next_from : (path : List ℕ) (gone : Option Gone) (held : List ℕ) (begins : Beginning) → FromPart path gone held
      → PartBegins path gone held (Some begins) → IsNextPart holds log identity begins totals
  next_from path gone held begins from is =
      let some = subst (λ (g : Option Gone). FromPart path g held) is.told from in
      record {
        held = held;
        all = some.all;
        place = is.place ∙ some.place;
        line = is.line;
        amount = some.amount;
      }

  pub log_all : (gone : Option Gone) (held : List ℕ) → AreOfLog holds log identity gone held → IsLastPart identity gone held totals
      → PartBegins log gone held None → IsVerified holds log identity totals
  log_all gone held read last none = all_from log gone held (last_part gone held read last) none

  pub log_next : (gone : Option Gone) (held : List ℕ) (begins : Beginning) → AreOfLog holds log identity gone held
      → IsLastPart identity gone held totals → PartBegins log gone held (Some begins) → IsNextPart holds log identity begins totals
  log_next gone held begins read last is = next_from log gone held begins (last_part gone held read last) is

  pub part_all : (next : Beginning) (path : List ℕ) → IsNextPart holds log identity next totals → path ≡ part_path log next.told.bytes
      → IsPart holds identity path next None → IsVerified holds log identity totals
  part_all next path behind place part =
      all_from path part.gone part.held (one_more next path part.gone part.held behind place part.log part.joins) part.beginning

  pub part_next : (next : Beginning) (path : List ℕ) (begins : Beginning) → IsNextPart holds log identity next totals
      → path ≡ part_path log next.told.bytes → IsPart holds identity path next (Some begins) → IsNextPart holds log identity begins totals
  part_next next path begins behind place part =
      next_from path part.gone part.held begins (one_more next path part.gone part.held behind place part.log part.joins) part.beginning

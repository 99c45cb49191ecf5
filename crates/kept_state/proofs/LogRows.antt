-- Worked rows: what the records of short histories are, and stand for.
use Rattle.std.proofs.Common.{◌≡◌, true, false, [], ◌∷◌, refl}
use Rattle.std.proofs.lemmas.Bool.{false≢true}
use Rattle.field_bounds.specs.declared.kind.Kind.TheVariants.{Lower, Raise}
use Rattle.field_bounds.specs.Worked.{halved_shelf, stock}
use Rattle.field_bounds.specs.WorkedGifts.{site}
use Rattle.kept_records.specs.declared.record.Record.TheVariants as records
use Rattle.kept_records.specs.Stands.{own_in, committed_in, given_in, accepted_in, cut_in, greatest}
use Rattle.kept_state.specs.Worked.{Leaves, IsLawfulAtZero, commit, commit_of_two, gift, cut_lower, cut_raise, found_kept, found_lost, gifts_kept, spares_kept, cuts_kept, row_committed}

pub commit_kept : Leaves found_kept (commit ∷ records.Restart 1 ∷ records.Restart 2 ∷ [])
unfolding greatest
commit_kept = (
  commit ∷ records.Restart 1 ∷ [],
  true,
  (commit ∷ [], true, ([], true, ([], true, ([], true, refl, tt, refl), tt, refl), refl, refl), tt, refl),
  refl,
  refl,
)

pub commit_lost : Leaves found_lost (records.Restart 1 ∷ [])
unfolding greatest
commit_lost = ([], true, ([], false, ([], false, ([], true, ([], true, refl, tt, refl), tt, refl), refl, refl), tt, refl), refl, refl)

pub gift_kept : Leaves gifts_kept (gift 3 ∷ gift 5 ∷ records.Restart 1 ∷ [])
unfolding greatest
gift_kept = (gift 3 ∷ gift 5 ∷ [], true, (gift 3 ∷ [], true, ([], true, refl, tt, refl), refl, refl), refl, refl)

pub spare_kept : Leaves spares_kept (gift 10 ∷ gift 13 ∷ records.Restart 1 ∷ [])
unfolding greatest
spare_kept = (gift 10 ∷ gift 13 ∷ [], true, (gift 10 ∷ [], true, ([], true, refl, tt, refl), refl, refl), refl, refl)

pub cut_kept : Leaves cuts_kept (cut_lower 3 ∷ cut_raise 4 ∷ cut_lower 5 ∷ records.Restart 1 ∷ [])
unfolding greatest
cut_kept = (
  cut_lower 3 ∷ cut_raise 4 ∷ cut_lower 5 ∷ [],
  true,
  (cut_lower 3 ∷ cut_raise 4 ∷ [], true, (cut_lower 3 ∷ [], true, ([], true, refl, tt, refl), tt, refl), refl, refl),
  refl,
  refl,
)

pub in_order : Leaves row_committed (commit_of_two ∷ [])
in_order = ([], true, ([], true, ([], true, ([], true, refl, tt, refl), tt, refl), tt, refl), tt, refl)

pub kept_rights : let rs = commit ∷ records.Restart 1 ∷ records.Restart 2 ∷ [] in (own_in halved_shelf 0 rs 0 Lower ≡ 0)
    × (own_in halved_shelf 0 rs 0 Raise ≡ 50)
unfolding own_in committed_in given_in accepted_in cut_in
kept_rights = (refl, refl)

pub cut_rights : let rs = cut_lower 3 ∷ cut_raise 4 ∷ cut_lower 5 ∷ records.Restart 1 ∷ [] in (own_in halved_shelf 0 rs 0 Lower ≡ 15)
    × (own_in halved_shelf 0 rs 0 Raise ≡ 26)
unfolding own_in committed_in given_in accepted_in cut_in
cut_rights = (refl, refl)

pub cut_lawful : IsLawfulAtZero (cut_lower 3 ∷ cut_raise 4 ∷ cut_lower 20 ∷ cut_raise 30 ∷ [])
unfolding own_in committed_in given_in accepted_in cut_in
cut_lawful = (refl, (refl, (refl, (refl, tt))))

pub kept_lawful : IsLawfulAtZero (commit ∷ records.Restart 1 ∷ records.Restart 2 ∷ [])
unfolding own_in committed_in given_in accepted_in cut_in greatest
kept_lawful = (refl, (refl, (refl, tt)))

-- ---- what no site has kept

pub not_twice : IsLawfulAtZero (commit ∷ commit ∷ []) → ⊥
unfolding own_in committed_in given_in accepted_in cut_in greatest
not_twice h = false≢true h.1.0

pub not_too_much : IsLawfulAtZero (gift 21 ∷ []) → ⊥
unfolding own_in committed_in given_in accepted_in cut_in
not_too_much h = false≢true h.0

pub not_the_same : IsLawfulAtZero (gift 5 ∷ gift 5 ∷ []) → ⊥
unfolding own_in committed_in given_in accepted_in cut_in
not_the_same h = false≢true h.1.0

pub not_again : IsLawfulAtZero (records.Restart 1 ∷ records.Restart 1 ∷ []) → ⊥
unfolding greatest
not_again h = false≢true h.1.0

pub not_old : IsLawfulAtZero (records.Restart 1 ∷ commit ∷ []) → ⊥
unfolding own_in committed_in given_in accepted_in cut_in greatest
not_old h = false≢true h.1.0

pub not_cut_too_far : IsLawfulAtZero (cut_lower 21 ∷ []) → ⊥
unfolding own_in committed_in given_in accepted_in cut_in
not_cut_too_far h = false≢true h.0

pub not_cut_twice : IsLawfulAtZero (cut_lower 5 ∷ cut_lower 5 ∷ []) → ⊥
unfolding own_in committed_in given_in accepted_in cut_in
not_cut_twice h = false≢true h.1.0

pub not_without_room : IsLawfulAtZero (cut_lower 20 ∷ records.Accept (site 1) stock Lower 51 ∷ []) → ⊥
unfolding own_in committed_in given_in accepted_in cut_in
not_without_room h = false≢true h.1.0

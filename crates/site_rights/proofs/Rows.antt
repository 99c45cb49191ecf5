-- Rows that are made one after another.
use Rattle.std.proofs.Common.{◌≡◌, ℕ, ◌<◌, List, [], ◌∷◌, ◌++◌, length, sym, subst, arith, below_more}
use Rattle.std.proofs.Math.ListN.{get_or-append}
use Rattle.std.proofs.Math.Seq.{get_or-append_seam}
use Rattle.std.proofs.lemmas.List.{length_push}
use Rattle.site_rights.specs.declared.field_rights.FieldRights.{FieldRights}
use Rattle.site_rights.specs.Rights.{no_rights, row_at}

-- what holds of each row, and of the next one, holds of each row then
pub rows_more : (P : ℕ → FieldRights → Type 0) (rows longer : List FieldRights) (row : FieldRights) → longer ≡ rows ++ row ∷ []
    → ((f : ℕ) → f < length rows → P f (row_at rows f)) → P (length rows) row
    → (f : ℕ) → f < length longer → P f (row_at longer f)
rows_more P rows longer row is each next =
    subst (λ (l : List FieldRights). (f : ℕ) → f < length l → P f (row_at l f)) (sym is) more
  where
    more : (f : ℕ) → f < length (rows ++ row ∷ []) → P f (row_at (rows ++ row ∷ []) f)
    more f below =
        below_more (λ k. P k (row_at (rows ++ row ∷ []) k)) (length rows)
        (λ k less. subst (P k) (sym (get_or-append rows (row ∷ []) no_rights k less)) (each k less))
        (subst (P (length rows)) (sym (get_or-append_seam rows row [] no_rights)) next)
        f (omega (arith, below, length_push rows row))

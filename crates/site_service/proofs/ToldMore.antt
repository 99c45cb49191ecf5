-- What is told once more was let go.
use Rattle.std.proofs.Common.{◌≡◌, ◌-◌, ◌+◌, ◌≤◌, ◌||◌, ℕ, Bool, true, false, List, [], ◌∷◌, ◌++◌, length, Option, Some, refl, sym, ap, ◌∙◌, subst, arith}
use Rattle.std.specs.List.{flat_map}
use Rattle.std.proofs.lemmas.List.{length-append}
use Rattle.std.proofs.lemmas.List.Concat.{flat_map-append}
use Rattle.std.proofs.lemmas.List.Folds.{list_any-append}
use Rattle.field_bounds.specs.declared.id.TxnId.{TxnId}
use Rattle.kept_records.specs.declared.record.Record.{Record}
use Rattle.kept_records.specs.Text.{text}
use Rattle.kept_records.specs.Summary.{summary_record}
use Rattle.log_head.specs.declared.gone.Gone.{Gone}
use Rattle.log_head.specs.Horizons.{HorizonValue, horizon_of, is_passed}
use Rattle.site_step.specs.Site.{SiteValue}
use Rattle.site_service.specs.LetGo.{may_be_gone}
use Rattle.site_service.specs.Kept.{TellsCommit}
use Rattle.field_bounds.specs.Effects.{is_up_to}
use Rattle.site_step.specs.Shortening.{ShorteningValue, IsShortening, held_of, is_commit_of, has_commit, later_txn, latest_commit}
use Rattle.site_service.specs.Shortening.{bytes_told, records_told, reach_told, TellsMore}
use Rattle.site_service.specs.Shorter.{txn_of, ListsNone}
use Rattle.site_service.proofs.Spares.{up_passed}

both : (b : Bool) → b ≡ true → b ≡ false → ⊥
both true e h = absurd cc
both false e h = absurd cc

or_first : (a b : Bool) → a ≡ true → (a || b) ≡ true
or_first true b h = refl
or_first false b h = absurd cc

module _ (site : SiteValue) (plan : ShorteningValue) (is : IsShortening site plan) where
  abbrev stays : List Record
  stays = summary_record is.base ∷ is.behind

  sizes : length (held_of site) ≡ length (flat_map text plan.gone) + length plan.held
  sizes =
      omega (
        arith,
        ap length is.log.parts,
        ap length is.held.parts,
        ap (λ (l : List ℕ). length (l ++ [])) (flat_map-append text plan.gone stays),
        length-append (flat_map text plan.gone ++ flat_map text stays) [],
        length-append (flat_map text plan.gone) (flat_map text stays),
        length-append (flat_map text stays) [],
      )

  pub goes : (n : ℕ) → n ≡ length (held_of site) - length plan.held → n ≡ length (flat_map text plan.gone)
  goes n is_n = omega (arith, is_n, sizes)

  pub fewer : length plan.held ≤ length (held_of site)
  fewer = omega (arith, sizes)

  module _ (told : Option Gone) (last : TxnId) (listed : List ℕ) (none : ListsNone (held_of site) told last listed)
      (reaches : (txn : TxnId) → may_be_gone told txn ≡ true → is_up_to last txn ≡ true)
      (latest : (txn : TxnId) → is_up_to plan.latest txn ≡ true → is_up_to last txn ≡ true)
      (last_is : last ≡ later_txn (reach_told told) (Some (latest_commit plan.gone))) where
    its_number : (txn : TxnId) → txn.epoch ≡ last.epoch → txn_of last.epoch txn.number ≡ txn
    its_number txn own = ap (λ (e : ℕ). txn_of e txn.number) (sym own)

    pub further : (txn : TxnId) → may_be_gone told txn ≡ true → is_passed (horizon_of last.epoch last.number listed) txn ≡ true
    further txn gone = up_passed last listed txn (reaches txn gone) (λ own is_there.
        both (may_be_gone told txn) gone
        (subst (λ (t : TxnId). may_be_gone told t ≡ false) (its_number txn own) (none txn.number is_there).0))

    pub commits : (txn : TxnId) → has_commit txn plan.gone ≡ true → is_passed (horizon_of last.epoch last.number listed) txn ≡ true
    commits txn has = up_passed last listed txn (latest txn (is.latest txn has)) (λ own is_there.
        let no : false ≡ has_commit txn (plan.gone ++ stays) =
        subst (λ (t : TxnId). TellsCommit (held_of site) t false) (its_number txn own) (none txn.number is_there).1
        (plan.gone ++ stays) [] is.log in
        both (has_commit txn (plan.gone ++ stays))
        (list_any-append (is_commit_of txn) plan.gone stays ∙ or_first (has_commit txn plan.gone) (has_commit txn stays) has) (sym no))

    pub tells_more : (gone : Gone) (bytes records : ℕ) → gone.horizon ≡ horizon_of last.epoch last.number listed
        → gone.bytes ≡ bytes_told told + bytes → gone.records ≡ records_told told + records
        → bytes ≡ length (held_of site) - length plan.held → records ≡ plan.records → TellsMore told gone plan.gone
    tells_more gone bytes records horizon is_bytes is_records size count = record {
      bytes = is_bytes ∙ ap (λ (n : ℕ). bytes_told told + n) (goes bytes size);
      records = is_records ∙ ap (λ (n : ℕ). records_told told + n) (count ∙ is.count);
      further = λ txn was. subst (λ (h : HorizonValue). is_passed h txn ≡ true) (sym horizon) (further txn was);
      commits = λ txn has. subst (λ (h : HorizonValue). is_passed h txn ≡ true) (sym horizon) (commits txn has);
      reach = ap (λ (h : HorizonValue). txn_of h.epoch h.number) horizon ∙ last_is;
    }

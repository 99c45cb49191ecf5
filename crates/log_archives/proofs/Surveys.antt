-- Records that are looked at one after another.
use Rattle.std.proofs.Common.{◌≡◌, ℕ, ◌+◌, true, Bool, List, [], ◌∷◌, ◌++◌, length, refl, sym, ap, subst, ◌∙◌, arith}
use Rattle.std.specs.Prelude.{◌&&◌}
use Rattle.std.proofs.Math.Bool.{and-true}
use Rattle.std.proofs.lemmas.List.Folds.{list_all-append}
use Rattle.kept_records.specs.declared.record.Record.{Record}
use Rattle.kept_records.specs.Stands.{plain}
use Rattle.kept_records.specs.Lines.{IsRecordAt, Begins}
use Rattle.kept_records.proofs.Counts.{plain_push}
use Rattle.kept_records.proofs.Walks.{begins_none, begins_more}
use Rattle.log_head.specs.Horizons.{HorizonValue}
use Rattle.log_archives.specs.Heads.{may_go, all_may_go}

-- so many stand in front of what is left that are no summaries, and so they may go
pub record Looked (h : HorizonValue) (bytes : List ℕ) (others : ℕ) (passed : Bool) (left : List ℕ) : Type 0 where
  pub records : List Record
  pub front : Begins bytes records left
  pub plain_ones : others ≡ length (plain records)
  pub passed_is : passed ≡ all_may_go h records

pub looked_none : (h : HorizonValue) (bytes : List ℕ) → Looked h bytes 0 true bytes
looked_none h bytes = record { records = []; front = begins_none bytes; plain_ones = refl; passed_is = refl }

pub go_push : (h : HorizonValue) (rs : List Record) (r : Record) → all_may_go h (rs ++ r ∷ []) ≡ (all_may_go h rs && may_go h r)
go_push h rs r = list_all-append (may_go h) rs (r ∷ []) ∙ ap (λ (b : Bool). all_may_go h rs && b) (and-true (may_go h r))

pub looked_more : {h : HorizonValue} {bytes : List ℕ} {others more : ℕ} {passed now : Bool} {old new behind : List ℕ} {r : Record}
    → Looked h bytes others passed old → IsRecordAt old r new → behind ≡ new → more ≡ others + length (plain (r ∷ []))
    → now ≡ (passed && may_go h r) → Looked h bytes more now behind
looked_more {h = h} {bytes = bytes} {old = old} {new = new} {r = r} so_far at same more_is now_is = record {
  records = so_far.records ++ r ∷ [];
  front = subst (λ (l : List ℕ). Begins bytes (so_far.records ++ r ∷ []) l) (sym same) (begins_more bytes so_far.records old r new so_far.front at);
  plain_ones = omega (arith, so_far.plain_ones, more_is, plain_push so_far.records r);
  passed_is = now_is ∙ ap (λ (b : Bool). b && may_go h r) so_far.passed_is ∙ sym (go_push h so_far.records r);
}

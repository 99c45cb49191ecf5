-- What the walks of a handle share: the box that it stands for, and the machine values. Assumes `Logic`.
use mir.Syntax.{impl, tnil, dnil}
use mathlib.Core.Path.{refl, subst}
use seplogic.Ra.Ura.{Ura}
use base.Logic.{ent}
use base.Fml.{Fml, fsep, feq, fex}
use types.Logic.{Logic, sem}
use types.Kit.{‵, ◌$◌, ◌∵◌, !, qed, drop, fsplit, fjoin, fpack, feq_l, feq_i, done}
use Rattle.std.specs.Prelude.{Option, Some, None}
use Rattle.std.specs.Global.{Global}
use Rattle.std_alloc.specs.Box.Ownership.{box_owns}
use Rattle.site_handle.specs.Held.{handle_owns}
use mathlib.Core.Bool.{Bool, not}
use mathlib.Core.List.{[], ◌∷◌}
use lib.Dec.{T}
use mir.Val.{Val, vbool, vstruct, vcons, vnil}
use denote.RattleType.{RattleType}
use denote.RawPtr.{Ptr, ptr_val}
use denote.Signature.{Slot, plain}
use Rattle.std_alloc.proofs.BoxSteps.Form.{Bx}
use Rattle.std_heap.specs.contracts.Global as Heap
use Rattle.std_heap.specs.contracts.GlobalAllocator.TheImpl.{ghosts, dict}
use Rattle.std_heap.proofs.Global.TheLaws as heap
use Rattle.site_handle.specs.contracts.session.Session as Holder
use Rattle.site_handle.proofs.session.Session.TheLaws as holder
use Rattle.site_handle.specs.contracts.parts.Parts as Parts
use Rattle.site_handle.specs.contracts.handle.Handle as Handle

abbrev pub E : Bx
E = record {
  row = Holder.the_row;
  laws = holder.the_row_laws;
  al = record {
    row = Heap.the_row;
    laws =
        heap.the_row_laws;
    g = ghosts;
    d = dict;
    drops = impl [] tnil dnil;
  };
}

abbrev pub PartsRow : RattleType
PartsRow = Parts.the_row Holder.the_row Heap.the_row ghosts

abbrev pub FromParts : Slot 0
FromParts = plain (λ _. PartsRow)

abbrev pub HandleRow : RattleType
HandleRow = Handle.the_row

abbrev pub FromHandle : Slot 0
FromHandle = plain (λ _. Handle.the_row)

abbrev pub shown : Ptr → Bool → Val
shown p full = vstruct (vcons (ptr_val p) (vcons (vbool full) vnil))

module _ {M : Type 1} {𝓤 : Ura M} (𝓛 : Logic 𝓤) (alloc : Global) (at : Ptr) (full : Bool) where
  abbrev pub Full : Option (Holder.the_row).Denot → Fml
  Full v = fex (Holder.the_row).Denot (λ x. fsep (feq (Option (Holder.the_row).Denot) v (Some x))
      (box_owns (ghosts.dealloc_token alloc) Holder.the_row at x))

  pub opened : (v : Option (Holder.the_row).Denot) → T full → ent 𝓤 (sem 𝓛 (handle_owns alloc at full v)) (sem 𝓛 (Full v))
  opened None t = qed 𝓛 (‵ (handle_owns alloc at full None) ∷ []) ∵ feq_l ! (λ e. absurd (subst (λ (b : Bool). T b) e t))
  opened (Some x) t = qed 𝓛 (‵ (handle_owns alloc at full (Some x)) ∷ []) ∵ fsplit ! $ drop ! $
      feq_i ! (Option (Holder.the_row).Denot) (Some x) (Some x) refl $ fjoin ! $
      fpack ! (Holder.the_row).Denot (λ y. fsep (feq (Option (Holder.the_row).Denot) (Some x) (Some y))
      (box_owns (ghosts.dealloc_token alloc) Holder.the_row at y)) x $ done !

  pub closed : (v : Option (Holder.the_row).Denot) → T (not full) →
      ent 𝓤 (sem 𝓛 (handle_owns alloc at full v)) (sem 𝓛 (feq (Option (Holder.the_row).Denot) v None))
  closed None t = qed 𝓛 (‵ (handle_owns alloc at full None) ∷ []) ∵ drop ! $ feq_i ! (Option (Holder.the_row).Denot) None None refl $ done !
  closed (Some x) t = qed 𝓛 (‵ (handle_owns alloc at full (Some x)) ∷ []) ∵ fsplit ! $
      feq_l ! (λ e. absurd (subst (λ (b : Bool). T (not b)) e t))

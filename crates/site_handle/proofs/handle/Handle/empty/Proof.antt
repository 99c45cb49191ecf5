-- `empty` makes a struct that owns nothing.
use mathlib.Core.Path.{refl}
use mathlib.Core.Bool.{Bool, false}
use Rattle.std.specs.Prelude.{None}
use mathlib.Core.List.{List, [], ◌∷◌}
use mir.Val.{Val, vbool}
use lib.Dec.{lit<}
use base.Logic.{emp, id⊢}
use Rattle.std_heap.proofs.Handle.{handle}
use base.Fml.{ftrue}
use contract.Running.{tables}
use types.Kit.{‵, raw, ◌⊛◌, ◌$◌, ◌∵◌, !, qed, drop, use1, join, fjoin, fpack, feq_i, suffices, done}
use types.Part.{agg}
use types.Run.{lit, false_lit, no_more, and_then, returns, enter}
use types.ByLocal.{alloc_all, pass_all, free_all, look_at, sets}
use denote.RattleType.{Valss}
use denote.Builtin.{RawPtr, bool}
use denote.RawPtr.{null_ptr, ptr_val}
use denote.Steps.{nothing}
use denote.Struct.Struct.{within}
use denote.Struct.Owning.{shape}
use denote.Triple.Walked.{says, Stays, walk_of, ends_at}
use Rattle.std.proofs.raw_atomic.Walks.{proved}
use Rattle.site_handle.proofs.AsBox.{HandleRow, shown}
use Rattle.site_handle.specs.contracts.handle.Handle as Handle
use Rattle.site_handle.specs.contracts.handle.Handle.empty as f
use Rattle.site_handle.proofs.handle.Handle.empty.Statement.{statement}
use Rattle.site_handle.proofs.handle.Handle.empty.Code as code

abbrev stayed : Stays f.ended.signature.params f.ended.kept
stayed = tt

pub empty_spec : {M : Type 1} → statement M
empty_spec 𝓤 𝓛 𝓜 𝓡 wired =
    let c = f.clauses 𝓛 𝓜.mem 𝓡.returns in let W = walk_of 𝓛 f.ended stayed c in let 𝓣 = tables 𝓤 𝓛.H 𝓜 𝓡 𝓡.env in
    proved 𝓛 f.ended stayed c 𝓜 𝓡 tt f.Key.name code.function (code.unfolded 𝓤 𝓛.H 𝓜 𝓡 wired) (λ κs. tt) (λ κs. tt) (λ κs qs bounds a g are.
    let out : Val = shown null_ptr false in
    let made : HandleRow.Denot = record { at = null_ptr; full = false; alloc = handle; value = None } in
    let y : W.Ghost = ((κs, qs, bounds, a, tt), g) in
    qed 𝓛 ((‵ ftrue ⊛ ‵ ftrue) ∷ raw (emp 𝓤) ∷ []) ∵ drop ! $ drop ! $ enter ! _ _ _ _ _ $ alloc_all ! (λ l. pass_all ! refl tt $
    sets ! (agg ! (and_then ! (lit ! tt) (and_then ! (false_lit !) (no_more !)))) refl (
      tt,
      (
        record { fits = lit< tt },
        (tt, tt),
      ),
    ) $ returns ! (look_at ! 0 refl) $ free_all ! refl $
    feq_i ! Bool false false refl $ nothing ! $ feq_i ! (List Val) (vbool false ∷ []) (vbool false ∷ []) refl $
    fjoin ! $ feq_i ! (List Val) (ptr_val null_ptr ∷ []) (ptr_val null_ptr ∷ []) refl $ fjoin ! $
    feq_i ! (List Val) (out ∷ []) (out ∷ []) refl $ fjoin ! $
    fpack ! (Valss (RawPtr ∷ bool ∷ [])) (within (shape Handle.the_type) (null_ptr, (false, tt)) (out ∷ []))
    (ptr_val null_ptr ∷ [], (vbool false ∷ [], tt)) $ fjoin ! $
    use1 𝓛 (‵ (HandleRow.own_val made (out ∷ []))) (id⊢ 𝓤 _) $
    suffices ! _ (ends_at 𝓛 f.ended stayed c y out made tt tt) $ says ! refl $
    nothing ! $ join ! $ nothing ! $ join ! $ done !))

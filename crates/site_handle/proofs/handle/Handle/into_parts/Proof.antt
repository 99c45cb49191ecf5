-- `into_parts` gives what a full handle owns to the parts.
use mathlib.Core.Path.{refl}
use mathlib.Core.Bool.{true, ◌&&◌}
use Rattle.std.specs.Prelude.{Option, None}
use mathlib.Core.List.{List, [], ◌∷◌}
use lib.Dec.{T, lit<}
use mir.Syntax.{w8, ty_ptr}
use mir.Val.{Val, vint, vstruct, vcons, vnil, has_ty, WT, of_list}
use base.Logic.{emp, id⊢}
use base.Fml.{ftrue, fsep, feq}
use contract.Running.{tables}
use types.Kit.{at_ret, ‵, raw, ◌⊛◌, ◌$◌, ◌∵◌, !, qed, move, keep, drop, use1, join, split, fsplit, fsplit3, fjoin, fpack, feq_i, fpick, feq_l, suffices, done}
use types.Match.{live}
use types.Part.{whole, sub, agg}
use types.Run.{stop, fld, lit, no_more, and_then, of_opd, first, branches, skips, exec, returns, returns_within, enter}
use types.ByLocal.{alloc_all, pass_all, free_all, look_at, get, get_in, sets, env}
use denote.Exit.{yes}
use denote.RattleType.{RattleType, Valss}
use denote.Builtin.{RawPtr, u8}
use denote.Plain.{uint_Makes}
use denote.RawPtr.{ptr_val, rawptr_Lawful}
use denote.Signature.{plain}
use denote.Steps.{nothing, owned}
use denote.Struct.Struct.{within}
use denote.Struct.Owning.{shape}
use denote.Triple.Walked.{says, Stays, stay_dropped, walk_of, ends_at, Goes-dropped}
use Rattle.core.specs.contracts.result.Result as RS
use Rattle.core.specs.declared.result.Result.TheVariants.{Ok, Err}
use Rattle.std_alloc.proofs.ResultValues.{ok_of, err_of, and_tt}
use Rattle.std.proofs.raw_atomic.Walks.{proved}
use Rattle.std_heap.specs.contracts.Global as Heap
use Rattle.std_heap.specs.contracts.GlobalAllocator.TheImpl.{ghosts}
use Rattle.std_heap.proofs.Handle.{heap_val, heap_Tells}
use Rattle.site_handle.specs.contracts.session.Session as Holder
use Rattle.site_handle.specs.contracts.parts.Parts as Parts
use Rattle.site_handle.proofs.handle.Handle.TheLaws.{lowers, the_field_loose}
use Rattle.site_handle.proofs.AsBox.{PartsRow, HandleRow, FromHandle, shown, Full, opened, closed}
use Rattle.site_handle.specs.contracts.handle.Handle.into_parts as f
use Rattle.site_handle.proofs.handle.Handle.into_parts.Statement.{statement}
use Rattle.site_handle.proofs.handle.Handle.into_parts.Code as code

abbrev FromHeap : denote.Signature.Slot 0
FromHeap = plain (λ _. Heap.the_row)

abbrev stayed : Stays f.ended.signature.params f.ended.kept
stayed = (stay_dropped FromHandle yes, (stay_dropped FromHeap yes, tt))

pub into_parts_spec : {M : Type 1} → statement M
into_parts_spec 𝓤 𝓛 𝓜 𝓡 wired =
    let c = f.clauses 𝓛 𝓜.mem 𝓡.returns in let W = walk_of 𝓛 f.ended stayed c in let 𝓣 = tables 𝓤 𝓛.H 𝓜 𝓡 𝓡.env in
    proved 𝓛 f.ended stayed c 𝓜 𝓡 (Goes-dropped 𝓛 0 FromHandle yes (λ κs x w. refl), (Goes-dropped 𝓛 0 FromHeap yes (λ κs x w. refl), tt))
    f.Key.name code.function (code.unfolded 𝓤 𝓛.H 𝓜 𝓡 wired)
    (λ κs. ((λ h. lowers.lowered h ∷ []), ((λ _. heap_val ∷ []), tt))) (λ κs. (lowers.val_is, (heap_Tells, tt))) (λ κs qs bounds a g are.
    let h = a.0 in let al = a.1.0 in let shut : Val = shown h.at h.full in
    let y : W.Ghost = ((κs, qs, bounds, a, (shut ∷ [], (heap_val ∷ [], tt))), g) in
    let parts : Val = vstruct (vcons (ptr_val h.at) (vcons heap_val vnil)) in
    let at_ty : T (has_ty ty_ptr (ptr_val h.at)) × WT (ptr_val h.at) = ((rawptr_Lawful 𝓛).typed h.at (ptr_val h.at ∷ []) refl).0 in
    let parts_ty : T (has_ty ty_ptr (ptr_val h.at) && true) × WT parts = (
      and_tt (has_ty ty_ptr (ptr_val h.at)) at_ty.0,
      (at_ty.1, (((tt, tt), tt), tt)),
    ) in
    let Res : RattleType = RS.the_row PartsRow u8 in
    qed 𝓛 ((‵ ftrue ⊛ ‵ (fsep (HandleRow.own_val h (shut ∷ [])) (fsep ((Heap.the_row).own_val al (heap_val ∷ []))
    ftrue))) ∷ raw (emp 𝓤) ∷ []) ∵
    split ! $ drop ! $ fsplit3 ! $ fsplit ! $ drop ! $ keep ! (0 ∷ 1 ∷ []) $
    -- [what the handle owns; the heap's handle]
    enter ! _ _ _ _ _ $
    alloc_all ! (λ l. pass_all ! refl (
      ((the_field_loose.lawful 𝓛).typed h (shut ∷ []) are.0).0,
      (
        (tt, ((tt, tt), tt)),
        tt,
      ),
    ) $
    sets ! (of_opd ! (get_in ! (fld ! refl (stop !)) (sub ! 0 refl (whole !)))) refl at_ty $
    sets ! (of_opd ! (get_in ! (fld ! refl (stop !)) (sub ! 1 refl (whole !)))) refl (tt, tt) $
    sets ! (of_opd ! (get ! refl)) refl (tt, tt) $ first ! $ branches ! (get ! refl)
    (λ full. use1 𝓛 (‵ (Full 𝓛 h.alloc h.at h.full h.value)) (opened 𝓛 h.alloc h.at h.full h.value full) $
    fpick ! (λ x. fsplit ! $ feq_l ! (λ e.
    let made : PartsRow.Denot = record { ptr = h.at; alloc = al; value = x } in
    sets ! (of_opd ! (get ! refl)) refl at_ty $
    sets ! (agg ! (and_then ! (get ! refl) (and_then ! (get ! refl) (no_more !)))) refl parts_ty $
    sets ! (agg ! (and_then ! (lit ! tt) (and_then ! (get ! refl) (no_more !))))
    refl (and_tt (has_ty ty_ptr (ptr_val h.at) && true) parts_ty.0, (record { fits = lit< tt }, (parts_ty.1, tt))) $
    returns_within ! (W.post y) refl (look_at ! 0 refl) $ free_all ! refl $
    nothing ! $ move ! (2 ∷ 0 ∷ []) $ fjoin ! $ feq_i ! (List Val) (ptr_val h.at ∷ []) (ptr_val h.at ∷ []) refl $
    fjoin ! $ feq_i ! (List Val) (parts ∷ []) (parts ∷ []) refl $ fjoin ! $
    fpack ! (Valss (RawPtr ∷ Heap.the_row ∷ [])) (within (shape (Parts.the_type Holder.the_row Heap.the_row ghosts))
    (h.at, (al, tt)) (parts ∷ [])) (ptr_val h.at ∷ [], (heap_val ∷ [], tt)) $ fjoin ! $
    use1 𝓛 (‵ (PartsRow.own_val made (parts ∷ []))) (id⊢ 𝓤 _) $
    use1 𝓛 (‵ (Res.own_val (Ok made) (live 0 (of_list (parts ∷ [])) ∷ []))) (ok_of 𝓛 PartsRow u8 made parts) $
    suffices ! _ (ends_at 𝓛 f.ended stayed c y (live 0 (of_list (parts ∷ []))) (Ok made) (tt, (tt, tt)) (tt, (tt, tt)))
    $ says ! (e, tt) $ nothing ! $ nothing ! $ fjoin ! $ nothing ! $ fjoin ! $ join ! $ nothing ! $ join ! $ done !)))
    (λ not_full. skips ! $ exec ! 𝓣.C 𝓣.Λ (env code.Mir.locals l) code.Mir.t-5 (at_ret _ (W.post y)) $
    use1 𝓛 (‵ (feq (Option (Holder.the_row).Denot) h.value None)) (closed 𝓛 h.alloc h.at h.full h.value not_full) $ feq_l ! (λ e.
    sets ! (agg ! (and_then ! (lit ! tt) (and_then ! (lit ! tt) (no_more !)))) refl (
      tt,
      (
        record { fits = lit< tt },
        (record { fits = lit< tt }, tt),
      ),
    ) $
    returns ! (look_at ! 0 refl) $ free_all ! refl $ drop ! $
    owned ! u8 _ (uint_Makes 𝓛 w8) 0 _ (refl, lit< tt) $
    use1 𝓛 (‵ (Res.own_val (Err 0) (live 1 (of_list (vint w8 0 ∷ [])) ∷ []))) (err_of 𝓛 PartsRow u8 0 (vint w8 0)) $
    suffices ! _ (ends_at 𝓛 f.ended stayed c y (live 1 (of_list (vint w8 0 ∷ []))) (Err 0) (tt, (tt, tt)) (
      tt,
      (
        tt,
        tt,
      ),
    )) $ says ! (tt, e) $ nothing ! $ nothing ! $ fjoin ! $ nothing ! $ fjoin ! $ join ! $ nothing ! $ join ! $
    done !))))

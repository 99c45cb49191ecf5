-- What a site is told of its courier.
use Rattle.std.proofs.Common.{◌≡◌, ◌++◌, ℕ, List, sym, subst, Option, Some, None}
use Rattle.std.specs.Prelude.{Result, Ok, Err, IfOk, IfErr, IfSome, IfNone}
use Rattle.std.specs.Global.{Vec}
use Rattle.field_bounds.specs.declared.id.SiteNo.{SiteNo}
use Rattle.field_bounds.specs.declared.entry.Command.{Command}
use Rattle.field_bounds.specs.Schema.{SchemaValue}
use Rattle.site_desk.specs.declared.locked.Receipt.{Receipt}
use Rattle.site_workers.specs.declared.inbox.Letter.{Letter}
use Rattle.work_faults.specs.declared.workers.WorkFault.{WorkFault}
use Rattle.work_faults.specs.declared.workers.WorkFault.TheVariants.{NoMemory}
use Rattle.site_workers.specs.declared.site_fault.SiteFault.TheVariants.{Close}
use Rattle.site_workers.specs.Carried.{commands_of, Carries}
use Rattle.site_workers.specs.Faults.{fault_of_courier, IsCarried, IsFaultAt, IsFaultOf, TurnsNone}
use Rattle.site_workers.specs.Scripts.{AreAccepts}
use Rattle.site_workers.proofs.Scripts.{carried_accepts}

-- c is what the courier's thread handed back
module _ {C P : Type 0} (answer : C → Result (Vec Receipt) WorkFault) (pass : C → P) (after : C → List Letter) (calls : ℕ) (made : C → ℕ)
    (sites : ℕ) (site : SiteNo) (before : List Letter) where
  by_answer : (c : C) (x : Result (Vec Receipt) WorkFault) (r : Result (Vec Receipt × P) WorkFault)
      → IfOk x (λ (rs : Vec Receipt). r ≡ Ok (rs, pass c))
      → IfErr x (λ (f : WorkFault). r ≡ Err (fault_of_courier f))
      → IfOk x (λ (rs : Vec Receipt). Carries sites before (after c) rs.items)
      → IfOk r (λ (t : Vec Receipt × P). AreAccepts (commands_of t.0.items))
  by_answer c (Ok rs) r went failed carries =
      subst (λ (x : Result (Vec Receipt × P) WorkFault). IfOk x (λ (t : Vec Receipt × P). AreAccepts (commands_of t.0.items)))
      (sym went) (carried_accepts sites before (after c) rs.items carries)
  by_answer c (Err e) r went failed carries =
      subst (λ (x : Result (Vec Receipt × P) WorkFault). IfOk x (λ (t : Vec Receipt × P). AreAccepts (commands_of t.0.items))) (sym failed) tt

  pub told_accepts : (carried : Option C) (r : Result (Vec Receipt × P) WorkFault) → IfNone carried (r ≡ Err NoMemory)
      → IfSome carried (λ (c : C). IfOk (answer c) (λ (rs : Vec Receipt). r ≡ Ok (rs, pass c)))
      → IfSome carried (λ (c : C). IfErr (answer c) (λ (f : WorkFault). r ≡ Err (fault_of_courier f)))
      → IfSome carried (λ (c : C). IsCarried sites site before (after c) calls (made c) (answer c))
      → IfOk r (λ (t : Vec Receipt × P). AreAccepts (commands_of t.0.items))
  told_accepts None r none ok failed all =
      subst (λ (x : Result (Vec Receipt × P) WorkFault). IfOk x (λ (t : Vec Receipt × P). AreAccepts (commands_of t.0.items))) (sym none) tt
  told_accepts (Some c) r none ok failed all = by_answer c (answer c) r ok failed all.ok

-- ---- why a site has no history

-- of the desk's schema and site, which are these
module _ (schema schema' : SchemaValue) (site number : SiteNo) (Turns : SiteNo → ℕ → Type 0) (script : List Command)
    (of : schema' ≡ schema) (is : number ≡ site) where
  here : (Turns' : SiteNo → ℕ → Type 0) (f : WorkFault) → IsFaultAt schema' number Turns' f → IsFaultAt schema site Turns' f
  here Turns' f c =
      subst (λ (n : SiteNo). IsFaultAt schema n Turns' f) is (subst (λ (s : SchemaValue). IsFaultAt s number Turns' f) of c)

  pub close_told : (f : WorkFault) (worked : Result (Vec Receipt) WorkFault) (own others all : Vec Receipt) → worked ≡ Ok own
      → all.items ≡ own.items ++ others.items → IfOk worked (λ (rs : Vec Receipt). commands_of rs.items ≡ script)
      → AreAccepts (commands_of others.items) → IsFaultAt schema' number TurnsNone f
      → IsFaultOf schema Turns site script (Close f all)
  close_told f worked own others all told parts calls accepts c = (
    here TurnsNone f c,
    record {
      worker = own.items;
      courier = others.items;
      parts = parts;
      calls = subst (λ (w : Result (Vec Receipt) WorkFault). IfOk w (λ (rs : Vec Receipt). commands_of rs.items ≡ script)) told calls;
      accepts = accepts;
    },
  )

use Rattle.std.proofs.Common.{ℕ, List, subst, ◌∙◌}
use Rattle.folder_archives.specs.declared.fault.PartWhy.TheVariants.{OtherBase, OtherBytes, OtherRecords, OtherHorizon}
use Rattle.folder_archives.specs.Steps.{IsToldOf}
use Rattle.folder_archives.proofs.fault.joint_fault.Goals as goal

pub returns-in_ok-next-in-Short : goal.returns-in_ok-next-in-Short
returns-in_ok-next-in-Short c =
    record {
      told = rw c.in-Short.is
          (c.in_ok-next-in-Short.next, c.in_ok-next-in-Short.ensures.ok ∙ c.as_str-next.ensures.value, c.part_fault.ensures.told);
    }

pub returns-in-OtherBase : goal.returns-in-OtherBase
returns-in-OtherBase c =
    let of = c.in_ok-of.of in
    let told = c.part_fault-in-OtherBase.result in
    record {
      told = rw c.in-OtherBase.is (
        of,
        c.in_ok-of.ensures.ok,
        subst (λ (p : List ℕ). IsToldOf p (OtherBase of) told) c.as_str-next.ensures.value
            c.part_fault-in-OtherBase.ensures.told,
      );
    }

pub returns-in-OtherBytes : goal.returns-in-OtherBytes
returns-in-OtherBytes c =
    let of = c.in_ok-of.of in
    let told = c.part_fault-in-OtherBytes.result in
    record {
      told = rw c.in-OtherBytes.is (
        of,
        c.in_ok-of.ensures.ok,
        subst (λ (p : List ℕ). IsToldOf p (OtherBytes of) told) c.as_str-next.ensures.value
            c.part_fault-in-OtherBytes.ensures.told,
      );
    }

pub returns-in-OtherRecords : goal.returns-in-OtherRecords
returns-in-OtherRecords c =
    let of = c.in_ok-of.of in
    let told = c.part_fault-in-OtherRecords.result in
    record {
      told = rw c.in-OtherRecords.is (
        of,
        c.in_ok-of.ensures.ok,
        subst (λ (p : List ℕ). IsToldOf p (OtherRecords of) told) c.as_str-next.ensures.value
            c.part_fault-in-OtherRecords.ensures.told,
      );
    }

pub returns-in-OtherHorizon : goal.returns-in-OtherHorizon
returns-in-OtherHorizon c =
    let of = c.in_ok-of.of in
    let told = c.part_fault-in-OtherHorizon.result in
    record {
      told = rw c.in-OtherHorizon.is (
        of,
        c.in_ok-of.ensures.ok,
        subst (λ (p : List ℕ). IsToldOf p (OtherHorizon of) told) c.as_str-next.ensures.value
            c.part_fault-in-OtherHorizon.ensures.told,
      );
    }

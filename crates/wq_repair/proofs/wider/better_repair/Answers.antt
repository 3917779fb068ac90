use Rattle.std.proofs.Common.{◌≡◌, ◌⊎◌, inl, inr, sym, subst}
use Rattle.std.specs.Prelude.{Some}
use Rattle.std.proofs.lemmas.Result.{IfOk-weaker}
use Rattle.wq_groups.specs.Declaration.{IsDeclaration}
use Rattle.wq_groups.specs.DeclaredGroups.{declared_waits}
use Rattle.wq_core.specs.Workqueues.{Workqueues}
use Rattle.wq_repair.specs.Repair.{IsRepair}
use Rattle.wq_repair.proofs.Answered.{IsRepair-minimal}
use Rattle.wq_repair.proofs.wider.better_repair.Goals as goal

pub returns : goal.returns
returns g c =
    let d = declared_waits c.args.assigned.now.declared in
    let declaration : IsDeclaration d = c.workqueues_of.ensures.declaration in
    let old = c.args.assigned.now.workqueues in
    let names = c.args.names.now in
    let one : IsRepair d old names c.in_ok-one.one =
    IsRepair-minimal d old c.in_ok-one.one names c.args.scope.now.needed declaration c.requires.ready.scope.assignment
    c.requires.needed c.requires.deadlocked (c.in_ok-one.ensures names c.requires.ready) in
    IfOk-weaker c.with_fewer_changes.result (λ (best : Workqueues). (best ≡ c.in_ok-one.one) ⊎
    (c.in_ok-other.other ≡ Some best)) (IsRepair d old names)
    (λ best either. elim either [
      | inl same ↦ subst (IsRepair d old names) (sym same) one
      | inr same ↦ rw (same) at c.in_ok-other.ensures
    ]) c.with_fewer_changes.ensures

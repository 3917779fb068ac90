use Rattle.std.proofs.Common.{◌<◌, ◌⊎◌, ℕ, Bool, List, length, ap, subst, ◌∙◌}
use Rattle.wq_groups.specs.Declaration.{IsDeclaration}
use Rattle.wq_groups.specs.DeclaredGroups.{declared_waits}
use Rattle.wq_core.specs.Workqueues.{Workqueues}
use Rattle.wq_repair.specs.Changes.{lane_in}
use Rattle.wq_repair.specs.Marks.{IsMarked}
use Rattle.wq_repair.specs.Ready.{Scope, IsScope, IsMinimal}
use Rattle.wq_repair.specs.Steps.{KeepsNeeded}
use Rattle.wq_repair.proofs.Widened.{IsRepair-wider}
use Rattle.wq_repair.proofs.wider.wider.Goals as goal

pub returns-then-branch : goal.returns-then-branch
returns-then-branch g c =
    let d = declared_waits c.args.assigned.now.declared in
    let declaration : IsDeclaration d = c.workqueues_of.ensures.declaration in
    let old = c.args.assigned.now.workqueues in
    let names = c.args.names.now in
    let needed = c.args.needed.now in
    let new = c.in-Some-2.new in
    let s = c.in-Some.scope in
    let is : IsScope d old names s = rw (c.in-Some.is) at c.in_ok-scope.ensures in
    let minimal : (some : List ℕ) → IsScope d old some s → IsMinimal d old some s.needed new = rw (c.in-Some-2.is) at
    c.in_ok-new.ensures in
    let keeps : (k : ℕ) → k < length s.needed → IsMarked s.needed k → IsMarked needed k ⊎ KeepsNeeded old new needed
    (lane_in old k) =
    subst (λ (xs : List Bool). (k : ℕ) → k < length xs → IsMarked xs k → IsMarked needed k ⊎ KeepsNeeded old new needed
    (lane_in old k)) (c.as_slice.ensures.value ∙ ap (λ (x : Scope). x.needed) c.scope.view_is)
    (subst (λ (ws : Workqueues). (k : ℕ) → k < length c.as_slice.result.now → IsMarked c.as_slice.result.now k →
    IsMarked needed k ⊎ KeepsNeeded ws new needed (lane_in ws k)) c.workqueues_of.ensures.is
    (c.in_ok-keeps_needed.ensures c.if-branch.true)) in
    IsRepair-wider d old new names needed s.needed declaration is.assignment c.requires.needed is.one_each keeps
    c.requires.deadlocked (minimal names is)

use Rattle.std.proofs.Common.{ℕ, List, ◌++◌, map, ap, subst, ◌∙◌}
use Rattle.std.proofs.lemmas.List.{take_all}
use Rattle.wq_groups.specs.DeclaredGroups.{Declared}
use Rattle.wq_changes.specs.declared.change.Change.{Change}
use Rattle.wq_changes.specs.Told.{AreEach, IsToldWhy}
use Rattle.wq_changes.proofs.Each.{AreEach-next}
use Rattle.wq_changes.proofs.telling.all_whys.Goals as goal

pub loop-change-preserved : goal.loop-change-preserved
loop-change-preserved g c =
    let r = c.args.repair.now in
    let s : Declared = r.old.now.declared in
    AreEach-next (IsToldWhy r.declaration.file.now r.assignment.file.now s (map (λ n. n.now) r.names.now)
    r.old.now.workqueues r.new.now)
    c.args.changes.now c.loop-change.change-index c.change-item.result c.loop-change.text.items c.put.new.out.items
    c.in_ok-one.one.items
    c.loop-change-test.true c.change-item.is c.loop-change.invariant c.in_ok-one.ensures
    (c.in_ok-put.ensures.added ∙ ap (λ (b : List ℕ). c.loop-change.text.items ++ b) c.deref.ensures.value)

pub returns : goal.returns
returns g c =
    let r = c.args.repair.now in
    let s : Declared = r.old.now.declared in
    subst (λ (cs : List Change). AreEach (IsToldWhy r.declaration.file.now r.assignment.file.now s
    (map (λ n. n.now) r.names.now) r.old.now.workqueues r.new.now) cs c.loop-change.text.items)
    (take_all c.loop-change.change-index c.args.changes.now c.loop-change-test.false) c.loop-change.invariant

use Rattle.std.proofs.Common.{ℕ, List, [], ◌++◌, append-nil, append_assoc, map, refl, sym, ap, subst, ◌∙◌}
use Rattle.std.proofs.lemmas.List.{take_all}
use Rattle.wq_groups.specs.DeclaredGroups.{Declared}
use Rattle.wq_changes.specs.declared.change.Change.{Change}
use Rattle.wq_changes.specs.Told.{AddsEach, IsTold}
use Rattle.wq_changes.proofs.Each.{AreEach-next}
use Rattle.wq_changes.proofs.telling.with_all_told.Goals as goal

pub loop-change-init : goal.loop-change-init
loop-change-init g c = ([], sym (append-nil c.args.text.items), refl)

pub loop-change-preserved : goal.loop-change-preserved
loop-change-preserved g c =
    let r = c.args.repair.now in
    let s : Declared = r.old.now.declared in
    let (added, is, each) = c.loop-change.invariant in
    let one : List ℕ = c.in_ok-one.one.items in (
      added ++ one,
      c.in_ok-put.ensures.added ∙ ap (λ (b : List ℕ). c.loop-change.text.items ++ b) c.deref.ensures.value
          ∙ ap (λ (b : List ℕ). b ++ one) is ∙ append_assoc c.args.text.items added one,
      AreEach-next (IsTold r.assignment.file.now s (map (λ n. n.now) r.names.now) r.old.now.workqueues r.new.now)
          c.args.changes.now c.loop-change.change-index c.change-item.result added (added ++ one) one
          c.loop-change-test.true c.change-item.is each c.in_ok-one.ensures refl,
    )

pub returns : goal.returns
returns g c =
    let r = c.args.repair.now in
    let s : Declared = r.old.now.declared in
    let Says = IsTold r.assignment.file.now s (map (λ n. n.now) r.names.now) r.old.now.workqueues r.new.now in
    subst (λ (cs : List Change). AddsEach Says cs c.args.text.items c.loop-change.text.items)
    (take_all c.loop-change.change-index c.args.changes.now c.loop-change-test.false) c.loop-change.invariant

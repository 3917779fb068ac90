use Rattle.std.proofs.Common.{◌≡◌, ◌++◌, ◌∷◌, ◌<◌, [], ℕ, Bool, false, List, get_or, sym, ap, ◌∙◌, arith}
use Rattle.std.proofs.lemmas.List.{get_or_default}
use Rattle.wq_groups.specs.DeclaredGroups.{Declared}
use Rattle.wq_groups.specs.Assignment.{Assignment}
use Rattle.wq_core.specs.Workqueues.{Workqueues}
use Rattle.wq_voice.specs.Components.{begins_on}
use Rattle.wq_voice.proofs.BareNotes.{kept, left}
use Rattle.wq_voice.proofs.rounds.lanes_of.Goals as goal
use Rattle.wq_voice.proofs.rounds.lanes_of.Goals.{then-index+in_ok-push, else-index}

pub loop-number-preserved : goal.loop-number-preserved
loop-number-preserved g c =
    let s : Declared = c.args.assigned.now.declared in
    let ws : Workqueues = c.args.assigned.now.workqueues in
    let p = begins_on s ws c.args.arcs.now in
    let n = c.loop-number.number in
    let within : n < ws.assignment.lanes =
    omega (
      arith,
      c.loop-number-test.true,
      c.lanes-number-end.ensures.lanes,
      ap (λ (a : Assignment). a.lanes) c.assignment.ensures,
      ap (λ (w : Workqueues). w.assignment.lanes) c.workqueues.ensures.is,
    ) in
    let lanes : List ℕ = c.loop-number.lanes.items in
    let marks : List Bool = c.in_ok-marks.marks.items in
    let mark : Bool = c.index.result.now in
    let is : p n ≡ mark =
    sym (c.in_ok-marks.ensures.marked n within)
    ∙ get_or_default marks n false mark (omega (arith, within, c.in_ok-marks.ensures.len))
    ∙ ap (λ (k : ℕ). get_or marks k mark) (sym c.from.ensures) ∙ sym c.index.ensures in
    elim c.if-index.branch [
      | then-index+in_ok-push w ↦
          rw w.lanes-is
          (kept p n lanes w.push.new.self.items c.loop-number.invariant (is ∙ w.if-index.true)
          (w.in_ok-push.ensures.items ∙ ap (λ (i : ℕ). lanes ++ (i ∷ [])) w.from-then-index.ensures))
      | else-index w ↦ rw w.lanes-is (left p n lanes c.loop-number.invariant (is ∙ w.if-index.false))
    ]

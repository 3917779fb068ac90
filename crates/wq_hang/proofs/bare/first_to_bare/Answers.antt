use Rattle.std.proofs.Common.{◌≤◌, ◌+◌, ℕ, sym, subst, ◌∙◌, arith}
use Rattle.std.proofs.lemmas.Bool.{false≢true}
use Rattle.wq_core.specs.Wiring.{HasRescuer, items, lane_of}
use Rattle.wq_hang.specs.Bare.{IsFirstBelow}
use Rattle.wq_hang.proofs.FirstHops.{IsFirstBelow-start, IsFirstBelow-bare, IfSome-first, IfNone-first}
use Rattle.wq_hang.proofs.bare.first_to_bare.Goals as goal
use Rattle.wq_hang.proofs.bare.first_to_bare.Goals.{then-has_rescuer, else-has_rescuer}

pub loop-i-init : goal.loop-i-init
loop-i-init g c = IsFirstBelow-start c.args.waits.now

pub loop-i-preserved : goal.loop-i-preserved
loop-i-preserved g c =
    let v = c.args.waits.now in
    let i : ℕ = c.loop-i.i in
    elim c.if-has_rescuer.branch [
      | then-has_rescuer w ↦ rw w.first-is (subst (λ (k : ℕ). IsFirstBelow v (k + 1) w.first_with-first.result) c.new-item.ensures w.first_with-first.ensures)
      | else-has_rescuer w ↦ (
          let bare : ¬ HasRescuer v (lane_of v i) = λ has.
          false≢true (sym w.if-has_rescuer.false ∙ c.has_rescuer.ensures.1 (subst (HasRescuer v) (sym c.lane_of.ensures.lane) (subst (λ (k : ℕ). HasRescuer v (lane_of v k)) (sym c.new-item.ensures) has))) in
          rw w.first-is (IsFirstBelow-bare v i c.loop-i.first c.loop-i.invariant bare)
          )
    ]

pub returns : goal.returns
returns g c =
    let v = c.args.waits.now in
    let enough : items v ≤ c.loop-i.i = omega (arith, c.items-i-end.ensures.items, c.loop-i-test.false) in
    record { some = IfSome-first v c.loop-i.i c.loop-i.first c.loop-i.invariant enough; none = IfNone-first v c.loop-i.i c.loop-i.first c.loop-i.invariant enough }

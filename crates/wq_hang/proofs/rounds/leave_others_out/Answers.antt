use Rattle.std.proofs.Common.{◌≡◌, ◌<◌, ◌+◌, ◌⊎◌, ℕ, true, take, get_or, replicate, ap, subst, ◌∙◌, arith}
use Rattle.std.specs.Prelude.{Contains, ◌↔◌, IsTrue}
use Rattle.wq_core.specs.Wiring.{HasRescuer}
use Rattle.wq_hang.proofs.Taken.{contains_more, contains_back, contains_all, contains_taken}
use Rattle.wq_hang.proofs.SomeLanes.{AreKept-none, AreKept-more, AreKept-past}
use Rattle.wq_hang.proofs.rounds.leave_others_out.Goals as goal
use Rattle.wq_hang.proofs.rounds.leave_others_out.Goals.{then-at-count, else-at-count}

pub loop-q-init : goal.loop-q-init
loop-q-init g c =
    AreKept-none c.args.wires.now c.leave_all_out.new.bare.items
    (c.in_ok-leave_all_out.ensures ∙ ap (λ (n : ℕ). replicate n true) c.lanes-count.ensures.lanes)

pub loop-q-preserved : goal.loop-q-preserved
loop-q-preserved g c =
    let w = c.args.wires.now in
    let lanes = c.args.lanes.now in
    let k : ℕ = c.loop-q.q-index in
    let q : ℕ = get_or lanes k 0 in
    let fewer : (p : ℕ) → Contains (take (k + 1) lanes) p → Contains (take k lanes) p ⊎ (q ≡ p) = λ p there. contains_more lanes k 0 p c.loop-q-test.true there in
    let more : (p : ℕ) → Contains (take k lanes) p ⊎ (q ≡ p) → Contains (take (k + 1) lanes) p = λ p there. contains_back lanes k 0 p c.loop-q-test.true there in
    elim c.if-at-count.branch [
      | then-at-count v ↦ (
          let below : q < w.lanes = omega (arith, v.if-at-count.true, c.lanes-count.ensures.lanes) in
          let rescuer : IsTrue v.has_rescuer.result ↔ HasRescuer w q = subst (λ (p : ℕ). IsTrue v.has_rescuer.result ↔ HasRescuer w p) v.new.ensures v.has_rescuer.ensures in
          AreKept-more w (take k lanes) (take (k + 1) lanes) c.loop-q.bare.items c.if-at-count.bare.items q v.has_rescuer.result c.loop-q.invariant below rescuer fewer more (ap (λ x. x.items) v.bare-is)
          )
      | else-at-count v ↦
          rw v.bare-is (AreKept-past w (take k lanes) (take (k + 1) lanes) c.loop-q.bare.items q c.loop-q.invariant (omega (arith, v.if-at-count.false, c.lanes-count.ensures.lanes)) fewer more)
    ]

pub returns : goal.returns
returns g c q below =
    let w = c.args.wires.now in
    let lanes = c.args.lanes.now in
    let k : ℕ = c.loop-q.q-index in
    let all : (p : ℕ) → Contains lanes p → Contains (take k lanes) p = λ p there. contains_all lanes k p c.loop-q-test.false there in
    ((λ stays. let was = c.loop-q.invariant.kept q below stays in (was.0, contains_taken lanes k q was.1)), (λ on. c.loop-q.invariant.all q below on.0 (all q on.1)))

use Rattle.std.proofs.Common.{ℕ, ◌+◌, ◌<◌, List, length, sym, ap, subst, arith}
use Rattle.wq_core.specs.declared.step.Step.{Step}
use Rattle.wq_core.specs.Wiring.{Wiring}
use Rattle.wq_core.specs.Held.{Machine}
use Rattle.wq_core.specs.Played.{IsDeclaredStep, HasNoDeclaredStep}
use Rattle.wq_deadlock.specs.Stuck.{StuckLanes, IsKnown, with_stuck}
use Rattle.wq_deadlock.proofs.KnownStuck.{
  KnowsStuck,
  KnowsStuck-start,
  KnowsStuck-noted,
  KnowsStuck-step,
  known-more,
  finished-within,
}
use Rattle.wq_deadlock.proofs.Onward.{
  IsPlaying,
  IsPlaying-start,
  IsPlaying-move,
  IsPlayedFrom-playing,
  play_left,
  play_left-move,
}
use Rattle.wq_deadlock.proofs.playing.play.Goals as goal

pub loop-q-init : goal.loop-q-init
loop-q-init g c =
    let start = c.args.core.now in
    record {
      playing = subst (λ (steps : List Step). IsPlaying start start steps) (sym c.new-steps.ensures.items)
          (IsPlaying-start start c.lanes-lanes.ensures.machine.state);
      stuck = KnowsStuck-start start.wiring start.state c.in_ok-stuck.stuck c.lanes-lanes.result c.items.result
          c.in_ok-stuck.ensures.known c.in_ok-stuck.ensures.waiting c.lanes-lanes.ensures.lanes c.items.ensures.items;
      known = λ p lt. absurd (omega arith);
    }

pub release_after-q-requires : goal.release_after-q-requires
release_after-q-requires g c =
    let core = c.loop-q.core in
    finished-within core.wiring core.state c.new-lane.result c.in-Some.step c.loop-q.stuck
    c.declared.ensures.machine.state c.loop-q.invariant.stuck c.in-Some.ensures.some

pub loop-q-smaller-in-Some : goal.loop-q-smaller-in-Some
loop-q-smaller-in-Some g c =
    let core = c.loop-q.core in
    let step = c.in-Some.step in
    let q = c.loop-q.q in
    let lanes = c.lanes-lanes.result in
    let is = subst (λ (n : ℕ). IsDeclaredStep core.wiring core.state n step) c.new-lane.ensures c.in-Some.ensures.some
    in
    subst (λ (m : Machine). play_left m lanes c.release_after-q.result < play_left core lanes q)
    (sym c.in_ok-make.ensures.made) (play_left-move core lanes q c.release_after-q.result step
    c.declared.ensures.machine is)

pub loop-q-preserved-in-Some : goal.loop-q-preserved-in-Some
loop-q-preserved-in-Some g c =
    let core = c.loop-q.core in
    let step = c.in-Some.step in
    let q = c.loop-q.q in
    let is = subst (λ (n : ℕ). IsDeclaredStep core.wiring core.state n step) c.new-lane.ensures c.in-Some.ensures.some
    in
    let below : (p : ℕ) → p < q → HasNoDeclaredStep core.wiring core.state p = λ p lt. c.loop-q.invariant.stuck.still p
    (c.loop-q.invariant.known p lt) in
    let stuck = KnowsStuck-step core.wiring core.state q step c.loop-q.stuck c.release_after-q.new.stuck
    c.loop-q.invariant.stuck c.declared.ensures.machine.state is c.release_after-q.ensures.after
    c.release_after-q.ensures.len in
    record {
      playing = rw (c.in_ok-make.ensures.made, c.in_ok-make.ensures.noted)
          (IsPlaying-move c.args.core.now core c.loop-q.steps.items q step c.loop-q.invariant.playing below is);
      stuck = subst (λ (m : Machine). KnowsStuck m.wiring m.state c.release_after-q.new.stuck)
          (sym c.in_ok-make.ensures.made) stuck;
      known = λ p lt. c.release_after-q.ensures.stay p lt (c.loop-q.invariant.known p
          (omega (arith, lt, c.release_after-q.ensures.from, c.new-lane.ensures)));
    }

pub loop-q-preserved : goal.loop-q-preserved
loop-q-preserved g c =
    let core = c.loop-q.core in
    let q = c.loop-q.q in
    let known = c.loop-q.invariant.known in
    let noted = KnowsStuck-noted core.wiring core.state c.loop-q.stuck c.new-lane.result c.holder.result
    c.loop-q.invariant.stuck c.in_default.ensures.none c.holder.ensures.item c.holder.ensures.holder in
    let within : q < length c.loop-q.stuck.known = omega (
      arith,
      c.loop-q-test.true,
      c.lanes-lanes.ensures.lanes,
      c.loop-q.invariant.stuck.each_lane,
      ap (λ (w : Wiring). w.lanes) c.loop-q.invariant.playing.wiring,
    ) in
    let more : (p : ℕ) → p < q + 1 → IsKnown (with_stuck c.loop-q.stuck c.new-lane.result c.holder.result) p =
    known-more c.loop-q.stuck q c.new-lane.result c.holder.result c.new-lane.ensures within known in
    record {
      playing = c.loop-q.invariant.playing;
      stuck = subst (λ (s : StuckLanes). KnowsStuck core.wiring core.state s) (sym c.in_ok-note.ensures) noted;
      known = subst (λ (s : StuckLanes). (p : ℕ) → p < q + 1 → IsKnown s p) (sym c.in_ok-note.ensures) more;
    }

pub returns : goal.returns
returns g c =
    let core = c.loop-q.core in
    let still : (p : ℕ) → p < c.loop-q.q → HasNoDeclaredStep core.wiring core.state p = λ p lt.
    c.loop-q.invariant.stuck.still p (c.loop-q.invariant.known p lt) in
    IsPlayedFrom-playing c.args.core.now core c.loop-q.steps.items c.loop-q.q c.loop-q.invariant.playing still
    (omega (arith, c.loop-q-test.false, c.lanes-lanes.ensures.lanes))

use Rattle.std.proofs.Common.{◌≡◌, rules, None, Some, sym}
use Rattle.std.specs.Prelude.{slice_get}
use Rattle.wq_core.specs.State.{lane_at}
use Rattle.wq_diagnosis.proofs.Forbidding.{next-first, nothing_runs, start-first, start-nothing}
use Rattle.wq_diagnosis.proofs.unlawful.start_reason.Goals as goal

pub returns-in_default-first_on-clause-some : goal.returns-in_default-first_on-clause-some
returns-in_default-first_on-clause-some g c =
    let m = c.args.core.now in
    let none : slice_get (lane_at m.state c.args.q).pending 0 ≡ None = search rules in
    start-nothing m.wiring m.state c.args.q c.args.item none

pub returns-then-eq-clause-none : goal.returns-then-eq-clause-none
returns-then-eq-clause-none g c =
    let m = c.args.core.now in
    let lane = lane_at m.state c.args.q in
    let first = c.in-Some-first_on.first in
    let idle : lane.running ≡ None = search rules in
    let stands : slice_get lane.pending 0 ≡ Some first = sym c.in-Some-first_on.ensures.first in
    let same : first.item ≡ c.args.item = search rules in
    record {
      idle = idle;
      entry = first;
      first = next-first lane first stands (nothing_runs m c.args.q first.item c.in_default.ensures.machine c.requires idle);
      of_item = same;
    }

pub returns-else-eq-clause-some : goal.returns-else-eq-clause-some
returns-else-eq-clause-some g c =
    let m = c.args.core.now in
    let lane = lane_at m.state c.args.q in
    let first = c.in-Some-first_on.first in
    let idle : lane.running ≡ None = search rules in
    let stands : slice_get lane.pending 0 ≡ Some first = sym c.in-Some-first_on.ensures.first in
    let other : first.item ≡ c.args.item → ⊥ = search rules in
    start-first m.wiring m.state c.args.q c.args.item first stands
    (nothing_runs m c.args.q first.item c.in_default.ensures.machine c.requires idle) other

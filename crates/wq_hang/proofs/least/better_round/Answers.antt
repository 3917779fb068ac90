use Rattle.std.proofs.Common.{◌<◌, ℕ, List, length, ◌∙◌, sym, ap, subst, arith}
use Rattle.std.specs.Prelude.{slice_index}
use Rattle.std.proofs.lemmas.Bool.{eqb-true, false≢true}
use Rattle.wq_core.specs.Wiring.{HasRescuer, lane_of}
use Rattle.wq_hang.specs.Search.{IsBetter}
use Rattle.wq_items.specs.declared.target.Target.{Target}
use Rattle.wq_hang.proofs.LeastFound.{IsNoBetter-still, IsNoBetter-bound, IsNoBetter-bare, IsNoBetter-searched}
use Rattle.wq_hang.proofs.LeastFound.{IsBetter-searched}
use Rattle.wq_hang.proofs.least.better_round.Goals as goal

pub returns-then-least-bounds : goal.returns-then-least-bounds
returns-then-least-bounds g c =
    let w = c.args.waits.now in
    let rescuer : HasRescuer w (lane_of w c.args.first) =
    subst (HasRescuer w) c.lane_of.ensures.lane (c.has_rescuer.ensures.0 c.if-not-has_rescuer.false) in
    record {
      some = tt;
      none = IsNoBetter-bound w c.args.bounds.now c.args.first c.args.least (c.requires.bounds rescuer)
          (omega (
            arith,
            c.if-least-bounds.true,
            ap (slice_index c.args.bounds.now) (c.from.ensures ∙ c.get.ensures ∙ c.lane_of-2.ensures.lane),
          ));
    }

pub returns-then-not-has_rescuer : goal.returns-then-not-has_rescuer
returns-then-not-has_rescuer g c =
    let w = c.args.waits.now in
    record {
      some = tt;
      none = IsNoBetter-bare w c.args.first c.args.least (λ rescuer.
          false≢true (sym c.if-not-has_rescuer.true ∙ c.has_rescuer.ensures.1 (subst (HasRescuer w) (sym c.lane_of.ensures.lane) rescuer))
          );
    }

pub returns-then-cost-least-clause-none : goal.returns-then-cost-least-clause-none
returns-then-cost-least-clause-none g c =
    IsNoBetter-searched c.args.waits.now c.args.first c.args.least c.search_from.new.search c.in_ok-search_from.ensures (omega (arith, c.if-cost-least.true, c.cost-cost.ensures))

pub returns : goal.returns
returns g c =
    let w = c.args.waits.now in
    let s = c.search_from.new.search in
    let hops = c.in_ok-hops.hops.items in
    let less : slice_index s.costs c.args.first < c.args.least = omega (arith, c.if-cost-least.false, c.cost-cost.ensures) in
    let better = IsBetter-searched w c.args.first c.args.least s hops c.in_ok-search_from.ensures less
    c.in_ok-hops.ensures.round c.in_ok-hops.ensures.path c.in_ok-hops.ensures.cost in
    record { some = subst (λ (n : ℕ). IsBetter w c.args.first c.args.least n hops) (sym c.cost-cost.ensures) better; none = tt }

pub returns-then-is_empty-clause-none : goal.returns-then-is_empty-clause-none
returns-then-is_empty-clause-none g c =
    IsNoBetter-still c.args.waits.now c.args.first c.args.least
    (ap (λ (l : List Target). length l) (sym c.flushes.ensures)
    ∙ eqb-true (length c.flushes.result.now) 0 (sym c.is_empty.ensures ∙ c.if-is_empty.true))

use Rattle.std.proofs.Common.{◌≡◌, true, false, sym, subst, ◌∙◌}
use Rattle.wq_core.specs.State.{Lane, lane_at, IsBusy}
use Rattle.wq_core.proofs.machine.Core.is_at_rest.Goals as goal

pub returns-then-not-is_idle : goal.returns-then-not-is_idle
returns-then-not-is_idle g c =
    let m = c.args.self.now in (
      (λ t. absurd (let e : false ≡ true = t in cc)),
      (λ none.
          let nothing : ¬ IsBusy (lane_at m.state c.new-q.result) = λ (e, left). none (record { lane = c.new-q.result; entry = e; unfinished = left }) (c.has_rescuer.ensures.0 c.if-has_rescuer.true) in
          let idle = c.is_idle.ensures.1 (subst (λ (l : Lane). ¬ IsBusy l) (sym c.lane.ensures.lane) nothing) in
          absurd (let e : false ≡ true = sym c.if-not-is_idle.true ∙ idle in cc)),
    )

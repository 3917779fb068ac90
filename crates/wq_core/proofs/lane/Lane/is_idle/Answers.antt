use Rattle.std.proofs.Common.{◌≡◌, ◌↔◌, List, Option, None, [], sym, subst, ap, ◌∙◌}
use Rattle.std.specs.Prelude.{IsTrue}
use Rattle.std.specs.List.{All}
use Rattle.wq_core.specs.declared.entry.Running.{Running}
use Rattle.wq_core.specs.State.{IsBusy}
use Rattle.wq_core.specs.Held.{HeldLane}
use Rattle.wq_core.proofs.Padding.{busy-first, no_first, busy-running, no_running, idle-not_busy, not_busy-idle}
use Rattle.wq_core.proofs.lane.Lane.is_idle.Goals as goal

pub returns-then-is_some : goal.returns-then-is_some
returns-then-is_some g c =
    ((λ h. absurd cc), (λ none. absurd (none (busy-first c.args.self.now.lane c.first.result c.first.ensures c.is_some.result c.is_some.ensures c.if-is_some.true))))

pub returns-then-is_some-2 : goal.returns-then-is_some-2
returns-then-is_some-2 g c =
    let inside = c.self.inside in
    let runs = sym (ap (λ (h : HeldLane). h.lane.running) c.self.view_is) in
    ((λ h. absurd cc), (λ none. absurd (none (busy-running c.args.self.now.lane inside.running runs c.is_some-2.result c.is_some-2.ensures c.if-is_some-2.true))))

pub returns : goal.returns
returns g c =
    let inside = c.self.inside in
    let empty : inside.pending.items ≡ [] = ap (λ (h : HeldLane). h.lane.pending) c.self.view_is ∙ no_first c.args.self.now.lane.pending c.first.result c.first.ensures c.is_some.result c.is_some.ensures c.if-is_some.false in
    let idle : inside.running ≡ None = no_running inside.running c.is_some-2.result c.is_some-2.ensures c.if-is_some-2.false in
    subst (λ (h : HeldLane). IsTrue c.are_idle.result ↔ (¬ IsBusy h.lane)) c.self.view_is (
      (λ h. idle-not_busy inside.pending.items inside.running inside.helping.items empty idle (subst (λ (hs : List (Option Running)). All (λ (x : Option Running). x ≡ None) hs) c.as_slice.ensures.value (c.are_idle.ensures.0 h))),
      (λ none. c.are_idle.ensures.1 (subst (λ (hs : List (Option Running)). All (λ (x : Option Running). x ≡ None) hs) (sym c.as_slice.ensures.value) (not_busy-idle inside.pending.items inside.running inside.helping.items none).2)),
    )

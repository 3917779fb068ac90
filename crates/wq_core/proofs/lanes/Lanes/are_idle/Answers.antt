use Rattle.std.proofs.Common.{◌↔◌, List, subst, ◌∙◌}
use Rattle.std.specs.Prelude.{IsTrue}
use Rattle.std.specs.List.{All}
use Rattle.wq_core.specs.State.{IsBusy}
use Rattle.wq_core.specs.Held.{HeldLane}
use Rattle.wq_core.proofs.lanes.Lanes.are_idle.Goals as goal

pub returns : goal.returns
returns g c =
    subst (λ (hs : List HeldLane). IsTrue c.all_idle.result ↔ All (λ (h : HeldLane). ¬ IsBusy h.lane) hs) (c.as_slice.ensures.value ∙ c.self.view_is) c.all_idle.ensures

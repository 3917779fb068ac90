use Rattle.std.proofs.Common.{◌≡◌, ◌∙◌, ◌||◌, Bool, false, refl, sym, ap}
use Rattle.std.specs.List.{list_any}
use Rattle.wq_core.specs.State.{runs_item}
use Rattle.wq_core.specs.Held.{padded}
use Rattle.wq_core.proofs.Padding.{any-padded}
use Rattle.wq_core.proofs.lane.Lane.is_running.Goals as goal

pub returns-else-runs_item : goal.returns-else-runs_item
returns-else-runs_item g c =
    let item = c.args.item in
    let inside = c.self.inside in
    let first : false ≡ runs_item item inside.running = sym c.if-runs_item.false ∙ c.runs_item.ensures in
    rw (← c.self.view_is) (
    c.any_runs.ensures ∙ ap (list_any (runs_item item)) c.as_slice.ensures.value ∙ sym (any-padded (runs_item item) refl inside.helping.items)
    ∙ ap (λ (b : Bool). b || list_any (runs_item item) (padded inside.helping.items)) first
    )

use Rattle.std.proofs.Common.{◌≡◌, ◌∙◌, ◌||◌, Bool, false, refl, sym, ap}
use Rattle.std.specs.List.{list_any}
use Rattle.wq_core.specs.Held.{padded, runs_below}
use Rattle.wq_core.proofs.Padding.{any-padded}
use Rattle.wq_core.proofs.lane.Lane.runs_below.Goals as goal

pub returns-else-runs_below : goal.returns-else-runs_below
returns-else-runs_below g c =
    let below = runs_below c.args.item c.args.mark in
    let inside = c.self.inside in
    let first : false ≡ below inside.running = sym c.if-runs_below.false ∙ c.runs_below.ensures in
    rw (← c.self.view_is) (
    c.any_runs_below.ensures ∙ ap (list_any below) c.as_slice.ensures.value ∙ sym (any-padded below refl inside.helping.items)
    ∙ ap (λ (b : Bool). b || list_any below (padded inside.helping.items)) first
    )

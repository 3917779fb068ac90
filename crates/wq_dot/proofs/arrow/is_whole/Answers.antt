use Rattle.std.proofs.Common.{Bool, List, Ok, Err, rules, of_calls, sym, ap, subst, ◌∙◌}
use Rattle.std.specs.List.{list_any}
use Rattle.std.proofs.lemmas.Fn.{always_returns_same}
use Rattle.wq_items.specs.declared.target.Target.{Target}
use Rattle.wq_items.specs.Table.{PlacesRise}
use Rattle.wq_items.proofs.Tables.{targets_of-rise}
use Rattle.wq_circles.proofs.AtPlaces.{Tells, said_found, says_here}
use Rattle.wq_dot.proofs.arrow.is_whole.Goals as goal

pub returns-in-Ok : goal.returns-in-Ok
returns-in-Ok g c =
    let says : Target → Bool = λ (t : Target). t.whole in
    let place = c.args.flush.place in
    let targets = c.waits-targets.result.now in
    let rise : PlacesRise targets = subst PlacesRise (sym c.waits-targets.ensures)
    (targets_of-rise c.args.table.now.waits c.args.flush.src c.len-items.ensures.table.places_rise) in
    let position = c.binary_search_by_key.ensures.position (λ (t : Target). t.place)
    (always_returns_same _ _ _ (λ a r f k. search (rules, of_calls))) in
    let found : Tells says targets rise place (Ok c.in-Ok.at) =
    subst (Tells says targets rise place) c.in-Ok.is
    (said_found says targets rise place c.binary_search_by_key.result position) in
    sym (found.1 c.index-targets-at.result) ∙ ap (λ (ts : List Target). list_any (says_here says place) ts)
    c.waits-targets.ensures

pub returns-in-Err : goal.returns-in-Err
returns-in-Err g c =
    let says : Target → Bool = λ (t : Target). t.whole in
    let place = c.args.flush.place in
    let targets = c.waits-targets.result.now in
    let rise : PlacesRise targets = subst PlacesRise (sym c.waits-targets.ensures)
    (targets_of-rise c.args.table.now.waits c.args.flush.src c.len-items.ensures.table.places_rise) in
    let position = c.binary_search_by_key.ensures.position (λ (t : Target). t.place)
    (always_returns_same _ _ _ (λ a r f k. search (rules, of_calls))) in
    let found : Tells says targets rise place (Err c.in-Err.field-0) =
    subst (Tells says targets rise place) c.in-Err.is
    (said_found says targets rise place c.binary_search_by_key.result position) in
    sym found ∙ ap (λ (ts : List Target). list_any (says_here says place) ts) c.waits-targets.ensures

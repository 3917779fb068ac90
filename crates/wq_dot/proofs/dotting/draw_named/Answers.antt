use Rattle.std.proofs.Common.{◌≡◌, ℕ, List, map, subst}
use Rattle.std.specs.Prelude.{IfOk}
use Rattle.wq_names.specs.Names.{names_of}
use Rattle.wq_dot.specs.Dotting.{DrawsAssigned, FindsDrawing}
use Rattle.wq_dot.proofs.dotting.draw_named.Goals as goal

pub returns : goal.returns
returns g c =
    let a = c.args.assigned.now in
    let comments = map (λ m. m.now) c.args.comments.now in
    let called : map (λ n. n.now) c.deref.result.now ≡ names_of c.args.text.now =
    rw c.deref.ensures.value (c.in_ok-called.ensures c.requires) in
    subst
    (λ (names : List (List ℕ)). IfOk c.draw_assigned.result (λ r. FindsDrawing
    (λ hops. DrawsAssigned a.declared comments a.workqueues names hops) r.found r.end r.text.items))
    called c.draw_assigned.ensures

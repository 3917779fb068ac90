use Rattle.std.proofs.Common.{◌≡◌, length, subst, sym, arith}
use Rattle.std.specs.List.{All}
use Rattle.std.proofs.lemmas.List.Elements.{All-push}
use Rattle.wq_rescuer.specs.Executing.{NeverRan}
use Rattle.wq_script.specs.Scripts.{Script, runs_of}
use Rattle.wq_script.proofs.crew.script_bodies.Goals as goal

pub loop-preserved : goal.loop-preserved
loop-preserved g c =
    let bodies = c.loop.bodies.items in
    let body = c.in_ok-body.body in
    let flushes = λ (b : Script). b.waits ≡ c.args.table.now.waits in
    let counts = λ (b : Script). length b.runs ≡ length c.args.table.now.names in
    let fresh = λ (b : Script). NeverRan (runs_of b) in (
      subst (All flushes) (sym c.in_ok-push.ensures.items) (All-push flushes bodies body c.loop.invariant.0 c.in_ok-body.ensures.waits),
      subst (All counts) (sym c.in_ok-push.ensures.items) (All-push counts bodies body c.loop.invariant.1 c.in_ok-body.ensures.width),
      subst (All fresh) (sym c.in_ok-push.ensures.items) (All-push fresh bodies body c.loop.invariant.2 c.in_ok-body.ensures.never_ran),
      omega (arith, c.in_ok-push.ensures.len, c.loop.invariant.3),
    )

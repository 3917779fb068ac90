use Rattle.std.proofs.Common.{◌++◌, ◌∷◌, [], Bool, ap, ◌∙◌}
use Rattle.wq_changes.specs.Without.{bare_without}
use Rattle.wq_changes.proofs.Ranges.{made}
use Rattle.wq_changes.proofs.without.bares_without.Goals as goal

pub loop-number-preserved : goal.loop-number-preserved
loop-number-preserved g c =
    let is_bare = bare_without c.args.new.now c.args.change.now in
    made is_bare c.loop-number.number c.loop-number.bare.items c.push.new.self.items c.loop-number.invariant
    (c.in_ok-push.ensures.items ∙ ap (λ (b : Bool). c.loop-number.bare.items ++ (b ∷ [])) (c.bare_without.ensures ∙ ap is_bare c.new.ensures))

use Rattle.std.proofs.Common.{◌≡◌, ◌≤◌, Option, Some, None, true, false, List, length, refl, sym, subst, ◌∙◌, arith}
use Rattle.std.specs.Prelude.{is_some}
use Rattle.std.specs.List.{All}
use Rattle.std.proofs.lemmas.List.{take_all}
use Rattle.std.proofs.lemmas.List.Elements.{All-more}
use Rattle.wq_core.specs.declared.entry.Running.{Running}
use Rattle.wq_core.proofs.lane.are_idle.Goals as goal

nothing : (o : Option Running) → is_some o ≡ false → o ≡ None
nothing None is = refl
nothing (Some r) is = absurd (let e : true ≡ false = is in cc)

pub loop-running-preserved : goal.loop-running-preserved
loop-running-preserved c =
    All-more (λ (o : Option Running). o ≡ None) c.args.helping.now c.loop-running.running-index c.running-item.result c.loop-running-test.true c.loop-running.invariant
    (sym c.running-item.is ∙ nothing c.running-item.result (sym c.is_some.ensures ∙ c.if-is_some.false))

pub returns : goal.returns
returns c =
    let all : length c.args.helping.now ≤ c.loop-running.running-index = omega (arith, c.loop-running-test.false) in
    ((λ h. subst (λ (os : List (Option Running)). All (λ (o : Option Running). o ≡ None) os) (take_all c.loop-running.running-index c.args.helping.now all) c.loop-running.invariant), (λ h. refl))

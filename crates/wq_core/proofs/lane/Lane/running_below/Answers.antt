use Rattle.std.proofs.Common.{◌≡◌, ◌<◌, List, Option, None, Some, sym, subst, ap, ◌∙◌, arith}
use Rattle.std.specs.Prelude.{IfSome, IfNone}
use Rattle.wq_core.specs.declared.entry.Entry.{Entry}
use Rattle.wq_core.specs.declared.entry.Running.{Running}
use Rattle.wq_core.specs.State.{IsRunOn}
use Rattle.wq_core.specs.Held.{HeldLane, IsRunAmong}
use Rattle.wq_core.proofs.Padding.{running-some, running-none}
use Rattle.wq_core.proofs.lane.Lane.running_below.Goals as goal
use Rattle.wq_core.proofs.lane.Lane.running_below.Goals.{in-Some+else-r-mark, in_default}

pub returns-clause-some : goal.returns-clause-some
returns-clause-some g c =
    let inside = c.self.inside in
    let mark = c.args.mark in
    let found = c.first_below.result in
    let some = subst (λ (hs : List (Option Running)). IfSome found (λ (e : Entry). IsRunAmong hs e × (e.number < mark))) c.as_slice.ensures.value c.first_below.ensures.some in
    subst (λ (h : HeldLane). IfSome found (λ (e : Entry). IsRunOn h.lane e × (e.number < mark))) c.self.view_is (running-some inside.pending.items inside.running inside.helping.items mark found some)

pub returns-clause-none : goal.returns-clause-none
returns-clause-none g c =
    let inside = c.self.inside in
    let mark = c.args.mark in
    let found = c.first_below.result in
    let none = subst (λ (hs : List (Option Running)). IfNone found ((e : Entry) → IsRunAmong hs e → ¬ (e.number < mark))) c.as_slice.ensures.value c.first_below.ensures.none in
    let low : (r : Running) → inside.running ≡ Some r → ¬ (r.entry.number < mark) = λ r is below. elim c.match-self.branch [
      | in-Some+else-r-mark w ↦ (
          let both : Some w.in-Some.r ≡ Some r = sym w.in-Some.is ∙ is in
          let same : w.in-Some.r ≡ r = cc in
          let number = ap (λ (x : Running). x.entry.number) same in
          absurd (omega (arith, w.if-r-mark.false, number, below))
          )
      | in_default w ↦ absurd (let never : None ≡ Some r = sym w.in_default.is ∙ is in cc)
    ] in
    subst (λ (h : HeldLane). IfNone found ((e : Entry) → IsRunOn h.lane e → ¬ (e.number < mark))) c.self.view_is (running-none inside.pending.items inside.running inside.helping.items mark low found none)

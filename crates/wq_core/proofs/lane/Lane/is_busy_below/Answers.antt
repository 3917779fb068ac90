use Rattle.std.proofs.Common.{◌≡◌, ◌<◌, Some, None, sym, ap, ◌∙◌, arith}
use Rattle.std.specs.Prelude.{slice_get}
use Rattle.wq_core.specs.declared.entry.Entry.{Entry}
use Rattle.wq_core.proofs.Unfinished.{busy-exactly}
use Rattle.wq_core.proofs.lane.Lane.is_busy_below.Goals as goal
use Rattle.wq_core.proofs.lane.Lane.is_busy_below.Goals.{in-Some+else-first-mark, in_default}

pub returns : goal.returns
returns g c =
    let lane = c.args.self.now.lane in
    let mark = c.args.mark in
    let low : (e : Entry) → slice_get lane.pending 0 ≡ Some e → ¬ (e.number < mark) =
    λ e is below. elim c.match-first.branch [
      | in-Some+else-first-mark w ↦ (
          let both : Some w.in-Some.first ≡ Some e = sym w.in-Some.is ∙ c.first.ensures ∙ is in
          let same : w.in-Some.first ≡ e = cc in
          let number = ap (λ (f : Entry). f.number) same in
          absurd (omega (arith, w.if-first-mark.false, number, below))
          )
      | in_default w ↦ absurd (let never : None ≡ Some e = sym w.in_default.is ∙ c.first.ensures ∙ is in cc)
    ] in
    busy-exactly lane mark c.requires low c.running_below.result c.running_below.ensures.some c.running_below.ensures.none c.is_some.result c.is_some.ensures

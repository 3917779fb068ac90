use Rattle.std.proofs.Common.{◌≡◌, ℕ, [], ◌∷◌, ◌++◌, ap, ◌∙◌}
use Rattle.std.specs.Prelude.{map}
use Rattle.wq_script.specs.declared.acting.Act.TheVariants.{Queue, Flush}
use Rattle.wq_script.specs.Crews.{every_second}
use Rattle.wq_script.proofs.CrewLemmas.{calls-more, calls-same}
use Rattle.wq_script.proofs.crew.script_caller.Goals.{then-i-first+in_ok-push, else-i-first, then-i-first-2+in_ok-push-2, else-i-first-2}
use Rattle.wq_script.proofs.crew.script_caller.Goals as goal

pub loop-i-preserved : goal.loop-i-preserved
loop-i-preserved g c =
    let first = c.args.first in let i = c.loop-i.i in let calls = c.loop-i.acts.items in
    elim c.if-i-first.branch [
      | then-i-first+in_ok-push w ↦
          let pushed : w.push.new.self.items ≡ calls ++ (Queue i ∷ []) = w.in_ok-push.ensures.items ∙ ap (λ (x : ℕ). calls ++ (Queue x ∷ [])) w.new.ensures in
          rw w.acts-is (calls-more Queue first i [] calls w.push.new.self.items w.if-i-first.true c.loop-i.invariant pushed)
      | else-i-first w ↦ rw w.acts-is (calls-same Queue first i [] calls w.if-i-first.false c.loop-i.invariant)
    ]

pub loop-i-2-preserved : goal.loop-i-2-preserved
loop-i-2-preserved g c =
    let first = c.args.first in let i = c.loop-i-2.i in let calls = c.loop-i-2.acts.items in
    let queued = map Queue (every_second first c.args.count) in
    elim c.if-i-first-2.branch [
      | then-i-first-2+in_ok-push-2 w ↦
          let pushed : w.push-then-i-first-2.new.self.items ≡ calls ++ (Flush i ∷ []) =
          w.in_ok-push-2.ensures.items ∙ ap (λ (x : ℕ). calls ++ (Flush x ∷ [])) w.new-then-i-first-2.ensures in
          rw w.acts-is (calls-more Flush first i queued calls w.push-then-i-first-2.new.self.items w.if-i-first-2.true c.loop-i-2.invariant pushed)
      | else-i-first-2 w ↦ rw w.acts-is (calls-same Flush first i queued calls w.if-i-first-2.false c.loop-i-2.invariant)
    ]

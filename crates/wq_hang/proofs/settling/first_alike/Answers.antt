use Rattle.std.proofs.Common.{◌≡◌, ◌+◌, ◌≤◌, ◌⊎◌, inl, inr, ℕ, List, take, sym, subst, ◌∙◌}
use Rattle.std.specs.Prelude.{Contains}
use Rattle.std.proofs.lemmas.Bool.{false≢true}
use Rattle.wq_items.specs.declared.target.Target.{Target}
use Rattle.wq_core.specs.Wiring.{declared_by}
use Rattle.wq_hang.specs.declared.hop.Hop.{Hop}
use Rattle.wq_hang.specs.Walk.{AreAlike}
use Rattle.wq_hang.proofs.Taken.{contains_more, contains_all}
use Rattle.wq_hang.proofs.SettledHops.{IsFirstSoFar-none, IsFirstSoFar-better, IsFirstSoFar-kept}
use Rattle.wq_hang.proofs.settling.first_alike.Goals as goal
use Rattle.wq_hang.proofs.settling.first_alike.Goals.{
  then-flush-first+then-are_alike,
  else-flush-first,
  else-flush-first-via-then-flush-first+else-are_alike,
  else-flush-first-via-else-flush-first,
}

pub loop-flush-init : goal.loop-flush-init
loop-flush-init g c = IsFirstSoFar-none c.args.waits.now c.args.hop.now c.requires.declared

pub loop-flush-preserved : goal.loop-flush-preserved
loop-flush-preserved g c =
    let v = c.args.waits.now in
    let h : Hop = c.args.hop.now in
    let flushes : List Target = c.flushes-flush-items.result.now in
    let k : ℕ = c.loop-flush.flush-index in
    let x : Target = c.flush-item.result in
    let first : Target = c.loop-flush.first in
    let here : Contains flushes x = (k, c.loop-flush-test.true, sym c.flush-item.is) in
    let declared : Contains (declared_by v h.item) x =
    subst (λ (l : List Target). Contains l x) c.flushes-flush-items.ensures here in
    let more : (u : Target) → Contains (take (k + 1) flushes) u → Contains (take k flushes) u ⊎ (x ≡ u) =
    λ u there. elim (contains_more flushes k x u c.loop-flush-test.true there) [
      | inl before ↦ inl before
      | inr same ↦ inr (c.flush-item.is ∙ same)
    ] in
    elim c.if-flush-first.branch [
      | then-flush-first+then-are_alike w ↦ rw w.first-is
          (IsFirstSoFar-better v h (take k flushes) (take (k + 1) flushes) x first c.loop-flush.invariant more
          w.if-flush-first.true (w.are_alike.ensures.0 w.if-are_alike.true) declared)
      | else-flush-first w ↦ (
          let enough : AreAlike x h.flush → first.place ≤ x.place = λ alike. elim w.else-flush-first.branch [
            | else-flush-first-via-then-flush-first+else-are_alike o ↦
                absurd (false≢true (sym o.if-are_alike.false ∙ o.are_alike.ensures.1 alike))
            | else-flush-first-via-else-flush-first o ↦ o.if-flush-first.false
          ] in
          rw w.first-is (IsFirstSoFar-kept v h (take k flushes) (take (k + 1) flushes) x first c.loop-flush.invariant
          more enough)
          )
    ]

pub returns-clause-first : goal.returns-clause-first
returns-clause-first g c t there alike =
    let flushes : List Target = c.flushes-flush-items.result.now in
    let k : ℕ = c.loop-flush.flush-index in
    c.loop-flush.invariant.least t
    (contains_all flushes k t c.loop-flush-test.false
    (subst (λ (l : List Target). Contains l t) (sym c.flushes-flush-items.ensures) there))
    alike

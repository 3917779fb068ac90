use Rattle.std.proofs.Common.{◌≡◌, ◌<◌, ◌+◌, ◌↔◌, ℕ, zero, suc, List, ◌∷◌, length, drop, false, sym, ap, subst, ◌∙◌}
use Rattle.std.proofs.Common.{get_or, drop-cons, arith}
use Rattle.std.proofs.lemmas.Bool.{false≢true}
use Rattle.wq_core.specs.State.{State, HasUnfinishedOf}
use Rattle.wq_checker.specs.Searching.{HasOneLeft}
use Rattle.wq_checker.proofs.running.has_one_left.Goals as goal

-- an item that has no unfinished entry makes no difference
HasOneLeft-cons : (s : State) (i : ℕ) (is : List ℕ) → (¬ HasUnfinishedOf s i)
    → HasOneLeft s is ↔ HasOneLeft s (i ∷ is)
HasOneLeft-cons s i is none = (
  (λ h. (h.0, (suc h.1.0, omega (arith, h.1.1), h.1.2), h.2)),
  (λ h. back h.0 h.1.0 h.1.1 h.1.2 h.2),
)
  where
    back : (x k : ℕ) → k < length (i ∷ is) → get_or (i ∷ is) k x ≡ x → HasUnfinishedOf s x → HasOneLeft s is
    back x zero lt at left = absurd (none (subst (HasUnfinishedOf s) (sym at) left))
    back x (suc k) lt at left = (x, (k, omega (arith, lt), at), left)

pub loop-item-preserved : goal.loop-item-preserved
loop-item-preserved g c =
    let s = c.args.core.now.state in
    let named = c.args.named.now in
    let k = c.loop-item.item-index in
    let item = c.item-item.result in
    let none : ¬ HasUnfinishedOf s item =
    λ left. false≢true (sym c.if-has_unfinished.false ∙ c.has_unfinished.ensures.1 left) in
    let front : drop k named ≡ item ∷ drop (k + 1) named =
    drop-cons named k item c.loop-item-test.true
    ∙ ap (λ (x : ℕ). x ∷ drop (suc k) named) (sym c.item-item.is)
    ∙ (let e : suc k ≡ k + 1 = omega arith in ap (λ (j : ℕ). item ∷ drop j named) e) in
    let without = HasOneLeft-cons s item (drop (k + 1) named) none in (
      (λ h. c.loop-item.invariant.0 (subst (HasOneLeft s) (sym front) (without.0 h))),
      (λ h. without.1 (subst (HasOneLeft s) front (c.loop-item.invariant.1 h))),
    )

-- Flushes that were looked at: all of the items so far, and some of the next one.
use Rattle.std.proofs.Common.{◌≡◌, ℕ, ◌+◌, ◌<◌, ◌≤◌, ◌⊎◌, inl, inr, List, [], length, take, get_or, sym, ap, subst, ◌∙◌}
use Rattle.std.proofs.Common.{arith}
use Rattle.std.specs.Prelude.{Contains}
use Rattle.std.proofs.lemmas.Bool.{cases_lt}
use Rattle.wq_items.specs.declared.target.Target.{Target}
use Rattle.wq_core.specs.Wiring.{Wiring, declared_by}
use Rattle.wq_hang.proofs.Taken.{contains_more, contains_all}

-- the flush is one of an item below i, or one of these of item i
abbrev pub IsBefore : ℕ → List Target → ℕ → Target → Type 0
IsBefore i some j t = (j < i) ⊎ ((j ≡ i) × Contains some t)

pub before_first : (i j : ℕ) (t : Target) → IsBefore i [] j t → j < i
before_first i j t (inl before) = before
before_first i j t (inr here) = absurd (omega (arith, here.1.1))

-- one flush more
pub before_more : (i k : ℕ) (flushes : List Target) (x : Target) → k < length flushes → x ≡ get_or flushes k x → (j : ℕ)
    (t : Target) → IsBefore i (take (k + 1) flushes) j t → IsBefore i (take k flushes) j t ⊎ ((j ≡ i) × (t ≡ x))
before_more i k flushes x lt is j t (inl before) = inl (inl before)
before_more i k flushes x lt is j t (inr here) = elim (contains_more flushes k x t lt here.1) [
  | inl before ↦ inl (inr (here.0, before))
  | inr same ↦ inr (here.0, sym (is ∙ same))
]

-- all flushes of item i
pub before_all : (w : Wiring) (i k : ℕ) (flushes : List Target) → flushes ≡ declared_by w i → length flushes ≤ k
    → (j : ℕ) (t : Target) → Contains (declared_by w j) t → j < i + 1 → IsBefore i (take k flushes) j t
before_all w i k flushes are all j t there below = elim (cases_lt j i) [
  | inl before ↦ inl before
  | inr last ↦ (
      let same : j ≡ i = omega (arith, last, below) in
      inr (
        same,
        contains_all flushes k t all
            (subst (λ (l : List Target). Contains l t) (ap (declared_by w) same ∙ sym are) there),
      )
      )
]

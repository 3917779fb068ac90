-- What holds for a relation holds for another that it implies; ranks hold for one that says the same.
use Rattle.std.proofs.Common.{ℕ, ◌+◌, ◌↔◌, List, [], ◌∷◌}
use Rattle.wq_items.specs.Chain.{IsChain, last_of, HasCircle, BeginsChain, IsRank}

module _ (R S : ℕ → ℕ → Type 0) (implies : (v w : ℕ) → R v w → S v w) where
  pub IsChain-implied : (vs : List ℕ) → IsChain R vs → IsChain S vs
  IsChain-implied [] chain = tt
  IsChain-implied (v ∷ []) chain = tt
  IsChain-implied (v ∷ w ∷ vs) chain = (implies v w chain.0, IsChain-implied (w ∷ vs) chain.1)

  pub BeginsChain-implied : (v n : ℕ) → BeginsChain R v n → BeginsChain S v n
  BeginsChain-implied v n begins = (begins.0, IsChain-implied (v ∷ begins.0) begins.1, begins.2)

  pub HasCircle-implied : (n : ℕ) → HasCircle R n → HasCircle S n
  HasCircle-implied n circle =
      let c = circle.0 in
      (record { first = c.first; others = c.others; chain = IsChain-implied (c.first ∷ c.others) c.chain; closes = implies (last_of c.first c.others) c.first c.closes }, circle.1)

pub IsRank-same : (R S : ℕ → ℕ → Type 0) → ((v w : ℕ) → R v w ↔ S v w) → (v r : ℕ) → IsRank R v r → IsRank S v r
IsRank-same R S same v r rank = (
  BeginsChain-implied R S (λ x y. (same x y).0) v (r + 1) rank.0,
  λ longer. rank.1 (BeginsChain-implied S R (λ x y. (same x y).1) v (r + 2) longer),
)

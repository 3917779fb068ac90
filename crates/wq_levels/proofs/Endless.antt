-- Chains of any length, for any relation.
use Rattle.std.proofs.Common.{◌≡◌, ℕ, zero, suc, ◌+◌, ◌<◌, inl, inr, List, [], ◌∷◌, length, sym, subst, arith}
use Rattle.wq_items.specs.Chain.{IsChain, BeginsChain}
use Rattle.wq_items.proofs.Chains.{BeginsChain-one, BeginsChain-at, BeginsChain-more, BeginsChain-less}
use Rattle.wq_items.proofs.Circles.{each_below}
use Rattle.wq_items.proofs.Pigeonhole.{IsIn, HasAgain, has_again}

-- chains of every length begin at v
abbrev pub IsEndless : (ℕ → ℕ → Type 0) → ℕ → Type 0
IsEndless R v = (m : ℕ) → BeginsChain R v (m + 1)

module _ (R : ℕ → ℕ → Type 0) where
  -- a chain goes from v to x, and from there on as a chain from x
  reaches : (x m v : ℕ) (vs : List ℕ) → IsChain R (v ∷ vs) → IsIn x vs → BeginsChain R x (m + 1) → BeginsChain R v (m + 2)
  reaches x m v [] chain found begins = absurd found
  reaches x m v (w ∷ ws) chain (inl same) begins = BeginsChain-at R v (m + 1 + 1) (m + 2) (omega arith) (BeginsChain-more R v w (m + 1) chain.0 (subst (λ u. BeginsChain R u (m + 1)) (sym same) begins))
  reaches x m v (w ∷ ws) chain (inr later) begins = BeginsChain-less R v (m + 2) (m + 2 + 1) (omega arith) (omega arith) (BeginsChain-more R v w (m + 2) chain.0 (reaches x m w ws chain.1 later begins))

  endless_again : (x : ℕ) (xs : List ℕ) → IsChain R (x ∷ xs) → IsIn x xs → IsEndless R x
  endless_again x xs chain found zero = BeginsChain-at R x 1 (zero + 1) (omega arith) (BeginsChain-one R x)
  endless_again x xs chain found (suc m) = BeginsChain-at R x (m + 2) (suc m + 1) (omega arith) (reaches x m x xs chain found (endless_again x xs chain found m))

  -- what waits for an endless vertex is endless
  pub IsEndless-before : (v w : ℕ) → R v w → IsEndless R w → IsEndless R v
  IsEndless-before v w waits endless m = BeginsChain-less R v (m + 1) (m + 1 + 1) (omega arith) (omega arith) (BeginsChain-more R v w (m + 1) waits (endless m))

  -- if each vertex with P waits for one with P, these are endless
  pub IsEndless-held : (P : ℕ → Type 0) → ((v : ℕ) → P v → (w : ℕ) × R v w × P w) → (v : ℕ) → P v → IsEndless R v
  IsEndless-held P next v held zero = BeginsChain-at R v 1 (zero + 1) (omega arith) (BeginsChain-one R v)
  IsEndless-held P next v held (suc m) =
      let on = next v held in
      BeginsChain-at R v (m + 1 + 1) (suc m + 1) (omega arith) (BeginsChain-more R v on.0 (m + 1) on.1 (IsEndless-held P next on.0 on.2 m))

  -- a chain with a vertex twice: its first vertex is endless
  endless_first : (x : ℕ) (xs : List ℕ) → IsChain R (x ∷ xs) → HasAgain (x ∷ xs) → IsEndless R x
  endless_first x xs chain (inl found) = endless_again x xs chain found
  endless_first x [] chain (inr later) = absurd later
  endless_first x (y ∷ ys) chain (inr later) = IsEndless-before x y chain.0 (endless_first y ys chain.1 later)

  -- and its second
  endless_second : (v w : ℕ) (ws : List ℕ) → IsChain R (v ∷ w ∷ ws) → HasAgain (v ∷ w ∷ ws) → IsEndless R w
  endless_second v w ws chain (inr later) = endless_first w ws chain.1 later
  endless_second v w ws chain (inl (inl same)) = subst (λ u. IsEndless R u) (sym same) (endless_again v (w ∷ ws) chain (inl same))
  endless_second v w ws chain (inl (inr later)) =
      λ m. BeginsChain-less R w (m + 1) (m + 2) (omega arith) (omega arith) (reaches v m w ws chain.1 later (endless_again v (w ∷ ws) chain (inr later) m))

  next_endless : (n v : ℕ) (others : List ℕ) → ((a b : ℕ) → R a b → b < n) → v < n → IsChain R (v ∷ others) → length (v ∷ others) ≡ n + 1 → (w : ℕ) × R v w × IsEndless R w
  next_endless n v [] targets below chain size = absurd (omega arith)
  next_endless n v (w ∷ ws) targets below chain size =
      (w, chain.0, endless_second v w ws chain (has_again n (v ∷ w ∷ ws) (each_below R n v (w ∷ ws) targets below chain) (omega arith)))

  -- if a chain of n + 1 vertices begins at a vertex below n, this vertex waits for an endless one, provided that all that is
  -- waited for is below n
  pub IsEndless-next : (n v : ℕ) → ((a b : ℕ) → R a b → b < n) → v < n → BeginsChain R v (n + 1) → (w : ℕ) × R v w × IsEndless R w
  IsEndless-next n v targets below begins = next_endless n v begins.0 targets below begins.1 begins.2

-- Laws of chains for any relation.
use Rattle.std.proofs.Common.{◌≡◌, ℕ, zero, suc, ◌+◌, ◌-◌, ◌<◌, ◌≤◌, inl, inr, List, [], ◌∷◌, length, refl, arith}
use Rattle.std.proofs.lemmas.Bool.{cases_lt}
use Rattle.wq_items.specs.Chain.{IsChain, BeginsChain, IsRank}

module _ (R : ℕ → ℕ → Type 0) where
  pub IsChain-tail : (v : ℕ) (vs : List ℕ) → IsChain R (v ∷ vs) → IsChain R vs
  IsChain-tail v [] chain = tt
  IsChain-tail v (w ∷ ws) chain = chain.1

  -- a single vertex is a chain
  pub BeginsChain-one : (v : ℕ) → BeginsChain R v 1
  BeginsChain-one v = ([], tt, refl)

  pub BeginsChain-at : (v m n : ℕ) → m ≡ n → BeginsChain R v m → BeginsChain R v n
  BeginsChain-at v m n same begins = (begins.0, begins.1, omega (arith, begins.2))

  -- one more vertex at the beginning
  pub BeginsChain-more : (v w n : ℕ) → R v w → BeginsChain R w n → BeginsChain R v (n + 1)
  BeginsChain-more v w n waits begins = (w ∷ begins.0, (waits, begins.1), omega (arith, begins.2))

  -- a prefix of a chain
  front : (v m : ℕ) (others : List ℕ) → IsChain R (v ∷ others) → m ≤ length others → BeginsChain R v (m + 1)
  front v zero others chain le = ([], tt, omega arith)
  front v (suc m) [] chain le = absurd (omega arith)
  front v (suc m) (w ∷ ws) chain le = BeginsChain-at v (m + 1 + 1) (suc m + 1) (omega arith) (BeginsChain-more v w (m + 1) chain.0 (front w m ws chain.1 (omega arith)))

  pub BeginsChain-less : (v m n : ℕ) → 0 < m → m ≤ n → BeginsChain R v n → BeginsChain R v m
  BeginsChain-less v m n some le begins = BeginsChain-at v (m - 1 + 1) m (omega arith) (front v (m - 1) begins.0 begins.1 (omega (arith, begins.2)))

  next : (v n : ℕ) (others : List ℕ) → IsChain R (v ∷ others) → length (v ∷ others) ≡ n + 2 → (w : ℕ) × R v w × BeginsChain R w (n + 1)
  next v n [] chain size = absurd (omega arith)
  next v n (w ∷ ws) chain size = (w, chain.0, (ws, chain.1, omega arith))

  -- a chain of two or more goes on from what its first vertex waits for
  pub BeginsChain-next : (v n : ℕ) → BeginsChain R v (n + 2) → (w : ℕ) × R v w × BeginsChain R w (n + 1)
  BeginsChain-next v n begins = next v n begins.0 begins.1 begins.2

  -- no chain is longer than the rank says
  pub IsRank-most : (v r n : ℕ) → IsRank R v r → BeginsChain R v (n + 1) → n ≤ r
  IsRank-most v r n rank begins = elim (cases_lt r n) [
    | inl longer ↦ absurd (rank.1 (BeginsChain-less v (r + 2) (n + 1) (omega arith) (omega arith) begins))
    | inr most ↦ most
  ]

  pub IsRank-greatest : (v r n : ℕ) → IsRank R v r → BeginsChain R v n → n ≤ r + 1
  IsRank-greatest v r n rank begins = elim (cases_lt (r + 1) n) [
    | inl longer ↦ absurd (rank.1 (BeginsChain-less v (r + 2) n (omega arith) (omega arith) begins))
    | inr most ↦ most
  ]

  pub IsRank-unique : (v r s : ℕ) → IsRank R v r → IsRank R v s → r ≡ s
  IsRank-unique v r s one other = let up : r ≤ s = IsRank-most v s r other one.0 in let down : s ≤ r = IsRank-most v r s one other.0 in omega arith

  -- what waits for a vertex has a greater rank
  pub IsRank-falls : (v w r s : ℕ) → R v w → IsRank R v r → IsRank R w s → s < r
  IsRank-falls v w r s waits one other = let most : s + 1 ≤ r = IsRank-most v r (s + 1) one (BeginsChain-more v w (s + 1) waits other.0) in omega arith

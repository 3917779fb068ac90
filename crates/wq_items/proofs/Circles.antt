-- Laws of circles for any relation.
use Rattle.std.proofs.Common.{ℕ, zero, suc, ◌+◌, ◌<◌, inl, inr, List, [], ◌∷◌, length, get_or, subst, arith}
use Rattle.std.specs.List.{All, AllByRecursion}
use Rattle.std.proofs.lemmas.List.Elements.{recursion_from_All, All-from_recursion, All-head}
use Rattle.wq_items.specs.Chain.{IsChain, last_of, Circle, HasCircle, BeginsChain, IsRank}
use Rattle.wq_items.proofs.Chains.{IsChain-tail, BeginsChain-one, BeginsChain-at, BeginsChain-more, BeginsChain-less}
use Rattle.wq_items.proofs.Pigeonhole.{IsIn, HasAgain, has_again}

module _ (R : ℕ → ℕ → Type 0) where
  -- a chain whose last vertex waits for x goes on as a chain from x
  around : (x n v : ℕ) (vs : List ℕ) → IsChain R (v ∷ vs) → R (last_of v vs) x → BeginsChain R x n → BeginsChain R v (n + suc (length vs))
  around x n v [] chain closes begins = BeginsChain-at R v (n + 1) (n + suc 0) (omega arith) (BeginsChain-more R v x n closes begins)
  around x n v (w ∷ ws) chain closes begins =
      BeginsChain-at R v (n + suc (length ws) + 1) (n + suc (suc (length ws))) (omega arith) (BeginsChain-more R v w (n + suc (length ws)) chain.0 (around x n w ws chain.1 closes begins))

  -- around a circle the chains get as long as one likes
  Circle-first : (c : Circle R) (n : ℕ) → BeginsChain R c.first (n + 1)
  Circle-first c zero = BeginsChain-at R c.first 1 (0 + 1) (omega arith) (BeginsChain-one R c.first)
  Circle-first c (suc n) =
      BeginsChain-less R c.first (suc n + 1) (n + 1 + suc (length c.others)) (omega arith) (omega arith) (around c.first (n + 1) c.first c.others c.chain c.closes (Circle-first c n))

  each_begins : (x v : ℕ) (vs : List ℕ) → ((n : ℕ) → BeginsChain R x (n + 1)) → IsChain R (v ∷ vs) → R (last_of v vs) x → AllByRecursion (λ w. (n : ℕ) → BeginsChain R w (n + 1)) (v ∷ vs)
  each_begins x v [] begins chain closes =
      ((λ n. BeginsChain-less R v (n + 1) (n + 1 + suc 0) (omega arith) (omega arith) (around x (n + 1) v [] chain closes (begins n))), tt)
  each_begins x v (w ∷ ws) begins chain closes =
      ((λ n. BeginsChain-less R v (n + 1) (n + 1 + suc (suc (length ws))) (omega arith) (omega arith) (around x (n + 1) v (w ∷ ws) chain closes (begins n))), each_begins x w ws begins chain.1 closes)

  -- chains of every length begin at each vertex of a circle
  pub Circle-begins : (c : Circle R) → All (λ v. (n : ℕ) → BeginsChain R v (n + 1)) (c.first ∷ c.others)
  Circle-begins c = All-from_recursion (λ v. (n : ℕ) → BeginsChain R v (n + 1)) (c.first ∷ c.others) (each_begins c.first c.first c.others (Circle-first c) c.chain c.closes)

  -- so none of them has a rank
  pub Circle-no_rank : (c : Circle R) → All (λ v. (r : ℕ) → ¬ IsRank R v r) (c.first ∷ c.others)
  Circle-no_rank c k d fits r rank = rank.1 (BeginsChain-at R (get_or (c.first ∷ c.others) k d) (r + 1 + 1) (r + 2) (omega arith) (Circle-begins c k d fits (r + 1)))

  -- if each vertex below n has a rank, there is no circle of them
  pub no_circle_from_ranks : (n : ℕ) → ((v : ℕ) → v < n → (r : ℕ) × IsRank R v r) → ¬ HasCircle R n
  no_circle_from_ranks n ranks circle =
      let c = circle.0 in
      let rank = ranks c.first (All-head (λ v. v < n) c.first c.others circle.1) in
      rank.1.1 (BeginsChain-at R c.first (rank.0 + 1 + 1) (rank.0 + 2) (omega arith) (Circle-first c (rank.0 + 1)))

  -- the way from v to where x is next, with what holds for each vertex on it
  way_to : (P : ℕ → Type 0) (x v : ℕ) (vs : List ℕ) → IsChain R (v ∷ vs) → AllByRecursion P vs → IsIn x vs → (way : List ℕ) × IsChain R (v ∷ way) × R (last_of v way) x × AllByRecursion P way
  way_to P x v [] chain each found = absurd found
  way_to P x v (w ∷ ws) chain each (inl same) = ([], tt, subst (λ u. R v u) same chain.0, tt)
  way_to P x v (w ∷ ws) chain each (inr later) = let rest = way_to P x w ws chain.1 each.1 later in (w ∷ rest.0, (chain.0, rest.1), rest.2, (each.0, rest.3))

  circle_from_again : (n : ℕ) (xs : List ℕ) → IsChain R xs → AllByRecursion (λ v. v < n) xs → HasAgain xs → HasCircle R n
  circle_from_again n [] chain below again = absurd again
  circle_from_again n (x ∷ xs) chain below (inl found) =
      let way = way_to (λ v. v < n) x x xs chain below.1 found in
      (record { first = x; others = way.0; chain = way.1; closes = way.2 }, All-from_recursion (λ v. v < n) (x ∷ way.0) (below.0, way.3))
  circle_from_again n (x ∷ xs) chain below (inr later) = circle_from_again n xs (IsChain-tail R x xs chain) below.1 later

  -- a chain longer than the number of vertices that it can have runs in a circle
  pub circle_from_length : (n : ℕ) (xs : List ℕ) → IsChain R xs → All (λ v. v < n) xs → n < length xs → HasCircle R n
  circle_from_length n xs chain below long = let each = recursion_from_All (λ v. v < n) xs below in circle_from_again n xs chain each (has_again n xs each long)

  -- vertices that are waited for are below n
  pub each_below : (n v : ℕ) (vs : List ℕ) → ((a b : ℕ) → R a b → b < n) → v < n → IsChain R (v ∷ vs) → AllByRecursion (λ w. w < n) (v ∷ vs)
  each_below n v [] targets below chain = (below, tt)
  each_below n v (w ∷ ws) targets below chain = (below, each_below n w ws targets (targets v w chain.0) chain.1)

  -- a chain of n + 1 vertices from one below n, if all that is waited for is below n
  pub circle_from_BeginsChain : (n v : ℕ) → ((a b : ℕ) → R a b → b < n) → v < n → BeginsChain R v (n + 1) → HasCircle R n
  circle_from_BeginsChain n v targets below begins =
      let each = each_below n v begins.0 targets below begins.1 in
      circle_from_again n (v ∷ begins.0) begins.1 each (has_again n (v ∷ begins.0) each (omega (arith, begins.2)))

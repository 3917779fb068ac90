-- Each graph has ranks or a circle of the walk: how long the chains from a vertex are can be tried out, along its arcs.
use Rattle.std.proofs.Common.{◌≡◌, ℕ, zero, suc, ◌+◌, ◌<◌, ◌≤◌, ◌⊎◌, inl, inr, List, [], ◌∷◌, ◌++◌, length, get_or, slice_index, Contains, refl, sym, subst, arith}
use Rattle.std.specs.List.{All, Any}
use Rattle.std.proofs.lemmas.Bool.{cases_lt}
use Rattle.std.proofs.lemmas.List.{length_push, get_or_append_left, get_or_at}
use Rattle.std.proofs.lemmas.List.Elements.{All-head, All-contains, Contains-get_or}
use Rattle.wq_items.specs.Chain.{BeginsChain, IsRank, HasCircle}
use Rattle.wq_items.proofs.Chains.{BeginsChain-one, BeginsChain-at, BeginsChain-more, BeginsChain-next}
use Rattle.wq_items.proofs.Circles.{circle_from_BeginsChain, Circle-begins}
use Rattle.wq_graph.specs.declared.arc.WaitArc.{WaitArc}
use Rattle.wq_graph.specs.Graph.{IsGraph, HasArc, arcs_at}
use Rattle.wq_levels.specs.Ranks.{AreRanks}
use Rattle.wq_levels.specs.Walks.{Remains, IsWayOn, vertices_walked, IsWalkedCircle}
use Rattle.wq_levels.proofs.Graphs.{HasArc-below}
use Rattle.wq_levels.proofs.Endless.{IsEndless-held}
use Rattle.wq_levels.proofs.First.{Decided, Tells-told, told, IsFirst-find, least_from}
use Rattle.wq_levels.proofs.WaysOn.{IsWayOn-first, Remains-next}
use Rattle.wq_levels.proofs.Walks.{length-vertices_walked}
use Rattle.wq_levels.proofs.UnderWay.{cases_new, IsUnderWay, IsUnderWay-start, IsUnderWay-remains, IsUnderWay-more, IsUnderWay-few, IsWalkedCircle-drop}

-- whether P holds for some element, if it is decided for each
Any-decided : {X : Type 0} (P : X → Type 0) → ((x : X) → Decided (P x)) → (xs : List X) → Decided (Any P xs)
Any-decided {X = X} P each [] = inr (λ found. absurd (omega (arith, found.2)))
Any-decided {X = X} P each (x ∷ xs) = elim (each x) [
  | inl here ↦ inl (0, x, omega arith, refl, here)
  | inr none ↦ elim (Any-decided P each xs) [
    | inl found ↦ inl (suc found.0, found.1, omega (arith, found.2), found.3, found.4)
    | inr no_later ↦ inr (λ found. no_place found.0 found.1 found.2 found.3 found.4 none no_later)
  ]
]
  where
    no_place : (k : ℕ) (y : X) → k < length (x ∷ xs) → get_or (x ∷ xs) k y ≡ y → P y → ¬ P x → ¬ Any P xs → ⊥
    no_place zero y fits at holds none no_later = none (subst P (sym at) holds)
    no_place (suc k) y fits at holds none no_later = no_later (k, y, omega arith, at, holds)

module _ (graph : List (List WaitArc)) where
  -- a longer chain begins at a vertex if a chain begins at the head of one of its arcs
  longer_from_arc : (v n : ℕ) → Any (λ (a : WaitArc). BeginsChain (HasArc graph) a.head (n + 1)) (arcs_at graph v) → BeginsChain (HasArc graph) v (n + 2)
  longer_from_arc v n found =
      BeginsChain-at (HasArc graph) v (n + 1 + 1) (n + 2) (omega arith)
      (BeginsChain-more (HasArc graph) v found.1.head (n + 1) (found.0, found.1, found.2, found.3, refl) found.4)

  arc_from_longer : (v n : ℕ) → BeginsChain (HasArc graph) v (n + 2) → Any (λ (a : WaitArc). BeginsChain (HasArc graph) a.head (n + 1)) (arcs_at graph v)
  arc_from_longer v n begins =
      let next = BeginsChain-next (HasArc graph) v n begins in
      let on = next.1 in
      (on.0, on.1, on.2, on.3, subst (λ w. BeginsChain (HasArc graph) w (n + 1)) (sym on.4) next.2)

  -- whether a chain of n + 1 vertices begins at v
  BeginsChain-decided : (n v : ℕ) → Decided (BeginsChain (HasArc graph) v (n + 1))
  BeginsChain-decided zero v = inl (BeginsChain-at (HasArc graph) v 1 (zero + 1) (omega arith) (BeginsChain-one (HasArc graph) v))
  BeginsChain-decided (suc n) v = elim (Any-decided (λ (a : WaitArc). BeginsChain (HasArc graph) a.head (n + 1)) (λ a. BeginsChain-decided n a.head) (arcs_at graph v)) [
    | inl found ↦ inl (BeginsChain-at (HasArc graph) v (n + 2) (suc n + 1) (omega arith) (longer_from_arc v n found))
    | inr none ↦ inr (λ begins. none (arc_from_longer v n (BeginsChain-at (HasArc graph) v (suc n + 1) (n + 2) (omega arith) begins)))
  ]

  Remains-decided : (v : ℕ) → Decided (Remains graph v)
  Remains-decided v = elim (cases_lt v (length graph)) [
    | inl vertex ↦ elim (BeginsChain-decided (length graph) v) [
      | inl begins ↦ inl (vertex, begins)
      | inr none ↦ inr (λ remains. none remains.1)
    ]
    | inr past ↦ inr (λ remains. absurd (omega (arith, remains.0)))
  ]

  -- v has a rank below n, or a chain of n + 1 vertices begins at it
  rank_or_chain : (n v : ℕ) → ((r : ℕ) × IsRank (HasArc graph) v r) ⊎ BeginsChain (HasArc graph) v (n + 1)
  rank_or_chain zero v = inr (BeginsChain-at (HasArc graph) v 1 (zero + 1) (omega arith) (BeginsChain-one (HasArc graph) v))
  rank_or_chain (suc n) v = elim (rank_or_chain n v) [
    | inl rank ↦ inl rank
    | inr begins ↦ elim (BeginsChain-decided (suc n) v) [
      | inl longer ↦ inr longer
      | inr none ↦ inl (n, (begins, λ longer. none (BeginsChain-at (HasArc graph) v (n + 2) (suc n + 1) (omega arith) longer)))
    ]
  ]

  -- the first vertices have ranks
  record HaveRanks (n : ℕ) : Type 0 where
    ranks : List ℕ
    one_each : length ranks ≡ n
    longest : (v : ℕ) → v < n → IsRank (HasArc graph) v (slice_index ranks v)

  one_more : (n r : ℕ) → HaveRanks n → IsRank (HasArc graph) n r → HaveRanks (suc n)
  one_more n r so_far rank = record {
    ranks = so_far.ranks ++ (r ∷ []);
    one_each = omega (arith, length_push so_far.ranks r, so_far.one_each);
    longest = λ v vertex. elim (cases_lt v n) [
      | inl earlier ↦ rw (get_or_append_left so_far.ranks (r ∷ []) 0 v (omega (arith, so_far.one_each))) (so_far.longest v earlier)
      | inr last ↦ let same : n ≡ v = omega arith in subst (λ w. IsRank (HasArc graph) w (slice_index (so_far.ranks ++ (r ∷ [])) w)) same (rw (get_or_at so_far.ranks r [] 0 n so_far.one_each) rank)
    ];
  }

  module _ (sound : IsGraph graph) where
    ranks_or_circle : (n : ℕ) → n ≤ length graph → HaveRanks n ⊎ HasCircle (HasArc graph) (length graph)
    ranks_or_circle zero le = inl (record { ranks = []; one_each = refl; longest = λ v vertex. absurd (omega arith) })
    ranks_or_circle (suc n) le = elim (ranks_or_circle n (omega arith)) [
      | inl so_far ↦ elim (rank_or_chain (length graph) n) [
        | inl rank ↦ inl (one_more n rank.0 so_far rank.1)
        | inr long ↦ inr (circle_from_BeginsChain (HasArc graph) (length graph) n (HasArc-below graph sound) (omega arith) long)
      ]
      | inr circle ↦ inr circle
    ]

    pub AreRanks-or_circle : ((ranks : List ℕ) × AreRanks graph ranks) ⊎ HasCircle (HasArc graph) (length graph)
    AreRanks-or_circle = elim (ranks_or_circle (length graph) (omega arith)) [
      | inl have ↦ inl (have.ranks, record { one_each = have.one_each; longest = have.longest })
      | inr circle ↦ inr circle
    ]

    -- ---- the walk, where a vertex remains

    way_on : (v : ℕ) → Remains graph v → (a : WaitArc) × IsWayOn graph v a
    way_on v remains =
        let P : WaitArc → Type 0 = λ (a : WaitArc). Remains graph a.head in
        let found = IsFirst-find P (λ (a : WaitArc). told (Remains-decided a.head)) (Tells-told P (λ a. Remains-decided a.head)) (arcs_at graph v) (Remains-next graph sound v remains) in
        (found.0, IsWayOn-first graph sound v found.0 found.2)

    -- `more` further arcs are enough to come back
    comes_back : (start more : ℕ) (walked : List WaitArc) (at : ℕ) → length graph < length walked + more → IsUnderWay graph start walked at → (circle : List WaitArc) × IsWalkedCircle graph circle
    comes_back start zero walked at room so_far = absurd (omega (arith, IsUnderWay-few graph start walked at so_far))
    comes_back start (suc more) walked at room so_far = elim (cases_new (vertices_walked start walked) at) [
      | inl found ↦ (_, IsWalkedCircle-drop graph start walked at so_far found.0 (omega (arith, found.1, length-vertices_walked start walked)) found.2)
      | inr new ↦
          let way = way_on at (IsUnderWay-remains graph start walked at so_far) in
          comes_back start more (walked ++ way.0 ∷ []) way.0.head (omega (arith, length_push walked way.0)) (IsUnderWay-more graph start walked at so_far way.0 new way.1)
    ]

    pub IsWalkedCircle-from_remains : (v : ℕ) → Remains graph v → (circle : List WaitArc) × IsWalkedCircle graph circle
    IsWalkedCircle-from_remains v remains =
        let least = least_from (λ (w : ℕ). Remains graph w) Remains-decided v remains in
        comes_back least.0 (suc (length graph)) [] least.0 (omega arith) (IsUnderWay-start graph least.0 (record { remains = least.1; least = least.2 }))

    pub IsWalkedCircle-from_circle : HasCircle (HasArc graph) (length graph) → (circle : List WaitArc) × IsWalkedCircle graph circle
    IsWalkedCircle-from_circle has =
        let c = has.0 in
        IsWalkedCircle-from_remains c.first
        (All-head (λ v. v < length graph) c.first c.others has.1, All-head (λ v. (n : ℕ) → BeginsChain (HasArc graph) v (n + 1)) c.first c.others (Circle-begins (HasArc graph) c) (length graph))

    pub AreRanks-or_walk : ((ranks : List ℕ) × AreRanks graph ranks) ⊎ ((circle : List WaitArc) × IsWalkedCircle graph circle)
    AreRanks-or_walk = elim AreRanks-or_circle [
      | inl ranks ↦ inl ranks
      | inr circle ↦ inr (IsWalkedCircle-from_circle circle)
    ]

  -- ---- what remains

  -- vertices that each have an arc to one of them remain
  pub Remains-held : (kept : List ℕ) → All (λ v. (v < length graph) × Any (λ (a : WaitArc). Contains kept a.head) (arcs_at graph v)) kept → All (Remains graph) kept
  Remains-held kept held k d fits =
      ((held k d fits).0, IsEndless-held (HasArc graph) (Contains kept) next (get_or kept k d) (Contains-get_or kept k d fits) (length graph))
    where
      next : (v : ℕ) → Contains kept v → (w : ℕ) × HasArc graph v w × Contains kept w
      next v kept_v =
          let arc = (All-contains (λ (u : ℕ). (u < length graph) × Any (λ (a : WaitArc). Contains kept a.head) (arcs_at graph u)) kept v held kept_v).1 in
          (arc.1.head, (arc.0, arc.1, arc.2, arc.3, refl), arc.4)

-- Laws of walks.
use Rattle.std.proofs.Common.{◌≡◌, ◌≢◌, ℕ, zero, suc, ◌+◌, ◌-◌, ◌<◌, List, [], ◌∷◌, ◌++◌, length, get_or, take, drop, AllPairs, refl, sym, ◌∙◌, subst, ap, arith}
use Rattle.std.specs.List.{All, AllByRecursion}
use Rattle.std.proofs.lemmas.List.{length-append, get_or-append-add}
use Rattle.std.proofs.lemmas.List.Elements.{All-from_recursion}
use Rattle.wq_graph.specs.declared.arc.WaitArc.{WaitArc}
use Rattle.wq_graph.specs.Graph.{IsGraph}
use Rattle.wq_levels.specs.Walks.{Remains, IsWayOn, IsWalk, vertices_walked, IsWalkedCircle, LeadsRound}
use Rattle.wq_levels.proofs.WaysOn.{IsWayOn-unique}

pub length-vertices_walked : (v : ℕ) (arcs : List WaitArc) → length (vertices_walked v arcs) ≡ length arcs
length-vertices_walked v [] = refl
length-vertices_walked v (a ∷ arcs) = ap (λ (n : ℕ). suc n) (length-vertices_walked a.head arcs)

-- what holds for the end of a list of different numbers
AllPairs-append_right : (R : ℕ → ℕ → Type 0) (xs ys : List ℕ) → AllPairs R (xs ++ ys) → AllPairs R ys
AllPairs-append_right R xs ys pairs i j d lt fits =
    subst (λ (x : ℕ). R x (get_or ys j d)) (get_or-append-add xs ys i d)
    (subst (λ (y : ℕ). R (get_or (xs ++ ys) (length xs + i) d) y) (get_or-append-add xs ys j d)
    (pairs (length xs + i) (length xs + j) d (omega arith) (omega (arith, length-append xs ys))))

module _ (graph : List (List WaitArc)) where
  pub IsWalk-append : (v u w : ℕ) (xs ys : List WaitArc) → IsWalk graph v xs u → IsWalk graph u ys w → IsWalk graph v (xs ++ ys) w
  IsWalk-append v u w [] ys walk on = subst (λ x. IsWalk graph x ys w) (sym walk) on
  IsWalk-append v u w (a ∷ xs) ys walk on = (walk.0, IsWalk-append a.head u w xs ys walk.1 on)

  pub vertices_walked-append : (v u : ℕ) (xs ys : List WaitArc) → IsWalk graph v xs u → vertices_walked v (xs ++ ys) ≡ vertices_walked v xs ++ vertices_walked u ys
  vertices_walked-append v u [] ys walk = ap (λ (x : ℕ). vertices_walked x ys) walk
  vertices_walked-append v u (a ∷ xs) ys walk = ap (λ (l : List ℕ). v ∷ l) (vertices_walked-append a.head u xs ys walk.1)

  -- a walk in two parts, the second of which begins with the arc at k
  pub IsWalk-take : (v w : ℕ) (xs : List WaitArc) (k : ℕ) → IsWalk graph v xs w → k < length xs → IsWalk graph v (take k xs) (get_or (vertices_walked v xs) k 0)
  IsWalk-take v w [] k walk fits = absurd (omega arith)
  IsWalk-take v w (a ∷ xs) zero walk fits = refl
  IsWalk-take v w (a ∷ xs) (suc k) walk fits = (walk.0, IsWalk-take a.head w xs k walk.1 (omega arith))

  pub IsWalk-drop : (v w : ℕ) (xs : List WaitArc) (k : ℕ) → IsWalk graph v xs w → k < length xs → IsWalk graph (get_or (vertices_walked v xs) k 0) (drop k xs) w
  IsWalk-drop v w [] k walk fits = absurd (omega arith)
  IsWalk-drop v w (a ∷ xs) zero walk fits = walk
  IsWalk-drop v w (a ∷ xs) (suc k) walk fits = IsWalk-drop a.head w xs k walk.1 (omega arith)

  -- if it begins at a vertex that remains, a walk leads to such a vertex and leaves only such vertices
  pub IsWalk-remains : (v w : ℕ) (xs : List WaitArc) → Remains graph v → IsWalk graph v xs w → Remains graph w
  IsWalk-remains v w [] remains walk = subst (λ x. Remains graph x) walk remains
  IsWalk-remains v w (a ∷ xs) remains walk = let way : IsWayOn graph v a = walk.0 in IsWalk-remains a.head w xs way.remains walk.1

  left_below : (v w : ℕ) (xs : List WaitArc) → Remains graph v → IsWalk graph v xs w → AllByRecursion (λ x. x < length graph) (vertices_walked v xs)
  left_below v w [] remains walk = tt
  left_below v w (a ∷ xs) remains walk = let way : IsWayOn graph v a = walk.0 in (remains.0, left_below a.head w xs way.remains walk.1)

  pub vertices_walked-below : (v w : ℕ) (xs : List WaitArc) → Remains graph v → IsWalk graph v xs w → All (λ x. x < length graph) (vertices_walked v xs)
  vertices_walked-below v w xs remains walk = All-from_recursion (λ x. x < length graph) (vertices_walked v xs) (left_below v w xs remains walk)

  -- ---- arc by arc

  pub IsWalk-leaves : (v w : ℕ) (xs : List WaitArc) (k : ℕ) (d : WaitArc) → IsWalk graph v xs w → k < length xs → IsWayOn graph (get_or (vertices_walked v xs) k 0) (get_or xs k d)
  IsWalk-leaves v w [] k d walk fits = absurd (omega arith)
  IsWalk-leaves v w (a ∷ xs) zero d walk fits = walk.0
  IsWalk-leaves v w (a ∷ xs) (suc k) d walk fits = IsWalk-leaves a.head w xs k d walk.1 (omega arith)

  joined_next : (v w : ℕ) (xs : List WaitArc) (k : ℕ) (d : WaitArc) → IsWalk graph v xs w → suc k < length xs → (get_or xs k d).head ≡ get_or (vertices_walked v xs) (suc k) 0
  joined_next v w [] k d walk fits = absurd (omega arith)
  joined_next v w (a ∷ []) k d walk fits = absurd (omega arith)
  joined_next v w (a ∷ b ∷ xs) zero d walk fits = refl
  joined_next v w (a ∷ b ∷ xs) (suc k) d walk fits = joined_next a.head w (b ∷ xs) k d walk.1 (omega arith)

  last_head : (v w : ℕ) (a : WaitArc) (xs : List WaitArc) (d : WaitArc) → IsWalk graph v (a ∷ xs) w → (get_or (a ∷ xs) (length xs) d).head ≡ w
  last_head v w a [] d walk = walk.1
  last_head v w a (b ∷ xs) d walk = last_head a.head w b xs d walk.1

  pub IsWalk-joined : (v w : ℕ) (xs : List WaitArc) (k : ℕ) (d : WaitArc) → IsWalk graph v xs w → k + 1 < length xs → (get_or xs k d).head ≡ get_or (vertices_walked v xs) (k + 1) 0
  IsWalk-joined v w xs k d walk fits = joined_next v w xs k d walk (omega arith) ∙ ap (λ (j : ℕ). get_or (vertices_walked v xs) j 0) (omega arith)

  pub IsWalk-closes : (v w : ℕ) (xs : List WaitArc) (d : WaitArc) → IsWalk graph v xs w → xs ≢ [] → (get_or xs (length xs - 1) d).head ≡ w
  IsWalk-closes v w [] d walk some = absurd (some refl)
  IsWalk-closes v w (a ∷ xs) d walk some =
      let end : length (a ∷ xs) - 1 ≡ length xs = omega arith in
      ap (λ (k : ℕ). (get_or (a ∷ xs) k d).head) end ∙ last_head v w a xs d walk

  starts_at : (v : ℕ) (xs : List WaitArc) → xs ≢ [] → get_or (vertices_walked v xs) 0 0 ≡ v
  starts_at v [] some = absurd (some refl)
  starts_at v (a ∷ xs) some = refl

  -- the vertex at which a circle begins is the one that is left after the walk to it
  pub IsWalk-entry : (v u : ℕ) (xs ys : List WaitArc) → IsWalk graph v xs u → ys ≢ [] → get_or (vertices_walked v (xs ++ ys)) (length xs) 0 ≡ u
  IsWalk-entry v u [] ys walk some = starts_at v ys some ∙ walk
  IsWalk-entry v u (a ∷ xs) ys walk some = IsWalk-entry a.head u xs ys walk.1 some

  -- the same arcs lead to the same vertex
  pub IsWalk-leads : (v w u : ℕ) (xs ys : List WaitArc) → IsWalk graph v xs w → IsWalk graph v ys u → xs ≡ ys → w ≡ u
  IsWalk-leads v w u xs ys one other same = leads_to v w u ys (subst (λ (l : List WaitArc). IsWalk graph v l w) same one) other
    where
      leads_to : (x y z : ℕ) (arcs : List WaitArc) → IsWalk graph x arcs y → IsWalk graph x arcs z → y ≡ z
      leads_to x y z [] first second = sym first ∙ second
      leads_to x y z (a ∷ arcs) first second = leads_to a.head y z arcs first.1 second.1

  pub LeadsRound-walked : (circle : List WaitArc) → IsWalkedCircle graph circle → LeadsRound graph circle
  LeadsRound-walked circle walked =
      let entry = walked.entry in
      let parts = vertices_walked-append walked.start entry walked.lead_in circle walked.leads_in in
      record {
        some = walked.some;
        left = vertices_walked entry circle;
        one_each = length-vertices_walked entry circle;
        leaves = λ k d fits. (IsWalk-leaves entry entry circle k d walked.comes_back fits).leaves;
        joined = λ k d fits. IsWalk-joined entry entry circle k d walked.comes_back fits;
        closes = λ d. IsWalk-closes entry entry circle d walked.comes_back walked.some ∙ sym (starts_at entry circle walked.some);
        once = AllPairs-append_right (λ (v w : ℕ). v ≢ w) (vertices_walked walked.start walked.lead_in) (vertices_walked entry circle)
            (subst (λ (l : List ℕ). AllPairs (λ (v w : ℕ). v ≢ w) l) parts walked.once);
      }

  -- ---- from one vertex there is one walk of each length

  module _ (sound : IsGraph graph) where
    pub IsWalk-same : (v w u : ℕ) (xs ys : List WaitArc) → IsWalk graph v xs w → IsWalk graph v ys u → length xs ≡ length ys → xs ≡ ys
    IsWalk-same v w u [] [] one other size = refl
    IsWalk-same v w u [] (b ∷ ys) one other size = absurd (omega arith)
    IsWalk-same v w u (a ∷ xs) [] one other size = absurd (omega arith)
    IsWalk-same v w u (a ∷ xs) (b ∷ ys) one other size =
        let first : a ≡ b = IsWayOn-unique graph sound v a b one.0 other.0 in
        let rest : xs ≡ ys = IsWalk-same b.head w u xs ys (subst (λ (x : WaitArc). IsWalk graph x.head xs w) first one.1) other.1 (omega arith) in
        ap (λ (x : WaitArc). x ∷ xs) first ∙ ap (λ (l : List WaitArc). b ∷ l) rest

    -- a shorter walk leads to where a longer one passes
    pub IsWalk-end : (v w u : ℕ) (xs ys : List WaitArc) → IsWalk graph v xs w → IsWalk graph v ys u → length xs < length ys → w ≡ get_or (vertices_walked v ys) (length xs) 0
    IsWalk-end v w u xs [] one other size = absurd (omega arith)
    IsWalk-end v w u [] (b ∷ ys) one other size = sym one
    IsWalk-end v w u (a ∷ xs) (b ∷ ys) one other size =
        let first : a ≡ b = IsWayOn-unique graph sound v a b one.0 other.0 in
        IsWalk-end b.head w u xs ys (subst (λ (x : WaitArc). IsWalk graph x.head xs w) first one.1) other.1 (omega arith)

    -- both leave the same vertices as far as the shorter one goes
    pub IsWalk-passes : (v w u : ℕ) (xs ys : List WaitArc) (k : ℕ) → IsWalk graph v xs w → IsWalk graph v ys u → k < length xs → length xs < length ys → get_or (vertices_walked v xs) k 0 ≡ get_or (vertices_walked v ys) k 0
    IsWalk-passes v w u xs [] k one other fits size = absurd (omega arith)
    IsWalk-passes v w u [] (b ∷ ys) k one other fits size = absurd (omega arith)
    IsWalk-passes v w u (a ∷ xs) (b ∷ ys) zero one other fits size = refl
    IsWalk-passes v w u (a ∷ xs) (b ∷ ys) (suc k) one other fits size =
        let first : a ≡ b = IsWayOn-unique graph sound v a b one.0 other.0 in
        ap (λ (x : WaitArc). get_or (vertices_walked x.head xs) k 0) first
        ∙ IsWalk-passes b.head w u xs ys k (subst (λ (x : WaitArc). IsWalk graph x.head xs w) first one.1) other.1 (omega arith) (omega arith)

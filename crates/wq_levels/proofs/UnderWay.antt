-- The walk from the least remaining vertex, under way: no vertex was left twice so far.
use Rattle.std.proofs.Common.{◌≡◌, ◌≢◌, ℕ, zero, suc, ◌<◌, ◌≤◌, ◌⊎◌, inl, inr, List, [], ◌∷◌, ◌++◌, length, get_or, set, take, drop, AllPairs, Option, Some, None, MatchOption, refl, sym, ◌∙◌, subst, ap, arith}
use Rattle.std.specs.List.{All}
use Rattle.std.proofs.lemmas.Bool.{cases_lt, cases_eq}
use Rattle.std.proofs.lemmas.List.{length_push, length-drop, get_or_push, get_or_append_left, get_or_default, get_or-set_same, get_or-set_other, length-set, take-append-drop}
use Rattle.std.proofs.lemmas.List.Elements.{All-push}
use Rattle.std.proofs.lemmas.List.Quantifiers.{all_pairs_push}
use Rattle.wq_items.proofs.Pigeonhole.{repeats_from_length}
use Rattle.wq_graph.specs.declared.arc.WaitArc.{WaitArc}
use Rattle.wq_levels.specs.Walks.{Remains, IsLeastRemaining, IsWayOn, IsWalk, vertices_walked, IsWalkedCircle}
use Rattle.wq_levels.proofs.Walks.{length-vertices_walked, vertices_walked-append, IsWalk-append, IsWalk-take, IsWalk-drop, IsWalk-remains, vertices_walked-below}

-- v isn't one of these
abbrev pub IsNew : List ℕ → ℕ → Type 0
IsNew vs v = (k : ℕ) → k < length vs → get_or vs k 0 ≢ v

-- different numbers, and one more
different_push : (vs : List ℕ) (v : ℕ) → AllPairs (λ (x y : ℕ). x ≢ y) vs → IsNew vs v → AllPairs (λ (x y : ℕ). x ≢ y) (vs ++ v ∷ [])
different_push vs v once new = all_pairs_push (λ (x y : ℕ). x ≢ y) vs v once (λ k d fits same. new k fits (get_or_default vs k 0 d fits ∙ same))

-- there are no more different numbers below n than n
different_few : (n : ℕ) (vs : List ℕ) → All (λ v. v < n) vs → AllPairs (λ (x y : ℕ). x ≢ y) vs → length vs ≤ n
different_few n vs below once = elim (cases_lt n (length vs)) [
  | inl long ↦ let twice = repeats_from_length n vs below long in absurd (once twice.0 twice.1 0 twice.2 twice.3 twice.4)
  | inr few ↦ few
]

pub cases_new : (vs : List ℕ) (v : ℕ) → ((k : ℕ) × (k < length vs) × (get_or vs k 0 ≡ v)) ⊎ IsNew vs v
cases_new [] v = inr (λ k fits. absurd (omega arith))
cases_new (x ∷ vs) v = elim (cases_eq x v) [
  | inl same ↦ inl (0, omega arith, same)
  | inr other ↦ elim (cases_new vs v) [
    | inl found ↦ inl (suc found.0, omega (arith, found.1), found.2)
    | inr new ↦ inr (each other new)
  ]
]
  where
    each : x ≢ v → IsNew vs v → IsNew (x ∷ vs) v
    each other new zero fits = other
    each other new (suc k) fits = new k (omega arith)

-- the arcs that were walked lead from the least remaining vertex to this one
pub record IsUnderWay (graph : List (List WaitArc)) (start : ℕ) (walked : List WaitArc) (at : ℕ) : Type 0 where
  pub least : IsLeastRemaining graph start
  pub walk : IsWalk graph start walked at
  pub once : AllPairs (λ (v w : ℕ). v ≢ w) (vertices_walked start walked)

module _ (graph : List (List WaitArc)) (start : ℕ) where
  pub IsUnderWay-start : IsLeastRemaining graph start → IsUnderWay graph start [] start
  IsUnderWay-start least = record { least = least; walk = refl; once = λ i j d lt fits. absurd (omega arith) }

  module _ (walked : List WaitArc) (at : ℕ) (so_far : IsUnderWay graph start walked at) where
    pub IsUnderWay-remains : Remains graph at
    IsUnderWay-remains = IsWalk-remains graph start at walked so_far.least.remains so_far.walk

    pub vertices_walked-push : (a : WaitArc) → vertices_walked start (walked ++ a ∷ []) ≡ vertices_walked start walked ++ at ∷ []
    vertices_walked-push a = vertices_walked-append graph start at walked (a ∷ []) so_far.walk

    -- one more arc, from a vertex that was not left yet
    pub IsUnderWay-more : (a : WaitArc) → IsNew (vertices_walked start walked) at → IsWayOn graph at a → IsUnderWay graph start (walked ++ a ∷ []) a.head
    IsUnderWay-more a new way = record {
      least = so_far.least;
      walk = IsWalk-append graph start at a.head walked (a ∷ []) so_far.walk (way, refl);
      once = subst (λ (l : List ℕ). AllPairs (λ (v w : ℕ). v ≢ w) l) (sym (vertices_walked-push a)) (different_push (vertices_walked start walked) at so_far.once new);
    }

    -- no more arcs were walked than there are vertices
    pub IsUnderWay-few : length walked ≤ length graph
    IsUnderWay-few =
        let few = different_few (length graph) (vertices_walked start walked) (vertices_walked-below graph start at walked so_far.least.remains so_far.walk) so_far.once in
        omega (arith, few, length-vertices_walked start walked)

    -- and fewer if there is a vertex that was not left yet
    pub IsUnderWay-room : IsNew (vertices_walked start walked) at → length walked < length graph
    IsUnderWay-room new =
        let vs = vertices_walked start walked in
        let below = All-push (λ (v : ℕ). v < length graph) vs at (vertices_walked-below graph start at walked so_far.least.remains so_far.walk) IsUnderWay-remains.0 in
        omega (arith, different_few (length graph) (vs ++ at ∷ []) below (different_push vs at so_far.once new), length_push vs at, length-vertices_walked start walked)

    -- if the walk comes back to the vertex that the arc at k left, the arcs from there on are the circle
    pub IsWalkedCircle-drop : (k : ℕ) → k < length walked → get_or (vertices_walked start walked) k 0 ≡ at → IsWalkedCircle graph (drop k walked)
    IsWalkedCircle-drop k fits back = record {
      start = start;
      least = so_far.least;
      lead_in = take k walked;
      entry = at;
      leads_in = subst (λ (v : ℕ). IsWalk graph start (take k walked) v) back (IsWalk-take graph start at walked k so_far.walk fits);
      comes_back = subst (λ (v : ℕ). IsWalk graph v (drop k walked) at) back (IsWalk-drop graph start at walked k so_far.walk fits);
      some = λ none. absurd (omega (arith, ap (λ (l : List WaitArc). length l) none, length-drop k walked));
      once = subst (λ (l : List WaitArc). AllPairs (λ (v w : ℕ). v ≢ w) (vertices_walked start l)) (sym (take-append-drop k walked)) so_far.once;
    }

-- ---- what is noted of each vertex

-- for each of n vertices: the number of the arc, among these, that left it, or that none did
pub record TellsLeft (n : ℕ) (vs : List ℕ) (left : List (Option ℕ)) : Type 0 where
  pub one_each : length left ≡ n
  pub told : (v : ℕ) → v < n → MatchOption (get_or left v None) (IsNew vs v) (λ k. (k < length vs) × (get_or vs k 0 ≡ v))

told_more : (vs : List ℕ) (v u : ℕ) (o : Option ℕ) → u ≢ v → MatchOption o (IsNew vs u) (λ k. (k < length vs) × (get_or vs k 0 ≡ u))
    → MatchOption o (IsNew (vs ++ v ∷ []) u) (λ k. (k < length (vs ++ v ∷ [])) × (get_or (vs ++ v ∷ []) k 0 ≡ u))
told_more vs v u None other new = λ k fits same. elim (cases_lt k (length vs)) [
  | inl earlier ↦ new k earlier (sym (get_or_append_left vs (v ∷ []) 0 k earlier) ∙ same)
  | inr last ↦ let end : length vs ≡ k = omega (arith, length_push vs v) in other (sym same ∙ get_or_push vs v 0 k end)
]
told_more vs v u (Some k) other at = (omega (arith, at.0, length_push vs v), get_or_append_left vs (v ∷ []) 0 k at.0 ∙ at.1)

-- the vertex v was left by one more arc
pub TellsLeft-set : (n : ℕ) (vs : List ℕ) (left : List (Option ℕ)) (v : ℕ) → v < n → TellsLeft n vs left → TellsLeft n (vs ++ v ∷ []) (set left v (Some (length vs)))
TellsLeft-set n vs left v vertex tells = record {
  one_each = length-set left v (Some (length vs)) ∙ tells.one_each;
  told = λ u below. elim (cases_eq u v) [
    | inl same ↦
        subst (λ (x : ℕ). MatchOption (get_or (set left v (Some (length vs))) x None) (IsNew (vs ++ v ∷ []) x) (λ k. (k < length (vs ++ v ∷ [])) × (get_or (vs ++ v ∷ []) k 0 ≡ x))) (sym same)
        (rw (get_or-set_same left v (Some (length vs)) None (omega (arith, tells.one_each))) (omega (arith, length_push vs v), get_or_push vs v 0 (length vs) refl))
    | inr other ↦
        rw (get_or-set_other left v u (Some (length vs)) None other) (told_more vs v u (get_or left u None) other (tells.told u below))
  ];
}

-- the walk so far, and what is noted of it
pub record IsNoted (graph : List (List WaitArc)) (walked : List WaitArc) (left : List (Option ℕ)) (at : ℕ) : Type 0 where
  pub start : ℕ
  pub so_far : IsUnderWay graph start walked at
  pub tells : TellsLeft (length graph) (vertices_walked start walked) left

module _ (graph : List (List WaitArc)) (walked : List WaitArc) (left : List (Option ℕ)) (at : ℕ) (noted : IsNoted graph walked left at) where
  pub IsNoted-remains : Remains graph at
  IsNoted-remains = IsUnderWay-remains graph noted.start walked at noted.so_far

  pub IsNoted-new : get_or left at None ≡ None → IsNew (vertices_walked noted.start walked) at
  IsNoted-new none = rw none at (noted.tells.told at IsNoted-remains.0)

  -- one more arc, from a vertex that was not left yet
  pub IsNoted-more : (a : WaitArc) → get_or left at None ≡ None → IsWayOn graph at a → IsNoted graph (walked ++ a ∷ []) (set left at (Some (length walked))) a.head
  IsNoted-more a none way =
      let vs = vertices_walked noted.start walked in
      let set_at = TellsLeft-set (length graph) vs left at IsNoted-remains.0 noted.tells in
      record {
        start = noted.start;
        so_far = IsUnderWay-more graph noted.start walked at noted.so_far a (IsNoted-new none) way;
        tells = subst (λ (l : List ℕ). TellsLeft (length graph) l (set left at (Some (length walked)))) (sym (vertices_walked-push graph noted.start walked at noted.so_far a))
            (subst (λ (n : ℕ). TellsLeft (length graph) (vs ++ at ∷ []) (set left at (Some n))) (length-vertices_walked noted.start walked) set_at);
      }

  pub IsNoted-room : get_or left at None ≡ None → length walked < length graph
  IsNoted-room none = IsUnderWay-room graph noted.start walked at noted.so_far (IsNoted-new none)

  -- the vertex was left by the arc at k
  noted_at : (k : ℕ) → get_or left at None ≡ Some k → (k < length (vertices_walked noted.start walked)) × (get_or (vertices_walked noted.start walked) k 0 ≡ at)
  noted_at k some = rw some at (noted.tells.told at IsNoted-remains.0)

  pub IsNoted-fits : (k : ℕ) → get_or left at None ≡ Some k → k < length walked
  IsNoted-fits k some = omega (arith, (noted_at k some).0, length-vertices_walked noted.start walked)

  pub IsNoted-circle : (k : ℕ) → get_or left at None ≡ Some k → IsWalkedCircle graph (drop k walked)
  IsNoted-circle k some = IsWalkedCircle-drop graph noted.start walked at noted.so_far k (IsNoted-fits k some) (noted_at k some).1

  -- what is read of the vertex
  pub IsNoted-index : at < length left
  IsNoted-index = omega (arith, noted.tells.one_each, IsNoted-remains.0)

  pub IsNoted-read : (o : Option ℕ) → o ≡ get_or left at o → get_or left at None ≡ o
  IsNoted-read o read = get_or_default left at None o IsNoted-index ∙ sym read

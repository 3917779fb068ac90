-- The arcs of a graph by the vertices that they lead to: two lists side by side, of the heads and of the tails of all arcs.
use Rattle.std.proofs.Common.{◌≡◌, ℕ, zero, suc, ◌+◌, ◌<◌, ◌≤◌, ◌==◌, inl, inr, Bool, true, false, cond, List, [], ◌∷◌, ◌++◌, length, map, get_or, replicate, refl, sym, ap, subst, ◌∙◌, arith}
use Rattle.std.specs.Prelude.{slice_index, filter, flat_map}
use Rattle.std.specs.List.{All, range_with_len}
use Rattle.std.proofs.lemmas.Bool.{cond-true, cond-false, cases_eq, cases_lt, eq-eqb, ne_eqb}
use Rattle.std.proofs.lemmas.List.{length-map, length-append, length-replicate, map-append, append-nil, get_or_past}
use Rattle.std.proofs.lemmas.List.Elements.{All-nil, All-append, All-map}
use Rattle.std.proofs.lemmas.List.FromFn.{length-map-range_with_len, get_or-map-range_with_len}
use Rattle.std.proofs.lemmas.Grind.{flat_map-append}
use Rattle.wq_buckets.specs.Places.{places_of, buckets_of}
use Rattle.wq_buckets.proofs.Picking.{places-at, places-below}
use Rattle.wq_items.proofs.TableLemmas.{range_with_len-push}
use Rattle.wq_graph.specs.declared.arc.WaitArc.{WaitArc}
use Rattle.wq_graph.specs.Graph.{IsGraph, arcs_at}
use Rattle.wq_levels.specs.Taking.{AreTails, arcs_to, heads_of, tails_of, tails_by_head, times}
use Rattle.wq_levels.proofs.Times.{times-cons, arcs_to-cons}

-- how often w is in the first list with v at the same place in the second
abbrev pub beside : List ℕ → List ℕ → ℕ → ℕ → ℕ
beside [] ts w v = 0
beside (h ∷ hs) [] w v = 0
beside (h ∷ hs) (t ∷ ts) w v = cond (h == w) (cond (t == v) 1 0) 0 + beside hs ts w v

beside-append : (hs ts more mts : List ℕ) (w v : ℕ) → length ts ≡ length hs → beside (hs ++ more) (ts ++ mts) w v ≡ beside hs ts w v + beside more mts w v
beside-append [] [] more mts w v same = omega arith
beside-append [] (t ∷ ts) more mts w v same = absurd (omega (arith, same))
beside-append (h ∷ hs) [] more mts w v same = absurd (omega (arith, same))
beside-append (h ∷ hs) (t ∷ ts) more mts w v same = omega (arith, beside-append hs ts more mts w v (omega (arith, same)))

abbrev heads : List WaitArc → List ℕ
heads arcs = map (λ (a : WaitArc). a.head) arcs

-- beside only one number
beside-one : (arcs : List WaitArc) (u w v : ℕ) → beside (heads arcs) (replicate (length arcs) u) w v ≡ cond (u == v) (arcs_to arcs w) 0
beside-one [] u w v = go (u == v)
  where
    go : (b : Bool) → zero ≡ cond b zero zero
    go true = refl
    go false = refl
beside-one (a ∷ arcs) u w v = go (u == v) (a.head == w) (arcs_to-cons a arcs w) (beside-one arcs u w v)
  where
    go : (b c : Bool) → arcs_to (a ∷ arcs) w ≡ cond c 1 0 + arcs_to arcs w → beside (heads arcs) (replicate (length arcs) u) w v ≡ cond b (arcs_to arcs w) 0
        → cond c (cond b 1 0) 0 + beside (heads arcs) (replicate (length arcs) u) w v ≡ cond b (arcs_to (a ∷ arcs) w) 0
    go true true more rest = omega (arith, more, rest)
    go true false more rest = omega (arith, more, rest)
    go false true more rest = omega (arith, rest)
    go false false more rest = omega (arith, rest)

-- how often v is in the second at the places of w in the first
module _ (F G : ℕ → ℕ) (w v : ℕ) where
  times-beside : (a : ℕ) (hs ts : List ℕ) → length ts ≡ length hs → ((k : ℕ) → k < length hs → F (a + k) ≡ get_or hs k 0) → ((k : ℕ) → k < length ts → G (a + k) ≡ get_or ts k 0)
      → times (map G (filter (λ p. F p == w) (range_with_len a (length hs)))) v ≡ beside hs ts w v
  times-beside a [] ts same f g = refl
  times-beside a (h ∷ hs) [] same f g = absurd (omega (arith, same))
  times-beside a (h ∷ hs) (t ∷ ts) same f g =
      let rest = times-beside (a + 1) hs ts (omega (arith, same)) (λ k lt. ap F (let e : a + 1 + k ≡ a + suc k = omega arith in e) ∙ f (suc k) (omega (arith, lt))) (λ k lt. ap G (let e : a + 1 + k ≡ a + suc k = omega arith in e) ∙ g (suc k) (omega (arith, lt))) in
      let here : F a ≡ h = ap F (let e : a ≡ a + 0 = omega arith in e) ∙ f 0 (omega arith) in
      let there : G a ≡ t = ap G (let e : a ≡ a + 0 = omega arith in e) ∙ g 0 (omega arith) in
      go (F a == w) (ap (λ n. n == w) here) (ap (λ n. n == v) there) rest
    where
      others : List ℕ
      others = filter (λ p. F p == w) (range_with_len (a + 1) (length hs))

      go : (b : Bool) → b ≡ (h == w) → (G a == v) ≡ (t == v) → times (map G others) v ≡ beside hs ts w v
          → times (map G (cond b (a ∷ others) others)) v ≡ cond (h == w) (cond (t == v) 1 0) 0 + beside hs ts w v
      go true is at rest =
          let counted : cond (h == w) (cond (t == v) 1 0) 0 ≡ cond (t == v) 1 0 = cond-true {A = ℕ} (h == w) (cond (t == v) 1 0) 0 (sym is) in
          let one : cond {A = ℕ} (G a == v) 1 0 ≡ cond (t == v) 1 0 = ap (λ (c : Bool). cond {A = ℕ} c 1 0) at in
          omega (arith, times-cons (G a) v (map G others), one, counted, rest)
      go false is at rest =
          let counted : cond (h == w) (cond (t == v) 1 0) 0 ≡ 0 = cond-false {A = ℕ} (h == w) (cond (t == v) 1 0) 0 (sym is) in
          omega (arith, counted, rest)

times-places : (hs ts : List ℕ) (w v : ℕ) → length ts ≡ length hs → times (map (slice_index ts) (places_of hs w)) v ≡ beside hs ts w v
times-places hs ts w v same = times-beside (slice_index hs) (slice_index ts) w v 0 hs ts same (λ k lt. ap (slice_index hs) (omega arith)) (λ k lt. ap (slice_index ts) (omega arith))

-- ---- the arcs of the first n vertices

module _ (graph : List (List WaitArc)) where
  -- those that each of them leaves
  abbrev pub tails_below : ℕ → List ℕ
  tails_below n = flat_map (λ v. replicate (length (arcs_at graph v)) v) (range_with_len 0 n)

  -- and those that each leads to
  abbrev heads_below : ℕ → List ℕ
  heads_below n = flat_map (λ v. heads (arcs_at graph v)) (range_with_len 0 n)

  pub tails_below-more : (n : ℕ) → tails_below (n + 1) ≡ tails_below n ++ replicate (length (arcs_at graph n)) n
  tails_below-more n =
      let own : ℕ → List ℕ = λ v. replicate (length (arcs_at graph v)) v in
      ap (flat_map own) (range_with_len-push n) ∙ flat_map-append own (range_with_len 0 n) (n ∷ []) ∙ ap (λ (l : List ℕ). tails_below n ++ l) (append-nil (own n))

  heads_below-more : (n : ℕ) → heads_below (n + 1) ≡ heads_below n ++ heads (arcs_at graph n)
  heads_below-more n =
      let own : ℕ → List ℕ = λ v. heads (arcs_at graph v) in
      ap (flat_map own) (range_with_len-push n) ∙ flat_map-append own (range_with_len 0 n) (n ∷ []) ∙ ap (λ (l : List ℕ). heads_below n ++ l) (append-nil (own n))

  long_below : (n : ℕ) → length (tails_below n) ≡ length (heads_below n)
  long_below zero = refl
  long_below (suc n) =
      let one : suc n ≡ n + 1 = omega arith in
      let arcs = arcs_at graph n in
      subst (λ (m : ℕ). length (tails_below m) ≡ length (heads_below m)) (sym one)
      (ap length (tails_below-more n) ∙ length-append (tails_below n) (replicate (length arcs) n)
      ∙ omega (arith, long_below n, length-replicate {A = ℕ} (length arcs) n, length-map arcs (λ (a : WaitArc). a.head), ap length (heads_below-more n), length-append (heads_below n) (heads arcs)))

  -- a tail beside a head: an arc of a vertex below n
  beside_below : (n w v : ℕ) → (v < n → beside (heads_below n) (tails_below n) w v ≡ arcs_to (arcs_at graph v) w) × (n ≤ v → beside (heads_below n) (tails_below n) w v ≡ 0)
  beside_below zero w v = ((λ lt. absurd (omega (arith, lt))), (λ le. refl))
  beside_below (suc n) w v =
      let one : suc n ≡ n + 1 = omega arith in
      let arcs = arcs_at graph n in
      let so_far = beside_below n w v in
      let more : beside (heads_below (suc n)) (tails_below (suc n)) w v ≡ beside (heads_below n) (tails_below n) w v + cond (n == v) (arcs_to (arcs_at graph n) w) 0 =
      ap (λ (m : ℕ). beside (heads_below m) (tails_below m) w v) one
      ∙ ap (λ (hs : List ℕ). beside hs (tails_below (n + 1)) w v) (heads_below-more n)
      ∙ ap (λ (ts : List ℕ). beside (heads_below n ++ heads arcs) ts w v) (tails_below-more n)
      ∙ beside-append (heads_below n) (tails_below n) (heads arcs) (replicate (length arcs) n) w v (long_below n)
      ∙ ap (λ (m : ℕ). beside (heads_below n) (tails_below n) w v + m) (beside-one arcs n w v) in
      elim (cases_eq n v) [
        | inl own ↦
            let here : cond (n == v) (arcs_to (arcs_at graph n) w) 0 ≡ arcs_to (arcs_at graph v) w =
            cond-true {A = ℕ} (n == v) (arcs_to (arcs_at graph n) w) 0 (eq-eqb n v own) ∙ ap (λ (u : ℕ). arcs_to (arcs_at graph u) w) own in
            let none : beside (heads_below n) (tails_below n) w v ≡ 0 = so_far.1 (omega (arith, own)) in
            ((λ lt. omega (arith, more, here, none)), (λ le. absurd (omega (arith, le, own))))
        | inr other ↦
            let here : cond (n == v) (arcs_to (arcs_at graph n) w) 0 ≡ 0 = cond-false {A = ℕ} (n == v) (arcs_to (arcs_at graph n) w) 0 (ne_eqb n v other) in
            ((λ lt. (let own = so_far.0 (omega (arith, lt, other)) in omega (arith, more, here, own))), (λ le. (let none = so_far.1 (omega (arith, le)) in omega (arith, more, here, none))))
      ]

-- all arcs: those of each vertex, one vertex after another
heads_of-from : (graph whole : List (List WaitArc)) (a : ℕ) → ((k : ℕ) → k < length graph → arcs_at whole (a + k) ≡ arcs_at graph k)
    → heads_of graph ≡ flat_map (λ v. heads (arcs_at whole v)) (range_with_len a (length graph))
heads_of-from [] whole a same = refl
heads_of-from (arcs ∷ graph) whole a same =
    let here : arcs_at whole a ≡ arcs = ap (arcs_at whole) (let e : a ≡ a + 0 = omega arith in e) ∙ same 0 (omega arith) in
    map-append (λ (b : WaitArc). b.head) arcs (flat_map (λ arcs. arcs) graph)
    ∙ ap (λ (l : List ℕ). heads arcs ++ l) (heads_of-from graph whole (a + 1) (λ k lt. ap (arcs_at whole) (let e : a + 1 + k ≡ a + suc k = omega arith in e) ∙ same (suc k) (omega (arith, lt))))
    ∙ ap (λ (l : List WaitArc). heads l ++ flat_map (λ v. heads (arcs_at whole v)) (range_with_len (a + 1) (length graph))) (sym here)

module _ (graph : List (List WaitArc)) where
  heads_of-all : heads_of graph ≡ heads_below graph (length graph)
  heads_of-all = heads_of-from graph graph 0 (λ k lt. ap (arcs_at graph) (omega arith))

  -- as many heads as tails
  pub length-tails_of : length (tails_of graph) ≡ length (heads_of graph)
  length-tails_of = long_below graph (length graph) ∙ ap length (sym heads_of-all)

  -- the vertices that the arcs to each vertex leave are the tails of the arcs at its places
  pub AreTails-by_head : AreTails graph (tails_by_head graph)
  AreTails-by_head = record { one_each = length-map-range_with_len own 0 (length graph); turned = turned } where
    own : ℕ → List ℕ
    own w = map (slice_index (tails_of graph)) (places_of (heads_of graph) w)

    turned : (v w : ℕ) → w < length graph → times (get_or (tails_by_head graph) w []) v ≡ arcs_to (arcs_at graph v) w
    turned v w inside =
        let both = beside_below graph (length graph) w v in
        let counted : times (get_or (tails_by_head graph) w []) v ≡ beside (heads_below graph (length graph)) (tails_of graph) w v =
        ap (λ (l : List ℕ). times l v) (get_or-map-range_with_len own 0 (length graph) w w [] inside (omega arith))
        ∙ times-places (heads_of graph) (tails_of graph) w v length-tails_of
        ∙ ap (λ (hs : List ℕ). beside hs (tails_of graph) w v) heads_of-all in
        counted ∙ elim (cases_lt v (length graph)) [
          | inl lt ↦ both.0 lt
          | inr le ↦ both.1 le ∙ sym (ap (λ (l : List WaitArc). arcs_to l w) (get_or_past graph v [] le))
        ]

-- the heads are vertices
pub heads_of-below : (graph : List (List WaitArc)) → IsGraph graph → All (λ h. h < length graph) (heads_of graph)
heads_of-below graph is = go graph is.heads where
  go : (g : List (List WaitArc)) → All (λ (arcs : List WaitArc). All (λ (a : WaitArc). a.head < length graph) arcs) g → All (λ h. h < length graph) (heads_of g)
  go [] below = All-nil (λ h. h < length graph)
  go (arcs ∷ g) below =
      subst (All (λ h. h < length graph)) (sym (map-append (λ (a : WaitArc). a.head) arcs (flat_map (λ arcs. arcs) g)))
      (All-append (λ h. h < length graph) (heads arcs) (heads_of g) (All-map (λ h. h < length graph) (λ (a : WaitArc). a.head) arcs (below 0 arcs (omega arith))) (go g (λ k d lt. below (suc k) d (omega (arith, lt)))))

-- what is found by the places of the arcs to a vertex
module _ (graph : List (List WaitArc)) (buckets : List (List ℕ)) (tails places : List ℕ) (v : ℕ) (made : buckets ≡ buckets_of (heads_of graph) (length graph)) (left : tails ≡ tails_of graph)
    (inside : v < length graph) (at : places ≡ get_or buckets v []) where
  places_are : places ≡ places_of (heads_of graph) v
  places_are = at ∙ places-at (heads_of graph) buckets (length graph) v inside made

  pub tails-at : map (slice_index tails) places ≡ get_or (tails_by_head graph) v []
  tails-at =
      ap (λ (ts : List ℕ). map (slice_index ts) places) left ∙ ap (map (slice_index (tails_of graph))) places_are
      ∙ sym (get_or-map-range_with_len (λ w. map (slice_index (tails_of graph)) (places_of (heads_of graph) w)) 0 (length graph) v v [] inside (omega arith))

  pub tails-within : All (λ p. p < length tails) places
  tails-within =
      subst (λ (n : ℕ). All (λ p. p < n) places) (sym (ap length left ∙ length-tails_of graph))
      (subst (All (λ p. p < length (heads_of graph))) (sym places_are) (places-below (heads_of graph) v))

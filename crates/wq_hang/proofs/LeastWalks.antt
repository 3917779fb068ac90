-- A least walk meets no lane twice.
use Rattle.std.proofs.Common.{◌≡◌, ◌≢◌, ℕ, zero, suc, ◌+◌, ◌*◌, ◌<◌, ◌≤◌, inl, inr, List, [], ◌∷◌, ◌++◌, length, refl}
use Rattle.std.proofs.Common.{sym, ap, ap₂, subst, ◌∙◌, arith}
use Rattle.std.specs.Prelude.{flat_map, slice_index}
use Rattle.std.specs.List.{All}
use Rattle.std.proofs.lemmas.Bool.{cases_lt}
use Rattle.std.proofs.lemmas.List.Elements.{All-nil, All-cons}
use Rattle.wq_core.specs.Wiring.{Wiring, IsWiring, lane_of}
use Rattle.wq_core.proofs.Wirings.{lane_of-within}
use Rattle.wq_hang.specs.declared.hop.Hop.{Hop}
use Rattle.wq_hang.specs.Walk.{IsPath, IsRound, IsWalk, IsLeastWalk, target_beside, walk_cost}
use Rattle.wq_hang.specs.Search.{hop_cost, hops_cost}
use Rattle.wq_hang.proofs.Apart.{Avoids, Apart, Apart-few}
use Rattle.wq_hang.proofs.Declared.{declared-item, target_beside-most, unsure_part-most}
use Rattle.wq_hang.proofs.StuckRounds.{walk_cost-hops}

-- the lanes of the items that wait
abbrev pub lanes_from : Wiring → List Hop → List ℕ
lanes_from w [] = []
lanes_from w (h ∷ hops) = lane_of w h.item ∷ lanes_from w hops

-- which lanes these are doesn't depend on what else is declared
pub lanes_from-same : (v w : Wiring) → v.lane_of_item ≡ w.lane_of_item → (hops : List Hop)
    → lanes_from v hops ≡ lanes_from w hops
lanes_from-same v w same [] = refl
lanes_from-same v w same (h ∷ hops) =
    ap₂ (λ (q : ℕ) (qs : List ℕ). q ∷ qs) (ap (λ (l : List ℕ). slice_index l h.item) same)
    (lanes_from-same v w same hops)

-- ---- paths in two parts

pub IsPath-append : (w : Wiring) (i j k : ℕ) (hops more : List Hop) → IsPath w i hops j → IsPath w j more k → IsPath w i (hops ++ more) k
IsPath-append w i j k [] more path on = subst (λ (x : ℕ). IsPath w x more k) (sym path) on
IsPath-append w i j k (h ∷ hops) more path on = (path.0, path.1, path.2, IsPath-append w h.next j k hops more path.3 on)

pub hops_cost-append : (hops more : List Hop) → hops_cost (hops ++ more) ≡ hops_cost hops + hops_cost more
hops_cost-append [] more = omega arith
hops_cost-append (h ∷ hops) more = let rest : hops_cost (hops ++ more) ≡ hops_cost hops + hops_cost more = hops_cost-append hops more in omega arith

-- ---- another item on the last lane

abbrev pub redirect : ℕ → Hop → List Hop → List Hop
redirect y h [] = record h { next = y } ∷ []
redirect y h (g ∷ hops) = h ∷ redirect y g hops

pub redirect-some : (y : ℕ) (h : Hop) (hops : List Hop) → 0 < length (redirect y h hops)
redirect-some y h [] = omega arith
redirect-some y h (g ∷ hops) = omega arith

redirect-cost : (y : ℕ) (h : Hop) (hops : List Hop) → hops_cost (redirect y h hops) ≤ hops_cost (h ∷ hops) + 1
redirect-cost y h [] = let most : length (target_beside (record h { next = y })) ≤ 1 = target_beside-most (record h { next = y }) in omega arith
redirect-cost y h (g ∷ hops) = let rest : hops_cost (redirect y g hops) ≤ hops_cost (g ∷ hops) + 1 = redirect-cost y g hops in omega arith

pub redirect-path : (w : Wiring) (i j y : ℕ) (h : Hop) (hops : List Hop) → IsPath w i (h ∷ hops) j
    → lane_of w y ≡ lane_of w j → IsPath w i (redirect y h hops) y
redirect-path w i j y h [] path same =
    (path.0, record { declared = path.1.declared; rescuer = path.1.rescuer }, same ∙ ap (lane_of w) (sym path.3) ∙ path.2, refl)
redirect-path w i j y h (g ∷ hops) path same = (path.0, path.1, path.2, redirect-path w h.next j y g hops path.3 same)

-- ---- no cheaper round

module _ (w : Wiring) (most : ℕ) (least : (hops : List Hop) → IsRound w hops → most ≤ hops_cost hops) where
  -- hops from an item of lane x, which cost less, don't come back to its lane
  comes_not_back : (i j : ℕ) (h : Hop) (hops : List Hop) → IsPath w i (h ∷ hops) j → hops_cost (h ∷ hops) + 1 < most → lane_of w i ≢ lane_of w j
  comes_not_back i j h hops path less same =
      let round : IsRound w (redirect i h hops) = record { some = redirect-some i h hops; first = i; path = redirect-path w i j i h hops path same } in
      let cost : most ≤ hops_cost (redirect i h hops) = least (redirect i h hops) round in
      let few : hops_cost (redirect i h hops) ≤ hops_cost (h ∷ hops) + 1 = redirect-cost i h hops in
      omega arith

  avoids_later : (i j k : ℕ) (h : Hop) (hops more : List Hop) → IsPath w i (h ∷ hops) j → IsPath w j more k → hops_cost (h ∷ hops) + hops_cost more ≤ most → Avoids (lane_of w i) (lanes_from w more)
  avoids_later i j k h hops [] path on few = tt
  avoids_later i j k h hops (g ∷ more) path on few = (
    (λ same. comes_not_back i j h hops path (omega arith) (same ∙ ap (lane_of w) on.0)),
    avoids_later i g.next k h (hops ++ (g ∷ [])) more (IsPath-append w i j g.next (h ∷ hops) (g ∷ []) path (on.0, on.1, on.2, refl)) on.3 (omega (arith, few, hops_cost-append hops (g ∷ []))),
  )

  pub apart : (i j : ℕ) (hops : List Hop) → IsPath w i hops j → hops_cost hops ≤ most → Apart (lanes_from w hops)
  apart i j [] path few = tt
  apart i j (h ∷ hops) path few = (
    subst (λ (x : ℕ). Avoids (lane_of w x) (lanes_from w hops)) (sym path.0) (avoids_later i h.next j h [] hops (path.0, path.1, path.2, refl) path.3 (omega arith)),
    apart h.next j hops path.3 (omega arith),
  )

pub Apart-least : (w : Wiring) (hops : List Hop) (beside : List ℕ) → IsLeastWalk w hops beside → Apart (lanes_from w hops)
Apart-least w hops beside is = by is.walk
  where
    cheaper : (round : IsRound w hops) → beside ≡ flat_map target_beside hops → (others : List Hop) → IsRound w others → hops_cost hops ≤ hops_cost others
    cheaper round same others other =
        let le : walk_cost hops beside ≤ walk_cost others (flat_map target_beside others) = is.least others (flat_map target_beside others) (inl (other, refl)) in
        let size : length beside ≡ length (flat_map target_beside hops) = ap (λ (l : List ℕ). length l) same in
        omega (arith, le, size, walk_cost-hops hops, walk_cost-hops others)

    by : IsWalk w hops beside → Apart (lanes_from w hops)
    by (inl (round, same)) = apart w (hops_cost hops) (cheaper round same) round.first round.first hops round.path (omega arith)
    by (inr (h, hop, bare, one, other)) = subst (λ (l : List Hop). Apart (lanes_from w l)) (sym one) (tt, tt)

-- ---- where each round costs more than a hop can for each lane, there is none

-- the first hops
abbrev front : ℕ → List Hop → List Hop
front zero hops = []
front (suc n) [] = []
front (suc n) (h ∷ hops) = h ∷ front n hops

front_path : (w : Wiring) (n i j : ℕ) (hops : List Hop) → IsPath w i hops j → (k : ℕ) × IsPath w i (front n hops) k
front_path w zero i j hops path = (i, refl)
front_path w (suc n) i j [] path = (i, refl)
front_path w (suc n) i j (h ∷ hops) path =
    let rest = front_path w n h.next j hops path.3 in
    (rest.0, (path.0, path.1, path.2, rest.1))

length-front : (n : ℕ) (hops : List Hop) → n ≤ length hops → length (front n hops) ≡ n
length-front zero hops le = refl
length-front (suc n) [] le = absurd (omega arith)
length-front (suc n) (h ∷ hops) le = let rest : length (front n hops) ≡ n = length-front n hops (omega arith) in omega arith

hop_cost-most : (h : Hop) → hop_cost h ≤ 32772
hop_cost-most h =
    let most : length (target_beside h) ≤ 1 = target_beside-most h in
    omega (arith, most, unsure_part-most h.flush)

hops_cost-most : (hops : List Hop) → hops_cost hops ≤ 32772 * length hops
hops_cost-most [] = omega arith
hops_cost-most (h ∷ hops) =
    let rest : hops_cost hops ≤ 32772 * length hops = hops_cost-most hops in
    let most : hop_cost h ≤ 32772 = hop_cost-most h in
    omega (arith, rest, most)

pub length-lanes_from : (w : Wiring) (hops : List Hop) → length (lanes_from w hops) ≡ length hops
length-lanes_from w [] = refl
length-lanes_from w (h ∷ hops) =
    let rest : length (lanes_from w hops) ≡ length hops = length-lanes_from w hops in
    omega arith

pub lanes_from-below : (w : Wiring) → IsWiring w → (i j : ℕ) (hops : List Hop) → IsPath w i hops j
    → All (λ q. q < w.lanes) (lanes_from w hops)
lanes_from-below w wiring i j [] path = All-nil (λ q. q < w.lanes)
lanes_from-below w wiring i j (h ∷ hops) path =
    All-cons (λ q. q < w.lanes) (lane_of w h.item) (lanes_from w hops)
    (lane_of-within w wiring h.item (declared-item w h.item h.flush path.1.declared))
    (lanes_from-below w wiring h.next j hops path.3)

pub no_round : (w : Wiring) (most : ℕ) → IsWiring w → 32772 * w.lanes + 32772 ≤ most
    → ((hops : List Hop) → IsRound w hops → most ≤ hops_cost hops) → (hops : List Hop) → ¬ IsRound w hops
no_round w most wiring enough least hops round = elim (cases_lt w.lanes (length hops)) [
  | inr few ↦ omega (arith, few, hops_cost-most hops, least hops round, enough)
  | inl many ↦ (
      let n : ℕ = w.lanes + 1 in
      let first = front_path w n round.first round.first hops round.path in
      let size : length (front n hops) ≡ n = length-front n hops (omega (arith, many)) in
      let cost : hops_cost (front n hops) ≤ most = omega (arith, hops_cost-most (front n hops), size, enough) in
      let once : Apart (lanes_from w (front n hops)) =
      apart w most least round.first first.0 (front n hops) first.1 cost in
      let few : length (lanes_from w (front n hops)) ≤ w.lanes = Apart-few w.lanes (lanes_from w (front n hops))
      (lanes_from-below w wiring round.first first.0 (front n hops) first.1) once in
      omega (arith, few, size, length-lanes_from w (front n hops))
      )
]

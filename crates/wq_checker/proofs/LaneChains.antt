-- Arcs that join, as chains and circles of lanes that have a rescuer.
use Rattle.std.proofs.Common.{◌≡◌, ℕ, suc, ◌-◌, ◌<◌, List, [], ◌∷◌, length, map, get_or, Option, Some, refl}
use Rattle.std.proofs.Common.{sym, ap, subst, ◌∙◌, arith}
use Rattle.std.specs.Prelude.{slice_get}
use Rattle.std.specs.List.{All}
use Rattle.std.proofs.lemmas.List.Elements.{All-cons, All-head, All-map}
use Rattle.std.proofs.lemmas.Option.{slice_get-get_or}
use Rattle.wq_items.specs.Chain.{IsChain, Circle, last_of}
use Rattle.wq_items.proofs.Tables.{ItemWaits-below, ItemWaits-item, VertexWaits-items}
use Rattle.wq_core.specs.Wiring.{Wiring, IsWiring, RescuedWaits, items, lane_of}
use Rattle.wq_core.proofs.Wirings.{lane_of-within}
use Rattle.wq_checker.specs.Chains.{before_from, before_in_circle}
use Rattle.wq_checker.specs.Around.{JoinsIn, AllJoinIn}
use Rattle.wq_checker.proofs.GroupChains.{before_from-next}

module _ (w : Wiring) where
  -- the lanes of the targets of the arcs
  abbrev pub lanes_of_targets : List (ℕ × ℕ) → List ℕ
  lanes_of_targets arcs = map (λ (arc : ℕ × ℕ). lane_of w arc.1) arcs

  AllJoinIn-rest : (first : Option (ℕ × ℕ)) (arc : ℕ × ℕ) (arcs : List (ℕ × ℕ))
      → AllJoinIn w (before_from first (arc ∷ arcs)) (arc ∷ arcs) → AllJoinIn w (before_from (Some arc) arcs) arcs
  AllJoinIn-rest first arc arcs joined k other stands =
      subst (λ (o : Option (ℕ × ℕ)). JoinsIn w o other) (before_from-next first arc arcs k)
      (joined (suc k) other stands)

  module _ (wiring : IsWiring w) where
    RescuedWaits-arc : (before : Option (ℕ × ℕ)) (arc : ℕ × ℕ) → JoinsIn w before arc
        → RescuedWaits w (lane_of w arc.0) (lane_of w arc.1)
    RescuedWaits-arc before arc joins =
        let item : arc.0 < length w.waits = ItemWaits-item w.waits arc.0 arc.1 joins.declared in
        let target : arc.1 < items w = ItemWaits-below (items w) w.waits wiring.targets_are_items arc.0 arc.1
        joins.declared in (
          joins.from,
          joins.to,
          VertexWaits-items w.waits w.lane_of_item arc.0 arc.1
              (omega (arith, item, wiring.one_lane_each)) (omega (arith, target, wiring.one_lane_each)) joins.declared,
        )

    -- each lane waits for the next
    pub IsChain-joined : (first : Option (ℕ × ℕ)) (arc : ℕ × ℕ) (arcs : List (ℕ × ℕ))
        → AllJoinIn w (before_from first (arc ∷ arcs)) (arc ∷ arcs)
        → IsChain (RescuedWaits w) (lane_of w arc.0 ∷ lanes_of_targets (arc ∷ arcs))
    IsChain-joined first arc [] joined = (RescuedWaits-arc first arc (joined 0 arc refl), tt)
    IsChain-joined first arc (next ∷ arcs) joined =
        let rest = AllJoinIn-rest first arc (next ∷ arcs) joined in
        let here : lane_of w arc.1 ≡ lane_of w next.0 = (rest 0 next refl).joined arc refl in (
          RescuedWaits-arc first arc (joined 0 arc refl),
          subst (λ (q : ℕ). IsChain (RescuedWaits w) (q ∷ lanes_of_targets (next ∷ arcs))) (sym here)
              (IsChain-joined (Some arc) next arcs rest),
        )

    lanes_of_targets-within : (arcs : List (ℕ × ℕ)) → All (λ (arc : ℕ × ℕ). (arc.0 < items w) × (arc.1 < items w)) arcs
        → All (λ q. q < w.lanes) (lanes_of_targets arcs)
    lanes_of_targets-within arcs each =
        All-map (λ q. q < w.lanes) (λ (arc : ℕ × ℕ). lane_of w arc.1) arcs
        (λ k d within. lane_of-within w wiring (get_or arcs k d).1 ((each k d within).1))

    -- they are lanes
    pub lanes-within : (arc : ℕ × ℕ) (arcs : List (ℕ × ℕ))
        → All (λ (a : ℕ × ℕ). (a.0 < items w) × (a.1 < items w)) (arc ∷ arcs)
        → All (λ q. q < w.lanes) (lane_of w arc.0 ∷ lanes_of_targets (arc ∷ arcs))
    lanes-within arc arcs each =
        let first = All-head (λ (a : ℕ × ℕ). (a.0 < items w) × (a.1 < items w)) arc arcs each in
        All-cons (λ q. q < w.lanes) (lane_of w arc.0) (lanes_of_targets (arc ∷ arcs))
        (lane_of-within w wiring arc.0 first.0) (lanes_of_targets-within (arc ∷ arcs) each)

    -- ---- circles

    last_of-targets : (arc : ℕ × ℕ) (arcs : List (ℕ × ℕ)) (last : ℕ × ℕ)
        → slice_get (arc ∷ arcs) (length arcs) ≡ Some last
        → last_of (lane_of w arc.1) (lanes_of_targets arcs) ≡ lane_of w last.1
    last_of-targets arc [] last stands = let same : arc ≡ last = cc in ap (λ (a : ℕ × ℕ). lane_of w a.1) same
    last_of-targets arc (next ∷ arcs) last stands = last_of-targets next arcs last stands

    -- arcs that join, the first joining the last
    Circle-arcs : (arc : ℕ × ℕ) (arcs : List (ℕ × ℕ)) → AllJoinIn w (before_in_circle (arc ∷ arcs)) (arc ∷ arcs)
        → Circle (RescuedWaits w)
    Circle-arcs arc arcs joined =
        let circle : List (ℕ × ℕ) = arc ∷ arcs in
        let end : ℕ = length arcs in
        let last : ℕ × ℕ = get_or circle end arc in
        let stands : slice_get circle end ≡ Some last = slice_get-get_or circle end arc (omega arith) in
        let at_end : slice_get circle (length circle - 1) ≡ Some last =
        ap (slice_get circle) (let e : length circle - 1 ≡ end = omega arith in e) ∙ stands in
        let closed : lane_of w last.1 ≡ lane_of w arc.0 = (joined 0 arc refl).joined last at_end in
        let chain : IsChain (RescuedWaits w) (lane_of w arc.0 ∷ lanes_of_targets circle) =
        IsChain-joined (slice_get circle (length circle - 1)) arc arcs joined in
        record {
          first = lane_of w arc.1;
          others = lanes_of_targets arcs;
          chain = chain.1;
          closes = subst (λ (q : ℕ). RescuedWaits w q (lane_of w arc.1))
              (sym (last_of-targets arc arcs last stands ∙ closed)) chain.0;
        }

    pub Circle-joined : (arcs : List (ℕ × ℕ)) → 0 < length arcs → AllJoinIn w (before_in_circle arcs) arcs
        → Circle (RescuedWaits w)
    Circle-joined [] some joined = absurd (omega arith)
    Circle-joined (arc ∷ arcs) some joined = Circle-arcs arc arcs joined

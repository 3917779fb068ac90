-- How many new lanes a chain of the start has.
use Rattle.std.proofs.Common.{◌≡◌, ℕ, ◌+◌, Bool, cond, nat_le, List, [], ◌∷◌, map, Some, refl, sym}
use Rattle.std.proofs.Common.{ap, ◌∙◌}
use Rattle.std.specs.Prelude.{slice_get}
use Rattle.std.specs.List.{count_by}
use Rattle.std.proofs.lemmas.List.Sums.{sum_by-cons}
use Rattle.wq_groups.specs.Declaration.{Declaration}
use Rattle.wq_core.specs.Wiring.{Wiring, lane_of}
use Rattle.wq_core.specs.Workqueues.{Workqueues, wiring_of}
use Rattle.wq_fixed.specs.Fixed.{Fixed, fixed_lanes, start}
use Rattle.wq_checker.specs.Around.{start_wiring, new_along}

-- lane q is from this number on, as 0 or 1
abbrev pub one_new : ℕ → ℕ → ℕ
one_new new q = cond (nat_le new q) 1 0

-- how many of the targets of these arcs are on such a lane
abbrev pub new_targets : Wiring → ℕ → List (ℕ × ℕ) → ℕ
new_targets w new arcs = count_by (λ (arc : ℕ × ℕ). nat_le new (lane_of w arc.1)) arcs

count_by-map : {X Y : Type 0} (p : Y → Bool) (f : X → Y) (xs : List X)
    → count_by p (map f xs) ≡ count_by (λ (x : X). p (f x)) xs
count_by-map p f [] = refl
count_by-map p f (x ∷ xs) =
    sum_by-cons (λ y. cond (p y) 1 0) (f x) (map f xs)
    ∙ ap (λ (n : ℕ). cond (p (f x)) 1 0 + n) (count_by-map p f xs)
    ∙ sym (sum_by-cons (λ y. cond (p (f y)) 1 0) x xs)

module _ (d : Declaration) (f : Fixed) (n : ℕ) where
  -- the lane of the first item, and those of the targets
  from_first : (arc : ℕ × ℕ) (arcs : List (ℕ × ℕ))
      → one_new (fixed_lanes f) (lane_of (start_wiring d f) arc.0) + new_targets (start_wiring d f) (fixed_lanes f)
      (arc ∷ arcs) ≡ new_along d f n (arc ∷ arcs)
  from_first arc arcs =
      let first : ℕ = lane_of (start_wiring d f) arc.0 in
      let targets : List ℕ = map (λ (a : ℕ × ℕ). lane_of (start_wiring d f) a.1) (arc ∷ arcs) in
      ap (λ (m : ℕ). one_new (fixed_lanes f) first + m)
      (sym (count_by-map (λ q. nat_le (fixed_lanes f) q) (λ (a : ℕ × ℕ). lane_of (start_wiring d f) a.1)
      (arc ∷ arcs)))
      ∙ sym (sum_by-cons (λ q. cond (nat_le (fixed_lanes f) q) 1 0) first targets)

  new_along-some : (arcs : List (ℕ × ℕ)) (arc : ℕ × ℕ) → slice_get arcs 0 ≡ Some arc
      → one_new (fixed_lanes f) (lane_of (start_wiring d f) arc.0) + new_targets (start_wiring d f) (fixed_lanes f)
      arcs ≡ new_along d f n arcs
  new_along-some [] arc first = absurd (cc)
  new_along-some (other ∷ arcs) arc first =
      let same : arc ≡ other = cc in
      ap (λ (a : ℕ × ℕ). one_new (fixed_lanes f) (lane_of (start_wiring d f) a.0) + new_targets (start_wiring d f)
      (fixed_lanes f) (other ∷ arcs)) same
      ∙ from_first other arcs

  -- as they were counted on workqueues that are the start's
  pub new_along-counted : (arcs : List (ℕ × ℕ)) (arc : ℕ × ℕ) (ws : Workqueues) (new first behind : ℕ)
      → slice_get arcs 0 ≡ Some arc → ws ≡ start f → fixed_lanes f ≡ new
      → first ≡ one_new new (lane_of (wiring_of d ws) arc.0) → behind ≡ new_targets (wiring_of d ws) new arcs
      → first + behind ≡ new_along d f n arcs
  new_along-counted arcs arc ws new first behind stands same lanes one others =
      ap (λ (m : ℕ). m + behind) one
      ∙ ap (λ (m : ℕ). one_new new (lane_of (wiring_of d ws) arc.0) + m) others
      ∙ ap (λ (v : Workqueues). one_new new (lane_of (wiring_of d v) arc.0) + new_targets (wiring_of d v) new arcs) same
      ∙ ap (λ (m : ℕ). one_new m (lane_of (wiring_of d (start f)) arc.0) + new_targets (wiring_of d (start f)) m arcs)
      (sym lanes)
      ∙ new_along-some arcs arc stands

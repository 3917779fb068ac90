-- The wait graph of the lanes that aren't bare.
use Rattle.std.proofs.Common.{◌≡◌, ◌≢◌, ℕ, ◌<◌, ◌≤◌, ◌↔◌, inl, inr, Bool, true, false, not, List, [], ◌∷◌, length, map, get_or, refl, sym, ap, subst, ◌∙◌, arith}
use Rattle.std.specs.Prelude.{Contains, filter, slice_index, if◌then◌else◌}
use Rattle.std.specs.List.{All}
use Rattle.std.specs.List.Sorted.{IsStrictlyIncreasing}
use Rattle.std.proofs.lemmas.List.Elements.{All-contains, Contains-get_or}
use Rattle.std.proofs.lemmas.List.FromFn.{length-map-range_with_len}
use Rattle.std.proofs.lemmas.List.Kept.{AllPairs-filter, AllPairs-from_increasing}
use Rattle.std.proofs.lemmas.List.Sums.{length-filter, count_by-le-length}
use Rattle.wq_items.specs.Chain.{IsChain, last_of}
use Rattle.wq_groups.specs.Declaration.{Declaration, IsDeclaration}
use Rattle.wq_groups.specs.Assignment.{Assignment, IsAssignment, item_lanes}
use Rattle.wq_graph.specs.declared.arc.WaitArc.{WaitArc}
use Rattle.wq_graph.specs.Graph.{HasArc, IsArc, IsGraph, arcs_at, arcs_from, lane_graph, is_left_out, arcs_kept}
use Rattle.wq_graph.proofs.Graphs.{AreArcsFrom-lane_graph, VertexWaits-lane_graph, IsGraph-lane_graph}
use Rattle.wq_graph.proofs.LeavingOut.{length-without, arcs_at-without, Contains-without, HasArc-without, IsGraph-without}
use Rattle.wq_graph.proofs.ListLemmas.{IsStrictlyIncreasing-map, AllPairs-from_map}
use Rattle.wq_items.proofs.Lists.{Contains-filtered}
use Rattle.wq_core.specs.Wiring.{RescuedWaits, wiring}
use Rattle.wq_core.specs.Workqueues.{with_bare}
use Rattle.wq_circles.specs.Leading.{Leads, AreTogether}
use Rattle.wq_circles.specs.Components.{kept_graph}

-- a lane isn't bare
abbrev pub IsKept : List Bool → ℕ → Type 0
IsKept bare q = is_left_out bare q ≡ false

-- the kept arcs of a lane: all whose lanes aren't bare, in order
pub record AreKeptFrom (d : Declaration) (a : Assignment) (bare : List Bool) (v : ℕ) (arcs : List WaitArc) : Type 0 where
  pub declared : All (λ (b : WaitArc). IsArc d.waits (item_lanes a d.group_of) b × (slice_index (item_lanes a d.group_of) b.src ≡ v)) arcs
  pub kept : All (λ (b : WaitArc). IsKept bare v × IsKept bare b.head) arcs
  pub all : (b : WaitArc) → IsArc d.waits (item_lanes a d.group_of) b → slice_index (item_lanes a d.group_of) b.src ≡ v → IsKept bare v → IsKept bare b.head → Contains arcs b
  pub in_order : IsStrictlyIncreasing (map (λ (b : WaitArc). b.place) arcs)

-- what holds of no arc and of those that are kept
kept-where : (bare : List Bool) (P : List WaitArc → Type 0) → P [] → (left_out : Bool) (arcs : List WaitArc) → P (arcs_kept bare arcs) → P (if left_out then [] else arcs_kept bare arcs)
kept-where bare P none true arcs some = none
kept-where bare P none false arcs some = some

kept-there : (bare : List Bool) (left_out : Bool) (arcs : List WaitArc) (b : WaitArc) → left_out ≡ false → IsKept bare b.head → Contains arcs b → Contains (if left_out then [] else arcs_kept bare arcs) b
kept-there bare true arcs b is head there = absurd cc
kept-there bare false arcs b is head there = Contains-filtered (λ (c : WaitArc). not (is_left_out bare c.head)) arcs b (ap not head) there

module _ (d : Declaration) (a : Assignment) (bare : List Bool) (declaration : IsDeclaration d) (assignment : IsAssignment d.groups a) where
  pub AreArcsFrom-kept : (v : ℕ) → AreKeptFrom d a bare v (arcs_at (kept_graph d a bare) v)
  AreArcsFrom-kept v =
      let all = AreArcsFrom-lane_graph d a declaration assignment v in
      let here = λ (k : ℕ) (e : WaitArc) (within : k < length (arcs_at (kept_graph d a bare) v)). Contains-without bare (lane_graph d a) v (get_or (arcs_at (kept_graph d a bare) v) k e) (Contains-get_or (arcs_at (kept_graph d a bare) v) k e within) in
      record {
        declared = λ k e within. All-contains (λ (b : WaitArc). IsArc d.waits (item_lanes a d.group_of) b × (slice_index (item_lanes a d.group_of) b.src ≡ v)) (arcs_at (lane_graph d a) v) (get_or (arcs_at (kept_graph d a bare) v) k e) all.declared (here k e within).2;
        kept = λ k e within. ((here k e within).0, (here k e within).1);
        all = λ b arc leaves tail head.
            subst (λ (l : List WaitArc). Contains l b) (sym (arcs_at-without bare (lane_graph d a) v)) (kept-there bare (is_left_out bare v) (arcs_at (lane_graph d a) v) b tail head (all.all b arc leaves));
        in_order =
            subst (λ (l : List WaitArc). IsStrictlyIncreasing (map (λ (b : WaitArc). b.place) l)) (sym (arcs_at-without bare (lane_graph d a) v)) (
            kept-where bare (λ (l : List WaitArc). IsStrictlyIncreasing (map (λ (b : WaitArc). b.place) l)) (λ k within. absurd (omega (arith, within))) (is_left_out bare v) (arcs_at (lane_graph d a) v) (rise (arcs_at (lane_graph d a) v) all.in_order)
            );
      }
    where
      rise : (arcs : List WaitArc) → IsStrictlyIncreasing (map (λ (b : WaitArc). b.place) arcs) → IsStrictlyIncreasing (map (λ (b : WaitArc). b.place) (arcs_kept bare arcs))
      rise arcs rises =
          let p : WaitArc → Bool = λ (b : WaitArc). not (is_left_out bare b.head) in
          IsStrictlyIncreasing-map (λ (b : WaitArc). b.place) (filter p arcs) (record { src = 0; dst = 0; head = 0; place = 0 }) (
          AllPairs-filter (λ (b c : WaitArc). b.place < c.place) p arcs (
          AllPairs-from_map (λ (m n : ℕ). m < n) (λ (b : WaitArc). b.place) arcs (AllPairs-from_increasing (map (λ (b : WaitArc). b.place) arcs) rises)
          )
          )

  pub length-kept : length (kept_graph d a bare) ≡ a.lanes
  length-kept = length-without bare (lane_graph d a) ∙ length-map-range_with_len (arcs_from d.waits (item_lanes a d.group_of)) 0 a.lanes

  -- there are no more than before
  pub fewer-kept : (v : ℕ) → length (arcs_at (kept_graph d a bare) v) ≤ length (arcs_at (lane_graph d a) v)
  fewer-kept v =
      let arcs : List WaitArc = arcs_at (lane_graph d a) v in
      let p : WaitArc → Bool = λ (b : WaitArc). not (is_left_out bare b.head) in
      subst (λ (l : List WaitArc). length l ≤ length arcs) (sym (arcs_at-without bare (lane_graph d a) v))
      (kept-where bare (λ (l : List WaitArc). length l ≤ length arcs) (omega arith) (is_left_out bare v) arcs (omega (arith, length-filter p arcs, count_by-le-length p arcs)))

  pub IsGraph-kept_graph : a.lanes ≤ 4096 → IsGraph (kept_graph d a bare)
  IsGraph-kept_graph few = IsGraph-without bare (lane_graph d a) (IsGraph-lane_graph d a declaration assignment few)

  -- an arc is kept exactly if a lane with a rescuer waits for another
  pub VertexWaits-kept_graph : (p q : ℕ) → RescuedWaits (with_bare (wiring d a) bare) p q ↔ HasArc (kept_graph d a bare) p q
  VertexWaits-kept_graph p q = (
    λ waits. (HasArc-without bare (lane_graph d a) p q).1 (waits.0, waits.1, (VertexWaits-lane_graph d a declaration assignment p q).0 waits.2),
    λ arc. let was = (HasArc-without bare (lane_graph d a) p q).0 arc in (was.0, was.1, (VertexWaits-lane_graph d a declaration assignment p q).1 was.2),
  )

  -- ---- lanes that lead somewhere aren't bare

  chain-first : (v : ℕ) (others : List ℕ) → others ≢ [] → IsChain (HasArc (kept_graph d a bare)) (v ∷ others) → IsKept bare v
  chain-first v [] some chain = absurd (some refl)
  chain-first v (x ∷ xs) some chain = ((HasArc-without bare (lane_graph d a) v x).0 chain.0).0

  chain-last : (v : ℕ) (others : List ℕ) → others ≢ [] → IsChain (HasArc (kept_graph d a bare)) (v ∷ others) → IsKept bare (last_of v others)
  chain-last v [] some chain = absurd (some refl)
  chain-last v (x ∷ []) some chain = ((HasArc-without bare (lane_graph d a) v x).0 chain.0).1
  chain-last v (x ∷ y ∷ ys) some chain = chain-last x (y ∷ ys) (λ same. (let bad : y ∷ ys ≡ [] = same in absurd cc)) chain.1

  pub Leads-first : (v w : ℕ) → Leads (HasArc (kept_graph d a bare)) v w → IsKept bare v
  Leads-first v w leads = chain-first v leads.others leads.some leads.chain

  pub Leads-last : (v w : ℕ) → Leads (HasArc (kept_graph d a bare)) v w → IsKept bare w
  Leads-last v w leads = subst (IsKept bare) leads.ends (chain-last v leads.others leads.some leads.chain)

  pub IsKept-together : (v w : ℕ) → AreTogether (HasArc (kept_graph d a bare)) v w → IsKept bare v → IsKept bare w
  IsKept-together v w (inl same) kept = subst (IsKept bare) same kept
  IsKept-together v w (inr both) kept = Leads-last v w both.0

  pub IsKept-back : (v w : ℕ) → AreTogether (HasArc (kept_graph d a bare)) v w → IsKept bare w → IsKept bare v
  IsKept-back v w (inl same) kept = subst (IsKept bare) (sym same) kept
  IsKept-back v w (inr both) kept = Leads-first v w both.0

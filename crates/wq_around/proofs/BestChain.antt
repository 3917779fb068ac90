-- The best chain down in the start is the one that is printed.
use Rattle.std.proofs.Common.{◌≡◌, ℕ, inl, inr, Bool, List, [], ◌∷◌, length, slice_index, sym}
use Rattle.std.proofs.Common.{◌∙◌, arith}
use Rattle.std.specs.Prelude.{Contains}
use Rattle.std.proofs.lemmas.Bool.{cases_lt}
use Rattle.std.proofs.lemmas.List.{get_or_past}
use Rattle.std.proofs.lemmas.List.Elements.{All-contains}
use Rattle.std.proofs.lemmas.List.Sums.{length-filter}
use Rattle.wq_items.specs.Readings.{is_among, unsure_places}
use Rattle.wq_groups.specs.Declaration.{Declaration, IsDeclaration}
use Rattle.wq_groups.specs.Assignment.{IsAssignment, item_lanes}
use Rattle.wq_groups.proofs.Declarations.{waiting-item}
use Rattle.wq_groups.proofs.Lanes.{item_lanes-at}
use Rattle.wq_graph.specs.declared.arc.WaitArc.{WaitArc}
use Rattle.wq_graph.specs.Graph.{IsArc, arcs_at, lane_graph}
use Rattle.wq_graph.proofs.Graphs.{AreArcsFrom-lane_graph}
use Rattle.wq_graph.proofs.LeavingOut.{Contains-without}
use Rattle.wq_fixed.specs.Fixed.{Fixed, fixed_lanes, start}
use Rattle.wq_around.specs.Heights.{start_graph}
use Rattle.wq_around.specs.Down.{LeadsDown, doubts_on, IsTop, GoesFirst, IsBestDown}
use Rattle.wq_around.specs.LongestChain.{IsChainDown, unsure_arcs, tail_of, ComesFirst, IsBestChain}
use Rattle.wq_around.proofs.Descents.{down-above}

module _ (d : Declaration) (f : Fixed) (declaration : IsDeclaration d)
    (assignment : IsAssignment d.groups (start f).assignment) where
  abbrev unsure : ℕ → Bool
  unsure = is_among (unsure_places d.waits)

  -- an arc leaves the lane of its item
  tail : (p : ℕ) (x : WaitArc) → Contains (arcs_at (start_graph d f) p) x → tail_of d f x ≡ p
  tail p x there =
      let lanes : List ℕ = item_lanes (start f).assignment d.group_of in
      let arcs : List WaitArc = arcs_at (lane_graph d (start f).assignment) p in
      let was = Contains-without f.bare (lane_graph d (start f).assignment) p x there in
      let is = All-contains (λ (a : WaitArc). IsArc d.waits lanes a × (slice_index lanes a.src ≡ p)) arcs x
      (AreArcsFrom-lane_graph d (start f).assignment declaration assignment p).declared was.2 in
      let declared = is.0.declared in
      let item = waiting-item d declaration x.src x.dst (declared.0, declared.1, declared.2, declared.3, declared.4.0)
      in
      sym (item_lanes-at (start f).assignment d.group_of x.src item) ∙ is.1

  comes_first : (heights : List ℕ) (p q : ℕ) (arcs others : List WaitArc)
      → LeadsDown (start_graph d f) (fixed_lanes f) heights p arcs
      → LeadsDown (start_graph d f) (fixed_lanes f) heights q others
      → GoesFirst p arcs q others → ComesFirst d f arcs others
  comes_first heights p q [] others down other first = tt
  comes_first heights p q (x ∷ arcs) [] down other first = tt
  comes_first heights p q (x ∷ arcs) (y ∷ others) down other (inl less) =
      inl (omega (arith, less, tail p x down.0, tail q y other.0))
  comes_first heights p q (x ∷ arcs) (y ∷ others) down other (inr (here, inl less)) =
      inr (omega (arith, here, tail p x down.0, tail q y other.0), inl less)
  comes_first heights p q (x ∷ arcs) (y ∷ others) down other (inr (here, inr (same, rest))) =
      inr (
        omega (arith, here, tail p x down.0, tail q y other.0),
        inr (same, comes_first heights x.head y.head arcs others down.3 other.3 rest),
      )

  count : (arcs : List WaitArc) → length (unsure_arcs d arcs) ≡ doubts_on unsure arcs
  count arcs = length-filter (λ (a : WaitArc). unsure a.place) arcs

  pub IsBestChain-down : (heights : List ℕ) (most : ℕ) (chain : List WaitArc)
      → IsBestDown unsure (start_graph d f) (fixed_lanes f) heights most chain → IsBestChain d f heights most chain
  IsBestChain-down heights most chain best = record {
    down = record { first = best.begin; new = best.top.0; highest = best.top.2; down = best.down };
    fewest = λ other is.
        omega (arith, count chain, count other, best.fewest is.first other (top other is) is.down);
    first = λ other is same.
        comes_first heights best.begin is.first chain other best.down is.down
        (best.first is.first other (top other is) is.down (omega (arith, count chain, count other, same)));
  }
    where
      top : (other : List WaitArc) (is : IsChainDown d f heights most other)
          → IsTop (fixed_lanes f) heights most is.first
      top other is =
          let some = down-above (start_graph d f) (fixed_lanes f) heights is.first other is.down in (
            is.new,
            elim (cases_lt is.first (length heights)) [
              | inl within ↦ within
              | inr past ↦ absurd (omega (arith, some, get_or_past heights is.first 0 past))
            ],
            is.highest,
          )

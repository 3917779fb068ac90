-- The assignment in which workqueues that lead to one another are joined.
use Rattle.std.proofs.Common.{◌≡◌, ℕ, ◌+◌, ◌<◌, ◌≤◌, ◌==◌, not, inl, Bool, List, [], ◌∷◌, ◌++◌, length, map, get_or, take, cond, true, false, append-nil, refl, sym, ap, subst, ◌∙◌, arith}
use Rattle.std.specs.Prelude.{Some, slice_get, slice_index}
use Rattle.std.specs.List.{All, filter, range_with_len}
use Rattle.std.proofs.lemmas.Bool.{cond-true, cond-false}
use Rattle.std.proofs.lemmas.List.{map_push, map_more, length-map}
use Rattle.std.proofs.lemmas.List.Elements.{All-map}
use Rattle.std.proofs.lemmas.List.FromFn.{length-map-range_with_len, filter_of_map_range_with_len_more}
use Rattle.std.proofs.lemmas.Option.{get_or_from_slice_get, slice_get-get_or}
use Rattle.wq_groups.specs.Declaration.{Declaration}
use Rattle.wq_groups.specs.Assignment.{Assignment, IsAssignment, item_lanes}
use Rattle.wq_graph.specs.declared.arc.WaitArc.{WaitArc}
use Rattle.wq_graph.specs.Graph.{HasArc, arcs_from, lane_graph}
use Rattle.wq_graph.proofs.LeavingOut.{length-without}
use Rattle.wq_circles.specs.Leading.{AreLowest}
use Rattle.wq_circles.specs.Components.{joined, kept_graph, loops_at}

-- what is at a place within a list isn't the default
pub same_default : (xs : List ℕ) (k d : ℕ) → k < length xs → get_or xs k d ≡ slice_index xs k
same_default xs k d within = get_or_from_slice_get xs k (slice_index xs k) d (slice_get-get_or xs k 0 within)

-- a vertex is together with itself, so no lowest one is above n
pub AreLowest-within : (R : ℕ → ℕ → Type 0) (n : ℕ) (lowest : List ℕ) → AreLowest R n lowest → All (λ q. q < n) lowest
AreLowest-within R n lowest are k d within =
    let least : slice_index lowest k ≤ k = (are.is k (omega (arith, within, are.one_each))).least k (inl refl) in
    omega (arith, least, within, are.one_each, same_default lowest k d within)

pub joined-within : (a : Assignment) (lowest : List ℕ) → length lowest ≡ a.lanes → All (λ q. q < a.lanes) lowest → All (λ l. l < a.lanes) a.lane_of_group → All (λ l. l < a.lanes) (joined a lowest).lane_of_group
joined-within a lowest long low within =
    All-map (λ l. l < a.lanes) (slice_index lowest) a.lane_of_group (λ k d inside.
    let lane : get_or a.lane_of_group k d < a.lanes = within k d inside in
    low (get_or a.lane_of_group k d) 0 (omega (arith, lane, long))
    )

pub IsAssignment-joined : (R : ℕ → ℕ → Type 0) (groups : ℕ) (a : Assignment) (lowest : List ℕ) → AreLowest R a.lanes lowest → IsAssignment groups a → IsAssignment groups (joined a lowest)
IsAssignment-joined R groups a lowest are assignment = record {
  one_each = length-map a.lane_of_group (slice_index lowest) ∙ assignment.one_each;
  within = joined-within a lowest are.one_each (AreLowest-within R a.lanes lowest are) assignment.within;
}

-- the lane of one more group: q is its lane, and l is found for q
pub joined-more : (lowest lanes done new : List ℕ) (g q number at l : ℕ) → g < length lanes → slice_get lanes g ≡ Some q → done ≡ map (slice_index lowest) (take g lanes) → number ≡ q → at ≡ number → l ≡ slice_index lowest at
    → new ≡ done ++ (l ∷ []) → new ≡ map (slice_index lowest) (take (g + 1) lanes)
joined-more lowest lanes done new g q number at l within lane so_far is same found pushed =
    let own : l ≡ slice_index lowest (get_or lanes g 0) = found ∙ ap (slice_index lowest) (same ∙ is ∙ sym (get_or_from_slice_get lanes g q 0 lane)) in
    pushed
    ∙ ap (λ (ls : List ℕ). ls ++ (l ∷ [])) so_far
    ∙ ap (λ (p : ℕ). map (slice_index lowest) (take g lanes) ++ (p ∷ [])) own
    ∙ sym (map_more (slice_index lowest) lanes g 0 within)

pub map-pushed : {X Y : Type 0} (f : X → Y) (xs new : List X) (x : X) → new ≡ xs ++ (x ∷ []) → map f new ≡ map f xs ++ (f x ∷ [])
map-pushed f xs new x pushed = ap (map f) pushed ∙ map_push f xs x

-- the loops of the vertices below v
abbrev pub loops_below : List (List WaitArc) → ℕ → List (List WaitArc)
loops_below graph v = filter (λ (arcs : List WaitArc). not (length arcs == 0)) (map (loops_at graph) (range_with_len 0 v))

loops_below-more : (graph : List (List WaitArc)) (v : ℕ) → loops_below graph (v + 1) ≡ loops_below graph v ++ cond (not (length (loops_at graph v) == 0)) (loops_at graph v ∷ []) []
loops_below-more graph v = filter_of_map_range_with_len_more (λ (arcs : List WaitArc). not (length arcs == 0)) (loops_at graph) 0 v v (omega arith)

-- one more vertex, with a loop or without one, where n is the number of its loops
pub loops_below-some : (graph : List (List WaitArc)) (v n : ℕ) (done new : List (List WaitArc)) (arcs : List WaitArc) → done ≡ loops_below graph v → arcs ≡ loops_at graph v → n ≡ length arcs → false ≡ (n == 0)
    → new ≡ done ++ (arcs ∷ []) → new ≡ loops_below graph (v + 1)
loops_below-some graph v n done new arcs so_far is long some pushed =
    let full : not (length (loops_at graph v) == 0) ≡ true = ap (λ (l : List WaitArc). not (length l == 0)) (sym is) ∙ ap (λ (m : ℕ). not (m == 0)) (sym long) ∙ ap not (sym some) in
    pushed
    ∙ ap (λ (l : List (List WaitArc)). l ++ (arcs ∷ [])) so_far
    ∙ ap (λ (l : List WaitArc). loops_below graph v ++ (l ∷ [])) is
    ∙ ap (λ (l : List (List WaitArc)). loops_below graph v ++ l) (sym (cond-true (not (length (loops_at graph v) == 0)) (loops_at graph v ∷ []) [] full))
    ∙ sym (loops_below-more graph v)

pub loops_below-none : (graph : List (List WaitArc)) (v n : ℕ) (done : List (List WaitArc)) (arcs : List WaitArc) → done ≡ loops_below graph v → arcs ≡ loops_at graph v → n ≡ length arcs → true ≡ (n == 0)
    → done ≡ loops_below graph (v + 1)
loops_below-none graph v n done arcs so_far is long none =
    let empty : not (length (loops_at graph v) == 0) ≡ false = ap (λ (l : List WaitArc). not (length l == 0)) (sym is) ∙ ap (λ (m : ℕ). not (m == 0)) (sym long) ∙ ap not (sym none) in
    so_far
    ∙ sym (append-nil (loops_below graph v))
    ∙ ap (λ (l : List (List WaitArc)). loops_below graph v ++ l) (sym (cond-false (not (length (loops_at graph v) == 0)) (loops_at graph v ∷ []) [] empty))
    ∙ sym (loops_below-more graph v)

-- the lowest vertices of the graph of the lanes that aren't bare, one for each lane
pub AreLowest-graph : (d : Declaration) (a : Assignment) (bare : List Bool) (graph : List (List WaitArc)) (lowest : List ℕ) → graph ≡ kept_graph d a bare → AreLowest (HasArc graph) (length graph) lowest
    → AreLowest (HasArc (kept_graph d a bare)) a.lanes lowest
AreLowest-graph d a bare graph lowest is are =
    subst (λ (n : ℕ). AreLowest (HasArc (kept_graph d a bare)) n lowest) (length-without bare (lane_graph d a) ∙ length-map-range_with_len (arcs_from d.waits (item_lanes a d.group_of)) 0 a.lanes)
    (subst (λ (h : List (List WaitArc)). AreLowest (HasArc h) (length h) lowest) is are)

-- if there is a group, there is a lane
pub some_lane : (groups : ℕ) (a : Assignment) → length a.lane_of_group ≡ groups → All (λ l. l < a.lanes) a.lane_of_group → 0 < groups → 0 < a.lanes
some_lane groups a long within some =
    let first : get_or a.lane_of_group 0 0 < a.lanes = within 0 0 (omega (arith, long, some)) in
    omega (arith, first)

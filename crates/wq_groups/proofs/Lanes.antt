-- The lanes of items, each the lane of its group.
use Rattle.std.proofs.Common.{◌≡◌, ℕ, ◌+◌, ◌<◌, List, [], ◌∷◌, ◌++◌, length, get_or, take, Some, sym, ap, ◌∙◌, arith}
use Rattle.std.specs.Prelude.{slice_get, slice_index}
use Rattle.std.specs.List.{All}
use Rattle.std.proofs.lemmas.List.{get_or-map, map_more}
use Rattle.std.proofs.lemmas.List.Elements.{All-map}
use Rattle.std.proofs.lemmas.Option.{get_or_from_slice_get}
use Rattle.wq_groups.specs.Assignment.{Assignment, IsAssignment, group_lane, item_lane, item_lanes}

-- the lane of an item in the list
pub item_lanes-at : (a : Assignment) (group_of : List ℕ) (i : ℕ) → i < length group_of → slice_index (item_lanes a group_of) i ≡ item_lane a group_of i
item_lanes-at a group_of i within = get_or-map (group_lane a) group_of i 0 0 within

-- each group has one of the lanes, so each item has
pub item_lanes-within : (group_of : List ℕ) (groups : ℕ) (a : Assignment) → All (λ g. g < groups) group_of → IsAssignment groups a → All (λ l. l < a.lanes) (item_lanes a group_of)
item_lanes-within group_of groups a within assignment =
    All-map (λ l. l < a.lanes) (group_lane a) group_of (λ k d below. let inside : get_or group_of k d < groups = within k d below in assignment.within (get_or group_of k d) 0 (omega (arith, assignment.one_each, inside)))

-- the lane of one more item
pub item_lanes-more : (a : Assignment) (group_of lanes new : List ℕ) (i g l : ℕ) → i < length group_of → slice_get group_of i ≡ Some g → slice_get a.lane_of_group g ≡ Some l
    → lanes ≡ item_lanes a (take i group_of) → new ≡ lanes ++ (l ∷ []) → new ≡ item_lanes a (take (i + 1) group_of)
item_lanes-more a group_of lanes new i g l within group lane so_far pushed =
    let at : group_lane a (get_or group_of i 0) ≡ l = ap (group_lane a) (get_or_from_slice_get group_of i g 0 group) ∙ get_or_from_slice_get a.lane_of_group g l 0 lane in
    pushed
    ∙ ap (λ (ls : List ℕ). ls ++ (l ∷ [])) so_far
    ∙ ap (λ (n : ℕ). item_lanes a (take i group_of) ++ (n ∷ [])) (sym at)
    ∙ sym (map_more (group_lane a) group_of i 0 within)

-- The groups of the workqueues.
use Rattle.std.proofs.Common.{◌≡◌, ℕ, ◌<◌, ◌==◌, List, [], length, get_or, sym, ap, subst, ◌∙◌, arith}
use Rattle.std.specs.List.{All, range_with_len}
use Rattle.std.proofs.lemmas.List.Elements.{All-filter}
use Rattle.std.proofs.lemmas.List.FromFn.{get_or-map-range_with_len}
use Rattle.wq_buckets.specs.Places.{buckets_of}
use Rattle.wq_items.specs.Table.{items_at}
use Rattle.wq_items.proofs.Lists.{range_with_len-below}
use Rattle.wq_groups.specs.Assignment.{Assignment, group_lane}
use Rattle.wq_dot.specs.Drawing.{groups_on}

-- the groups on a workqueue are its bucket
pub groups_on-bucket : (a : Assignment) (lanes : List ℕ) (buckets : List (List ℕ)) (q : ℕ) (own : List ℕ) → lanes ≡ a.lane_of_group → buckets ≡ buckets_of lanes a.lanes → q < a.lanes → own ≡ get_or buckets q [] → own ≡ groups_on a q
groups_on-bucket a lanes buckets q own are made below is =
    is
    ∙ ap (λ (bs : List (List ℕ)). get_or bs q []) (made ∙ ap (λ (ls : List ℕ). buckets_of ls a.lanes) are)
    ∙ get_or-map-range_with_len (groups_on a) 0 a.lanes q q [] below (omega arith)

-- the groups on a workqueue are groups
pub groups_on-below : (a : Assignment) (groups q : ℕ) → length a.lane_of_group ≡ groups → All (λ g. g < groups) (groups_on a q)
groups_on-below a groups q long =
    All-filter (λ g. group_lane a g == q) (λ g. g < groups) (range_with_len 0 (length a.lane_of_group)) (subst (λ n. All (λ g. g < groups) (range_with_len 0 n)) (sym long) (range_with_len-below groups))

-- the items of a group are items
pub items_at-below : (group_of : List ℕ) (n g : ℕ) → length group_of ≡ n → All (λ i. i < n) (items_at group_of g)
items_at-below group_of n g long =
    All-filter (λ i. get_or group_of i 0 == g) (λ i. i < n) (range_with_len 0 (length group_of)) (subst (λ m. All (λ i. i < n) (range_with_len 0 m)) (sym long) (range_with_len-below n))

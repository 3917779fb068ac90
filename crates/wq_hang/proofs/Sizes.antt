-- A search keeps the numbers of items and lanes.
use Rattle.std.proofs.Common.{◌≡◌, ℕ, ◌+◌, Bool, true, false, ltb, List, [], ◌∷◌, length, set, refl, ◌∙◌}
use Rattle.std.specs.Prelude.{fold, slice_index, slice_index_or, if◌then◌else◌}
use Rattle.std.proofs.lemmas.List.{length-set}
use Rattle.wq_items.specs.declared.target.Target.{Target}
use Rattle.wq_core.specs.Wiring.{Wiring, lane_of}
use Rattle.wq_hang.specs.declared.hop.Hop.{Hop}
use Rattle.wq_hang.specs.Search.{Reach, with_todo, reached, reach, hop_to, reach_all, with_lane_cost, reach_lane, step}
use Rattle.wq_hang.specs.Search.{lane_step, most_of_use, to_target, to_lane, to_both, follow}
use Rattle.wq_hang.specs.WaysFor.{begin_all, begin_at, follow_below}

-- as many items and lanes
pub record AsLarge (s r : Reach) : Type 0 where
  pub one_each : length r.costs ≡ length s.costs
  pub by_each : length r.by ≡ length s.by
  pub lanes_each : length r.lane_costs ≡ length s.lane_costs

pub AsLarge-same : (s : Reach) → AsLarge s s
AsLarge-same s = record { one_each = refl; by_each = refl; lanes_each = refl }

pub AsLarge-both : (s r t : Reach) → AsLarge s r → AsLarge r t → AsLarge s t
AsLarge-both s r t one two = record { one_each = two.one_each ∙ one.one_each; by_each = two.by_each ∙ one.by_each; lanes_each = two.lanes_each ∙ one.lanes_each }

pub AsLarge-reach : (near : Bool) (cost : ℕ) (s : Reach) (h : Hop) → AsLarge s (reach near cost s h)
AsLarge-reach near cost s h = by (ltb cost (slice_index s.costs h.next))
  where
    by : (b : Bool) → AsLarge s (if b then reached near cost s h else s)
    by true = record { one_each = length-set s.costs h.next cost; by_each = length-set s.by h.next h; lanes_each = refl }
    by false = AsLarge-same s

pub AsLarge-all : (near : Bool) (cost : ℕ) (i : ℕ) (t : Target) (js : List ℕ) (s : Reach) → AsLarge s (reach_all near cost i t js s)
AsLarge-all near cost i t [] s = AsLarge-same s
AsLarge-all near cost i t (j ∷ js) s =
    let r : Reach = reach near cost s (hop_to i t j) in
    AsLarge-both s r (reach_all near cost i t js r) (AsLarge-reach near cost s (hop_to i t j)) (AsLarge-all near cost i t js r)

pub AsLarge-lane : (near : Bool) (cost : ℕ) (i : ℕ) (t : Target) (q : ℕ) (js : List ℕ) (s : Reach) → AsLarge s (reach_lane near cost i t q js s)
AsLarge-lane near cost i t q js s = by (ltb cost (slice_index s.lane_costs q))
  where
    by : (b : Bool) → AsLarge s (if b then with_lane_cost q cost (reach_all near cost i t js s) else s)
    by true =
        let all = AsLarge-all near cost i t js s in
        record { one_each = all.one_each; by_each = all.by_each; lanes_each = length-set (reach_all near cost i t js s).lane_costs q cost ∙ all.lanes_each }
    by false = AsLarge-same s

AsLarge-target : (most i cost : ℕ) (s : Reach) (t : Target) → AsLarge s (to_target most i cost s t)
AsLarge-target most i cost s t = by (ltb (cost + step t) most)
  where
    by : (b : Bool) → AsLarge s (if b then reach true (cost + step t) s (hop_to i t t.item) else s)
    by true = AsLarge-reach true (cost + step t) s (hop_to i t t.item)
    by false = AsLarge-same s

AsLarge-to_lane : (w : Wiring) (on : List (List ℕ)) (most i cost : ℕ) (s : Reach) (t : Target)
    → AsLarge s (to_lane w on most i cost s t)
AsLarge-to_lane w on most i cost s t = by (ltb (cost + lane_step t) most)
  where
    by : (b : Bool) → AsLarge s (if b then reach_lane t.whole (cost + lane_step t) i t (lane_of w t.item)
        (slice_index_or on (lane_of w t.item) []) s else s)
    by true = AsLarge-lane t.whole (cost + lane_step t) i t (lane_of w t.item)
        (slice_index_or on (lane_of w t.item) []) s
    by false = AsLarge-same s

pub AsLarge-follow : (w : Wiring) (on : List (List ℕ)) (bounds : List ℕ) (first i cost : ℕ) (s : Reach) (t : Target)
    → AsLarge s (follow w on bounds first i cost s t)
AsLarge-follow w on bounds first i cost s t = by (slice_index_or w.bare (lane_of w t.item) false)
  where
    most : ℕ
    most = most_of_use w bounds first s (lane_of w t.item)

    by : (b : Bool) → AsLarge s (if b then s else to_both w on most i cost s t)
    by true = AsLarge-same s
    by false = AsLarge-both s (to_target most i cost s t) (to_both w on most i cost s t)
        (AsLarge-target most i cost s t) (AsLarge-to_lane w on most i cost (to_target most i cost s t) t)

pub AsLarge-follows : (w : Wiring) (on : List (List ℕ)) (bounds : List ℕ) (first i cost : ℕ) (ts : List Target)
    (s : Reach) → AsLarge s (fold (follow w on bounds first i cost) s ts)
AsLarge-follows w on bounds first i cost [] s = AsLarge-same s
AsLarge-follows w on bounds first i cost (t ∷ ts) s =
    let r : Reach = follow w on bounds first i cost s t in
    AsLarge-both s r (fold (follow w on bounds first i cost) r ts) (AsLarge-follow w on bounds first i cost s t)
    (AsLarge-follows w on bounds first i cost ts r)

-- ---- the same where a search has no round to look out for

pub AsLarge-follow_below : (w : Wiring) (on : List (List ℕ)) (limit i cost : ℕ) (s : Reach) (t : Target)
    → AsLarge s (follow_below w on limit i cost s t)
AsLarge-follow_below w on limit i cost s t = by (slice_index_or w.bare (lane_of w t.item) false)
  where
    by : (b : Bool) → AsLarge s (if b then s else to_both w on limit i cost s t)
    by true = AsLarge-same s
    by false = AsLarge-both s (to_target limit i cost s t) (to_both w on limit i cost s t)
        (AsLarge-target limit i cost s t) (AsLarge-to_lane w on limit i cost (to_target limit i cost s t) t)

pub AsLarge-follows_below : (w : Wiring) (on : List (List ℕ)) (limit i cost : ℕ) (ts : List Target) (s : Reach)
    → AsLarge s (fold (follow_below w on limit i cost) s ts)
AsLarge-follows_below w on limit i cost [] s = AsLarge-same s
AsLarge-follows_below w on limit i cost (t ∷ ts) s =
    let r : Reach = follow_below w on limit i cost s t in
    AsLarge-both s r (fold (follow_below w on limit i cost) r ts) (AsLarge-follow_below w on limit i cost s t)
    (AsLarge-follows_below w on limit i cost ts r)

-- ---- and where ways begin

pub AsLarge-begin_at : (near : Bool) (cost : ℕ) (s : Reach) (i : ℕ) → AsLarge s (begin_at near cost s i)
AsLarge-begin_at near cost s i = by (ltb cost (slice_index s.costs i))
  where
    by : (b : Bool) → AsLarge s (if b then with_todo near false i (record s { costs = set s.costs i cost }) else s)
    by true = record { one_each = length-set s.costs i cost; by_each = refl; lanes_each = refl }
    by false = AsLarge-same s

pub AsLarge-begin_all : (js : List ℕ) (s : Reach) → AsLarge s (begin_all js s)
AsLarge-begin_all [] s = AsLarge-same s
AsLarge-begin_all (j ∷ js) s =
    let r : Reach = begin_at false 1 s j in
    AsLarge-both s r (begin_all js r) (AsLarge-begin_at false 1 s j) (AsLarge-begin_all js r)

-- The shapes of the lanes, as they are made one by one.
use Rattle.std.proofs.Common.{◌≡◌, ◌≢◌, ℕ, zero, suc, ◌+◌, ◌<◌, ◌≤◌, ◌==◌, ◌||◌, ◌&&◌, ltb, Bool, true, false, List, [], ◌∷◌, length, map, replicate, get_or, set, take, refl, sym, ap, ◌∙◌, arith}
use Rattle.std.specs.Prelude.{slice_get, Some}
use Rattle.std.specs.List.{All, list_any, range_with_len}
use Rattle.std.proofs.lemmas.Option.{slice_get_within, get_or_from_slice_get}
use Rattle.std.proofs.lemmas.Bool.{eq-eqb, ne_eqb}
use Rattle.std.proofs.lemmas.List.{length-take, get_or_default}
use Rattle.std.proofs.lemmas.List.FromFn.{get_or-map-range_with_len}
use Rattle.std.proofs.lemmas.List.Folds.{list_any-append}
use Rattle.std.proofs.lemmas.List.Sums.{count_by-le-length, count_by_more_yes, count_by_more_no}
use Rattle.wq_items.proofs.TableLemmas.{range_with_len-push}
use Rattle.wq_items.specs.Table.{items_at}
use Rattle.wq_groups.specs.Assignment.{Assignment, group_lane}
use Rattle.wq_groups.specs.Partition.{Partition}
use Rattle.wq_core.specs.declared.lane.LaneShape.{LaneShape}
use Rattle.wq_core.specs.Wiring.{count_on, is_ordered_lane}
use Rattle.wq_core.specs.Building.{counted_shape, shape_of}

-- one of n shapes is written, and the others are as they were
set-shapes : (f g : ℕ → LaneShape) (a n q : ℕ) (new : LaneShape) → q < n → new ≡ g (a + q) → ((p : ℕ) → p ≢ a + q → f p ≡ g p)
    → set (map f (range_with_len a n)) q new ≡ map g (range_with_len a n)
set-shapes f g a zero q new lt here others = absurd (omega arith)
set-shapes f g a (suc n) zero new lt here others =
    let e : a + 0 ≡ a = omega arith in
    let is : new ≡ g a = here ∙ ap g e in
    ap (λ (l : LaneShape). l ∷ map f (range_with_len (a + 1) n)) is ∙ ap (λ (ls : List LaneShape). g a ∷ ls) (same n (a + 1) (omega arith))
  where
    same : (m b : ℕ) → a < b → map f (range_with_len b m) ≡ map g (range_with_len b m)
    same zero b past = refl
    same (suc m) b past = ap (λ (l : LaneShape). l ∷ map f (range_with_len (b + 1) m)) (others b (λ e. absurd (omega (arith, e, past)))) ∙ ap (λ (ls : List LaneShape). g b ∷ ls) (same m (b + 1) (omega arith))
set-shapes f g a (suc n) (suc q) new lt here others =
    let e : a + suc q ≡ a + 1 + q = omega arith in
    ap (λ (l : LaneShape). l ∷ set (map f (range_with_len (a + 1) n)) q new) (others a (λ same. absurd (omega (arith, same))))
    ∙ ap (λ (ls : List LaneShape). g a ∷ ls) (set-shapes f g (a + 1) n q new (omega arith) (here ∙ ap g e) (λ p other. others p (λ same. other (same ∙ e))))

-- shapes that are the same one by one
same-shapes : (f g : ℕ → LaneShape) (a n : ℕ) → ((p : ℕ) → f p ≡ g p) → map f (range_with_len a n) ≡ map g (range_with_len a n)
same-shapes f g a zero same = refl
same-shapes f g a (suc n) same = ap (λ (l : LaneShape). l ∷ map f (range_with_len (a + 1) n)) (same a) ∙ ap (λ (ls : List LaneShape). g a ∷ ls) (same-shapes f g (a + 1) n same)

-- the shape at a place
shape_at : (f : ℕ → LaneShape) (shapes : List LaneShape) (n q : ℕ) (old : LaneShape) → q < n → shapes ≡ map f (range_with_len 0 n) → old ≡ get_or shapes q old → old ≡ f q
shape_at f shapes n q old lt are at = at ∙ ap (λ (ls : List LaneShape). get_or ls q old) are ∙ get_or-map-range_with_len f 0 n q q old lt (omega arith)

-- ---- how many items are on each lane

pub shapes-none : (n : ℕ) → replicate n (record { items = 0; ordered = false }) ≡ map (counted_shape []) (range_with_len 0 n)
shapes-none n = none n 0
  where
    none : (m a : ℕ) → replicate m (record { items = 0; ordered = false }) ≡ map (counted_shape []) (range_with_len a m)
    none zero a = refl
    none (suc m) a = ap (λ (ls : List LaneShape). record { items = 0; ordered = false } ∷ ls) (none m (a + 1))

-- item k is on lane q
pub record CountsNext (lane_of_item : List ℕ) (lanes k : ℕ) (shapes : List LaneShape) (q : ℕ) (old : LaneShape) : Type 0 where
  pub item : k < length lane_of_item
  pub lane : q ≡ get_or lane_of_item k q
  pub within : q < lanes
  pub so_far : shapes ≡ map (counted_shape (take k lane_of_item)) (range_with_len 0 lanes)
  pub is : old ≡ counted_shape (take k lane_of_item) q

pub CountsNext-read : (lane_of_item : List ℕ) (lanes k : ℕ) (shapes : List LaneShape) (q read : ℕ) (old : LaneShape) → k < length lane_of_item → All (λ l. l < lanes) lane_of_item → q ≡ read → read ≡ get_or lane_of_item k read
    → shapes ≡ map (counted_shape (take k lane_of_item)) (range_with_len 0 lanes) → old ≡ get_or shapes q old → CountsNext lane_of_item lanes k shapes q old
CountsNext-read lane_of_item lanes k shapes q read old item within same at so_far is =
    let lane : q ≡ get_or lane_of_item k q = same ∙ at ∙ get_or_default lane_of_item k read q item in
    let below : q < lanes = omega (arith, lane, within k q item) in
    record { item = item; lane = lane; within = below; so_far = so_far; is = shape_at (counted_shape (take k lane_of_item)) shapes lanes q old below so_far is }

pub counts-within : (lane_of_item : List ℕ) (lanes k q read : ℕ) → k < length lane_of_item → All (λ l. l < lanes) lane_of_item → q ≡ read → read ≡ get_or lane_of_item k read → q < lanes
counts-within lane_of_item lanes k q read item within same at =
    let lane : q ≡ get_or lane_of_item k q = same ∙ at ∙ get_or_default lane_of_item k read q item in
    omega (arith, lane, within k q item)

-- they are fewer than the items
pub counted-few : (lane_of_item : List ℕ) (lanes k : ℕ) (shapes : List LaneShape) (q : ℕ) (old : LaneShape) → CountsNext lane_of_item lanes k shapes q old → old.items < length lane_of_item
counted-few lane_of_item lanes k shapes q old next =
    let count : old.items ≡ count_on (take k lane_of_item) q = ap (λ (l : LaneShape). l.items) next.is in
    omega (arith, next.item, count, count_by-le-length (λ (l : ℕ). l == q) (take k lane_of_item), length-take k lane_of_item)

-- one more item is counted
pub counted-more : (lane_of_item : List ℕ) (lanes k : ℕ) (shapes : List LaneShape) (q : ℕ) (old new : LaneShape) → CountsNext lane_of_item lanes k shapes q old → new ≡ record { items = old.items + 1; ordered = old.ordered }
    → set shapes q new ≡ map (counted_shape (take (k + 1) lane_of_item)) (range_with_len 0 lanes)
counted-more lane_of_item lanes k shapes q old new next is =
    ap (λ (ls : List LaneShape). set ls q new) next.so_far ∙ set-shapes (counted_shape (take k lane_of_item)) (counted_shape (take (k + 1) lane_of_item)) 0 lanes q new next.within (here ∙ ap (counted_shape (take (k + 1) lane_of_item)) from_zero) (λ p other. others p (λ same. other (same ∙ from_zero)))
  where
    from_zero : q ≡ 0 + q
    from_zero = omega arith

    here : new ≡ counted_shape (take (k + 1) lane_of_item) q
    here =
        is
        ∙ ap (λ (l : LaneShape). record { items = l.items + 1; ordered = l.ordered }) next.is
        ∙ ap (λ (n : ℕ). record { items = n; ordered = false }) (sym (count_by_more_yes (λ (l : ℕ). l == q) lane_of_item k q next.item (eq-eqb (get_or lane_of_item k q) q (sym next.lane))))

    others : (p : ℕ) → p ≢ q → counted_shape (take k lane_of_item) p ≡ counted_shape (take (k + 1) lane_of_item) p
    others p other =
        ap (λ (n : ℕ). record { items = n; ordered = false }) (sym (count_by_more_no (λ (l : ℕ). l == p) lane_of_item k q next.item (ne_eqb (get_or lane_of_item k q) p (λ e. other (sym (next.lane ∙ e))))))

-- ---- which lanes are ordered

-- the lane of a group, as it is read
pub group-read : (a : Assignment) (g k q l : ℕ) → g ≡ k → slice_get a.lane_of_group g ≡ Some l → q ≡ l → All (λ (x : ℕ). x < a.lanes) a.lane_of_group → (q ≡ group_lane a k) × (q < a.lanes)
group-read a g k q l same at is within =
    let there : g < length a.lane_of_group = slice_get_within a.lane_of_group g l at in
    let lane : get_or a.lane_of_group g 0 ≡ l = get_or_from_slice_get a.lane_of_group g l 0 at in
    (is ∙ sym lane ∙ ap (group_lane a) same, omega (arith, is, lane, within g 0 there))

module _ (a : Assignment) (p : Partition) (lane_of_item : List ℕ) (lanes : ℕ) where
  -- the shape of lane q, if only the first k groups are looked at
  abbrev pub shape_before : ℕ → ℕ → LaneShape
  shape_before k q = shape_of a (record { group_of = p.group_of; groups = k }) lane_of_item q

  abbrev is_big_on : ℕ → ℕ → Bool
  is_big_on q g = (group_lane a g == q) && ltb 1 (length (items_at p.group_of g))

  or-false : (b : Bool) → (b || false) ≡ b
  or-false true = refl
  or-false false = refl

  or-true : (b : Bool) → (b || true) ≡ true
  or-true true = refl
  or-true false = refl

  and-false : (b : Bool) → (b && false) ≡ false
  and-false true = refl
  and-false false = refl

  -- one more group
  ordered-more : (k q : ℕ) → is_ordered_lane a p.group_of (k + 1) q ≡ (is_ordered_lane a p.group_of k q || is_big_on q k)
  ordered-more k q =
      ap (list_any (is_big_on q)) (range_with_len-push k)
      ∙ list_any-append (is_big_on q) (range_with_len 0 k) (k ∷ [])
      ∙ ap (λ (b : Bool). is_ordered_lane a p.group_of k q || b) (or-false (is_big_on q k))

  kept : (k q : ℕ) → is_big_on q k ≡ false → shape_before k q ≡ shape_before (k + 1) q
  kept k q small =
      let same : is_ordered_lane a p.group_of (k + 1) q ≡ is_ordered_lane a p.group_of k q = ordered-more k q ∙ ap (λ (b : Bool). is_ordered_lane a p.group_of k q || b) small ∙ or-false (is_ordered_lane a p.group_of k q) in
      ap (λ (b : Bool). record { items = count_on lane_of_item q; ordered = b }) (sym same)

  -- a group of one item changes nothing
  pub small-group : (k n : ℕ) (shapes : List LaneShape) → length (items_at p.group_of k) ≡ n → n ≤ 1 → shapes ≡ map (shape_before k) (range_with_len 0 lanes) → shapes ≡ map (shape_before (k + 1)) (range_with_len 0 lanes)
  small-group k n shapes size few so_far =
      let small : ltb 1 (length (items_at p.group_of k)) ≡ false = grind (arith, size, few) in
      so_far ∙ same-shapes (shape_before k) (shape_before (k + 1)) 0 lanes (λ q. kept k q (ap (λ (b : Bool). (group_lane a k == q) && b) small ∙ and-false (group_lane a k == q)))

  -- the lane of a greater one is ordered
  pub big-group : (k n q : ℕ) (shapes : List LaneShape) (old new : LaneShape) → length (items_at p.group_of k) ≡ n → 1 < n → q ≡ group_lane a k → q < lanes → old ≡ get_or shapes q old → new ≡ record { items = old.items; ordered = true }
      → shapes ≡ map (shape_before k) (range_with_len 0 lanes) → set shapes q new ≡ map (shape_before (k + 1)) (range_with_len 0 lanes)
  big-group k n q shapes old new size more lane within at is so_far =
      ap (λ (ls : List LaneShape). set ls q new) so_far ∙ set-shapes (shape_before k) (shape_before (k + 1)) 0 lanes q new within (here ∙ ap (shape_before (k + 1)) from_zero) (λ r other. kept k r (ap (λ (b : Bool). b && ltb 1 (length (items_at p.group_of k))) (ne_eqb (group_lane a k) r (λ e. other (sym (lane ∙ e) ∙ from_zero)))))
    where
      from_zero : q ≡ 0 + q
      from_zero = omega arith

      big : ltb 1 (length (items_at p.group_of k)) ≡ true
      big = grind (arith, size, more)

      here : new ≡ shape_before (k + 1) q
      here =
          let was : old ≡ shape_before k q = shape_at (shape_before k) shapes lanes q old within so_far at in
          let passes : is_big_on q k ≡ true = ap (λ (b : Bool). b && ltb 1 (length (items_at p.group_of k))) (eq-eqb (group_lane a k) q (sym lane)) ∙ big in
          let ordered : is_ordered_lane a p.group_of (k + 1) q ≡ true = ordered-more k q ∙ ap (λ (b : Bool). is_ordered_lane a p.group_of k q || b) passes ∙ or-true (is_ordered_lane a p.group_of k q) in
          is ∙ ap (λ (l : LaneShape). record { items = l.items; ordered = true }) was ∙ ap (λ (b : Bool). record { items = count_on lane_of_item q; ordered = b }) (sym ordered)

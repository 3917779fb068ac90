-- Flushes that fall by an order of workqueues, around fixed ones.
use Rattle.std.proofs.Common.{◌≡◌, ℕ, ◌<◌, ◌≤◌, Bool, false, List, length, map, get_or, Option, None, Some, IfSome}
use Rattle.std.proofs.Common.{IfNone, refl, sym, ap, subst, ◌∙◌, arith}
use Rattle.std.specs.List.{All, range_with_len}
use Rattle.std.proofs.lemmas.List.FromFn.{get_or-map-range_with_len}
use Rattle.wq_items.specs.declared.target.Target.{Target}
use Rattle.wq_items.specs.Table.{ItemWaits}
use Rattle.wq_groups.specs.Declaration.{Declaration, IsDeclaration}
use Rattle.wq_groups.specs.Assignment.{Assignment, IsAssignment, item_lane}
use Rattle.wq_groups.proofs.Declarations.{waiting-item, awaited-item}
use Rattle.wq_groups.proofs.Lanes.{item_lanes-at}
use Rattle.wq_core.specs.Wiring.{lane_of}
use Rattle.wq_core.specs.Workqueues.{wiring_of}
use Rattle.wq_fixed.specs.Fixed.{Fixed}
use Rattle.wq_cert.specs.AroundReading.{AroundPlan}
use Rattle.wq_checker.specs.declared.falling.DeclaredFlush.{DeclaredFlush}
use Rattle.wq_checker.specs.Falling.{Declares}
use Rattle.wq_checker.specs.Searching.{FindsFirst, OfItemsBelow}
use Rattle.wq_checker.specs.SearchingAround.{FallsTo, ItemsFall, AllItemsFall, FindsNotFalling, IsFirstItemStaying}
use Rattle.wq_checker.specs.Around.{planned, place_in, FallsAround, AllFallAround, IsFirstNotFallingAround}
use Rattle.wq_checker.proofs.FallingLemmas.{Declares-ItemWaits, falls_found, first_found}

-- ---- what is found

module _ (d : Declaration) (a : Assignment) (bare : List Bool) (places : List ℕ) where
  pub IsFirstItemStaying-found : (n : ℕ) (flush : DeclaredFlush) → length d.waits ≤ n
      → FindsFirst (ItemsFall d a bare places) (OfItemsBelow d n) (Some flush)
      → IsFirstItemStaying d a bare places flush.item flush.target.item
  IsFirstItemStaying-found n flush all found = record {
    target = flush.target;
    declares = found.there.1;
    of_target = refl;
    stays = found.stays;
    first = first_found d (ItemsFall d a bare places) n flush all found;
  }

  pub AllItemsFall-found : (n : ℕ) → length d.waits ≤ n → FindsFirst (ItemsFall d a bare places) (OfItemsBelow d n) None
      → AllItemsFall d a bare places
  AllItemsFall-found n all found = falls_found d (ItemsFall d a bare places) n all found

  -- by the lanes of the two items
  pub ItemsFall-lanes : (i j p q : ℕ) → p ≡ item_lane a d.group_of i → q ≡ item_lane a d.group_of j
      → FallsTo bare places p q → ItemsFall d a bare places i j
  ItemsFall-lanes i j p q one other falls =
      subst (λ (l : ℕ). FallsTo bare places l (item_lane a d.group_of j)) one
      (subst (λ (l : ℕ). FallsTo bare places p l) other falls)

  pub lanes-ItemsFall : (i j p q : ℕ) → p ≡ item_lane a d.group_of i → q ≡ item_lane a d.group_of j
      → ItemsFall d a bare places i j → FallsTo bare places p q
  lanes-ItemsFall i j p q one other falls =
      subst (λ (l : ℕ). FallsTo bare places l q) (sym one)
      (subst (λ (l : ℕ). FallsTo bare places (item_lane a d.group_of i) l) (sym other) falls)

-- the lane of an item is one of the lanes
pub item_lane-below : (a : Assignment) (group_of : List ℕ) (groups i : ℕ) → All (λ g. g < groups) group_of
    → length a.lane_of_group ≡ groups → All (λ l. l < a.lanes) a.lane_of_group
    → i < length group_of → item_lane a group_of i < a.lanes
item_lane-below a group_of groups i each one_each lanes within =
    let group : get_or group_of i 0 < groups = each i 0 within in
    lanes (get_or group_of i 0) 0 (omega (arith, one_each, group))

-- a flush from lane p, at place x, to lane q, at place y, falls
abbrev AtPlaces : List Bool → ℕ → ℕ → ℕ → ℕ → Type 0
AtPlaces bare p q x y = get_or bare p false ≡ false → (get_or bare q false ≡ false) × (y < x)

AtPlaces-same : (bare : List Bool) (p r q s x u y v : ℕ) → p ≡ r → q ≡ s → x ≡ u → y ≡ v → AtPlaces bare p q x y
    → AtPlaces bare r s u v
AtPlaces-same bare p r q s x u y v one other at_one at_other falls rescued =
    let lower = falls (ap (λ (l : ℕ). get_or bare l false) one ∙ rescued) in
    let less : y < x = lower.1 in
    (ap (λ (l : ℕ). get_or bare l false) (sym other) ∙ lower.0, omega (arith, less, at_one, at_other))

-- the first one that doesn't fall is found, if there is one; otherwise each falls
abbrev pub FindsStaying : Declaration → Assignment → List Bool → List ℕ → Option (ℕ × ℕ) → Type 0
FindsStaying d a bare places o = IfSome o (λ (s : ℕ × ℕ). IsFirstItemStaying d a bare places s.0 s.1) ×
    IfNone o (AllItemsFall d a bare places)

-- ---- by the places in an order

module _ (d : Declaration) (is : IsDeclaration d) (f : Fixed) (c : AroundPlan)
    (assignment : IsAssignment d.groups c.assignment) (places : List ℕ)
    (of : places ≡ map (place_in c.order) (range_with_len 0 c.assignment.lanes)) where
  -- the lane of item i
  abbrev lane : ℕ → ℕ
  lane i = lane_of (wiring_of d (planned f c)) i

  lane-is : (i : ℕ) → i < length d.group_of → lane i ≡ item_lane c.assignment d.group_of i
  lane-is i within = item_lanes-at c.assignment d.group_of i within

  lane-below : (i : ℕ) → i < length d.group_of → item_lane c.assignment d.group_of i < c.assignment.lanes
  lane-below i within = item_lane-below c.assignment d.group_of d.groups i is.partition.within assignment.one_each
      assignment.within within

  place-is : (i : ℕ) → i < length d.group_of
      → place_in c.order (lane i) ≡ get_or places (item_lane c.assignment d.group_of i) 0
  place-is i within =
      let q : ℕ = item_lane c.assignment d.group_of i in
      ap (place_in c.order) (lane-is i within)
      ∙ sym (ap (λ (l : List ℕ). get_or l q 0) of
      ∙ get_or-map-range_with_len (place_in c.order) 0 c.assignment.lanes q q 0 (lane-below i within) (omega arith))

  FallsAround-items : (i j : ℕ) → i < length d.group_of → j < length d.group_of
      → ItemsFall d c.assignment f.bare places i j → FallsAround d f c i j
  FallsAround-items i j one other falls =
      let p : ℕ = item_lane c.assignment d.group_of i in
      let q : ℕ = item_lane c.assignment d.group_of j in
      AtPlaces-same f.bare p (lane i) q (lane j) (get_or places p 0) (place_in c.order (lane i)) (get_or places q 0)
      (place_in c.order (lane j))
      (sym (lane-is i one)) (sym (lane-is j other)) (sym (place-is i one)) (sym (place-is j other)) falls

  items-FallsAround : (i j : ℕ) → i < length d.group_of → j < length d.group_of → FallsAround d f c i j
      → ItemsFall d c.assignment f.bare places i j
  items-FallsAround i j one other falls =
      let p : ℕ = item_lane c.assignment d.group_of i in
      let q : ℕ = item_lane c.assignment d.group_of j in
      AtPlaces-same f.bare (lane i) p (lane j) q (place_in c.order (lane i)) (get_or places p 0)
      (place_in c.order (lane j)) (get_or places q 0)
      (lane-is i one) (lane-is j other) (place-is i one) (place-is j other) falls

  -- of what is declared
  falls-declared : (i : ℕ) (target : Target) → Declares d i target
      → ItemsFall d c.assignment f.bare places i target.item → FallsAround d f c i target.item
  falls-declared i target declares falls =
      let waits : ItemWaits d.waits i target.item = Declares-ItemWaits d i target.item target declares refl in
      FallsAround-items i target.item (waiting-item d is i target.item waits) (awaited-item d is i target.item waits)
      falls

  pub AllFallAround-items : AllItemsFall d c.assignment f.bare places → AllFallAround d f c
  AllFallAround-items each i j waits =
      FallsAround-items i j (waiting-item d is i j waits) (awaited-item d is i j waits) (each i j waits)

  pub IsFirstNotFallingAround-items : (i j : ℕ) → IsFirstItemStaying d c.assignment f.bare places i j
      → IsFirstNotFallingAround d f c i j
  IsFirstNotFallingAround-items i j stays =
      let waits : ItemWaits d.waits i j = Declares-ItemWaits d i j stays.target stays.declares stays.of_target in
      record {
        target = stays.target;
        declares = stays.declares;
        of_target = stays.of_target;
        stays = λ falls. stays.stays
            (items-FallsAround i j (waiting-item d is i j waits) (awaited-item d is i j waits) falls);
        first = λ k other declares less. falls-declared k other declares (stays.first k other declares less);
      }

  pub FindsNotFalling-items : (o : Option (ℕ × ℕ)) → FindsStaying d c.assignment f.bare places o
      → FindsNotFalling d f c o
  FindsNotFalling-items None found = AllFallAround-items found.1
  FindsNotFalling-items (Some stays) found = IsFirstNotFallingAround-items stays.0 stays.1 found.0

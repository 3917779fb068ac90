-- Laws of tables: what an item waits for is an item, and its targets are in order of place.
use Rattle.std.proofs.Common.{◌≡◌, ℕ, ◌<◌, ◌≤◌, inl, inr, List, [], length, map, get_or, ap, subst, ◌∙◌, arith}
use Rattle.std.specs.Prelude.{Option, Some, option_map, slice_get, slice_index}
use Rattle.std.specs.List.{All}
use Rattle.std.proofs.lemmas.Bool.{cases_lt, cases_eq}
use Rattle.std.proofs.lemmas.List.{get_or_past, get_or-map, length-map}
use Rattle.std.proofs.lemmas.List.Elements.{All-contains}
use Rattle.std.proofs.lemmas.List.Kept.{AllPairs-from_increasing}
use Rattle.std.proofs.lemmas.Option.{slice_get-map, slice_get-get_or}
use Rattle.wq_items.specs.declared.target.Target.{Target}
use Rattle.wq_items.specs.Table.{ItemWaits, VertexWaits, TargetsBelow, PlacesRise, targets_of}

-- the targets of any number, even past the last item
pub targets_of-below : (n : ℕ) (waits : List (List Target)) (i : ℕ) → All (TargetsBelow n) waits → TargetsBelow n (targets_of waits i)
targets_of-below n waits i each = elim (cases_lt i (length waits)) [
  | inl item ↦ each i [] item
  | inr past ↦ rw (get_or_past waits i [] past) (λ k d none. absurd (omega arith))
]

pub ItemWaits-below : (n : ℕ) (waits : List (List Target)) → All (TargetsBelow n) waits → (i j : ℕ) → ItemWaits waits i j → j < n
ItemWaits-below n waits each i j declared = subst (λ item. item < n) declared.4 (All-contains (λ t. t.item < n) (targets_of waits i) declared.1 (targets_of-below n waits i each) (declared.0, declared.2, declared.3))

-- what waits is an item
pub ItemWaits-item : (waits : List (List Target)) (i j : ℕ) → ItemWaits waits i j → i < length waits
ItemWaits-item waits i j declared = elim (cases_lt i (length waits)) [
  | inl within ↦ within
  | inr past ↦
      let none : length (targets_of waits i) ≡ 0 = ap (λ (ts : List Target). length ts) (get_or_past waits i [] past) in
      absurd (omega (arith, none, declared.2))
]

-- the vertex of an item waits for that of its target
pub VertexWaits-items : (waits : List (List Target)) (vertex_of : List ℕ) (i j : ℕ) → i < length vertex_of → j < length vertex_of → ItemWaits waits i j
    → VertexWaits waits vertex_of (slice_index vertex_of i) (slice_index vertex_of j)
VertexWaits-items waits vertex_of i j item target declared = record {
  item = i;
  target = j;
  declares = declared;
  of_item = slice_get-get_or vertex_of i 0 item;
  of_target = slice_get-get_or vertex_of j 0 target;
}

-- the same if other numbers stand for the vertices
pub VertexWaits-map : (waits : List (List Target)) (vertex_of : List ℕ) (f : ℕ → ℕ) (v w : ℕ) → VertexWaits waits vertex_of v w → VertexWaits waits (map f vertex_of) (f v) (f w)
VertexWaits-map waits vertex_of f v w waiting = record {
  item = waiting.item;
  target = waiting.target;
  declares = waiting.declares;
  of_item = mapped waiting.item v waiting.of_item;
  of_target = mapped waiting.target w waiting.of_target;
}
  where
    mapped : (k x : ℕ) → slice_get vertex_of k ≡ Some x → slice_get (map f vertex_of) k ≡ Some (f x)
    mapped k x at = slice_get-map f vertex_of k ∙ ap (λ (o : Option ℕ). option_map f o) at

-- even past the last item
pub targets_of-rise : (waits : List (List Target)) (i : ℕ) → All PlacesRise waits → PlacesRise (targets_of waits i)
targets_of-rise waits i each = elim (cases_lt i (length waits)) [
  | inl item ↦ each i [] item
  | inr past ↦ rw (get_or_past waits i [] past) (λ k none. absurd (omega arith))
]

-- a target that comes no later has no greater place
pub PlacesRise-places : (targets : List Target) (i j : ℕ) (d e : Target) → PlacesRise targets → i ≤ j → j < length targets → (get_or targets i d).place ≤ (get_or targets j e).place
PlacesRise-places targets i j d e rise le lt =
    let place_of : Target → ℕ = λ (t : Target). t.place in
    let own = get_or-map place_of targets i d 0 (omega arith) in
    let other = get_or-map place_of targets j e 0 lt in
    elim (cases_eq i j) [
      | inl same ↦ let own_at : get_or (map place_of targets) j 0 ≡ (get_or targets i d).place = subst (λ k. get_or (map place_of targets) k 0 ≡ (get_or targets i d).place) same own in omega (arith, own_at, other)
      | inr apart ↦ omega (arith, own, other, AllPairs-from_increasing (map place_of targets) rise i j 0 (omega arith) (omega (arith, length-map targets place_of)))
    ]

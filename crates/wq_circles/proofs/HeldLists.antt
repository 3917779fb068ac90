-- Lists of flushes that a loop makes, and marks of places.
use Rattle.std.proofs.Common.{◌≡◌, ℕ, ◌+◌, ◌<◌, ◌==◌, ◌||◌, Bool, true, false, cond, List, [], ◌∷◌, ◌++◌}
use Rattle.std.proofs.Common.{length, map, take, get_or, replicate, refl, sym, ap}
use Rattle.std.proofs.Common.{◌∙◌, arith}
use Rattle.std.specs.Prelude.{filter, flat_map, slice_index_or}
use Rattle.std.proofs.lemmas.List.{take_more, map_push, get_or-replicate}
use Rattle.std.proofs.lemmas.List.{length-replicate, append-nil}
use Rattle.std.proofs.lemmas.List.Elements.{filter_more}
use Rattle.std.proofs.lemmas.List.Concat.{flat_map-append}
use Rattle.std.proofs.lemmas.List.Folds.{list_any-append}
use Rattle.wq_items.specs.Readings.{is_among}
use Rattle.wq_groups.specs.Declaration.{Declaration}
use Rattle.wq_groups.specs.Assignment.{item_lane}
use Rattle.wq_graph.specs.declared.arc.WaitArc.{WaitArc}
use Rattle.wq_core.specs.Assigned.{Assigned, IsAssigned}
use Rattle.wq_core.specs.Workqueues.{Workqueues}
use Rattle.wq_circles.specs.Held.{ArePlacesMarked, HasMarked, beginnings}

-- ---- a loop that keeps what passes

module _ {X : Type 0} (p : X → Bool) (xs : List X) (i : ℕ) (x : X) (done : List X) (within : i < length xs)
    (is : x ≡ get_or xs i x) (so_far : done ≡ filter p (take i xs)) where
  next : (b : Bool) → p x ≡ b → filter p (take (i + 1) xs) ≡ done ++ cond b (x ∷ []) []
  next b tells =
      filter_more p xs i x within
      ∙ ap (λ (y : X). filter p (take i xs) ++ cond (p y) (y ∷ []) []) (sym is)
      ∙ ap (λ (c : Bool). filter p (take i xs) ++ cond c (x ∷ []) []) tells
      ∙ ap (λ (l : List X). l ++ cond b (x ∷ []) []) (sym so_far)

  pub filter-pushed : (new : List X) → new ≡ done ++ (x ∷ []) → p x ≡ true → new ≡ filter p (take (i + 1) xs)
  filter-pushed new added passes = added ∙ sym (next true passes)

  pub filter-passed : p x ≡ false → done ≡ filter p (take (i + 1) xs)
  filter-passed fails = sym (append-nil done) ∙ sym (next false fails)

-- one more
pub map-next : {X Y : Type 0} (f : X → Y) (xs : List X) (i : ℕ) (x : X) → i < length xs → x ≡ get_or xs i x
    → map f (take (i + 1) xs) ≡ map f (take i xs) ++ (f x ∷ [])
map-next f xs i x within is =
    ap (map f) (take_more xs i x within) ∙ map_push f (take i xs) (get_or xs i x)
    ∙ ap (λ y. map f (take i xs) ++ (f y ∷ [])) (sym is)

-- where one more flush begins
pub beginnings-next : (d : Declaration) (ws : Workqueues) (arcs : List WaitArc) (k : ℕ) (a : WaitArc)
    → k < length arcs → a ≡ get_or arcs k a
    → beginnings d ws (take (k + 1) arcs)
    ≡ beginnings d ws (take k arcs) ++ (item_lane ws.assignment d.group_of a.src ∷ [])
beginnings-next d ws arcs k a within is =
    map-next (λ (b : WaitArc). item_lane ws.assignment d.group_of b.src) arcs k a within is

-- one list more
pub flat-next : {X Y : Type 0} (f : X → List Y) (xs : List X) (i : ℕ) (x : X) → i < length xs → x ≡ get_or xs i x
    → flat_map (λ l. l) (map f (take (i + 1) xs)) ≡ flat_map (λ l. l) (map f (take i xs)) ++ f x
flat-next {X} {Y} f xs i x within is =
    ap (flat_map (λ (l : List Y). l)) (map-next f xs i x within is)
    ∙ flat_map-append (λ (l : List Y). l) (map f (take i xs)) (f x ∷ [])
    ∙ ap (λ (l : List Y). flat_map (λ (m : List Y). m) (map f (take i xs)) ++ l) (append-nil (f x))

-- ---- the workqueue of an item

pub lane-within : (a : Assigned) → IsAssigned a → (i : ℕ) → i < length a.declared.partition.group_of
    → item_lane a.workqueues.assignment a.declared.partition.group_of i < a.workqueues.assignment.lanes
lane-within a is i item =
    let one = is.declared.partition.within i 0 item in
    let each = is.assignment.assignment in
    each.within _ 0 (omega (arith, one, each.one_each))

-- ---- marks

or_false : (b : Bool) → b ≡ (b || false)
or_false true = refl
or_false false = refl

or_assoc : (a b c : Bool) → ((a || b) || c) ≡ (a || (b || c))
or_assoc true b c = refl
or_assoc false b c = refl

abbrev at : List Bool → ℕ → Bool
at marks p = slice_index_or marks p false

pub HasMarked-none : (old : List Bool) → HasMarked [] old old
HasMarked-none old = record { one_each = refl; marked = λ p within. or_false (at old p) }

pub HasMarked-then : (xs ys : List ℕ) (one two three : List Bool) → HasMarked xs one two → HasMarked ys two three
    → HasMarked (xs ++ ys) one three
HasMarked-then xs ys one two three first second = record {
  one_each = second.one_each ∙ first.one_each;
  marked = λ p within.
      second.marked p (omega (arith, within, first.one_each))
      ∙ ap (λ (b : Bool). b || is_among ys p) (first.marked p within)
      ∙ or_assoc (at one p) (is_among xs p) (is_among ys p)
      ∙ ap (λ (b : Bool). at one p || b) (sym (list_any-append (λ (q : ℕ). q == p) xs ys));
}

-- all marks are made
pub ArePlacesMarked-all : (count : ℕ) (places : List ℕ) (begun marks : List Bool) → begun ≡ replicate count false
    → HasMarked places begun marks → ArePlacesMarked count places marks
ArePlacesMarked-all count places begun marks unmarked has =
    let few : length begun ≡ count = ap (λ (m : List Bool). length m) unmarked ∙ length-replicate count false in
    record {
      one_each = has.one_each ∙ few;
      marked = λ p within.
          has.marked p (omega (arith, within, few))
          ∙ ap (λ (m : List Bool). at m p || is_among places p) unmarked
          ∙ ap (λ (b : Bool). b || is_among places p) (get_or-replicate count p false false within);
    }

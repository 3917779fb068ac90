-- The best end so far: what was looked at, flush by flush and item by item.
use Rattle.std.proofs.Common.{◌≡◌, ℕ, ◌+◌, ◌<◌, ◌≤◌, ◌⊎◌, inl, inr, List, [], ◌∷◌, ◌++◌, length, Some, None}
use Rattle.std.proofs.Common.{Option}
use Rattle.std.proofs.Common.{refl, sym, ap, subst, arith}
use Rattle.std.specs.Prelude.{Contains, slice_index}
use Rattle.std.specs.List.{All}
use Rattle.std.proofs.lemmas.Bool.{cases_lt}
use Rattle.std.proofs.lemmas.List.Elements.{All-nil, All-cons, All-append, All-contains, All-contains_itself}
use Rattle.std.proofs.lemmas.List.Elements.{All-weaker, Contains-append_left, Contains-push}
use Rattle.wq_items.specs.declared.target.Target.{Target}
use Rattle.wq_core.specs.Wiring.{Wiring, HasRescuer, items, lane_of}
use Rattle.wq_hang.specs.declared.hop.Hop.{Hop}
use Rattle.wq_hang.specs.declared.least_for.End.{End}
use Rattle.wq_hang.specs.declared.least_for.End.TheVariants as end
use Rattle.wq_hang.specs.Walk.{IsToBare, max_walk_cost}
use Rattle.wq_hang.specs.Search.{Reach, hops_cost, step, IsBetter, IsNoBetter}
use Rattle.wq_hang.specs.WaysFor.{AreNear, PendingFound}
use Rattle.wq_hang.specs.EndsFor.{Field, EndsBare, EndsRound, NoneBare, NoneFrom, NoneAlone}
use Rattle.wq_hang.specs.EndsFor.{IsBelowRounds, IsEnd, IsBest}
use Rattle.wq_hang.proofs.Declared.{declared-item}

-- what is searched through, by its parts
abbrev pub field_of : Wiring → List ℕ → Reach → PendingFound → Field
field_of w starts ways pending = record { wiring = w; starts = starts; ways = ways; pending = pending }

-- ---- less is looked for later

pub NoneBare-less : (f : Field) (cost now : ℕ) → now ≤ cost → NoneBare f cost → NoneBare f now
NoneBare-less f cost now less none h is = omega (arith, less, none h is)

pub NoneFrom-less : (f : Field) (cost now i : ℕ) → now ≤ cost → NoneFrom f cost i → NoneFrom f now i
NoneFrom-less f cost now i less none hops some path = omega (arith, less, none hops some path)

pub NoneAlone-fewer : (f : Field) (cost now t : ℕ) → now ≤ cost → NoneAlone f cost t → NoneAlone f now t
NoneAlone-fewer f cost now t less none hops more is = omega (arith, less, none hops more is)

-- ---- hops to bare lanes

-- no hop by these flushes to a bare lane costs less, with a way to it
abbrev pub NoneBareOf : Field → (ℕ → Target → Type 0) → ℕ → Type 0
NoneBareOf f done cost =
    (h : Hop) → IsToBare f.wiring h → done h.item h.flush → cost ≤ slice_index f.ways.costs h.item + step h.flush + 1

pub NoneBareOf-next : (f : Field) (done more : ℕ → Target → Type 0) (cost now i : ℕ) (t : Target) → now ≤ cost
    → NoneBareOf f done cost
    → ((¬ HasRescuer f.wiring (lane_of f.wiring t.item)) → now ≤ slice_index f.ways.costs i + step t + 1)
    → ((j : ℕ) (u : Target) → more j u → done j u ⊎ ((j ≡ i) × (u ≡ t))) → NoneBareOf f more now
NoneBareOf-next f done more cost now i t less none here either h is there = elim (either h.item h.flush there) [
  | inl before ↦ omega (arith, less, none h is before)
  | inr it ↦ (
      let bare : ¬ HasRescuer f.wiring (lane_of f.wiring t.item) = λ rescuer.
      is.bare (subst (λ (x : Target). HasRescuer f.wiring (lane_of f.wiring x.item)) (sym it.1) rescuer) in
      omega (
        arith,
        here bare,
        ap (λ (k : ℕ). slice_index f.ways.costs k) it.0,
        ap step it.1,
      )
      )
]

pub NoneBareOf-fewer : (f : Field) (done more : ℕ → Target → Type 0) (cost : ℕ)
    → ((j : ℕ) (u : Target) → more j u → done j u) → NoneBareOf f done cost → NoneBareOf f more cost
NoneBareOf-fewer f done more cost fewer none h is there = none h is (fewer h.item h.flush there)

-- ---- the best end so far

pub IsBest-none : {A : Type 0} (f : Field) → IsBest {A = A} f max_walk_cost None
IsBest-none f = record { is_end = refl; most = omega arith }

pub IsBest-bare : {A : Type 0} (f : Field) (cost : ℕ) (h : Hop) → EndsBare f cost h → cost ≤ max_walk_cost
    → IsBest {A = A} f cost (Some (end.Bare h))
IsBest-bare f cost h ends most = record { is_end = ends; most = most }

-- the same cost and end under other names
pub IsBest-is : {A : Type 0} (f : Field) (cost now : ℕ) (found ends : Option (End A)) → now ≡ cost → ends ≡ found
    → IsBest f cost found → IsBest f now ends
IsBest-is {A} f cost now found ends same is best = record {
  is_end = subst (λ (n : ℕ). IsEnd f n ends) (sym same)
      (subst (λ (o : Option (End A)). IsEnd f cost o) (sym is) best.is_end);
  most = omega (arith, same, best.most);
}

-- a round that is better from an item, to which a way costs so much
pub EndsRound-better : (f : Field) (i limit more : ℕ) (hops : List Hop) → IsBetter f.wiring i limit more hops
    → EndsRound f (slice_index f.ways.costs i + more) i hops
EndsRound-better f i limit more hops better = (better.round.some, better.path, omega (arith, better.costs))

pub NoneFrom-better : (f : Field) (i limit more : ℕ) (hops : List Hop) → IsBetter f.wiring i limit more hops
    → NoneFrom f (slice_index f.ways.costs i + more) i
NoneFrom-better f i limit more hops better others some path = omega (arith, better.all others some path)

pub NoneFrom-no_better : (f : Field) (best i limit : ℕ) → best ≤ slice_index f.ways.costs i + limit
    → IsNoBetter f.wiring i limit → NoneFrom f best i
NoneFrom-no_better f best i limit most none others some path = omega (arith, most, none others some path)

-- a hop costs 3
pub hops_some : (hops : List Hop) → 0 < length hops → 3 ≤ hops_cost hops
hops_some [] some = absurd (omega (arith, some))
hops_some (h ∷ hops) some = omega arith

-- no round costs less than a hop
pub IsBelowRounds-hop : (w : Wiring) → IsBelowRounds w 3
IsBelowRounds-hop w hops is = hops_some hops is.some

-- if no round costs less than this, none from the item is better
pub NoneFrom-below : (f : Field) (best i least : ℕ) → IsBelowRounds f.wiring least
    → best ≤ slice_index f.ways.costs i + least → NoneFrom f best i
NoneFrom-below f best i least below few hops some path =
    omega (arith, few, below hops (record { some = some; first = i; path = path }))

-- there is no round from an item that doesn't exist
pub NoneFrom-past : (f : Field) (best i : ℕ) → items f.wiring ≤ i → NoneFrom f best i
NoneFrom-past f best i past [] some path = absurd (omega (arith, some))
NoneFrom-past f best i past (h ∷ hops) some path =
    absurd (omega (arith, past, path.0, declared-item f.wiring h.item h.flush path.1.declared))

-- from an item that isn't near no round is better
pub NoneFrom-far : (f : Field) (limit best : ℕ) (near : List ℕ) (i : ℕ) → best ≤ limit
    → AreNear limit f.ways.costs near → (Contains near i → NoneFrom f best i) → i < length f.ways.costs
    → NoneFrom f best i
NoneFrom-far f limit best near i less are each below = elim (cases_lt (slice_index f.ways.costs i) limit) [
  | inl low ↦ each (are.all i below low)
  | inr far ↦ λ hops some path. omega (arith, less, far)
]

-- none from an item is, if none is from those that are near
pub NoneFrom-all : (f : Field) (limit best : ℕ) (near : List ℕ) → length f.ways.costs ≡ items f.wiring → best ≤ limit
    → AreNear limit f.ways.costs near → ((i : ℕ) → Contains near i → NoneFrom f best i) → (i : ℕ) → NoneFrom f best i
NoneFrom-all f limit best near size less are none i = elim (cases_lt i (items f.wiring)) [
  | inl below ↦ NoneFrom-far f limit best near i less are (none i) (omega (arith, below, size))
  | inr past ↦ NoneFrom-past f best i past
]

-- one item more, from which no round is better than the best end now
pub NoneFrom-next : (f : Field) (done more : List ℕ) (cost now i : ℕ) → now ≤ cost
    → ((j : ℕ) → Contains done j → NoneFrom f cost j) → NoneFrom f now i
    → ((j : ℕ) → Contains more j → Contains done j ⊎ (i ≡ j)) → (j : ℕ) → Contains more j → NoneFrom f now j
NoneFrom-next f done more cost now i less none here either j there = elim (either j there) [
  | inl before ↦ NoneFrom-less f cost now j less (none j before)
  | inr same ↦ subst (λ (k : ℕ). NoneFrom f now k) same here
]

-- the same where somebody waits for it alone
pub NoneAlone-next : (f : Field) (done more : List ℕ) (cost t : ℕ) → ((u : ℕ) → Contains done u → NoneAlone f cost u)
    → NoneAlone f cost t → ((u : ℕ) → Contains more u → Contains done u ⊎ (t ≡ u)) → (u : ℕ) → Contains more u
    → NoneAlone f cost u
NoneAlone-next f done more cost t none here either u there = elim (either u there) [
  | inl before ↦ none u before
  | inr same ↦ subst (λ (k : ℕ). NoneAlone f cost k) same here
]

-- ---- the nearest first

-- of the items below n those that cost less than the limit
pub record AreNearBelow (limit : ℕ) (costs : List ℕ) (n : ℕ) (near : List ℕ) : Type 0 where
  pub within : All (λ i. (i < n) × (slice_index costs i < limit)) near
  pub all : (i : ℕ) → i < n → slice_index costs i < limit → Contains near i

pub AreNearBelow-none : (limit : ℕ) (costs : List ℕ) → AreNearBelow limit costs 0 []
AreNearBelow-none limit costs = record {
  within = All-nil (λ i. (i < 0) × (slice_index costs i < limit));
  all = λ i below. absurd (omega (arith, below));
}

pub AreNearBelow-more : (limit : ℕ) (costs : List ℕ) (n : ℕ) (near : List ℕ) → AreNearBelow limit costs n near
    → slice_index costs n < limit → AreNearBelow limit costs (n + 1) (near ++ (n ∷ []))
AreNearBelow-more limit costs n near are low = record {
  within = All-append (λ i. (i < n + 1) × (slice_index costs i < limit)) near (n ∷ [])
      (All-weaker (λ i. (i < n) × (slice_index costs i < limit)) (λ i. (i < n + 1) × (slice_index costs i < limit))
      (λ i is. (omega (arith, is.0), is.1)) near are.within)
      (All-cons (λ i. (i < n + 1) × (slice_index costs i < limit)) n [] (omega arith, low)
      (All-nil (λ i. (i < n + 1) × (slice_index costs i < limit))));
  all = λ i below i_low. elim (cases_lt i n) [
    | inl before ↦ Contains-append_left near (n ∷ []) i (are.all i before i_low)
    | inr last ↦ (
        let same : n ≡ i = omega (arith, last, below) in
        subst (λ (k : ℕ). Contains (near ++ (n ∷ [])) k) same (Contains-push near n)
        )
  ];
}

pub AreNearBelow-same : (limit : ℕ) (costs : List ℕ) (n : ℕ) (near : List ℕ) → AreNearBelow limit costs n near
    → limit ≤ slice_index costs n → AreNearBelow limit costs (n + 1) near
AreNearBelow-same limit costs n near are far = record {
  within = All-weaker (λ i. (i < n) × (slice_index costs i < limit)) (λ i. (i < n + 1) × (slice_index costs i < limit))
      (λ i is. (omega (arith, is.0), is.1)) near are.within;
  all = λ i below low. elim (cases_lt i n) [
    | inl before ↦ are.all i before low
    | inr last ↦ (
        let same : i ≡ n = omega (arith, last, below) in
        absurd (omega (arith, far, low, ap (λ (k : ℕ). slice_index costs k) same))
        )
  ];
}

-- in another order
pub AreNear-ordered : (limit : ℕ) (costs near list : List ℕ) → AreNearBelow limit costs (length costs) near
    → ((i : ℕ) → Contains near i → Contains list i) → ((i : ℕ) → Contains list i → Contains near i)
    → AreNear limit costs list
AreNear-ordered limit costs near list are all no_others = record {
  within = All-weaker (Contains list) (λ i. (i < length costs) × (slice_index costs i < limit))
      (λ i there. All-contains (λ (k : ℕ). (k < length costs) × (slice_index costs k < limit)) near i are.within
      (no_others i there)) list (All-contains_itself list);
  all = λ i below low. all i (are.all i below low);
}

-- A reading of a table is a table.
use Rattle.std.proofs.Common.{◌≡◌, ◌≢◌, ℕ, zero, suc, ◌+◌, ◌<◌, ◌≤◌, Bool, true, false, cond, List, [], ◌∷◌, ◌++◌}
use Rattle.std.proofs.Common.{length, map, get_or, refl, sym, ap, ap₂, subst, ◌∙◌, arith}
use Rattle.std.specs.Prelude.{filter, flat_map, AllPairs, Contains, IsPermutation}
use Rattle.std.specs.List.{All, range_with_len}
use Rattle.std.proofs.lemmas.List.{length-map, length-append, map-append, get_or-map}
use Rattle.std.proofs.lemmas.List.Elements.{All-map, All-filter, All-weaker, filter-append, Contains-append_left}
use Rattle.std.proofs.lemmas.List.Elements.{Contains-append_right}
use Rattle.std.proofs.lemmas.List.Kept.{AllPairs-filter, AllPairs-from_increasing}
use Rattle.std.proofs.lemmas.List.Sums.{sum_by-cons}
use Rattle.wq_items.specs.declared.target.Target.{Target}
use Rattle.wq_items.specs.Table.{Table, IsTable, TargetsBelow, PlacesRise, targets_of, flush_count, places}
use Rattle.wq_items.specs.Readings.{is_kept, kept_of, places_before, renumbered, compacted, compact, table_reading}
use Rattle.wq_items.proofs.Ranks.{Differ, Differ-numbered, before-rises, IsPermutation-ranks}

-- ---- all flushes, item by item

abbrev pub place_of : Target → ℕ
place_of = λ (t : Target). t.place

abbrev pub all_of : List (List Target) → List Target
all_of waits = flat_map (λ (targets : List Target). targets) waits

pub places-all : (waits : List (List Target)) → places waits ≡ map place_of (all_of waits)
places-all [] = refl
places-all (ts ∷ waits) = ap (λ (l : List ℕ). map place_of ts ++ l) (places-all waits)
    ∙ sym (map-append place_of ts (all_of waits))

all-filter : (p : Target → Bool) (waits : List (List Target)) → all_of (map (filter p) waits) ≡ filter p (all_of waits)
all-filter p [] = refl
all-filter p (ts ∷ waits) = ap (λ (l : List Target). filter p ts ++ l) (all-filter p waits)
    ∙ sym (filter-append p ts (all_of waits))

pub places-kept : (kept : List ℕ) (waits : List (List Target))
    → places (map (kept_of kept) waits) ≡ map place_of (filter (is_kept kept) (all_of waits))
places-kept kept waits = places-all (map (kept_of kept) waits) ∙ ap (map place_of) (all-filter (is_kept kept) waits)

pub length-places : (waits : List (List Target)) → length (places waits) ≡ flush_count waits
length-places [] = refl
length-places (ts ∷ waits) = omega (
  arith,
  length-append (map place_of ts) (places waits),
  length-map ts place_of,
  length-places waits,
  sum_by-cons {X = List Target} length ts waits,
)

length-filter-le : (p : Target → Bool) (ts : List Target) → length (filter p ts) ≤ length ts
length-filter-le p [] = omega arith
length-filter-le p (t ∷ ts) = by (p t) (length-filter-le p ts)
  where
    by : (b : Bool) → length (filter p ts) ≤ length ts
        → length (cond b (t ∷ filter p ts) (filter p ts)) ≤ suc (length ts)
    by true h = omega arith
    by false h = omega arith

flush_count-filter : (p : Target → Bool) (waits : List (List Target))
    → flush_count (map (filter p) waits) ≤ flush_count waits
flush_count-filter p [] = omega arith
flush_count-filter p (ts ∷ waits) = omega (
  arith,
  flush_count-filter p waits,
  length-filter-le p ts,
  sum_by-cons {X = List Target} length ts waits,
  sum_by-cons {X = List Target} length (filter p ts) (map (filter p) waits),
)

-- ---- places that differ

nothing : Target
nothing = record { item = 0; whole = false; unsure = false; place = 0 }

-- the places of the flushes that a reading has differ
pub Differ-kept : (kept : List ℕ) (waits : List (List Target))
    → IsPermutation (range_with_len 0 (flush_count waits)) (places waits) → Differ (places (map (kept_of kept) waits))
Differ-kept kept waits numbered =
    let all : List Target = all_of waits in
    let left : List Target = filter (is_kept kept) all in
    let differ : Differ (map place_of all) = subst Differ (places-all waits)
    (Differ-numbered (flush_count waits) (places waits) numbered) in
    let apart : AllPairs (λ (a b : Target). a.place ≢ b.place) all = λ i j d lt within e.
    differ i j 0 lt (omega (arith, within, length-map all place_of))
    (get_or-map place_of all i d 0 (omega arith) ∙ e ∙ sym (get_or-map place_of all j d 0 within)) in
    let some : AllPairs (λ (a b : Target). a.place ≢ b.place) left =
    AllPairs-filter (λ (a b : Target). a.place ≢ b.place) (is_kept kept) all apart in
    subst Differ (sym (places-kept kept waits)) (λ i j d lt within e.
    let in-left : j < length left = omega (arith, within, length-map left place_of) in
    some i j nothing lt in-left (sym (get_or-map place_of left i nothing d (omega arith)) ∙ e
    ∙ get_or-map place_of left j nothing d in-left))

-- ---- new places

places-renumbered : (others : List ℕ) (waits : List (List Target))
    → places (map (map (renumbered others)) waits) ≡ map (places_before others) (places waits)
places-renumbered others [] = refl
places-renumbered others (ts ∷ waits) =
    ap₂ (λ (l k : List ℕ). l ++ k) (one ts) (places-renumbered others waits)
    ∙ sym (map-append (places_before others) (map place_of ts) (places waits))
  where
    one : (ts : List Target) → map place_of (map (renumbered others) ts) ≡ map (places_before others) (map place_of ts)
    one [] = refl
    one (t ∷ ts) = ap (λ (l : List ℕ). places_before others t.place ∷ l) (one ts)

pub flush_count-compact : (kept : List ℕ) (waits : List (List Target))
    → flush_count (compact kept waits) ≡ length (places (map (kept_of kept) waits))
flush_count-compact kept waits =
    let left : List (List Target) = map (kept_of kept) waits in
    sym (length-places (compacted left)) ∙ ap length (places-renumbered (places left) left)
    ∙ length-map (places left) (places_before (places left))

-- the place of a flush is one of all places
Contains-places : (waits : List (List Target)) (i k : ℕ) (d : Target) → i < length waits
    → k < length (targets_of waits i) → Contains (places waits) (get_or (targets_of waits i) k d).place
Contains-places [] i k d lt within = absurd (omega arith)
Contains-places (ts ∷ waits) zero k d lt within =
    Contains-append_left (map place_of ts) (places waits) (get_or ts k d).place
    (k, omega (arith, length-map ts place_of), get_or-map place_of ts k d (get_or ts k d).place within)
Contains-places (ts ∷ waits) (suc i) k d lt within =
    Contains-append_right (map place_of ts) (places waits) (get_or (targets_of waits i) k d).place
    (Contains-places waits i k d (omega arith) within)

-- places that rise still do when some flushes are left out
PlacesRise-filter : (p : Target → Bool) (ts : List Target) → PlacesRise ts → PlacesRise (filter p ts)
PlacesRise-filter p ts rise k within =
    let long : length (map place_of (filter p ts)) ≡ length (filter p ts) = length-map (filter p ts) place_of in
    let pairs : AllPairs (λ (a b : ℕ). a < b) (map place_of ts) = AllPairs-from_increasing (map place_of ts) rise in
    let lower : AllPairs (λ (a b : Target). a.place < b.place) ts = λ i j d lt in-ts.
    let less : get_or (map place_of ts) i 0 < get_or (map place_of ts) j 0 =
    pairs i j 0 lt (omega (arith, in-ts, length-map ts place_of)) in
    omega (arith, less, get_or-map place_of ts i d 0 (omega arith), get_or-map place_of ts j d 0 in-ts) in
    let some : AllPairs (λ (a b : Target). a.place < b.place) (filter p ts) =
    AllPairs-filter (λ (a b : Target). a.place < b.place) p ts lower in
    let in-next : k + 1 < length (filter p ts) = omega arith in
    omega (
      arith,
      some k (k + 1) nothing (omega arith) in-next,
      get_or-map place_of (filter p ts) k nothing 0 (omega arith),
      get_or-map place_of (filter p ts) (k + 1) nothing 0 in-next,
    )

-- and when each is how many are before it, if they are among them
PlacesRise-renumbered : (others : List ℕ) (ts : List Target)
    → ((k : ℕ) (d : Target) → k < length ts → Contains others (get_or ts k d).place) → PlacesRise ts
    → PlacesRise (map (renumbered others) ts)
PlacesRise-renumbered others ts there rise k within =
    let new : List Target = map (renumbered others) ts in
    let long : length new ≡ length ts = length-map ts (renumbered others) in
    let longer : length (map place_of new) ≡ length new = length-map new place_of in
    let in-next : k + 1 < length ts = omega arith in
    let in-this : k < length ts = omega arith in
    let less : get_or (map place_of ts) k 0 < get_or (map place_of ts) (k + 1) 0 =
    rise k (omega (arith, length-map ts place_of)) in
    let lower : (get_or ts k nothing).place < (get_or ts (k + 1) nothing).place =
    omega (arith, less, get_or-map place_of ts k nothing 0 in-this, get_or-map place_of ts (k + 1) nothing 0 in-next) in
    let is : (j : ℕ) → j < length ts → get_or (map place_of new) j 0 ≡ places_before others
    (get_or ts j nothing).place =
    λ j fits. get_or-map place_of new j nothing 0 (omega arith)
    ∙ ap place_of (get_or-map (renumbered others) ts j nothing nothing fits) in
    omega (
      arith,
      before-rises others (get_or ts k nothing).place (get_or ts (k + 1) nothing).place (there k nothing in-this) lower,
      is k in-this,
      is (k + 1) in-next,
    )

-- ---- the table

pub targets_of-kept : (kept : List ℕ) (waits : List (List Target)) (i : ℕ)
    → targets_of (map (kept_of kept) waits) i ≡ kept_of kept (targets_of waits i)
targets_of-kept kept [] i = refl
targets_of-kept kept (ts ∷ waits) zero = refl
targets_of-kept kept (ts ∷ waits) (suc i) = targets_of-kept kept waits i

-- what holds of declared flushes holds of those of a reading
module _ (kept : List ℕ) (waits : List (List Target)) where
  pub length-compact : length (compact kept waits) ≡ length waits
  length-compact = length-map (map (kept_of kept) waits) (map (renumbered (places (map (kept_of kept) waits))))
      ∙ length-map waits (kept_of kept)

  pub TargetsBelow-compact : (n : ℕ) → All (TargetsBelow n) waits → All (TargetsBelow n) (compact kept waits)
  TargetsBelow-compact n below =
      let others : List ℕ = places (map (kept_of kept) waits) in
      All-map (TargetsBelow n) (map (renumbered others)) (map (kept_of kept) waits) (
      All-map (λ (ts : List Target). TargetsBelow n (map (renumbered others) ts)) (kept_of kept) waits (
      All-weaker (TargetsBelow n) (λ (ts : List Target). TargetsBelow n (map (renumbered others) (kept_of kept ts)))
      (λ (ts : List Target) (b : TargetsBelow n ts).
      All-map (λ (t : Target). t.item < n) (renumbered others) (kept_of kept ts)
      (All-filter (is_kept kept) (λ (t : Target). t.item < n) ts b)) waits below
      )
      )

  pub flush_count-compact-le : flush_count (compact kept waits) ≤ flush_count waits
  flush_count-compact-le = omega (
    arith,
    flush_count-compact kept waits,
    length-places (map (kept_of kept) waits),
    flush_count-filter (is_kept kept) waits,
  )

  pub numbered-compact : IsPermutation (range_with_len 0 (flush_count waits)) (places waits)
      → IsPermutation (range_with_len 0 (flush_count (compact kept waits))) (places (compact kept waits))
  numbered-compact numbered =
      let others : List ℕ = places (map (kept_of kept) waits) in
      subst (λ (c : ℕ). IsPermutation (range_with_len 0 c) (places (compact kept waits)))
      (sym (flush_count-compact kept waits)) (
      subst (λ (l : List ℕ). IsPermutation (range_with_len 0 (length others)) l)
      (sym (places-renumbered others (map (kept_of kept) waits)))
      (IsPermutation-ranks others (Differ-kept kept waits numbered))
      )

  pub PlacesRise-compact : All PlacesRise waits → All PlacesRise (compact kept waits)
  PlacesRise-compact rise i d within =
      let those : List (List Target) = map (kept_of kept) waits in
      let others : List ℕ = places those in
      let in-those : i < length those = omega (arith, within, length-map those (map (renumbered others))) in
      let in-waits : i < length waits = omega (arith, in-those, length-map waits (kept_of kept)) in
      let is : get_or (compact kept waits) i d ≡ map (renumbered others) (targets_of those i) =
      get_or-map (map (renumbered others)) those i [] d in-those in
      subst PlacesRise (sym is) (
      PlacesRise-renumbered others (targets_of those i) (λ k e fits. Contains-places those i k e in-those fits) (
      subst PlacesRise (sym (targets_of-kept kept waits i)) (PlacesRise-filter (is_kept kept) (targets_of waits i)
      (rise i [] in-waits))
      )
      )

pub IsTable-reading : (t : Table) (kept : List ℕ) → IsTable t → IsTable (table_reading t kept)
IsTable-reading t kept h = record {
  one_span_each = h.one_span_each;
  one_list_each = length-compact kept t.waits ∙ h.one_list_each;
  few_items = h.few_items;
  named = h.named;
  distinct = h.distinct;
  targets_are_items = TargetsBelow-compact kept t.waits (length t.names) h.targets_are_items;
  few_flushes = omega (arith, flush_count-compact-le kept t.waits, h.few_flushes);
  places_are_numbered = numbered-compact kept t.waits h.places_are_numbered;
  places_rise = PlacesRise-compact kept t.waits h.places_rise;
}

-- With how few unsure flushes arcs lead down: what is found from the lists that the search keeps.
use Rattle.std.proofs.Common.{◌≡◌, ◌≢◌, ℕ, zero, suc, ◌+◌, ◌-◌, ◌<◌, ◌≤◌, ◌==◌, inl, inr, Bool, true, false, cond, List}
use Rattle.std.proofs.Common.{[], ◌∷◌, ◌++◌, length, map, get_or, set, take, replicate, slice_index, slice_index_or}
use Rattle.std.proofs.Common.{find, Option, Some, None, refl, sym, ap, ap₂, subst, ◌∙◌, eqb-true, eq-eqb, arith}
use Rattle.std.specs.Prelude.{◌&&◌, filter, Contains, fold, min}
use Rattle.std.specs.List.{All, range_with_len}
use Rattle.std.specs.Option.{option_map_or}
use Rattle.std.proofs.lemmas.Bool.{cases_Bool, cases_eq, cases_lt}
use Rattle.std.proofs.lemmas.List.{length-set, length-replicate, get_or-set_same, get_or-set_other, get_or-replicate}
use Rattle.std.proofs.lemmas.List.{take_more}
use Rattle.std.proofs.lemmas.List.Elements.{All-head, All-tail, All-same, All-replicate, All-set, All-filter}
use Rattle.std.proofs.lemmas.List.Elements.{filter_passes, recursion_from_All, Contains-push_cases}
use Rattle.std.proofs.lemmas.List.FromFn.{fill_by_all, get_or-map-range_with_len}
use Rattle.wq_buckets.specs.Places.{places_of, buckets_of}
use Rattle.wq_buckets.proofs.Picking.{places-below, places-at}
use Rattle.wq_items.proofs.Lists.{Contains-filtered, Contains-range_with_len, range_with_len-below}
use Rattle.wq_graph.specs.declared.arc.WaitArc.{WaitArc}
use Rattle.wq_graph.specs.Graph.{IsGraph, arcs_at}
use Rattle.wq_levels.proofs.Graphs.{arcs_at-below}
use Rattle.wq_plan.specs.Plan.{lanes_of, least_doubts, least_of, leads_best, first_vertex, chain_from, chain_of}
use Rattle.wq_plan.proofs.Lanes.{lanes_of-above}
use Rattle.wq_plan.proofs.LeastOf.{least_by, least_by-most, first_by}
use Rattle.wq_plan.proofs.Arcs.{find-All, next_arc}

-- ---- lists

-- two numbers of each element that are the same
map_same : {X Y : Type 0} (f g : X → Y) (xs : List X) → All (λ x. f x ≡ g x) xs → map f xs ≡ map g xs
map_same f g [] same = refl
map_same {X} {Y} f g (x ∷ xs) same =
    ap₂ (λ (y : Y) (ys : List Y). y ∷ ys) (All-head (λ y. f y ≡ g y) x xs same)
    (map_same f g xs (All-tail (λ y. f y ≡ g y) x xs same))

-- two numbers of what passes, which are the same there
map_kept : {X Y : Type 0} (f g : X → Y) (p : X → Bool) (xs : List X) → All (λ x. p x ≡ true → f x ≡ g x) xs
    → map f (filter p xs) ≡ map g (filter p xs)
map_kept f g p [] same = refl
map_kept {X} {Y} f g p (x ∷ xs) same =
    let rest : map f (filter p xs) ≡ map g (filter p xs) =
    map_kept f g p xs (All-tail (λ y. p y ≡ true → f y ≡ g y) x xs same) in
    elim (cases_Bool (p x)) [
      | inl passes ↦ rw passes (ap₂ (λ (y : Y) (ys : List Y). y ∷ ys)
          (All-head (λ y. p y ≡ true → f y ≡ g y) x xs same passes) rest)
      | inr fails ↦ rw fails rest
    ]

-- two tests that agree at each element find the same
find_same : {X : Type 0} (p q : X → Bool) (xs : List X) → All (λ x. p x ≡ q x) xs → find p xs ≡ find q xs
find_same p q [] same = refl
find_same {X} p q (x ∷ xs) same =
    ap₂ (λ (b : Bool) (o : Option X). cond b (Some x) o) (All-head (λ y. p y ≡ q y) x xs same)
    (find_same p q xs (All-tail (λ y. p y ≡ q y) x xs same))

-- the first with the least number is the same if the numbers are
first_by-same : {X : Type 0} (f g : X → ℕ) (xs : List X) → All (λ x. f x ≡ g x) xs → first_by f xs ≡ first_by g xs
first_by-same {X} f g xs same =
    let least : least_by f xs ≡ least_by g xs = ap least_of (map_same f g xs same) in
    find_same (λ (x : X). f x == least_by f xs) (λ (x : X). g x == least_by g xs) xs
    (λ k d within. ap₂ (λ (m n : ℕ). m == n) (same k d within) least)

module _ (unsure : ℕ → Bool) (graph : List (List WaitArc)) (lane : List ℕ) where
  -- those of a vertex on its own lane
  abbrev pub doubts_at : ℕ → ℕ
  doubts_at v = least_doubts unsure graph lane (slice_index lane v) v

  -- one for an arc of an unsure flush
  abbrev pub doubt_of : WaitArc → ℕ
  doubt_of a = cond (unsure a.place) 1 0

  -- by way of an arc to the lane `below`
  abbrev pub doubts_over : ℕ → WaitArc → ℕ
  doubts_over below a = least_doubts unsure graph lane below a.head + doubt_of a

  pub doubt_of-few : (a : WaitArc) → doubt_of a ≤ 1
  doubt_of-few a = by (unsure a.place)
    where
      by : (b : Bool) → cond b 1 0 ≤ 1
      by true = omega arith
      by false = omega arith

  -- no more than lanes are below
  pub doubts-few : (below v : ℕ) → least_doubts unsure graph lane below v ≤ below
  doubts-few zero v = omega arith
  doubts-few (suc below) v =
      least_by-most (doubts_over below) (suc below)
      (filter (λ (a : WaitArc). slice_index lane a.head == below) (arcs_at graph v)) (λ a.
      omega (arith, doubts-few below a.head, doubt_of-few a))

  -- those of the vertices on this lane are known
  abbrev pub AreKnown : ℕ → List ℕ → Type 0
  AreKnown below now = (w : ℕ) → w < length lane → slice_index lane w ≡ below → slice_index now w ≡ doubts_at w

  known_over : (now : List ℕ) (below : ℕ) (a : WaitArc) → AreKnown below now → a.head < length lane
      → (slice_index lane a.head == below) ≡ true → slice_index now a.head + doubt_of a ≡ doubts_over below a
  known_over now below a known vertex on =
      let here : slice_index lane a.head ≡ below = eqb-true (slice_index lane a.head) below on in
      ap (λ (n : ℕ). n + doubt_of a) (known a.head vertex here
      ∙ ap (λ (n : ℕ). least_doubts unsure graph lane n a.head) here)

  module _ (now : List ℕ) (above below v : ℕ) (arcs : List WaitArc) (next : above ≡ suc below)
      (own : arcs ≡ arcs_at graph v) (vertices : All (λ (a : WaitArc). a.head < length lane) arcs)
      (known : AreKnown below now) where
    -- those of a vertex from those of the next lane
    pub doubts-found : least_of (map (λ (a : WaitArc). slice_index now a.head + doubt_of a)
        (filter (λ (a : WaitArc). slice_index lane a.head == below) arcs)) ≡ least_doubts unsure graph lane above v
    doubts-found =
        let over : WaitArc → ℕ = λ (a : WaitArc). slice_index now a.head + doubt_of a in
        let on : WaitArc → Bool = λ (a : WaitArc). slice_index lane a.head == below in
        ap least_of (map_kept over (doubts_over below) on arcs
        (λ k d within passes. known_over now below (get_or arcs k d) known (vertices k d within) passes))
        ∙ ap (λ (l : List WaitArc). least_of (map (doubts_over below) (filter on l))) own
        ∙ ap (λ (n : ℕ). least_doubts unsure graph lane n v) (sym next)

    -- the arc that leads on best
    pub best-found : (fewest : ℕ) → fewest ≡ least_doubts unsure graph lane above v
        → find (λ (a : WaitArc). (slice_index lane a.head == below) && (slice_index now a.head + doubt_of a == fewest))
        arcs ≡ find (leads_best unsure graph lane below v) (arcs_at graph v)
    best-found fewest is =
        find_same (λ (a : WaitArc). (slice_index lane a.head == below) && (slice_index now a.head + doubt_of a ==
        fewest)) (leads_best unsure graph lane below v) arcs
        (λ k d within. same (get_or arcs k d) (vertices k d within))
        ∙ ap (λ (l : List WaitArc). find (leads_best unsure graph lane below v) l) own
      where
        fewest_is : fewest ≡ least_doubts unsure graph lane (suc below) v
        fewest_is = is ∙ ap (λ (n : ℕ). least_doubts unsure graph lane n v) next

        same : (a : WaitArc) → a.head < length lane
            → ((slice_index lane a.head == below) && (slice_index now a.head + doubt_of a == fewest))
            ≡ leads_best unsure graph lane below v a
        same a vertex = by (slice_index lane a.head == below) refl
          where
            by : (b : Bool) → (slice_index lane a.head == below) ≡ b
                → (b && (slice_index now a.head + doubt_of a == fewest))
                ≡ (b && (doubts_over below a == least_doubts unsure graph lane (suc below) v))
            by true on = ap₂ (λ (m n : ℕ). m == n) (known_over now below a known vertex on) fewest_is
            by false off = refl

  -- ---- under way

  -- those of the vertices on lower lanes are known, and those of these others
  pub record AreKnownSoFar (above : ℕ) (others now : List ℕ) : Type 0 where
    pub one_each : length now ≡ length lane
    pub lower : (v : ℕ) → v < length lane → slice_index lane v < above → slice_index now v ≡ doubts_at v
    pub done : (v : ℕ) → Contains others v → slice_index now v ≡ doubts_at v
    pub few : All (λ n. n < 4096) now

  -- one more vertex
  pub AreKnownSoFar-more : (above : ℕ) (others now : List ℕ) (v : ℕ) → AreKnownSoFar above others now → v < length lane
      → above < 4096 → slice_index lane v ≡ above
      → AreKnownSoFar above (others ++ v ∷ []) (set now v (least_doubts unsure graph lane above v))
  AreKnownSoFar-more above others now v known vertex few on =
      let new : ℕ = least_doubts unsure graph lane above v in
      let is : new ≡ doubts_at v = ap (λ (n : ℕ). least_doubts unsure graph lane n v) (sym on) in
      let here : slice_index (set now v new) v ≡ doubts_at v =
      get_or-set_same now v new 0 (omega (arith, known.one_each)) ∙ is in
      let other : (w : ℕ) → w ≢ v → slice_index (set now v new) w ≡ slice_index now w =
      λ w apart. get_or-set_other now v w new 0 apart in
      record {
        one_each = length-set now v new ∙ known.one_each;
        lower = λ w fits below. other w (λ e. absurd (omega (arith, on, below, ap (slice_index lane) e)))
            ∙ known.lower w fits below;
        done = λ w there. elim (Contains-push_cases others v w there) [
          | inl before ↦ elim (cases_eq w v) [
            | inl same ↦ subst (λ (u : ℕ). slice_index (set now v new) u ≡ doubts_at u) (sym same) here
            | inr apart ↦ other w apart ∙ known.done w before
          ]
          | inr now_one ↦ subst (λ (u : ℕ). slice_index (set now v new) u ≡ doubts_at u) now_one here
        ];
        few = All-set (λ n. n < 4096) now v new (omega (arith, doubts-few above v)) known.few;
      }

  -- one more of some, as a loop takes them
  pub AreKnownSoFar-next : (above k : ℕ) (ps now : List ℕ) (new : ℕ) → AreKnownSoFar above (take k ps) now
      → k < length ps → slice_index ps k < length lane → above < 4096
      → slice_index lane (slice_index ps k) ≡ above → new ≡ least_doubts unsure graph lane above (slice_index ps k)
      → AreKnownSoFar above (take (k + 1) ps) (set now (slice_index ps k) new)
  AreKnownSoFar-next above k ps now new known within vertex few on is =
      let v : ℕ = slice_index ps k in
      subst (λ (l : List ℕ). AreKnownSoFar above l (set now v new)) (sym (take_more ps k 0 within)) (
      subst (λ (n : ℕ). AreKnownSoFar above (take k ps ++ v ∷ []) (set now v n)) (sym is)
      (AreKnownSoFar-more above (take k ps) now v known vertex few on))

  -- all of a lane
  pub AreKnownSoFar-lane : (above : ℕ) (now : List ℕ) → AreKnownSoFar above (places_of lane above) now
      → AreKnownSoFar (above + 1) [] now
  AreKnownSoFar-lane above now known = record {
    one_each = known.one_each;
    lower = λ v vertex below. elim (cases_lt (slice_index lane v) above) [
      | inl lower ↦ known.lower v vertex lower
      | inr here ↦
          known.done v (Contains-filtered (λ (p : ℕ). slice_index lane p == above) (range_with_len 0 (length lane)) v
          (eq-eqb (slice_index lane v) above (omega arith)) (Contains-range_with_len (length lane) v vertex))
    ];
    done = λ v there. absurd (omega (arith, there.1));
    few = known.few;
  }

  pub AreKnownSoFar-all : (above : ℕ) (now : List ℕ) → lanes_of lane ≤ above → AreKnownSoFar above [] now → now
      ≡ map doubts_at (range_with_len 0 (length lane))
  AreKnownSoFar-all above now last known =
      fill_by_all doubts_at now (length lane) 0 known.one_each (λ v vertex.
      known.lower v vertex (omega (arith, lanes_of-above lane v 0 vertex)))

  -- ---- the vertex where the chain begins

  pub known-at : (now : List ℕ) → now ≡ map doubts_at (range_with_len 0 (length lane)) → (v : ℕ) → v < length lane
      → slice_index now v ≡ doubts_at v
  known-at now are v vertex = ap (λ (l : List ℕ). slice_index l v) are ∙ get_or-map-range_with_len doubts_at 0
      (length lane) v v 0 vertex (omega arith)

  module _ (now : List ℕ) (lanes : ℕ) (count : lanes ≡ lanes_of lane)
      (are : now ≡ map doubts_at (range_with_len 0 (length lane))) where
    -- the vertices on the last lane
    abbrev last_ones : List ℕ
    last_ones = filter (λ v. slice_index lane v + 1 == lanes) (range_with_len 0 (length lane))

    on_last : All (λ v. (v < length lane) × (slice_index lane v + 1 ≡ lanes)) last_ones
    on_last k d within = (
      All-filter (λ v. slice_index lane v + 1 == lanes) (λ v. v < length lane) (range_with_len 0 (length lane))
          (range_with_len-below (length lane)) k d within,
      eqb-true (slice_index lane (get_or last_ones k d) + 1) lanes
          (filter_passes (λ v. slice_index lane v + 1 == lanes) (range_with_len 0 (length lane)) k d within),
    )

    pub first-found : first_by (slice_index now) last_ones ≡ first_vertex unsure graph lane
    first-found =
        first_by-same (slice_index now) (least_doubts unsure graph lane (lanes_of lane - 1)) last_ones (λ k d within.
        let v : ℕ = get_or last_ones k d in
        let on = on_last k d within in
        let lane_is : slice_index lane v ≡ lanes_of lane - 1 = omega (arith, on.1, count) in
        known-at now are v on.0 ∙ ap (λ (n : ℕ). least_doubts unsure graph lane n v) lane_is)
        ∙ ap (λ (n : ℕ). first_by (least_doubts unsure graph lane (lanes_of lane - 1))
        (filter (λ v. slice_index lane v + 1 == n) (range_with_len 0 (length lane)))) count

    pub first-on_last : (v : ℕ) → first_by (slice_index now) last_ones ≡ Some v → (v < length lane)
        × (slice_index lane v + 1 ≡ lanes)
    first-on_last v found =
        find-All (λ w. (w < length lane) × (slice_index lane w + 1 ≡ lanes))
        (λ w. slice_index now w == least_by (slice_index now) last_ones) last_ones v
        (recursion_from_All (λ w. (w < length lane) × (slice_index lane w + 1 ≡ lanes)) last_ones on_last) found

  -- the chain from there
  pub chain-found : (lanes first : ℕ) → lanes ≡ lanes_of lane → Some first ≡ first_vertex unsure graph lane
      → chain_from unsure graph lane (lanes - 1) first ≡ chain_of unsure graph lane
  chain-found lanes first count is =
      ap (λ (n : ℕ). chain_from unsure graph lane (n - 1) first) count
      ∙ ap (λ (o : Option ℕ). option_map_or (λ (v : ℕ). chain_from unsure graph lane (lanes_of lane - 1) v) o []) is

  pub chain-none : None ≡ first_vertex unsure graph lane → [] ≡ chain_of unsure graph lane
  chain-none none = ap (λ (o : Option ℕ). option_map_or (λ (v : ℕ). chain_from unsure graph lane (lanes_of lane - 1) v)
      o []) none

-- ---- what a search for the next arc finds

module _ (unsure : ℕ → Bool) (graph : List (List WaitArc)) (lane now : List ℕ) (sound : IsGraph graph)
    (one_each : length lane ≡ length graph) (are : now ≡ map (doubts_at unsure graph lane)
    (range_with_len 0 (length lane))) (on v : ℕ) (some : 0 < on) (vertex : v < length graph)
    (lane_is : slice_index lane v ≡ on) (arcs : List WaitArc) (own : arcs ≡ arcs_at graph v) where
  pub next-found : (o : Option WaitArc) (fewest : ℕ) → fewest ≡ slice_index now v
      → o ≡ find (λ (a : WaitArc). (slice_index lane a.head == on - 1) &&
      (slice_index now a.head + cond (unsure a.place) 1 0 == fewest)) arcs → next_arc unsure graph lane (on - 1) v
      ≡ o
  next-found o fewest is found =
      let heads : All (λ (a : WaitArc). a.head < length lane) arcs = rw (own, one_each) (arcs_at-below graph sound v) in
      let here : fewest ≡ least_doubts unsure graph lane on v =
      is ∙ known-at unsure graph lane now are v (omega (arith, one_each))
      ∙ ap (λ (n : ℕ). least_doubts unsure graph lane n v) lane_is in
      sym (found ∙ best-found unsure graph lane now on (on - 1) v arcs (omega arith) own heads
      (λ w fits below. known-at unsure graph lane now are w fits) fewest here)

-- ---- the vertices of a lane, as they are listed

pub at-place : (lane ps : List ℕ) (on : List (List ℕ)) (lanes above k : ℕ) → on ≡ buckets_of lane lanes → above < lanes
    → ps ≡ slice_index_or on above [] → k < length ps
    → (ps ≡ places_of lane above) × (slice_index ps k < length lane) × (slice_index lane (slice_index ps k) ≡ above)
at-place lane ps on lanes above k are within own fits =
    let same : ps ≡ places_of lane above = own ∙ places-at lane on lanes above within are in
    let there : k < length (places_of lane above) = omega (arith, fits, ap length same) in
    let is : slice_index ps k ≡ slice_index (places_of lane above) k = ap (λ (l : List ℕ). slice_index l k) same in (
      same,
      omega (arith, is, places-below lane above k 0 there),
      ap (slice_index lane) is ∙ eqb-true (slice_index lane (slice_index (places_of lane above) k)) above
          (filter_passes (λ p. slice_index lane p == above) (range_with_len 0 (length lane)) k 0 there),
    )

-- ---- if no flush is unsure

fold_min-zero : (ns : List ℕ) → fold min 0 ns ≡ 0
fold_min-zero [] = refl
fold_min-zero (n ∷ ns) = ap (λ (m : ℕ). fold min m ns) {x = min 0 n} {y = 0} (omega arith) ∙ fold_min-zero ns

-- the least of sums that are all 0
least_of-zeros : (unsure : ℕ → Bool) (f : WaitArc → ℕ) → ((place : ℕ) → unsure place ≡ false)
    → ((a : WaitArc) → f a ≡ 0) → (arcs : List WaitArc)
    → least_of (map (λ (a : WaitArc). f a + cond (unsure a.place) 1 0) arcs) ≡ 0
least_of-zeros unsure f none zeros [] = refl
least_of-zeros unsure f none zeros (a ∷ arcs) =
    let rest = map (λ (b : WaitArc). f b + cond (unsure b.place) 1 0) arcs in
    ap (λ (n : ℕ). fold min (n + cond (unsure a.place) 1 0) rest) (zeros a)
    ∙ ap (λ (b : Bool). fold min (0 + cond b 1 0) rest) (none a.place) ∙ fold_min-zero rest

-- no chain has an unsure flush
pub least_doubts-sure : (unsure : ℕ → Bool) (graph : List (List WaitArc)) (lane : List ℕ)
    → ((place : ℕ) → unsure place ≡ false) → (below v : ℕ) → least_doubts unsure graph lane below v ≡ 0
least_doubts-sure unsure graph lane none zero v = refl
least_doubts-sure unsure graph lane none (suc below) v =
    least_of-zeros unsure (λ (a : WaitArc). least_doubts unsure graph lane below a.head) none
    (λ (a : WaitArc). least_doubts-sure unsure graph lane none below a.head)
    (filter (λ (a : WaitArc). slice_index lane a.head == below) (arcs_at graph v))

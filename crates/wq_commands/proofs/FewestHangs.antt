-- Workqueues that aren't safe hang by a least walk. It can be searched for, since flushes, items and lanes are finitely
-- many.
use Rattle.std.proofs.Common.{◌≡◌, ◌≢◌, ℕ, zero, suc, ◌+◌, ◌-◌, ◌*◌, ◌<◌, ◌≤◌, ◌⊎◌, inl, inr, Bool, true, false, List}
use Rattle.std.proofs.Common.{[], ◌∷◌, length, get_or, Option, Some, None, refl, sym, ap, subst, ◌∙◌, arith}
use Rattle.std.specs.Prelude.{if◌then◌else◌, Contains, flat_map, position, slice_index_or}
use Rattle.std.proofs.lemmas.Bool.{cases_eq, cases_lt}
use Rattle.std.proofs.lemmas.List.{get_or_default}
use Rattle.wq_items.specs.declared.target.Target.{Target}
use Rattle.wq_groups.specs.Assignment.{IsAssignmentOf}
use Rattle.wq_groups.specs.DeclaredGroups.{declared_waits, Declared}
use Rattle.wq_core.specs.Assigned.{Assigned, IsAssigned}
use Rattle.wq_core.specs.declared.step.Step.{Step}
use Rattle.wq_core.specs.Wiring.{Wiring, IsWiring, HasRescuer, items, lane_of, declared_by}
use Rattle.wq_core.specs.Workqueues.{Workqueues, wiring_of}
use Rattle.wq_core.specs.Deadlock.{IsSafe}
use Rattle.wq_hang.specs.declared.hop.Hop.{Hop}
use Rattle.wq_hang.specs.Answer.{IsHangOf}
use Rattle.wq_hang.specs.Search.{hop_cost, hops_cost, IsLeastRound}
use Rattle.wq_hang.specs.Walk.{IsHop, IsPath, IsRound, IsLeastWalk, IsToBare, IsFirstToBare, IsRoundOrFirst}
use Rattle.wq_hang.specs.Walk.{BeginsUnsure, AreAlike, AreFirstAlike, ArePlacesApart, target_beside, unsure_part}
use Rattle.wq_hang.specs.Walk.{run_of_walk}
use Rattle.wq_hang.proofs.Declared.{declared-item}
use Rattle.wq_hang.proofs.Fewest.{one_each, IsFewest-least}
use Rattle.wq_hang.proofs.LeastFound.{BareCostsMore, IsLeastWalk-round, IsRoundOrFirst-round, IsLeastWalk-bare}
use Rattle.wq_hang.proofs.LeastFound.{AreFirstAlike-bare, BeginsUnsure-one, IsSafe-no_round}
use Rattle.wq_hang.proofs.SettledHops.{put_flush, IsFirst, IsSettled, IsSettled-none, IsSettled-more}
use Rattle.wq_hang.proofs.SettledHops.{AreFirstAlike-settled, AreAlike-same, turned_at, IsRound-turned}
use Rattle.wq_hang.proofs.SettledHops.{hops_cost-turned, AreFirstAlike-turned, is_unsure, BeginsUnsure-turned}
use Rattle.wq_hang.proofs.SettledHops.{BeginsUnsure-none, unsure_none}
use Rattle.wq_hang.proofs.Shortest.{path_hop}
use Rattle.wq_hang.proofs.SomeLanes.{IsWiring-assigned, ArePlacesApart-assigned}
use Rattle.wq_commands.proofs.AnswerLemmas.{IsSound}

-- ---- what can be looked for

-- it is so, or it isn't
abbrev Decided : Type 0 → Type 0
Decided A = A ⊎ (A → ⊥)

both : {A B : Type 0} → Decided A → Decided B → Decided (A × B)
both (inl a) (inl b) = inl (a, b)
both (inr fails) second = inr (λ p. fails p.0)
both first (inr fails) = inr (λ p. fails p.1)

opposite : {A : Type 0} → Decided A → Decided (A → ⊥)
opposite (inl a) = inr (λ fails. fails a)
opposite (inr fails) = inl fails

same_bool : (a b : Bool) → Decided (a ≡ b)
same_bool true true = inl refl
same_bool true false = inr (λ e. absurd cc)
same_bool false true = inr (λ e. absurd cc)
same_bool false false = inl refl

less : (a b : ℕ) → Decided (a < b)
less a b = elim (cases_lt a b) [ inl lt ↦ inl lt | inr le ↦ inr (λ lt. absurd (omega arith)) ]

-- in a list
module _ {X : Type 0} (P : X → Type 0) (decide : (x : X) → Decided (P x)) where
  nowhere : (y : X) (ys : List X) → (P y → ⊥) → ((x : X) → Contains ys x → P x → ⊥) → (x : X) → Contains (y ∷ ys) x
      → P x → ⊥
  nowhere y ys fails none x (zero, lt, at) holds = fails (subst P (sym at) holds)
  nowhere y ys fails none x (suc k, lt, at) holds = none x (k, omega arith, at) holds

  look_in : (xs : List X) → ((x : X) × Contains xs x × P x) ⊎ ((x : X) → Contains xs x → P x → ⊥)
  look_in [] = inr (λ x there holds. absurd (omega (arith, there.1)))
  look_in (y ∷ ys) = by (decide y) (look_in ys)
    where
      by : Decided (P y) → ((x : X) × Contains ys x × P x) ⊎ ((x : X) → Contains ys x → P x → ⊥)
          → ((x : X) × Contains (y ∷ ys) x × P x) ⊎ ((x : X) → Contains (y ∷ ys) x → P x → ⊥)
      by (inl here) rest = inl (y, (0, omega arith, refl), here)
      by (inr fails) (inl (x, there, holds)) = inl (x, (suc there.0, omega (arith, there.1), there.2), holds)
      by (inr fails) (inr none) = inr (nowhere y ys fails none)

  found_in : (xs : List X) → Decided ((x : X) × Contains xs x × P x)
  found_in xs = elim (look_in xs) [ inl found ↦ inl found | inr none ↦ inr (λ found. none found.0 found.1 found.2) ]

-- below a number
module _ (P : ℕ → Type 0) (decide : (k : ℕ) → Decided (P k)) where
  look_below : (n : ℕ) → ((k : ℕ) × (k < n) × P k) ⊎ ((k : ℕ) → k < n → P k → ⊥)
  look_below zero = inr (λ k lt holds. absurd (omega arith))
  look_below (suc n) = by (decide n) (look_below n)
    where
      by : Decided (P n) → ((k : ℕ) × (k < n) × P k) ⊎ ((k : ℕ) → k < n → P k → ⊥) → ((k : ℕ) × (k < suc n) × P k)
          ⊎ ((k : ℕ) → k < suc n → P k → ⊥)
      by (inl here) rest = inl (n, omega arith, here)
      by (inr fails) (inl (k, lt, holds)) = inl (k, omega arith, holds)
      by (inr fails) (inr none) =
          inr (λ k lt holds. elim (cases_eq k n)
          [ inl same ↦ fails (subst P same holds) | inr other ↦ none k (omega (arith, other)) holds ])

  found_below : (n : ℕ) → Decided ((k : ℕ) × (k < n) × P k)
  found_below n = elim (look_below n) [ inl found ↦ inl found | inr none ↦ inr (λ found. none found.0 found.1 found.2) ]

-- if a smaller one can be looked for, there is a least one
descend : {X : Type 0} (P : X → Type 0) (key : X → ℕ)
    → ((c : ℕ) → ((x : X) × P x × (key x < c)) ⊎ ((x : X) → P x → c ≤ key x)) → (n : ℕ) (x : X) → P x → key x ≤ n
    → (y : X) × P y × ((z : X) → P z → key y ≤ key z)
descend P key look zero x holds few = (x, holds, λ z other. omega arith)
descend P key look (suc n) x holds few = elim (look (key x)) [
  | inl (y, other, lower) ↦ descend P key look n y other (omega arith)
  | inr least ↦ (x, holds, least)
]

-- ---- paths that cost less

module _ (w : Wiring) where
  rescued : (q : ℕ) → Decided (HasRescuer w q)
  rescued q = same_bool (slice_index_or w.bare q false) false

  path_in : (i j : ℕ) (hops : List Hop) → IsPath w i hops j → j < items w → i < items w
  path_in i j [] path last = subst (λ k. k < items w) (sym path) last
  path_in i j (h ∷ hops) path last = subst (λ k. k < items w) path.0 (declared-item w h.item h.flush path.1.declared)

  start_in : (i j : ℕ) (hops : List Hop) → 0 < length hops → IsPath w i hops j → i < items w
  start_in i j [] some path = absurd (omega arith)
  start_in i j (h ∷ hops) some path = subst (λ k. k < items w) path.0 (declared-item w h.item h.flush path.1.declared)

  -- some path from i to j costs less than c, or none does
  abbrev Leads : ℕ → ℕ → ℕ → Type 0
  Leads i j c = ((hops : List Hop) × IsPath w i hops j × (hops_cost hops < c))
      ⊎ ((hops : List Hop) → IsPath w i hops j → c ≤ hops_cost hops)

  -- a walk as above, of at least one hop
  abbrev LeadsOn : ℕ → ℕ → ℕ → Type 0
  LeadsOn i j c = ((hops : List Hop) × (0 < length hops) × IsPath w i hops j × (hops_cost hops < c))
      ⊎ ((hops : List Hop) → 0 < length hops → IsPath w i hops j → c ≤ hops_cost hops)

  module _ (n i j c : ℕ) (few : c ≤ suc n) (last : j < items w) (rec : (k d : ℕ) → d ≤ n → Leads k j d) where
    abbrev hop_to : Target → ℕ → Hop
    hop_to t k = record { item = i; flush = t; next = k }

    -- a path that costs less than c goes on so
    abbrev Goes : Target → ℕ → Type 0
    Goes t k = HasRescuer w (lane_of w i) × (lane_of w k ≡ lane_of w t.item)
        × ((hops : List Hop) × IsPath w k hops j × (hops_cost hops < c - hop_cost (hop_to t k)))

    goes : (t : Target) (k : ℕ) → Decided (Goes t k)
    goes t k = by (rescued (lane_of w i)) (cases_eq (lane_of w k) (lane_of w t.item))
        (rec k (c - hop_cost (hop_to t k)) (omega arith))
      where
        by : Decided (HasRescuer w (lane_of w i)) → Decided (lane_of w k ≡ lane_of w t.item)
            → Leads k j (c - hop_cost (hop_to t k)) → Decided (Goes t k)
        by (inl has) (inl same) (inl found) = inl (has, same, found)
        by (inl has) (inl same) (inr least) =
            inr (λ g. let more : c - hop_cost (hop_to t k) ≤ hops_cost g.2.0 = least g.2.0 g.2.1 in
            omega (arith, more, g.2.2))
        by (inl has) (inr other) found = inr (λ g. other g.1)
        by (inr bare) second found = inr (λ g. bare g.0)

    bound : ((t : Target) → Contains (declared_by w i) t → ((k : ℕ) × (k < items w) × Goes t k) → ⊥)
        → (hops : List Hop) → 0 < length hops → IsPath w i hops j → c ≤ hops_cost hops
    bound none [] some path = absurd (omega arith)
    bound none (h ∷ hops) some path = elim (cases_lt (hop_cost h + hops_cost hops) c) [
      | inr le ↦ le
      | inl lower ↦
          let there : Contains (declared_by w i) h.flush =
          subst (λ (k : ℕ). Contains (declared_by w k) h.flush) path.0 path.1.declared in
          let has : HasRescuer w (lane_of w i) = subst (λ (k : ℕ). HasRescuer w (lane_of w k)) path.0 path.1.rescuer in
          let rest : hops_cost hops < c - hop_cost h = omega (arith, lower) in
          absurd (none h.flush there (h.next, path_in h.next j hops path.3 last, (has, path.2, (hops, path.3, rest))))
    ]

    find_on : LeadsOn i j c
    find_on = elim (look_in (λ (t : Target). (k : ℕ) × (k < items w)
        × Goes t k) (λ t. found_below (Goes t) (goes t) (items w)) (declared_by w i)) [
          | inl (t, there, (k, within, g)) ↦
              let on : List Hop = g.2.0 in
              let cost : hop_cost (hop_to t k) + hops_cost on < c = omega (arith, g.2.2) in
              inl (hop_to t k ∷ on, omega arith, (refl, record { declared = there; rescuer = g.0 }, g.1, g.2.1), cost)
          | inr none ↦ inr (bound none)
        ]

  find : (n i j c : ℕ) → c ≤ n → j < items w → Leads i j c
  find zero i j c few last = inr (λ hops path. omega arith)
  find (suc n) i j c few last =
      by (cases_lt 0 c) (cases_eq i j) (find_on n i j c few last (λ k d low. find n k j d low last))
    where
      least_of : (i ≡ j → ⊥) → ((hops : List Hop) → 0 < length hops → IsPath w i hops j → c ≤ hops_cost hops)
          → (hops : List Hop) → IsPath w i hops j → c ≤ hops_cost hops
      least_of other least [] path = absurd (other path)
      least_of other least (h ∷ hops) path = least (h ∷ hops) (omega arith) path

      by : (0 < c) ⊎ (c ≤ 0) → Decided (i ≡ j) → LeadsOn i j c → Leads i j c
      by (inr none) same found = inr (λ hops path. omega arith)
      by (inl some) (inl same) found = inl ([], same, some)
      by (inl some) (inr other) (inl (hops, many, path, cost)) = inl (hops, path, cost)
      by (inl some) (inr other) (inr least) = inr (least_of other least)

  -- ---- rounds that cost less

  abbrev Back : ℕ → ℕ → Type 0
  Back c i = (hops : List Hop) × (0 < length hops) × IsPath w i hops i × (hops_cost hops < c)

  back : (c i : ℕ) → Decided (Back c i)
  back c i = elim (cases_lt i (items w)) [
    | inr past ↦ inr (λ b. let within : i < items w = start_in i i b.0 b.1 b.2 in omega arith)
    | inl within ↦ elim (find_on c i i c (omega arith) within (λ k d low. find c k i d low within)) [
      | inl found ↦ inl found
      | inr least ↦ inr (λ b. let more : c ≤ hops_cost b.0 = least b.0 b.1 b.2 in omega (arith, more, b.3))
    ]
  ]

  look_round : (c : ℕ) → ((hops : List Hop) × IsRound w hops × (hops_cost hops < c))
      ⊎ ((hops : List Hop) → IsRound w hops → c ≤ hops_cost hops)
  look_round c = elim (look_below (Back c) (back c) (items w)) [
    | inl (i, within, (hops, some, path, cost)) ↦ inl (hops, record { some = some; first = i; path = path }, cost)
    | inr none ↦ inr (λ hops round. elim (cases_lt (hops_cost hops) c) [
      | inl lower ↦ absurd (none round.first (start_in round.first round.first hops round.some round.path)
          (hops, round.some, round.path, lower))
      | inr le ↦ le
    ])
  ]

  least_round : (hops : List Hop) → IsRound w hops → (least : List Hop) × IsRound w least
      × ((others : List Hop) → IsRound w others → hops_cost least ≤ hops_cost others)
  least_round hops round = descend (IsRound w) hops_cost look_round (hops_cost hops) hops round (omega arith)

  -- ---- flushes

  -- the flush is declared, and this holds of it
  abbrev IsFlush : (ℕ → Target → Type 0) → Hop → Type 0
  IsFlush Q h = Contains (declared_by w h.item) h.flush × Q h.item h.flush

  module _ (Q : ℕ → Target → Type 0) (decide : (i : ℕ) (t : Target) → Decided (Q i t)) where
    look_flush : ((h : Hop) × IsFlush Q h) ⊎ ((h : Hop) → IsFlush Q h → ⊥)
    look_flush = elim (look_below (λ i. (t : Target) × Contains (declared_by w i) t
        × Q i t) (λ i. found_in (Q i) (decide i) (declared_by w i)) (items w)) [
          | inl (i, within, (t, there, holds)) ↦ inl (record { item = i; flush = t; next = t.item }, (there, holds))
          | inr none ↦ inr (λ h is. none h.item (declared-item w h.item h.flush is.0) (h.flush, is.0, is.1))
        ]

  -- the first of the flushes of which this holds, if it holds of any
  first_flush : (Q : ℕ → Target → Type 0) → ((i : ℕ) (t : Target) → Decided (Q i t))
      → ((h : Hop) × IsFlush Q h × ((g : Hop) → IsFlush Q g → h.flush.place ≤ g.flush.place))
      ⊎ ((h : Hop) → IsFlush Q h → ⊥)
  first_flush Q decide = elim (look_flush Q decide) [
    | inr none ↦ inr none
    | inl (h, is) ↦ inl (descend (IsFlush Q) (λ (g : Hop). g.flush.place) lower h.flush.place h is (omega arith))
  ]
    where
      lower : (c : ℕ) → ((g : Hop) × IsFlush Q g × (g.flush.place < c)) ⊎ ((g : Hop) → IsFlush Q g → c ≤ g.flush.place)
      lower c = elim (look_flush (λ i t. Q i t × (t.place < c)) (λ i t. both (decide i t) (less t.place c))) [
        | inl (g, (there, (holds, low))) ↦ inl (g, (there, holds), low)
        | inr none ↦ inr (λ g is. elim (cases_lt g.flush.place c)
            [ inl low ↦ absurd (none g (is.0, (is.1, low))) | inr le ↦ le ])
      ]

  -- ---- flushes that lead to a bare lane

  abbrev ToBare : ℕ → Target → Type 0
  ToBare i t = HasRescuer w (lane_of w i) × (HasRescuer w (lane_of w t.item) → ⊥)

  to_bare : (i : ℕ) (t : Target) → Decided (ToBare i t)
  to_bare i t = both (rescued (lane_of w i)) (opposite (rescued (lane_of w t.item)))

  abbrev SureToBare : ℕ → Target → Type 0
  SureToBare i t = ToBare i t × (t.unsure ≡ false)

  abbrev as_hop : Hop → Hop
  as_hop h = record { item = h.item; flush = h.flush; next = h.flush.item }

  is_to_bare : (h : Hop) → IsFlush ToBare h → IsToBare w (as_hop h)
  is_to_bare h is = record { hop = record { declared = is.0; rescuer = is.1.0 }; bare = is.1.1; next = refl }

  look_bare : ((h : Hop) × IsFirstToBare w h) ⊎ ((h : Hop) → IsHop w h → HasRescuer w (lane_of w h.flush.item))
  look_bare = elim (first_flush SureToBare (λ i t. both (to_bare i t) (same_bool t.unsure false))) [
    | inl (h, (there, (leads, sure)), earliest) ↦ inl (
      as_hop h,
      record {
        to_bare = is_to_bare h (there, leads);
        first = λ g hop bare. elim (same_bool g.flush.unsure false) [
          | inl sure_too ↦ inl (sure ∙ sym sure_too, earliest g (hop.declared, ((hop.rescuer, bare), sure_too)))
          | inr unsure ↦ inr (sure, unsure)
        ];
      },
    )
    | inr no_sure ↦ elim (first_flush ToBare to_bare) [
      | inl (h, is, earliest) ↦ inl (
        as_hop h,
        record {
          to_bare = is_to_bare h is;
          first = λ g hop bare.
              let own : h.flush.unsure ≡ true = unsure_is h.flush.unsure (λ sure. no_sure h (is.0, (is.1, sure))) in
              let other : g.flush.unsure ≡ true =
              unsure_is g.flush.unsure (λ sure. no_sure g (hop.declared, ((hop.rescuer, bare), sure))) in
              inl (own ∙ sym other, earliest g (hop.declared, (hop.rescuer, bare)));
        },
      )
      | inr none ↦ inr (λ h hop. elim (rescued (lane_of w h.flush.item))
          [ inl has ↦ has | inr bare ↦ absurd (none h (hop.declared, (hop.rescuer, bare))) ])
    ]
  ]
    where
      unsure_is : (b : Bool) → (b ≡ false → ⊥) → b ≡ true
      unsure_is true other = refl
      unsure_is false other = absurd (other refl)

  -- ---- of flushes with the same words the first one

  decide_alike : (t u : Target) → Decided (AreAlike t u)
  decide_alike t u = by (cases_eq t.item u.item) (same_bool t.whole u.whole) (same_bool t.unsure u.unsure)
    where
      by : Decided (t.item ≡ u.item) → Decided (t.whole ≡ u.whole) → Decided (t.unsure ≡ u.unsure)
          → Decided (AreAlike t u)
      by (inl a) (inl b) (inl c) = inl (record { item = a; whole = b; unsure = c })
      by (inr fails) b c = inr (λ same. fails same.item)
      by a (inr fails) c = inr (λ same. fails same.whole)
      by a b (inr fails) = inr (λ same. fails same.unsure)

  first_alike : (h : Hop) → Contains (declared_by w h.item) h.flush → (t : Target)
      × (Contains (declared_by w h.item) t × AreAlike t h.flush)
      × ((u : Target) → Contains (declared_by w h.item) u × AreAlike u h.flush → t.place ≤ u.place)
  first_alike h there =
      descend (λ (t : Target). Contains (declared_by w h.item) t
      × AreAlike t h.flush) (λ (t : Target). t.place) lower h.flush.place h.flush (there, AreAlike-same h.flush)
      (omega arith)
    where
      lower : (c : ℕ) → ((t : Target) × (Contains (declared_by w h.item) t × AreAlike t h.flush) × (t.place < c))
          ⊎ ((t : Target) → Contains (declared_by w h.item) t × AreAlike t h.flush → c ≤ t.place)
      lower c = elim (look_in (λ (t : Target). AreAlike t h.flush
          × (t.place < c)) (λ t. both (decide_alike t h.flush) (less t.place c)) (declared_by w h.item)) [
            | inl (t, here, (same, low)) ↦ inl (t, (here, same), low)
            | inr none ↦ inr (λ t is. elim (cases_lt t.place c)
                [ inl low ↦ absurd (none t is.0 (is.1, low)) | inr le ↦ le ])
          ]

  nothing : Hop
  nothing = record { item = 0; flush = record { item = 0; whole = false; unsure = false; place = 0 }; next = 0 }

  settled : (old : List Hop) → IsRound w old → (n : ℕ) → n ≤ length old → (hops : List Hop) × IsSettled w old hops n
  settled old round zero low = (old, IsSettled-none w old round)
  settled old round (suc n) low =
      let before = settled old round n (omega arith) in
      let hops : List Hop = before.0 in
      let is : IsSettled w old hops n = before.1 in
      let within : n < length hops = omega (arith, is.len, low) in
      let h : Hop = get_or hops n nothing in
      let at : get_or hops n h ≡ h = get_or_default hops n h nothing within in
      let hop = (path_hop w is.round.first is.round.first hops is.round.path h (n, within, at)).0 in
      let t = first_alike h hop.declared in
      let next : n + 1 ≡ suc n = omega arith in
      let new : List Hop = put_flush hops n h t.0 in (
        new,
        subst (λ (m : ℕ). IsSettled w old new m) next
            (IsSettled-more w old hops new n h t.0 is within at t.1.1 t.1.0 (λ u here same. t.2 u (here, same)) refl),
      )

  -- the round, as it is answered
  pub record IsAnswered (old hops : List Hop) : Type 0 where
    pub round : IsRound w hops
    pub cost : hops_cost hops ≡ hops_cost old
    pub begins : BeginsUnsure hops
    pub alike : AreFirstAlike w hops

  answered : (old : List Hop) → IsRound w old → (hops : List Hop) × IsAnswered old hops
  answered old round =
      let all = settled old round (length old) (omega arith) in
      by all.0 all.1 (position is_unsure all.0) refl
    where
      by : (hops : List Hop) → IsSettled w old hops (length old) → (o : Option ℕ) → position is_unsure hops ≡ o
          → (hops : List Hop) × IsAnswered old hops
      by hops is None none = (
        hops,
        record {
          round = is.round;
          cost = is.cost;
          begins = BeginsUnsure-none hops (unsure_none hops none);
          alike = AreFirstAlike-settled w old hops (length old) is (omega (arith, is.len));
        },
      )
      by hops is (Some i) at = (
        turned_at i hops,
        record {
          round = IsRound-turned w i hops is.round;
          cost = hops_cost-turned i hops ∙ is.cost;
          begins = (BeginsUnsure-turned hops i at).1;
          alike = AreFirstAlike-turned w i hops
              (AreFirstAlike-settled w old hops (length old) is (omega (arith, is.len)));
        },
      )

  -- ---- a least walk, as it is answered

  pub record IsFound (hops : List Hop) (beside : List ℕ) : Type 0 where
    pub least : IsLeastWalk w hops beside
    pub first : IsRoundOrFirst w hops beside
    pub begins : BeginsUnsure hops
    pub alike : AreFirstAlike w hops

  of_round : (limit : ℕ) → BareCostsMore w limit → (old : List Hop) → IsRound w old → hops_cost old < limit
      → ((others : List Hop) → IsRound w others → hops_cost old ≤ hops_cost others)
      → (hops : List Hop) × (beside : List ℕ) × IsFound hops beside
  of_round limit bare old round lower least =
      let new = answered old round in
      let hops : List Hop = new.0 in
      let is : IsAnswered old hops = new.1 in
      let best : IsLeastRound w limit hops = record {
        round = is.round;
        less = omega (arith, is.cost, lower);
        least = λ others other. let le : hops_cost old ≤ hops_cost others = least others other in
            omega (arith, is.cost, le);
      } in (
        hops,
        flat_map target_beside hops,
        record {
          least = IsLeastWalk-round w limit hops (flat_map target_beside hops) bare best refl;
          first = IsRoundOrFirst-round w limit hops (flat_map target_beside hops) bare best refl;
          begins = is.begins;
          alike = is.alike;
        },
      )

  of_bare : (h : Hop) → IsFirstToBare w h
      → ((others : List Hop) → IsRound w others → unsure_part h.flush + 4 ≤ hops_cost others) → (hops : List Hop)
      × (beside : List ℕ) × IsFound hops beside
  of_bare h first rounds = (
    h ∷ [],
    h.flush.item ∷ [],
    record {
      least = IsLeastWalk-bare w (unsure_part h.flush + 4) h (h ∷ []) (h.flush.item ∷ []) first refl rounds refl refl;
      first = inr (h, refl, first);
      begins = BeginsUnsure-one h (h ∷ []) refl;
      alike = AreFirstAlike-bare w h (h ∷ []) first refl;
    },
  )

  costs_more : (h : Hop) → IsFirstToBare w h → BareCostsMore w (unsure_part h.flush + 4)
  costs_more h first g hop bare = by (first.first g hop bare)
    where
      by : ((h.flush.unsure ≡ g.flush.unsure) × (h.flush.place ≤ g.flush.place))
          ⊎ ((h.flush.unsure ≡ false) × (g.flush.unsure ≢ false)) → unsure_part h.flush + 4 ≤ unsure_part g.flush + 4
      by (inl same) = omega (arith, ap {B = ℕ} (λ (b : Bool). if b then 32768 else 0) same.0)
      by (inr sure) = omega (arith, ap {B = ℕ} (λ (b : Bool). if b then 32768 else 0) sure.0)

  pub walk_exists : IsWiring w → (IsSafe w → ⊥) → (hops : List Hop) × (beside : List ℕ) × IsFound hops beside
  walk_exists wiring unsafe = by look_bare
    where
      by : ((h : Hop) × IsFirstToBare w h) ⊎ ((h : Hop) → IsHop w h → HasRescuer w (lane_of w h.flush.item))
          → (hops : List Hop) × (beside : List ℕ) × IsFound hops beside
      by (inl (h, first)) = elim (look_round (unsure_part h.flush + 4)) [
        | inr rounds ↦ of_bare h first rounds
        | inl (hops, round, lower) ↦
            let found = least_round hops round in
            let low : hops_cost found.0 ≤ hops_cost hops = found.2 hops round in
            of_round (unsure_part h.flush + 4) (costs_more h first) found.0 found.1 (omega (arith, low, lower)) found.2
      ]
      by (inr rescued_all) = elim (look_round (32772 * w.lanes + 32772)) [
        | inr rounds ↦ absurd
            (unsafe (IsSafe-no_round w (32772 * w.lanes + 32772) wiring (omega arith) rescued_all rounds))
        | inl (hops, round, lower) ↦
            let found = least_round hops round in
            of_round (hops_cost found.0 + 1) (λ h hop bare. absurd (bare (rescued_all h hop))) found.0 found.1
            (omega arith) found.2
      ]

-- ---- the hang

pub IsHangOf-exists : (s : Declared) → IsSound s → (ws : Workqueues) → IsAssignmentOf s.partition.groups ws.assignment
    → (IsSafe (wiring_of (declared_waits s) ws) → ⊥)
    → (hops : List Hop) × (steps : List Step) × IsHangOf (declared_waits s) ws hops steps
IsHangOf-exists s sound ws assigned unsafe =
    let a : Assigned = record { declared = s; workqueues = ws } in
    let is : IsAssigned a = record { declared = sound; assignment = assigned } in
    let w : Wiring = wiring_of (declared_waits s) ws in
    let wiring : IsWiring w = IsWiring-assigned a is in
    let places : ArePlacesApart w = ArePlacesApart-assigned a is in
    let found = walk_exists w wiring unsafe in
    let hops : List Hop = found.0 in
    let beside : List ℕ = found.1 in
    let walk : IsFound w hops beside = found.2 in (
      hops,
      run_of_walk w hops beside,
      record {
        assignment = assigned.assignment;
        fewest = IsFewest-least w hops beside wiring places walk.least assigned.few;
        one_each = one_each w hops beside wiring places walk.least;
        beside = beside;
        walk = walk.least.walk;
        first = walk.first;
        begins = walk.begins;
        alike = walk.alike;
        run = refl;
      },
    )

-- Which unsure flushes a reading needs, so that it needs as many workqueues as all flushes.
use Rattle.std.proofs.Common.{◌≡◌, ℕ, zero, suc, ◌+◌, ◌<◌, ◌≤◌, ◌⊎◌, inl, inr, Bool, true, false, cond, List, []}
use Rattle.std.proofs.Common.{◌∷◌, ◌++◌, length, map, slice_index, refl, sym, ap, subst, ◌∙◌, arith}
use Rattle.std.specs.Prelude.{Contains, filter, not, ◌||◌}
use Rattle.std.specs.List.{AllByRecursion}
use Rattle.std.proofs.lemmas.Bool.{cases_lt}
use Rattle.std.proofs.lemmas.List.{length-map, get_or_past, nil_from_length}
use Rattle.std.proofs.lemmas.List.Elements.{All-contains, All-from_recursion, recursion_from_All}
use Rattle.std.proofs.lemmas.Option.{get_or_from_slice_get, slice_get-get_or}
use Rattle.wq_items.specs.Chain.{BeginsChain, IsChain}
use Rattle.wq_items.specs.declared.target.Target.{Target}
use Rattle.wq_items.specs.Readings.{is_among, is_kept, unsure_places}
use Rattle.wq_items.specs.Table.{flush_count, places, targets_of}
use Rattle.wq_items.proofs.Chains.{BeginsChain-at, BeginsChain-more, BeginsChain-one}
use Rattle.wq_items.proofs.Lists.{Contains-filtered, Contains-later}
use Rattle.wq_items.proofs.Ranks.{Differ-numbered}
use Rattle.wq_groups.specs.Declaration.{Declaration, GroupWaits, IsDeclaration, reading_declared}
use Rattle.wq_groups.specs.Assignment.{Assignment, group_lane, item_lane}
use Rattle.wq_graph.specs.declared.arc.WaitArc.{WaitArc}
use Rattle.wq_graph.specs.Graph.{IsArc}
use Rattle.wq_hang.proofs.Apart.{Apart, Apart-AllPairs, Apart-within, Apart-across, Apart-left, Apart-right, Avoids}
use Rattle.wq_hang.proofs.Apart.{Avoids-from, In, In-among, In-append_left, In-append_right, among-In, not_in}
use Rattle.wq_plan.specs.CircleOfGroups.{tail_of}
use Rattle.wq_plan.specs.LongestChain.{IsChainDown, IsStepDown, unsure_arcs}
use Rattle.wq_plan.specs.Plan.{IsPlan, chain_of_plan}
use Rattle.wq_plan.proofs.LongestChain.{chain_of-longest}
use Rattle.wq_plan.proofs.Paths.{Follows, Follows-begins, Follows-from_joined, Follows-joined}
use Rattle.wq_plan.proofs.Plans.{IsPlan-falls}
use Rattle.wq_plan.proofs.Relations.{IsChain-implied}
use Rattle.wq_readings.specs.Needed.{chain_doubts}
use Rattle.wq_readings.proofs.ReadingPlans.{GroupWaits-all, ItemWaits-in, ItemWaits-out, lane-below, lane-chain}
use Rattle.wq_readings.proofs.ReadingPlans.{lanes-all, last_group}

-- ---- one flush at each place

abbrev place_of : Target → ℕ
place_of t = t.place

abbrev is_unsure : Target → Bool
is_unsure t = t.unsure

place_In : (ts : List Target) (t : Target) → Contains ts t → In t.place (map place_of ts)
place_In [] t (k, lt, at) = absurd (omega arith)
place_In (u ∷ ts) t (zero, lt, at) = inl (ap place_of (sym at))
place_In (u ∷ ts) t (suc k, lt, at) = inr (place_In ts t (k, omega arith, at))

places_In : (waits : List (List Target)) (i : ℕ) (t : Target) → Contains (targets_of waits i) t
    → In t.place (places waits)
places_In [] i t there = absurd (omega (arith, there.1))
places_In (ts ∷ waits) zero t there = In-append_left t.place (map place_of ts) (places waits) (place_In ts t there)
places_In (ts ∷ waits) (suc i) t there =
    In-append_right t.place (map place_of ts) (places waits) (places_In waits i t there)

same_in : (ts : List Target) (t u : Target) → Apart (map place_of ts) → Contains ts t → Contains ts u
    → t.place ≡ u.place → t ≡ u
same_in [] t u apart (k, lt, at) other same = absurd (omega arith)
same_in (x ∷ ts) t u apart (zero, lt, at) (zero, lu, au) same = sym at ∙ au
same_in (x ∷ ts) t u apart (zero, lt, at) (suc m, lu, au) same =
    absurd (not_in x.place (map place_of ts) apart.0
    (subst (λ (p : ℕ). In p (map place_of ts)) (sym same ∙ ap place_of (sym at)) (place_In ts u (m, omega arith, au))))
same_in (x ∷ ts) t u apart (suc k, lt, at) (zero, lu, au) same =
    absurd (not_in x.place (map place_of ts) apart.0
    (subst (λ (p : ℕ). In p (map place_of ts)) (same ∙ ap place_of (sym au)) (place_In ts t (k, omega arith, at))))
same_in (x ∷ ts) t u apart (suc k, lt, at) (suc m, lu, au) same =
    same_in ts t u apart.1 (k, omega arith, at) (m, omega arith, au) same

-- flushes at one place are one flush, of one item
place_flush : (waits : List (List Target)) (i j : ℕ) (t u : Target) → Apart (places waits)
    → Contains (targets_of waits i) t → Contains (targets_of waits j) u → t.place ≡ u.place → (i ≡ j) × (t ≡ u)
place_flush [] i j t u apart one other same = absurd (omega (arith, one.1))
place_flush (ts ∷ waits) zero zero t u apart one other same =
    (refl, same_in ts t u (Apart-left (map place_of ts) (places waits) apart) one other same)
place_flush (ts ∷ waits) zero (suc j) t u apart one other same =
    absurd (Apart-across (map place_of ts) (places waits) u.place apart
    (subst (λ (k : ℕ). In k (map place_of ts)) same (place_In ts t one)) (places_In waits j u other))
place_flush (ts ∷ waits) (suc i) zero t u apart one other same =
    absurd (Apart-across (map place_of ts) (places waits) t.place apart
    (subst (λ (k : ℕ). In k (map place_of ts)) (sym same) (place_In ts u other)) (places_In waits i t one))
place_flush (ts ∷ waits) (suc i) (suc j) t u apart one other same =
    let both = place_flush waits i j t u (Apart-right (map place_of ts) (places waits) apart) one other same in
    (ap suc both.0, both.1)

-- ---- the places of unsure flushes

In_or : (q : ℕ) (xs ys : List ℕ) → In q (xs ++ ys) → In q xs ⊎ In q ys
In_or q [] ys there = inr there
In_or q (x ∷ xs) ys (inl same) = inl (inl same)
In_or q (x ∷ xs) ys (inr more) = elim (In_or q xs ys more) [ inl left ↦ inl (inr left) | inr right ↦ inr right ]

unsure_in : (ts : List Target) (p : ℕ) → In p (map place_of (filter is_unsure ts))
    → (t : Target) × Contains ts t × (t.unsure ≡ true) × (t.place ≡ p)
unsure_in [] p there = absurd there
unsure_in (t ∷ ts) p there = by t.unsure refl (λ g. unsure_in ts p g) there
  where
    further : (u : Target) × Contains ts u × (u.unsure ≡ true) × (u.place ≡ p)
        → (u : Target) × Contains (t ∷ ts) u × (u.unsure ≡ true) × (u.place ≡ p)
    further (u, has, unsure, at) = (u, Contains-later t ts u has, unsure, at)

    by : (b : Bool) → t.unsure ≡ b
        → (In p (map place_of (filter is_unsure ts)) → (u : Target) × Contains ts u × (u.unsure ≡ true) × (u.place ≡ p))
        → In p (map place_of (cond b (t ∷ filter is_unsure ts) (filter is_unsure ts)))
        → (u : Target) × Contains (t ∷ ts) u × (u.unsure ≡ true) × (u.place ≡ p)
    by true is rest (inl same) = (t, (0, omega arith, refl), is, sym same)
    by true is rest (inr more) = further (rest more)
    by false is rest more = further (rest more)

unsure_at : (waits : List (List Target)) (p : ℕ) → In p (unsure_places waits)
    → (i : ℕ) × (t : Target) × Contains (targets_of waits i) t × (t.unsure ≡ true) × (t.place ≡ p)
unsure_at [] p there = absurd there
unsure_at (ts ∷ waits) p there =
    elim (In_or p (map place_of (filter is_unsure ts)) (unsure_places waits) there) [
      | inl here ↦ let u = unsure_in ts p here in (0, u.0, u.1, u.2, u.3)
      | inr more ↦ let u = unsure_at waits p more in (suc u.0, u.1, u.2, u.3, u.4)
    ]

unsure_places_In : (waits : List (List Target)) (i : ℕ) (t : Target) → Contains (targets_of waits i) t
    → t.unsure ≡ true → In t.place (unsure_places waits)
unsure_places_In [] i t there is = absurd (omega (arith, there.1))
unsure_places_In (ts ∷ waits) zero t there is =
    In-append_left t.place (map place_of (filter is_unsure ts)) (unsure_places waits)
    (place_In (filter is_unsure ts) t (Contains-filtered is_unsure ts t is there))
unsure_places_In (ts ∷ waits) (suc i) t there is =
    In-append_right t.place (map place_of (filter is_unsure ts)) (unsure_places waits)
    (unsure_places_In waits i t there is)

kept-In : (kept : List ℕ) (t : Target) → t.unsure ≡ true → is_kept kept t ≡ true → In t.place kept
kept-In kept t unsure is = by t.unsure unsure is
  where
    by : (u : Bool) → u ≡ true → (not u || is_among kept t.place) ≡ true → In t.place kept
    by true same h = among-In t.place kept h
    by false same h = absurd cc

In-kept : (kept : List ℕ) (t : Target) → (t.unsure ≡ true → In t.place kept) → is_kept kept t ≡ true
In-kept kept t there = by t.unsure refl
  where
    by : (u : Bool) → t.unsure ≡ u → (not u || is_among kept t.place) ≡ true
    by true is = In-among t.place kept (there is)
    by false is = refl

-- ---- arcs by unsure flushes

abbrev arc_place : WaitArc → ℕ
arc_place arc = arc.place

module _ (d : Declaration) where
  abbrev doubted : ℕ → Bool
  doubted p = is_among (unsure_places d.waits) p

  arc_In : (arcs : List WaitArc) (x : WaitArc) → Contains arcs x → In x.place (map arc_place arcs)
  arc_In [] x (k, lt, at) = absurd (omega arith)
  arc_In (y ∷ arcs) x (zero, lt, at) = inl (ap arc_place (sym at))
  arc_In (y ∷ arcs) x (suc k, lt, at) = inr (arc_In arcs x (k, omega arith, at))

  -- an arc by an unsure flush is among the unsure arcs
  unsure_In : (arcs : List WaitArc) (x : WaitArc) → Contains arcs x → doubted x.place ≡ true
      → In x.place (map arc_place (unsure_arcs d arcs))
  unsure_In arcs x there is =
      arc_In (unsure_arcs d arcs) x (Contains-filtered (λ (arc : WaitArc). doubted arc.place) arcs x is there)

  arc_from : (arcs : List WaitArc) (p : ℕ) → In p (map arc_place (unsure_arcs d arcs))
      → (y : WaitArc) × Contains arcs y × (doubted y.place ≡ true) × (y.place ≡ p)
  arc_from [] p there = absurd there
  arc_from (x ∷ arcs) p there = by (doubted x.place) refl (λ g. arc_from arcs p g) there
    where
      further : (y : WaitArc) × Contains arcs y × (doubted y.place ≡ true) × (y.place ≡ p)
          → (y : WaitArc) × Contains (x ∷ arcs) y × (doubted y.place ≡ true) × (y.place ≡ p)
      further (y, has, is, at) = (y, Contains-later x arcs y has, is, at)

      by : (b : Bool) → doubted x.place ≡ b
          → (In p (map arc_place (unsure_arcs d arcs))
          → (y : WaitArc) × Contains arcs y × (doubted y.place ≡ true) × (y.place ≡ p))
          → In p (map arc_place (cond b (x ∷ unsure_arcs d arcs) (unsure_arcs d arcs)))
          → (y : WaitArc) × Contains (x ∷ arcs) y × (doubted y.place ≡ true) × (y.place ≡ p)
      by true is rest (inl same) = (x, (0, omega arith, refl), is, sym same)
      by true is rest (inr more) = further (rest more)
      by false is rest more = further (rest more)

module _ (d : Declaration) (is : IsDeclaration d) where
  apart : Apart (places d.waits)
  apart = Apart-AllPairs (places d.waits)
      (Differ-numbered (flush_count d.waits) (places d.waits) is.places_are_numbered)

  -- a flush at the place of an unsure flush is unsure
  unsure-flush : (i : ℕ) (t : Target) → Contains (targets_of d.waits i) t → doubted d t.place ≡ true → t.unsure ≡ true
  unsure-flush i t there among =
      let u = unsure_at d.waits t.place (among-In t.place (unsure_places d.waits) among) in
      let same = place_flush d.waits u.0 i u.1 t apart u.2 there u.4 in
      subst (λ (x : Target). x.unsure ≡ true) same.1 u.3

  item-below : (i : ℕ) (t : Target) → Contains (targets_of d.waits i) t → i < length d.group_of
  item-below i t there = elim (cases_lt i (length d.waits)) [
    | inl within ↦ omega (arith, within, is.one_list_each)
    | inr past ↦ absurd (omega (arith, there.1, ap length (get_or_past d.waits i [] past)))
  ]

  target-below : (i : ℕ) (t : Target) → Contains (targets_of d.waits i) t → t.item < length d.group_of
  target-below i t there =
      All-contains (λ (x : Target). x.item < length d.group_of) (targets_of d.waits i) t
      (is.targets_are_items i [] (omega (arith, item-below i t there, is.one_list_each))) there

  group-below : (i : ℕ) → i < length d.group_of → slice_index d.group_of i < d.groups
  group-below i within = is.partition.within i 0 within

  -- arcs are waits of a reading that keeps the unsure flushes among them
  module _ (kept : List ℕ) where
    abbrev Waits : ℕ → ℕ → Type 0
    Waits = GroupWaits (reading_declared d kept)

    abbrev Keeps : WaitArc → Type 0
    Keeps x = doubted d x.place ≡ true → In x.place kept

    Waits-arc : (x : WaitArc) → IsArc d.waits d.group_of x → Keeps x
        → Waits (tail_of d x) (slice_index d.group_of x.dst)
    Waits-arc x arc keeps =
        let f = arc.declared in
        let t : Target = f.1 in
        let there : Contains (targets_of d.waits x.src) t = (f.0, f.2, f.3) in
        let kept_there : t.unsure ≡ true → In t.place kept =
        λ unsure. subst (λ (p : ℕ). In p kept) (sym f.4.1)
        (keeps (subst (λ (p : ℕ). doubted d p ≡ true) f.4.1
        (In-among t.place (unsure_places d.waits) (unsure_places_In d.waits x.src t there unsure)))) in
        record {
          item = x.src;
          target = x.dst;
          declares = ItemWaits-in kept d.waits x.src x.dst (f.0, t, f.2, f.3, (f.4.0, In-kept kept t kept_there));
          of_item = slice_get-get_or d.group_of x.src 0 (item-below x.src t there);
          of_target = slice_get-get_or d.group_of x.dst 0 (omega (arith, target-below x.src t there, f.4.0));
        }

    module _ (a : Assignment) where
      arcs-chain : (g : ℕ) (arcs : List WaitArc) → Follows d g arcs → AllByRecursion (IsStepDown d a) arcs
          → ((x : WaitArc) → Contains arcs x → Keeps x) → BeginsChain Waits g (length arcs + 1)
      arcs-chain g [] follows steps keep = BeginsChain-one Waits g
      arcs-chain g (x ∷ arcs) follows steps keep =
          let to : ℕ = slice_index d.group_of x.dst in
          let rest = arcs-chain to arcs follows.1 steps.1 (λ y there. keep y (Contains-later x arcs y there)) in
          let waits : Waits g to = subst (λ (v : ℕ). Waits v to) follows.0
          (Waits-arc x steps.0.declared (keep x (0, omega arith, refl))) in
          BeginsChain-at Waits g (length arcs + 1 + 1) (length (x ∷ arcs) + 1) (omega arith)
          (BeginsChain-more Waits g to (length arcs + 1) waits rest)

      -- a chain down, as a chain of groups
      chain-groups : (arcs : List WaitArc) → IsPlan d a → IsChainDown d a arcs
          → ((x : WaitArc) → Contains arcs x → Keeps x)
          → 0 < a.lanes → (g : ℕ) × (g < d.groups) × BeginsChain Waits g a.lanes
      chain-groups [] plan down keep some =
          let last = last_group d a plan some in
          let one = BeginsChain-one Waits last.0 in
          (last.0, last.1, BeginsChain-at Waits last.0 1 a.lanes (omega (arith, down.count)) one)
      chain-groups (x ∷ arcs) plan down keep some =
          let steps = recursion_from_All (IsStepDown d a) (x ∷ arcs) down.arcs in
          let f = steps.0.declared.declared in
          let within : x.src < length d.group_of = item-below x.src f.1 (f.0, f.2, f.3) in
          let follows = Follows-from_joined d (tail_of d x) (x ∷ arcs) refl down.joined in (
            tail_of d x,
            group-below x.src within,
            BeginsChain-at Waits (tail_of d x) (length (x ∷ arcs) + 1) a.lanes (omega (arith, down.count))
                (arcs-chain (tail_of d x) (x ∷ arcs) follows steps keep),
          )

      -- ---- the other way round: a chain of groups in the reading, as a chain down

      -- this many arcs from group g down; the unsure flushes among them are kept
      abbrev Way : ℕ → ℕ → Type 0
      Way g n = (arcs : List WaitArc) × (length arcs ≡ n) × Follows d g arcs × AllByRecursion (IsStepDown d a) arcs
          × AllByRecursion Keeps arcs

      module _ (plan : IsPlan d a) where
        way : (v : ℕ) (vs : List ℕ) → v < d.groups → IsChain Waits (v ∷ vs) → group_lane a v ≡ length vs
            → Way v (length vs)
        way v [] group chain same = ([], refl, tt, tt, tt)
        way v (w ∷ vs) group chain same =
            let waits = chain.0 in
            let found = ItemWaits-out kept d.waits waits.item waits.target waits.declares in
            let t : Target = found.1 in
            let there : Contains (targets_of d.waits waits.item) t = (found.0, found.2, found.3) in
            let from : slice_index d.group_of waits.item ≡ v =
            get_or_from_slice_get d.group_of waits.item v 0 waits.of_item in
            let to : slice_index d.group_of waits.target ≡ w =
            get_or_from_slice_get d.group_of waits.target w 0 waits.of_target in
            let within : waits.target < length d.group_of =
            omega (arith, target-below waits.item t there, found.4.0) in
            let below : w < d.groups = omega (arith, group-below waits.target within, to) in
            let falls : group_lane a w < group_lane a v =
            IsPlan-falls d a plan v w group (GroupWaits-all d kept v w waits) in
            let goes_on : BeginsChain (GroupWaits d) w (length (w ∷ vs)) =
            (vs, IsChain-implied Waits (GroupWaits d) (GroupWaits-all d kept) (w ∷ vs) chain.1, refl) in
            let long : length (w ∷ vs) ≤ group_lane a w + 1 = lane-chain d a w (length (w ∷ vs)) plan below goes_on in
            let rest = way w vs below chain.1 (omega (arith, falls, long, same)) in
            let arc : WaitArc = record {
              src = waits.item;
              dst = waits.target;
              head = slice_index d.group_of waits.target;
              place = t.place;
            } in
            let one_down : group_lane a w + 1 ≡ group_lane a v = omega (arith, falls, long, same) in (
              arc ∷ rest.0,
              ap suc rest.1,
              (from, subst (λ (h : ℕ). Follows d h rest.0) (sym to) rest.2),
              (
                record {
                  declared = record {
                    declared = (found.0, t, found.2, found.3, (found.4.0, refl));
                    head = refl;
                  };
                  falls = omega (arith, ap (group_lane a) to, ap (group_lane a) from, one_down);
                },
                rest.3,
              ),
              (λ doubt. kept-In kept t (unsure-flush waits.item t there doubt) found.4.1, rest.4),
            )

  -- ---- flushes down the lanes are different ones

  module _ (a : Assignment) where
    lower : (g : ℕ) (arcs : List WaitArc) → Follows d g arcs → AllByRecursion (IsStepDown d a) arcs → (x : WaitArc)
        → Contains arcs x → item_lane a d.group_of x.src ≤ group_lane a g
    lower g [] follows steps x (k, lt, at) = absurd (omega arith)
    lower g (y ∷ arcs) follows steps x (zero, lt, at) =
        omega (arith, ap (group_lane a) follows.0, ap (λ (z : WaitArc). item_lane a d.group_of z.src) at)
    lower g (y ∷ arcs) follows steps x (suc k, lt, at) =
        omega (
          arith,
          lower (slice_index d.group_of y.dst) arcs follows.1 steps.1 x (k, omega arith, at),
          steps.0.falls,
          ap (group_lane a) follows.0,
        )

    Apart-arcs : (g : ℕ) (arcs : List WaitArc) → Follows d g arcs → AllByRecursion (IsStepDown d a) arcs
        → Apart (map arc_place (unsure_arcs d arcs))
    Apart-arcs g [] follows steps = tt
    Apart-arcs g (x ∷ arcs) follows steps =
        by (doubted d x.place) (Apart-arcs (slice_index d.group_of x.dst) arcs follows.1 steps.1)
      where
        avoids : Avoids x.place (map arc_place (unsure_arcs d arcs))
        avoids = Avoids-from x.place (map arc_place (unsure_arcs d arcs)) (λ there.
            let y = arc_from d arcs x.place there in
            let step = All-contains (IsStepDown d a) arcs y.0
            (All-from_recursion (IsStepDown d a) arcs steps.1) y.1 in
            let f = steps.0.declared.declared in
            let g = step.declared.declared in
            let same = place_flush d.waits x.src y.0.src f.1 g.1 apart (f.0, f.2, f.3) (g.0, g.2, g.3)
            (f.4.1 ∙ sym y.3 ∙ sym g.4.1) in
            omega (
              arith,
              lower (slice_index d.group_of x.dst) arcs follows.1 steps.1 y.0 y.1,
              steps.0.falls,
              ap (item_lane a d.group_of) same.0,
            ))

        by : (b : Bool) → Apart (map arc_place (unsure_arcs d arcs))
            → Apart (map arc_place (cond b (x ∷ unsure_arcs d arcs) (unsure_arcs d arcs)))
        by true rest = (avoids, rest)
        by false rest = rest

-- ---- the laws

pub chain-enough : (d : Declaration) (a b : Assignment) → IsDeclaration d → IsPlan d a
    → IsPlan (reading_declared d (chain_doubts d a)) b → b.lanes ≡ a.lanes
chain-enough d a b is plan other =
    let chain : List WaitArc = chain_of_plan d a.lane_of_group in
    let kept : List ℕ = chain_doubts d a in
    let down = (chain_of-longest d is a plan).down in
    let most : b.lanes ≤ a.lanes = lanes-all d kept a b plan other in
    elim (cases_lt 0 a.lanes) [
      | inl some ↦ (
          let groups = chain-groups d is kept a chain plan down (unsure_In d chain) some in
          let long : a.lanes ≤ group_lane b groups.0 + 1 =
          lane-chain (reading_declared d kept) b groups.0 a.lanes other groups.1 groups.2 in
          omega (arith, most, long, lane-below (reading_declared d kept) b groups.0 other groups.1)
          )
      | inr none ↦ omega (arith, most, none)
    ]

pub chain-needed : (d : Declaration) (a b : Assignment) (kept : List ℕ) → IsDeclaration d → IsPlan d a
    → IsPlan (reading_declared d kept) b → b.lanes ≡ a.lanes
    → length (chain_doubts d a) ≤ length kept
chain-needed d a b kept is plan other same =
    let chain : List WaitArc = chain_of_plan d a.lane_of_group in
    let longest = chain_of-longest d is a plan in
    elim (cases_lt 0 b.lanes) [
      | inl some ↦ (
          let last = last_group (reading_declared d kept) b other some in
          let v : ℕ = last.0 in
          let begins = (other.ranks v last.1).0 in
          let vs : List ℕ = begins.0 in
          let there : BeginsChain (GroupWaits d) v (length (v ∷ vs)) = (
            vs,
            IsChain-implied (GroupWaits (reading_declared d kept)) (GroupWaits d) (GroupWaits-all d kept) (v ∷ vs)
                begins.1,
            refl,
          ) in
          let long : length (v ∷ vs) ≤ group_lane a v + 1 = lane-chain d a v (length (v ∷ vs)) plan last.1 there in
          let as_long : group_lane a v ≡ length vs =
          omega (arith, long, lane-below d a v plan last.1, last.2, begins.2, same) in
          let found = way d is kept a plan v vs last.1 begins.1 as_long in
          let arcs : List WaitArc = found.0 in
          let lane : group_lane a v + 1 ≡ a.lanes = omega (arith, as_long, last.2, begins.2, same) in
          let down : IsChainDown d a arcs = record {
            count = omega (arith, found.1, as_long, lane);
            arcs = All-from_recursion (IsStepDown d a) arcs found.3;
            joined = Follows-joined d v arcs found.2;
            begins = Follows-begins d (λ (g : ℕ). group_lane a g + 1 ≡ a.lanes) v arcs found.2 lane;
          } in
          let few : length (map arc_place (unsure_arcs d arcs)) ≤ length kept =
          Apart-within (map arc_place (unsure_arcs d arcs)) kept (Apart-arcs d is a v arcs found.2 found.3)
          (λ p has.
          let y = arc_from d arcs p has in
          subst (λ (q : ℕ). In q kept) y.3
          (All-contains (Keeps d is kept) arcs y.0 (All-from_recursion (Keeps d is kept) arcs found.4) y.1 y.2)) in
          omega (
            arith,
            longest.fewest arcs down,
            few,
            length-map (unsure_arcs d arcs) arc_place,
            length-map (unsure_arcs d chain) arc_place,
          )
          )
      | inr none ↦ (
          let empty : chain ≡ [] = nil_from_length chain (omega (arith, longest.down.count, none, same)) in
          omega (arith, ap (λ (arcs : List WaitArc). length (map arc_place (unsure_arcs d arcs))) empty)
          )
    ]

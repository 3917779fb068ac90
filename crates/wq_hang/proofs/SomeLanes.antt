-- Rounds on some lanes are those of the wiring in which all other lanes are bare.
use Rattle.std.proofs.Common.{
  ◌≡◌,
  ℕ,
  zero,
  suc,
  ◌+◌,
  ◌*◌,
  ◌<◌,
  ◌≤◌,
  ◌⊎◌,
  inl,
  inr,
  Bool,
  true,
  false,
  List,
  [],
  ◌∷◌,
  length,
  get_or,
  set,
  replicate,
  refl,
  sym,
  ap,
  subst,
  ◌∙◌,
  arith,
}
use Rattle.std.specs.Prelude.{Contains, slice_index_or, ◌↔◌, IsTrue, not}
use Rattle.std.specs.List.{All, range_with_len}
use Rattle.std.proofs.lemmas.Bool.{cases_eq, not-false, false≢true}
use Rattle.std.proofs.lemmas.List.{get_or-replicate, get_or-set_same, get_or-set_other, length-replicate, length-set}
use Rattle.std.proofs.lemmas.List.Elements.{Contains-get_or}
use Rattle.std.proofs.lemmas.List.Sorted.{All-permutation}
use Rattle.wq_items.specs.Table.{flush_count, places}
use Rattle.wq_items.proofs.Lists.{range_with_len-below}
use Rattle.wq_items.proofs.Ranks.{Differ-numbered}
use Rattle.wq_core.specs.Assigned.{Assigned, IsAssigned}
use Rattle.wq_core.specs.Wiring.{Wiring, IsWiring, HasRescuer, items, lane_of, declared_by, wiring}
use Rattle.wq_groups.specs.Declaration.{Declaration}
use Rattle.wq_groups.specs.DeclaredGroups.{declared_waits}
use Rattle.wq_groups.proofs.Declarations.{IsDeclaration-of}
use Rattle.wq_core.specs.Workqueues.{Workqueues, with_bare, wiring_of}
use Rattle.wq_core.proofs.Wirings.{lane_of-within, IsWiring-wiring, IsWiring-with_bare}
use Rattle.wq_hang.specs.declared.hop.Hop.{Hop}
use Rattle.wq_hang.specs.Walk.{IsPath, IsRound, IsRoundOn, IsLeastRoundOn, ArePlacesApart}
use Rattle.wq_hang.specs.Search.{hops_cost, AreItemsOn, ArePassed, IsLeastRound, AreMarked, AreMarkedOf, AreMade}
use Rattle.wq_hang.proofs.Declared.{declared-item}
use Rattle.wq_hang.proofs.StuckRounds.{walk_cost-hops}
use Rattle.wq_hang.proofs.LeastWalks.{no_round}
use Rattle.wq_hang.proofs.LeastFound.{ArePassed-marked}

-- the wiring of workqueues of a declaration's groups
pub IsWiring-assigned : (a : Assigned) → IsAssigned a → IsWiring (wiring_of (declared_waits a.declared) a.workqueues)
IsWiring-assigned a is =
    let s = a.declared in
    let declaration =
    IsDeclaration-of s.table s.partition is.declared.table is.declared.partition is.declared.one_group_each in
    IsWiring-with_bare (wiring (declared_waits s) a.workqueues.assignment) a.workqueues.bare
    (IsWiring-wiring (declared_waits s) a.workqueues.assignment declaration is.assignment.assignment)

-- places are apart that are numbered, and there are at most 16,384
pub ArePlacesApart-assigned : (a : Assigned) → IsAssigned a
    → ArePlacesApart (wiring_of (declared_waits a.declared) a.workqueues)
ArePlacesApart-assigned a is =
    let s = a.declared in
    let declaration =
    IsDeclaration-of s.table s.partition is.declared.table is.declared.partition is.declared.one_group_each in
    let n : ℕ = flush_count s.table.waits in
    let below : All (λ p. p < n) (places s.table.waits) =
    All-permutation (λ p. p < n) (range_with_len 0 n) (places s.table.waits) declaration.places_are_numbered
    (range_with_len-below n) in
    record {
      apart = Differ-numbered n (places s.table.waits) declaration.places_are_numbered;
      few = λ k d lt. omega (arith, below k d lt, declaration.few_flushes);
    }

-- ---- the wiring in which other lanes are bare

module _ (w : Wiring) (wiring : IsWiring w) (lanes : List ℕ) (bare : List Bool)
    (are : (q : ℕ) → q < w.lanes → (HasRescuer (with_bare w bare) q ↔ (HasRescuer w q × Contains lanes q))) where
  abbrev v : Wiring
  v = with_bare w bare

  own_lane : (h : Hop) → Contains (declared_by w h.item) h.flush → lane_of w h.item < w.lanes
  own_lane h there = lane_of-within w wiring h.item (declared-item w h.item h.flush there)

  path_on : (i j : ℕ) (hops : List Hop) → IsPath v i hops j → IsPath w i hops j
  path_on i j [] path = path
  path_on i j (h ∷ hops) path =
      let on = (are (lane_of w h.item) (own_lane h path.1.declared)).0 path.1.rescuer in
      (path.0, record { declared = path.1.declared; rescuer = on.0 }, path.2, path_on h.next j hops path.3)

  path_stays : (i j : ℕ) (hops : List Hop) → IsPath v i hops j → (h : Hop) → Contains hops h
      → Contains lanes (lane_of w h.item)
  path_stays i j [] path h there = absurd (omega (arith, there.1))
  path_stays i j (g ∷ hops) path h (zero, lt, at) =
      let on = (are (lane_of w g.item) (own_lane g path.1.declared)).0 path.1.rescuer in
      subst (λ (x : Hop). Contains lanes (lane_of w x.item)) at on.1
  path_stays i j (g ∷ hops) path h (suc k, lt, at) = path_stays g.next j hops path.3 h (k, omega arith, at)

  path_kept : (i j : ℕ) (hops : List Hop) → IsPath w i hops j
      → ((h : Hop) → Contains hops h → Contains lanes (lane_of w h.item)) → IsPath v i hops j
  path_kept i j [] path stays = path
  path_kept i j (h ∷ hops) path stays =
      let on : HasRescuer v (lane_of w h.item) = (are (lane_of w h.item) (own_lane h path.1.declared)).1
      (path.1.rescuer, stays h (0, omega arith, refl)) in (
        path.0,
        record { declared = path.1.declared; rescuer = on },
        path.2,
        path_kept h.next j hops path.3 (λ g there. stays g (suc there.0, omega (arith, there.1), there.2)),
      )

  round_on : (hops : List Hop) → IsRound v hops → IsRoundOn w lanes hops
  round_on hops round = record {
    round = record { some = round.some; first = round.first; path = path_on round.first round.first hops round.path };
    stays = path_stays round.first round.first hops round.path;
  }

  round_kept : (hops : List Hop) → IsRoundOn w lanes hops → IsRound v hops
  round_kept hops is = record {
    some = is.round.some;
    first = is.round.first;
    path = path_kept is.round.first is.round.first hops is.round.path is.stays;
  }

  pub IsLeastRoundOn-least : (limit : ℕ) (hops : List Hop) → IsLeastRound v limit hops → IsLeastRoundOn w lanes hops
  IsLeastRoundOn-least limit hops is = record {
    stays = round_on hops is.round;
    least = λ others other. omega (
      arith,
      is.least others (round_kept others other),
      walk_cost-hops hops,
      walk_cost-hops others,
    );
  }

  pub none_on : (limit : ℕ) → 32772 * w.lanes + 32772 ≤ limit
      → ((hops : List Hop) → IsRound v hops → limit ≤ hops_cost hops) → (hops : List Hop) → ¬ IsRoundOn w lanes hops
  none_on limit enough least hops is = no_round v limit (IsWiring-with_bare w bare wiring) enough least hops
      (round_kept hops is)

  pub AreItemsOn-kept : (on : List (List ℕ)) → AreItemsOn w on → AreItemsOn v on
  AreItemsOn-kept on is = record { one_each = is.one_each; within = is.within; all = is.all }

  -- the items on those of the lanes that are marked are passed
  pub ArePassed-on : (on : List (List ℕ)) (marks : List Bool) (passed : List ℕ) → AreMade w on marks
      → AreMarkedOf on marks lanes passed → ArePassed v passed
  ArePassed-on on marks passed made of = ArePassed-marked v made.numbers marks passed marked
      (λ i below rescuer there.
      let on_them = (are (lane_of w i) (lane_of-within w wiring i below)).0 rescuer in
      of.all (lane_of w i) i on_them.1 there (made.items_on.all i below))
    where
      marked : AreMarked v made.numbers marks
      marked h hop low =
          let own = (are (lane_of w h.item) (own_lane h hop.declared)).0 hop.rescuer in
          made.marked h (record { declared = hop.declared; rescuer = own.0 }) low

-- the items that are passed exist
pub passed_items : (w : Wiring) (on : List (List ℕ)) (marks : List Bool) (lanes passed : List ℕ)
    → AreMade w on marks → AreMarkedOf on marks lanes passed → All (λ i. i < items w) passed
passed_items w on marks lanes passed made of k d lt =
    let i : ℕ = get_or passed k d in
    let at = of.within i (Contains-get_or passed k d lt) in
    (made.items_on.within at.0 i at.1).0

-- ---- which lanes are left out

-- of all lanes these stay, if they have a rescuer
pub record AreKept (w : Wiring) (lanes : List ℕ) (bare : List Bool) : Type 0 where
  pub len : length bare ≡ w.lanes
  pub kept : (q : ℕ) → q < w.lanes → slice_index_or bare q false ≡ false → HasRescuer w q × Contains lanes q
  pub all : (q : ℕ) → q < w.lanes → HasRescuer w q → Contains lanes q → slice_index_or bare q false ≡ false

pub AreKept-none : (w : Wiring) (bare : List Bool) → bare ≡ replicate w.lanes true → AreKept w [] bare
AreKept-none w bare is = record {
  len = ap (λ (l : List Bool). length l) is ∙ length-replicate w.lanes true;
  kept = λ q below stays. absurd (false≢true (sym stays ∙ ap (λ (l : List Bool). get_or l q false) is
      ∙ get_or-replicate w.lanes q true false below));
  all = λ q below rescuer there. absurd (omega (arith, there.1));
}

-- one lane more
pub AreKept-more : (w : Wiring) (before after : List ℕ) (bare new : List Bool) (q : ℕ) (has : Bool)
    → AreKept w before bare → q < w.lanes
    → (IsTrue has ↔ HasRescuer w q) → ((p : ℕ) → Contains after p → Contains before p ⊎ (q ≡ p))
    → ((p : ℕ) → Contains before p ⊎ (q ≡ p) → Contains after p) → new ≡ set bare q (not has) → AreKept w after new
AreKept-more w before after bare new q has are below rescuer fewer more is =
    subst (AreKept w after) (sym is) (record { len = length-set bare q (not has) ∙ are.len; kept = kept; all = all })
  where
    within : q < length bare
    within = omega (arith, below, are.len)

    at : (p : ℕ) → (p ≡ q) → get_or (set bare q (not has)) p false ≡ not has
    at p same = subst (λ (k : ℕ). get_or (set bare q (not has)) k false ≡ not has) (sym same)
        (get_or-set_same bare q (not has) false within)

    kept : (p : ℕ) → p < w.lanes → get_or (set bare q (not has)) p false ≡ false → HasRescuer w p × Contains after p
    kept p lt stays = elim (cases_eq p q) [
      | inl same ↦ (
          let here : HasRescuer w q = rescuer.0 (not-false has (sym (at p same) ∙ stays)) in
          (subst (HasRescuer w) (sym same) here, more p (inr (sym same)))
          )
      | inr other ↦ (
          let was = are.kept p lt (sym (get_or-set_other bare q p (not has) false other) ∙ stays) in
          (was.0, more p (inl was.1))
          )
    ]

    all : (p : ℕ) → p < w.lanes → HasRescuer w p → Contains after p → get_or (set bare q (not has)) p false ≡ false
    all p lt here there = elim (cases_eq p q) [
      | inl same ↦ at p same ∙ ap not (rescuer.1 (subst (HasRescuer w) same here))
      | inr other ↦ get_or-set_other bare q p (not has) false other
          ∙ elim (fewer p there) [ inl old ↦ are.all p lt here old | inr same ↦ absurd (other (sym same)) ]
    ]

-- one number more, which is no lane's
pub AreKept-past : (w : Wiring) (before after : List ℕ) (bare : List Bool) (q : ℕ) → AreKept w before bare → w.lanes ≤ q
    → ((p : ℕ) → Contains after p → Contains before p ⊎ (q ≡ p))
    → ((p : ℕ) → Contains before p ⊎ (q ≡ p) → Contains after p)
    → AreKept w after bare
AreKept-past w before after bare q are past fewer more = record {
  len = are.len;
  kept = λ p lt stays. let was = are.kept p lt stays in (was.0, more p (inl was.1));
  all = λ p lt has there. elim (fewer p there) [
    | inl old ↦ are.all p lt has old
    | inr same ↦ absurd
        (omega (arith, same, lt, past))
  ];
}

-- the same bare lanes again
pub same_bare : (w : Wiring) (d : Declaration) (ws : Workqueues) (bare : List Bool) → w ≡ wiring_of d ws
    → bare ≡ ws.bare → with_bare w bare ≡ w
same_bare w d ws bare same is = ap (λ (v : Wiring). with_bare v bare) same ∙ ap (with_bare (wiring_of d ws)) is
    ∙ sym same

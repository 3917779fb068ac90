-- From the steps of a repair to its answer.
use Rattle.std.proofs.Common.{◌≡◌, ℕ, ◌<◌, ◌≤◌, ◌⊎◌, inl, inr, Bool, true, false, not, List, [], ◌∷◌, length, get_or, refl, sym, ap, subst, ◌∙◌, arith}
use Rattle.std.specs.Prelude.{◌↔◌, max, map, slice_index, slice_index_or, Contains}
use Rattle.std.specs.List.{All}
use Rattle.std.proofs.lemmas.Bool.{cases_lt, false≢true}
use Rattle.std.proofs.lemmas.List.{get_or-map, get_or_default, length-map}
use Rattle.std.proofs.lemmas.List.Elements.{All-nil, All-cons}
use Rattle.std.proofs.lemmas.List.FromFn.{length-map-range_with_len}
use Rattle.wq_items.proofs.Lists.{Contains-here}
use Rattle.wq_items.specs.Chain.{IsChain, last_of, Circle, HasCircle}
use Rattle.wq_groups.specs.Declaration.{Declaration, IsDeclaration, GroupWaits}
use Rattle.wq_groups.specs.Assignment.{IsAssignment}
use Rattle.wq_graph.specs.declared.arc.WaitArc.{WaitArc}
use Rattle.wq_graph.specs.Graph.{HasArc, IsGraph, arcs_from, group_graph, without}
use Rattle.wq_graph.proofs.Graphs.{GroupWaits-HasArc, IsGraph-group_graph}
use Rattle.wq_graph.proofs.LeavingOut.{length-without, HasArc-without, IsGraph-without}
use Rattle.wq_levels.specs.Walks.{IsWalkedCircle}
use Rattle.wq_levels.proofs.Graphs.{HasArc-below}
use Rattle.wq_levels.proofs.OneCircle.{HasCircle-walked}
use Rattle.wq_core.specs.declared.step.Step.{Step}
use Rattle.wq_core.specs.Workqueues.{Workqueues, wiring_of}
use Rattle.wq_core.specs.Deadlock.{IsSafe, Deadlocks}
use Rattle.wq_core.proofs.LaneCircles.{Circle-map}
use Rattle.wq_deadlock.specs.Judging.{bare_waits, rescued_graph, AreFirst, IsHang}
use Rattle.wq_repair.specs.Changes.{IsRescued, IsNamed, lane_in}
use Rattle.wq_repair.specs.Needed.{BringsAlong, NeedsRescuer, NeedsRescuerOf}
use Rattle.wq_repair.specs.Marks.{IsMarked, Marks}
use Rattle.wq_repair.specs.Joined.{NeededWaits, IsStart}
use Rattle.wq_repair.specs.Steps.{IsStartBy}
use Rattle.wq_repair.specs.Ready.{Scope, IsScope, IsReady, IsGraphOfNeeded, IsMinimal, CoversRescued}
use Rattle.wq_repair.specs.Repair.{IsRepair, AreNamesTooFew, IsNeededCircle}
use Rattle.wq_repair.proofs.Rescuers.{stays-unnamed, rescued-first, waiting-below, awaited-below, IsLedTo-first, IsLedTo-next, rescued-needed, Deadlocks-needed_circle}
use Rattle.wq_repair.proofs.Starts.{cases_named}
use Rattle.wq_repair.proofs.StartsBy.{IsStart-by}
use Rattle.wq_repair.proofs.Readied.{all_or_one}
use Rattle.wq_repair.proofs.Identified.{Circle-identified}
use Rattle.wq_repair.proofs.Judged.{GroupsWait-arc, bare_group_waits, Deadlocks-hanging, rescued_awaited-safe, IsGraph-rescued_graph}
use Rattle.wq_repair.proofs.Repaired.{IsRepair-needed}

-- a circle whose vertices are bounded, as all that something leads to is
pub HasCircle-bounded : (R : ℕ → ℕ → Type 0) (n : ℕ) → ((a b : ℕ) → R a b → b < n) → Circle R → HasCircle R n
HasCircle-bounded R n bound circle = (circle, All-cons (λ (v : ℕ). v < n) circle.first circle.others (bound (last_of circle.first circle.others) circle.first circle.closes) (rest circle.first circle.others circle.chain))
  where
    rest : (v : ℕ) (vs : List ℕ) → IsChain R (v ∷ vs) → All (λ (v : ℕ). v < n) vs
    rest v [] chain = All-nil (λ (v : ℕ). v < n)
    rest v (w ∷ ws) chain = All-cons (λ (v : ℕ). v < n) w ws (bound v w chain.0) (rest w ws chain.1)

-- ---- the graph of those that need a rescuer

not_true : (b : Bool) → not b ≡ false → b ≡ true
not_true true is = refl
not_true false is = absurd (false≢true (sym is))

-- a marked group isn't left out
pub left_out-not : (marks : List Bool) (g : ℕ) → g < length marks → (slice_index_or (map not marks) g false ≡ false) ↔ IsMarked marks g
left_out-not marks g below =
    let at : get_or (map not marks) g false ≡ not (get_or marks g false) = get_or-map not marks g false false below in
    (λ kept. not_true (get_or marks g false) (sym at ∙ kept), λ marked. at ∙ ap not marked)

module _ (d : Declaration) (declaration : IsDeclaration d) (needed : List Bool) (long : length needed ≡ d.groups) where
  abbrev graph : List (List WaitArc)
  graph = without (map not needed) (group_graph d)

  pub IsGraphOfNeeded-without : IsGraphOfNeeded d needed (without (map not needed) (group_graph d))
  IsGraphOfNeeded-without = record {
    long = length-without (map not needed) (group_graph d) ∙ length-map-range_with_len (arcs_from d.waits d.group_of) 0 d.groups;
    arcs = λ g h.
        let kept = HasArc-without (map not needed) (group_graph d) g h in
        let waits = GroupWaits-HasArc d declaration g h in (
          λ arc.
              let parts = kept.0 arc in
              let group_waits = waits.1 parts.2 in (
                (left_out-not needed g (omega (arith, waiting-below d declaration g h group_waits, long))).0 parts.0,
                (left_out-not needed h (omega (arith, awaited-below d declaration g h group_waits, long))).0 parts.1,
                group_waits,
              ),
          λ all. kept.1 (
            (left_out-not needed g (omega (arith, waiting-below d declaration g h all.2, long))).1 all.0,
            (left_out-not needed h (omega (arith, awaited-below d declaration g h all.2, long))).1 all.1,
            waits.0 all.2,
          ),
        );
  }

-- ---- where all may move

module _ (d : Declaration) (old : Workqueues) (names : List ℕ) (all_named : (g : ℕ) → g < d.groups → IsNamed d names g) (declaration : IsDeclaration d) where
  along-waits : (g h : ℕ) → g < d.groups → BringsAlong d old names g h → GroupWaits d g h
  along-waits g h is (inl waits) = waits
  along-waits g h is (inr beside) = absurd (beside.unnamed (all_named g is))

  chain-waits : (g : ℕ) (others : List ℕ) → g < d.groups → IsChain (BringsAlong d old names) (g ∷ others) → IsChain (GroupWaits d) (g ∷ others)
  chain-waits g [] is chain = tt
  chain-waits g (h ∷ others) is chain =
      let waits = along-waits g h is chain.0 in
      (waits, chain-waits h others (awaited-below d declaration g h waits) chain.1)

  -- a group that needs a rescuer then needs one whatever may move
  pub NeedsRescuer-all : (g : ℕ) → NeedsRescuerOf d old names g → NeedsRescuer d old g
  NeedsRescuer-all g led = record {
    first = led.first;
    others = led.others;
    is_group = led.is_group;
    rescued = led.rescued;
    chain = chain-waits led.first led.others led.is_group led.chain;
    ends = led.ends;
  }

-- the items are all items
pub IsNamed-all : (d : Declaration) (items : List ℕ) → IsDeclaration d → ((i : ℕ) → i < length d.group_of → slice_index items i ≡ i) → length items ≡ length d.group_of → (g : ℕ) → g < d.groups → IsNamed d items g
IsNamed-all d items declaration all long g is =
    let there = declaration.partition.filled g is in
    let within : there.0 < length items = omega (arith, there.1, long) in (
      there.0,
      there.0,
      within,
      get_or_default items there.0 there.0 0 within ∙ all there.0 there.1,
      get_or_default d.group_of there.0 0 g there.1 ∙ there.2,
    )

-- ---- circles of those that need a rescuer

module _ (d : Declaration) (old : Workqueues) (declaration : IsDeclaration d) (before : IsAssignment d.groups old.assignment) (always : List Bool)
    (are : Marks (NeedsRescuer d old) d.groups always) where
  abbrev needed_graph : List (List WaitArc)
  needed_graph = without (map not always) (group_graph d)

  pub NeededWaits-arc : (g h : ℕ) → HasArc (without (map not always) (group_graph d)) g h ↔ NeededWaits d old g h
  NeededWaits-arc g h =
      let of = (IsGraphOfNeeded-without d declaration always are.one_each).arcs g h in (
        λ arc. let parts = of.0 arc in ((are.exactly g (waiting-below d declaration g h parts.2)).0 parts.0, parts.2),
        λ waits.
            let g_below = waiting-below d declaration g h waits.1 in
            let h_below = awaited-below d declaration g h waits.1 in
            of.1 ((are.exactly g g_below).1 waits.0, (are.exactly h h_below).1 (IsLedTo-next d old (GroupWaits d) g h waits.0 waits.1), waits.1),
      )

  needed_sound : IsGraph (without (map not always) (group_graph d))
  needed_sound = IsGraph-without (map not always) (group_graph d) (IsGraph-group_graph d declaration)

  Circle-needed : Circle (HasArc (without (map not always) (group_graph d))) → Circle (NeededWaits d old)
  Circle-needed circle = Circle-map (HasArc needed_graph) (NeededWaits d old) (λ v. v) (λ g h arc. (NeededWaits-arc g h).0 arc) circle

  -- the answer is the circle
  pub IsNeededCircle-walked : (circle : List WaitArc) → IsWalkedCircle (without (map not always) (group_graph d)) circle → IsNeededCircle d old circle
  IsNeededCircle-walked circle walked = record {
    out = map not always;
    needed = record { one_each = length-map always not ∙ are.one_each; exactly = exactly };
    walked = walked;
    all = λ names new compared. Deadlocks-needed_circle d old new names declaration before compared (Circle-needed (HasCircle-walked needed_graph needed_sound circle walked).0);
  }
    where
      exactly : (g : ℕ) → g < d.groups → (slice_index_or (map not always) g true ≡ false) ↔ NeedsRescuer d old g
      exactly g is =
          let below : g < length always = omega (arith, is, are.one_each) in
          let in_map : g < length (map not always) = omega (arith, below, length-map always not) in
          let same : get_or (map not always) g true ≡ get_or (map not always) g false = get_or_default (map not always) g true false in_map in
          let marks = left_out-not always g below in (
            λ kept. (are.exactly g is).0 (marks.0 (sym same ∙ kept)),
            λ needs. same ∙ marks.1 ((are.exactly g is).1 needs),
          )

  -- there is none
  pub no_circle-needed : (¬ HasCircle (HasArc (without (map not always) (group_graph d))) (length (without (map not always) (group_graph d)))) → ¬ Circle (NeededWaits d old)
  no_circle-needed none circle =
      none (HasCircle-bounded (HasArc needed_graph) (length needed_graph) (HasArc-below needed_graph needed_sound)
      (Circle-map (NeededWaits d old) (HasArc needed_graph) (λ v. v) (λ g h waits. (NeededWaits-arc g h).1 waits) circle))

-- ---- the start

module _ (d : Declaration) (old start : Workqueues) (names : List ℕ) (declaration : IsDeclaration d) (before : IsAssignment d.groups old.assignment) (is : IsStart d old names start) where
  -- where all may move, and those that need a rescuer wait in no circle, the start doesn't hang
  module _ (all_named : (g : ℕ) → g < d.groups → IsNamed d names g) (no_circle : ¬ Circle (NeededWaits d old)) (few : start.assignment.lanes ≤ 4096) where
    record IsLaneOfOne (p g : ℕ) : Type 0 where
      is_group : g < d.groups
      rescued : IsRescued start p
      on : lane_in start g ≡ p

    one_group : (p g h : ℕ) → IsLaneOfOne p g → IsLaneOfOne p h → g ≡ h
    one_group p g h one other =
        is.alone g h one.is_group other.is_group (all_named g one.is_group) (is.needed g one.is_group (subst (IsRescued start) (sym one.on) one.rescued)) (one.on ∙ sym other.on)

    lanes_wait : (p q : ℕ) → HasArc (rescued_graph d start) p q → ((x : ℕ) × (y : ℕ) × IsLaneOfOne p x × IsLaneOfOne q y × NeededWaits d old x y) ⊎ ⊥
    lanes_wait p q arc =
        let wait = GroupsWait-arc d start declaration is.compared.assignment p q arc in
        let g_is = waiting-below d declaration wait.group wait.awaited wait.waits in
        let h_is = awaited-below d declaration wait.group wait.awaited wait.waits in
        let needs = is.needed wait.group g_is (subst (IsRescued start) (sym wait.from) wait.rescued) in
        inl (
          wait.group,
          wait.awaited,
          record { is_group = g_is; rescued = wait.rescued; on = wait.from },
          record { is_group = h_is; rescued = wait.also; on = wait.to },
          (NeedsRescuer-all d old names all_named declaration wait.group needs, wait.waits),
        )

    no_start_circle : ¬ Circle (HasArc (rescued_graph d start))
    no_start_circle circle = elim (Circle-identified (HasArc (rescued_graph d start)) (NeededWaits d old) IsLaneOfOne ⊥ one_group lanes_wait circle) [
      | inl round ↦ no_circle round
      | inr never ↦ never
    ]

    never_hangs : (waits : List WaitArc) → waits ≡ bare_waits d start → (first : List ℕ) → AreFirst d start waits first → ⊥
    never_hangs (x ∷ more) all first are =
        let bare = bare_group_waits d start declaration is.compared.assignment x (subst (λ (l : List WaitArc). Contains l x) all (Contains-here x more)) in
        let g : ℕ = slice_index d.group_of x.src in
        let h : ℕ = slice_index d.group_of x.dst in
        let h_is = awaited-below d declaration g h bare.0 in
        let needs = is.needed g (waiting-below d declaration g h bare.0) bare.1 in
        bare.2 (is.rescued h h_is (all_named h h_is) (IsLedTo-next d old (BringsAlong d old names) g h needs (inl bare.0)))
    never_hangs [] all first (circle, walked, same) =
        no_start_circle (HasCircle-walked (rescued_graph d start) (IsGraph-rescued_graph d start declaration is.compared.assignment few) circle walked).0

  named_or_not : (k : ℕ) → ((k < d.groups) → IsNamed d names k) ⊎ ((k < d.groups) × (¬ IsNamed d names k))
  named_or_not k = elim (cases_lt k d.groups) [
    | inr past ↦ inl (λ lt. absurd (omega (arith, past, lt)))
    | inl lt ↦ elim (cases_named d names k) [ inl named ↦ inl (λ below. named) | inr not ↦ inr (lt, not) ]
  ]

  pub AreNamesTooFew-start : start.assignment.lanes ≤ 4096 → start.assignment.lanes ≤ max old.assignment.lanes d.groups → length start.bare ≤ start.assignment.lanes → (¬ Circle (NeededWaits d old))
      → (steps : List Step) → IsHang d start steps → AreNamesTooFew d old names start steps
  AreNamesTooFew-start few most bare no_circle steps hang = record {
    no_circle = no_circle;
    some_stay = elim (all_or_one (λ (k : ℕ). (k < d.groups) → IsNamed d names k) (λ (k : ℕ). (k < d.groups) × (¬ IsNamed d names k)) named_or_not d.groups) [
      | inr one ↦ (one.0, one.1, one.2.1)
      | inl all ↦ absurd (never_hangs (λ g below. all g below below) no_circle few (bare_waits d start) refl hang.first hang.are_first)
    ];
    compared = is.compared;
    is = is;
    few = most;
    bare = bare;
    hang = hang;
    all = λ new compared. Deadlocks-hanging d old start new names declaration before is few compared (bare_waits d start) refl hang.first hang.are_first;
  }

  module _ (safe : IsSafe (wiring_of d start)) where
    rescued_next : (g h : ℕ) → g < d.groups → NeedsRescuerOf d old names g → IsRescued start (lane_in start g) → BringsAlong d old names g h → IsRescued start (lane_in start h)
    rescued_next g h g_is needs rescued (inl waits) = rescued_awaited-safe d start declaration is.compared.assignment safe g h waits rescued
    rescued_next g h g_is needs rescued (inr beside) = elim (cases_named d names h) [
      | inl named ↦ is.rescued h beside.is_group named (IsLedTo-next d old (BringsAlong d old names) g h needs (inr beside))
      | inr unnamed ↦ subst (IsRescued start) (sym (stays-unnamed d old start names declaration before is.compared h beside.is_group unnamed ∙ beside.beside)) (is.given g g_is beside.unnamed needs beside.named_lane)
    ]

    next_below : (g h : ℕ) → BringsAlong d old names g h → h < d.groups
    next_below g h (inl waits) = awaited-below d declaration g h waits
    next_below g h (inr beside) = beside.is_group

    rescued_chain : (g : ℕ) (others : List ℕ) → g < d.groups → NeedsRescuerOf d old names g → IsRescued start (lane_in start g) → IsChain (BringsAlong d old names) (g ∷ others)
        → IsRescued start (lane_in start (last_of g others))
    rescued_chain g [] g_is needs rescued chain = rescued
    rescued_chain g (h ∷ others) g_is needs rescued chain =
        rescued_chain h others (next_below g h chain.0) (IsLedTo-next d old (BringsAlong d old names) g h needs chain.0) (rescued_next g h g_is needs rescued chain.0) chain.1

    -- where the start is safe, all that need a rescuer have one
    pub rescued-safe : (g : ℕ) → NeedsRescuerOf d old names g → IsRescued start (lane_in start g)
    rescued-safe g led =
        subst (λ (x : ℕ). IsRescued start (lane_in start x)) led.ends
        (rescued_chain led.first led.others led.is_group (IsLedTo-first d old (BringsAlong d old names) led.first led.is_group led.rescued)
        (rescued-first d old start names declaration before is.compared led.first led.is_group led.rescued) led.chain)

-- all is ready
module _ (d : Declaration) (old start : Workqueues) (names : List ℕ) (s : Scope) (scope : IsScope d old names s)
    (are_needed : Marks (NeedsRescuerOf d old names) d.groups s.needed)
    (by : IsStartBy old s.movable s.given start) where
  pub IsStart-scope : IsStart d old names start
  IsStart-scope = IsStart-by d old start names scope.named.groups scope.named.lanes s.needed s.movable s.given
      scope.assignment scope.are_named.groups scope.are_named.lanes are_needed scope.are_movable scope.are_given by

  pub IsReady-start : IsDeclaration d → IsSafe (wiring_of d start) → IsReady d old names s start
  IsReady-start declaration safe = record {
    scope = scope;
    by = by;
    rescued = λ g below marked.
        rescued-safe d old start names declaration scope.assignment IsStart-scope safe g
        ((are_needed.exactly g below).0 marked);
    safe = safe;
  }

-- each group on a lane with a rescuer is among those that need one
pub CoversRescued-needed : (d : Declaration) (old : Workqueues) (names : List ℕ) (needed : List Bool)
    → Marks (NeedsRescuerOf d old names) d.groups needed → CoversRescued d old needed
CoversRescued-needed d old names needed are g below rescued =
    (are.exactly g below).1 (IsLedTo-first d old (BringsAlong d old names) g below rescued)

-- the answer is a repair
pub IsRepair-minimal : (d : Declaration) (old new : Workqueues) (names : List ℕ) (needed : List Bool) → IsDeclaration d → IsAssignment d.groups old.assignment
    → Marks (NeedsRescuerOf d old names) d.groups needed → Deadlocks (wiring_of d old) → IsMinimal d old names needed new → IsRepair d old names new
IsRepair-minimal d old new names needed declaration before are_needed dead is =
    IsRepair-needed d old new names needed is.number declaration dead is.compared
    (λ fewer compared less g below marked. rescued-needed d old fewer names declaration before compared g ((are_needed.exactly g below).0 marked))
    is.changes is.falls is.few is.bare is.used is.only is.hosted

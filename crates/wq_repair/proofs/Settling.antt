-- Which groups were tried in vain, and what ranks say of those that stay.
use Rattle.std.proofs.Common.{◌≡◌, ℕ, ◌+◌, ◌<◌, ◌≤◌, ◌⊎◌, inl, inr, Bool, true, false, not, List, [], length}
use Rattle.std.proofs.Common.{map, set, refl, sym, ap, subst, ◌∙◌, arith, get_or-set_same, get_or-set_other}
use Rattle.std.specs.Prelude.{Option, slice_index, slice_index_or, if◌then◌else◌, ◌==◌}
use Rattle.std.proofs.Math.ListN.{length-set}
use Rattle.std.proofs.lemmas.Bool.{cases_eq, cases_lt, cases_Bool, eqb-true, eq-eqb, false≢true}
use Rattle.std.proofs.lemmas.List.{get_or-map, get_or_past, get_or_default}
use Rattle.wq_items.specs.Chain.{Circle}
use Rattle.wq_groups.specs.Declaration.{Declaration, IsDeclaration}
use Rattle.wq_groups.specs.Assignment.{Assignment, IsAssignment, group_lane}
use Rattle.wq_graph.specs.declared.arc.WaitArc.{WaitArc}
use Rattle.wq_graph.specs.Graph.{HasArc, IsGraph}
use Rattle.wq_core.specs.Workqueues.{Workqueues}
use Rattle.wq_core.proofs.LaneCircles.{Circle-map}
use Rattle.wq_levels.proofs.Graphs.{HasArc-below}
use Rattle.wq_deadlock.specs.Judging.{rescued_graph}
use Rattle.wq_repair.specs.Changes.{IsRescued}
use Rattle.wq_repair.specs.Joined.{become}
use Rattle.wq_repair.specs.Marks.{IsMarked}
use Rattle.wq_repair.specs.Near.{LeadEitherWay}
use Rattle.wq_repair.specs.Ready.{IsTrial, AreRanksOfGroups}
use Rattle.wq_repair.specs.Together.{ArcBetween}
use Rattle.wq_repair.specs.Settled.{Settled, IsHomeOf, AreHomes, AreVertices, HaveRanks, AreInVain, IsWithin, StaysOr}
use Rattle.wq_repair.specs.Settled.{WasInVain, HasStaying, AreRanksOnLanes, IsSettled, IsSettledBy, vertices_placed}
use Rattle.wq_repair.proofs.Joining.{Circle-closed}
use Rattle.wq_repair.proofs.Rescuers.{waiting-below, awaited-below}
use Rattle.wq_repair.proofs.Judged.{GroupsWait-arc, AreRanksOnLanes-by}
use Rattle.wq_repair.proofs.Marks.{IsMarked-below, cases_marked}
use Rattle.wq_repair.proofs.Homes.{home_is, vertex_below, apart, together}

-- an arc leaves a vertex that is there
pub arc-from : (graph : List (List WaitArc)) (v w : ℕ) → HasArc graph v w → v < length graph
arc-from graph v w arc = elim (cases_lt v (length graph)) [
  | inl lt ↦ lt
  | inr past ↦ absurd (omega (arith, arc.2, ap (λ (xs : List WaitArc). length xs) (get_or_past graph v [] past)))
]

-- a group leads to the home of its lane, or that to it: with it at the home there is a circle
module _ (graph : List (List WaitArc)) (sound : IsGraph graph) (old : Assignment) (stays : List Bool)
    (homes : List (Option ℕ)) (at : List ℕ)
    (long : length stays ≡ length graph) (are_homes : AreHomes old stays homes) (are : AreVertices old stays homes at)
    (g v : ℕ) (g_is : g < length stays) (out : ¬ IsMarked stays g) (home : IsHomeOf homes (group_lane old g) v) where
  abbrev moved : ℕ → ℕ
  moved x = become g v x

  abbrev new : List ℕ
  new = map moved at

  v_is : IsMarked stays v × (group_lane old v ≡ group_lane old g)
  v_is = are_homes.on (group_lane old g) v home

  to_g : moved g ≡ v
  to_g = ap (λ (b : Bool). if b then v else g) (eq-eqb g g refl)

  to_other : (x : ℕ) → ¬ (x ≡ g) → moved x ≡ x
  to_other x other = elim (cases_Bool (x == g)) [
    | inl same ↦ absurd (other (eqb-true x g same))
    | inr not ↦ ap (λ (b : Bool). if b then v else x) not
  ]

  to_v : moved v ≡ v
  to_v = to_other v (λ same. out (subst (IsMarked stays) same v_is.0))

  new_of : (h : ℕ) → h < length stays → slice_index new h ≡ moved (slice_index at h)
  new_of h is = get_or-map moved at h 0 0 (omega (arith, is, are.one_each))

  keeps : (x y : ℕ) → ArcBetween graph at x y → ArcBetween graph new (moved x) (moved y)
  keeps x y between = record {
    from = between.from;
    to = between.to;
    arc = between.arc;
    leaves = new_of between.from (omega (arith, arc-from graph between.from between.to between.arc, long))
        ∙ ap moved between.leaves;
    leads = new_of between.to (omega (arith, HasArc-below graph sound between.from between.to between.arc, long))
        ∙ ap moved between.leads;
  }

  circle : LeadEitherWay graph at g v → Circle (ArcBetween graph new)
  circle (inl leads) = Circle-closed (ArcBetween graph at)
      (ArcBetween graph new) g v keeps g leads.others v leads.chain leads.step (to_v ∙ sym to_g)
  circle (inr leads) = Circle-closed (ArcBetween graph at)
      (ArcBetween graph new) g v keeps v leads.others g leads.chain leads.step (to_g ∙ sym to_v)

  -- only the group itself is at its vertex
  only_g : (h : ℕ) → h < length stays → slice_index at h ≡ g → h ≡ g
  only_g h is same = elim (cases_marked stays h) [
    | inl marked ↦ absurd (out (subst (IsMarked stays) same (home_is old stays homes at are_homes are h marked).0))
    | inr not ↦ sym (are.alone h is not) ∙ same
  ]

  -- what is at the home stays on the lane
  at_home : (h : ℕ) → h < length stays → slice_index at h ≡ v → IsMarked stays h × (group_lane old h ≡ group_lane old g)
  at_home h is same = elim (cases_marked stays h) [
    | inl marked ↦ (
      marked,
      sym (home_is old stays homes at are_homes are h marked).1 ∙ ap (group_lane old) same
          ∙ v_is.1,
    )
    | inr not ↦ absurd (not (subst (IsMarked stays) (sym same ∙ are.alone h is not) v_is.0))
  ]

  beside : (h k : ℕ) → h < length stays → k < length stays → slice_index new h ≡ slice_index new k
      → (h ≡ k) ⊎ (StaysOr stays g h × StaysOr stays g k × (group_lane old h ≡ group_lane old k))
  beside h k h_is k_is same =
      let both : moved (slice_index at h) ≡ moved (slice_index at k) = sym (new_of h h_is) ∙ same ∙ new_of k k_is in
      elim (cases_eq (slice_index at h) g) [
        | inl h_g ↦ elim (cases_eq (slice_index at k) g) [
          | inl k_g ↦ inl (only_g h h_is h_g ∙ sym (only_g k k_is k_g))
          | inr other ↦
              let there = at_home k k_is (sym (to_other (slice_index at k) other) ∙ sym both ∙ ap moved h_g ∙ to_g) in
              inr (inl (only_g h h_is h_g), inr there.0, ap (group_lane old) (only_g h h_is h_g) ∙ sym there.1)
        ]
        | inr other ↦ elim (cases_eq (slice_index at k) g) [
          | inl k_g ↦
              let there = at_home h h_is (sym (to_other (slice_index at h) other) ∙ both ∙ ap moved k_g ∙ to_g) in
              inr (inr there.0, inl (only_g k k_is k_g), there.1 ∙ sym (ap (group_lane old) (only_g k k_is k_g)))
          | inr also ↦ elim (apart old stays homes at are_homes are h k h_is k_is
              (sym (to_other (slice_index at h) other) ∙ both ∙ to_other (slice_index at k) also)) [
                | inl one ↦ inl one
                | inr two ↦ inr (inr two.0, inr two.1, two.2)
              ]
        ]
      ]

  pub WasInVain-leads : LeadEitherWay graph at g v → WasInVain graph old stays g
  WasInVain-leads leads = record {
    at = new;
    together = λ h k h_is k_is same. beside h k (omega (arith, h_is, long)) (omega (arith, k_is, long)) same;
    circle = circle leads;
  }

-- a choice that is right
pub IsSettled-checked : (graph : List (List WaitArc)) (old : Assignment) (fixed tried vain : List Bool) (s : Settled)
    (homes : List (Option ℕ)) (at : List ℕ)
    → IsGraph graph → length s.stays ≡ length graph → IsWithin fixed tried s.stays → length tried ≡ length graph
    → AreHomes old s.stays homes → AreVertices old s.stays homes at → HaveRanks graph at s.ranks
    → ((g : ℕ) → g < length graph → IsMarked tried g → (¬ IsMarked s.stays g) → IsMarked vain g)
    → AreInVain graph old homes at vain → IsSettled graph old fixed tried (length graph) s
IsSettled-checked graph old fixed tried vain s homes at sound long within tried_long are_homes are ranks all in_vain =
    record {
      one_each = long;
      within = within;
      ranks = record {
        one_each = ranks.one_each;
        low = ranks.low;
        fall = ranks.fall;
        same = λ g h g_stays h_stays lane.
            sym (ranks.same g (omega (arith, IsMarked-below s.stays g g_stays, long)))
            ∙ ap (slice_index s.ranks) (together old s.stays homes at are_homes are g h g_stays h_stays lane)
            ∙ ranks.same h (omega (arith, IsMarked-below s.stays h h_stays, long));
      };
      each = λ g lt marked. elim (cases_marked s.stays g) [
        | inl stay ↦ (record { group = g; marked = stay; beside = refl }, λ out. absurd (out stay))
        | inr out ↦
            let leads = in_vain g (all g lt marked out) in
            let home = are_homes.on (group_lane old g) leads.0 leads.1 in (
              record { group = leads.0; marked = home.0; beside = home.1 },
              λ _. WasInVain-leads graph sound old s.stays homes at long are_homes are g leads.0
                  (omega (arith, lt, long)) out leads.1 leads.2,
            )
      ];
    }

-- ---- one group after the other

-- a group that was tried in vain still was if more stay
WasInVain-more : (graph : List (List WaitArc)) (old : Assignment) (stays more : List Bool) (g : ℕ)
    → ((h : ℕ) → IsMarked stays h → IsMarked more h)
    → WasInVain graph old stays g → WasInVain graph old more g
WasInVain-more graph old stays more g kept vain = record {
  at = vain.at;
  together = λ h k h_is k_is same. elim (vain.together h k h_is k_is same) [
    | inl one ↦ inl one
    | inr two ↦ inr (either h two.0, either k two.1, two.2)
  ];
  circle = vain.circle;
}
  where
    either : (h : ℕ) → StaysOr stays g h → StaysOr more g h
    either h (inl same) = inl same
    either h (inr marked) = inr (kept h marked)

-- group g stays, too
module _ (stays : List Bool) (g : ℕ) where
  pub kept-with : (h : ℕ) → IsMarked stays h → IsMarked (set stays g true) h
  kept-with h marked = elim (cases_eq h g) [
    | inl same ↦ subst (IsMarked (set stays g true)) (sym same)
        (get_or-set_same stays g true false (subst (λ (x : ℕ). x < length stays) same
        (IsMarked-below stays h marked)))
    | inr other ↦ get_or-set_other stays g h true false other ∙ marked
  ]

  pub is-with : g < length stays → IsMarked (set stays g true) g
  is-with lt = get_or-set_same stays g true false lt

  pub was-with : (h : ℕ) → IsMarked (set stays g true) h → (h ≡ g) ⊎ IsMarked stays h
  was-with h marked = elim (cases_eq h g) [
    | inl same ↦ inl same
    | inr other ↦ inr (sym (get_or-set_other stays g h true false other) ∙ marked)
  ]

module _ (graph : List (List WaitArc)) (old : Assignment) (fixed tried : List Bool) (g : ℕ) (s : Settled)
    (is : IsSettled graph old fixed tried g s)
    (g_is : g < length graph) where
  abbrev more : List Bool
  more = set s.stays g true

  g_below : g < length s.stays
  g_below = omega (arith, g_is, is.one_each)

  before : (h : ℕ) → h < g + 1 → (h ≡ g) ⊎ (h < g)
  before h lt = elim (cases_eq h g) [
    | inl same ↦ inl same
    | inr other ↦ inr (omega (arith, lt, other))
  ]

  -- it isn't tried, or in vain
  pub IsSettled-next : (IsMarked tried g
      → HasStaying old s.stays g × ((¬ IsMarked s.stays g) → WasInVain graph old s.stays g))
      → IsSettled graph old fixed tried (g + 1) s
  IsSettled-next each = record {
    one_each = is.one_each;
    within = is.within;
    ranks = is.ranks;
    each = λ h lt marked. elim (before h lt) [
      | inl last ↦
          let now = each (subst (IsMarked tried) last marked) in
          subst (λ (x : ℕ). HasStaying old s.stays x × ((¬ IsMarked s.stays x) → WasInVain graph old s.stays x))
          (sym last) now
      | inr earlier ↦ is.each h earlier marked
    ];
  }

  -- it stays
  module _ (marked_g : IsMarked tried g) (ranks : List ℕ)
      (are : AreRanksOnLanes graph old (set s.stays g true) ranks) where
    pub IsSettled-stays : IsSettled graph old fixed tried (g + 1) (record { stays = set s.stays g true; ranks = ranks })
    IsSettled-stays = record {
      one_each = length-set s.stays g true ∙ is.one_each;
      within = record {
        kept = λ h marked. kept-with s.stays g h (is.within.kept h marked);
        only = λ h marked. elim (was-with s.stays g h marked) [
          | inl last ↦ inr (subst (IsMarked tried) (sym last) marked_g)
          | inr stay ↦ is.within.only h stay
        ];
      };
      ranks = are;
      each = λ h lt marked. elim (before h lt) [
        | inl last ↦ (
          record { group = g; marked = is-with s.stays g g_below; beside = ap (group_lane old) (sym last) },
          λ out. absurd (out (subst (IsMarked more) (sym last) (is-with s.stays g g_below))),
        )
        | inr earlier ↦
            let (held, vain) = is.each h earlier marked in (
              record { group = held.group; marked = kept-with s.stays g held.group held.marked; beside = held.beside },
              λ out. WasInVain-more graph old s.stays more h (kept-with s.stays g)
                  (vain (λ stay. out (kept-with s.stays g h stay))),
            )
      ];
    }

  -- no group stays on its lane yet
  pub IsSettled-first : IsMarked tried g → ((h : ℕ) → IsMarked s.stays h → ¬ (group_lane old h ≡ group_lane old g))
      → IsSettled graph old fixed tried (g + 1) (record { stays = set s.stays g true; ranks = s.ranks })
  IsSettled-first marked none = IsSettled-stays marked s.ranks (record {
    one_each = is.ranks.one_each;
    low = is.ranks.low;
    fall = is.ranks.fall;
    same = same;
  })
    where
      same : (h k : ℕ) → IsMarked more h → IsMarked more k → group_lane old h ≡ group_lane old k
          → slice_index s.ranks h ≡ slice_index s.ranks k
      same h k h_stays k_stays lane = elim (was-with s.stays g h h_stays) [
        | inl h_last ↦ elim (was-with s.stays g k k_stays) [
          | inl k_last ↦ ap (slice_index s.ranks) (h_last ∙ sym k_last)
          | inr k_was ↦ absurd (none k k_was (sym lane ∙ ap (group_lane old) h_last))
        ]
        | inr h_was ↦ elim (was-with s.stays g k k_stays) [
          | inl k_last ↦ absurd (none h h_was (lane ∙ ap (group_lane old) k_last))
          | inr k_was ↦ is.ranks.same h k h_was k_was lane
        ]
      ]

-- ---- vertices as lanes

module _ (d : Declaration) (declaration : IsDeclaration d) (needed fixed tried stays : List Bool)
    (graph : List (List WaitArc)) (trial : IsTrial d needed fixed tried graph)
    (old : Assignment) (homes : List (Option ℕ)) (at : List ℕ) (few : d.groups ≤ 4096)
    (stays_long : length stays ≡ d.groups)
    (stays_needed : (g : ℕ) → IsMarked stays g → IsMarked needed g)
    (are_homes : AreHomes old stays homes) (are : AreVertices old stays homes at) where
  abbrev ws : Workqueues
  ws = vertices_placed needed at

  at_long : length at ≡ d.groups
  at_long = are.one_each ∙ stays_long

  below_at : (g : ℕ) → g < d.groups → slice_index at g < d.groups
  below_at g lt = omega (
    arith,
    vertex_below old stays homes at are_homes are g (omega (arith, lt, stays_long)),
    stays_long,
  )

  assignment : IsAssignment d.groups ws.assignment
  assignment = record {
    one_each = at_long;
    within = λ k e lt. subst (λ (x : ℕ). x < length at) (get_or_default at k 0 e lt)
        (omega (arith, below_at k (omega (arith, lt, at_long)), at_long));
  }

  lanes_few : ws.assignment.lanes ≤ 4096
  lanes_few = omega (arith, at_long, few)

  -- whether the vertex of a group has a rescuer
  bare-at : (v : ℕ) → v < d.groups → slice_index_or ws.bare v false ≡ not (slice_index_or needed v false)
  bare-at v lt = get_or-map not needed v false false (omega (arith, lt, trial.long))

  not_false : (b : Bool) → not b ≡ false → b ≡ true
  not_false true is = refl
  not_false false is = absurd (false≢true (sym is))

  needed-at : (g : ℕ) → g < d.groups → IsMarked needed g → IsMarked needed (slice_index at g)
  needed-at g lt needs = elim (cases_marked stays g) [
    | inl marked ↦ stays_needed (slice_index at g) (home_is old stays homes at are_homes are g marked).0
    | inr out ↦ subst (IsMarked needed) (sym (are.alone g (omega (arith, lt, stays_long)) out)) needs
  ]

  rescued-at : (g : ℕ) → g < d.groups → IsMarked needed g → IsRescued ws (slice_index at g)
  rescued-at g lt needs = bare-at (slice_index at g) (below_at g lt) ∙ ap not (needed-at g lt needs)

  needed-rescued : (g : ℕ) → g < d.groups → IsRescued ws (slice_index at g) → IsMarked needed g
  needed-rescued g lt rescued =
      let there : IsMarked needed (slice_index at g) =
      not_false (slice_index_or needed (slice_index at g) false)
      (sym (bare-at (slice_index at g) (below_at g lt)) ∙ rescued) in
      elim (cases_marked stays g) [
        | inl marked ↦ stays_needed g marked
        | inr out ↦ subst (IsMarked needed) (are.alone g (omega (arith, lt, stays_long)) out) there
      ]

  between : (p q : ℕ) → HasArc (rescued_graph d ws) p q → ArcBetween graph at p q
  between p q arc =
      let wait = GroupsWait-arc d ws declaration assignment p q arc in
      let g_is = waiting-below d declaration wait.group wait.awaited wait.waits in
      let h_is = awaited-below d declaration wait.group wait.awaited wait.waits in
      let needs = needed-rescued wait.group g_is (subst (IsRescued ws) (sym wait.from) wait.rescued) in
      let also = needed-rescued wait.awaited h_is (subst (IsRescued ws) (sym wait.to) wait.also) in
      record {
        from = wait.group;
        to = wait.awaited;
        arc =
            (trial.of.arcs wait.group wait.awaited).1 (needs, also, wait.waits);
        leaves = wait.from;
        leads = wait.to;
      }

  pub Circle-between : Circle (HasArc (rescued_graph d ws)) → Circle (ArcBetween graph at)
  Circle-between circle = Circle-map (HasArc (rescued_graph d ws)) (ArcBetween graph at) (λ v. v) between circle

  pub AreRanksOnLanes-placed : (ranks : List ℕ) → AreRanksOfGroups d (vertices_placed needed at) ranks
      → AreRanksOnLanes graph old stays ranks
  AreRanksOnLanes-placed ranks of_groups =
      AreRanksOnLanes-by d ws declaration assignment lanes_few needed graph trial.of rescued-at ranks of_groups old
      stays (λ g h g_stays h_stays lane. (
        omega (arith, IsMarked-below stays g g_stays, stays_long),
        omega (arith, IsMarked-below stays h h_stays, stays_long),
        together old stays homes at are_homes are g h g_stays h_stays lane,
      ))

-- group g is tried, where others stay on its lane
module _ (d : Declaration) (declaration : IsDeclaration d) (needed fixed tried : List Bool)
    (graph : List (List WaitArc)) (trial : IsTrial d needed fixed tried graph)
    (old : Assignment) (few : d.groups ≤ 4096) (g : ℕ) (g_is : g < d.groups) (marked_g : IsMarked tried g)
    (s : Settled) (is : IsSettled graph old fixed tried g s) where
  more_long : length (set s.stays g true) ≡ d.groups
  more_long = length-set s.stays g true ∙ is.one_each ∙ trial.of.long

  more_needed : (h : ℕ) → IsMarked (set s.stays g true) h → IsMarked needed h
  more_needed h marked = elim (was-with s.stays g h marked) [
    | inl last ↦ subst (IsMarked needed) (sym last) (trial.tried_needed g marked_g)
    | inr stay ↦ elim (is.within.only h stay) [
      | inl of_fixed ↦ trial.fixed_needed h of_fixed
      | inr of_tried ↦ trial.tried_needed h of_tried
    ]
  ]

  g_below_graph : g < length graph
  g_below_graph = omega (arith, g_is, trial.of.long)

  -- that makes no circle
  pub IsSettled-ranked : (ranks : List ℕ) → IsSettledBy old needed (set s.stays g true)
      (λ (ws : Workqueues). AreRanksOfGroups d ws ranks)
      → IsSettled graph old fixed tried (g + 1) (record { stays = set s.stays g true; ranks = ranks })
  IsSettled-ranked ranks by =
      let more : List Bool = set s.stays g true in
      IsSettled-stays graph old fixed tried g s is g_below_graph marked_g ranks
      (AreRanksOnLanes-placed d declaration needed fixed tried more graph trial old by.homes by.vertices few more_long
      more_needed by.are_homes by.are_vertices ranks by.holds)

  -- that makes a circle
  pub IsSettled-circle : IsSettledBy old needed (set s.stays g true)
      (λ (ws : Workqueues). Circle (HasArc (rescued_graph d ws)))
      → HasStaying old s.stays g → IsSettled graph old fixed tried (g + 1) s
  IsSettled-circle by held =
      let more : List Bool = set s.stays g true in
      IsSettled-next graph old fixed tried g s is g_below_graph (λ _. (
        held,
        λ _. record {
          at = by.vertices;
          together = λ h k h_is k_is same.
              elim (apart old more by.homes by.vertices by.are_homes by.are_vertices h k
              (omega (arith, h_is, more_long, trial.of.long)) (omega (arith, k_is, more_long, trial.of.long)) same) [
                | inl one ↦ inl one
                | inr two ↦ inr (was-with s.stays g h two.0, was-with s.stays g k two.1, two.2)
              ];
          circle = Circle-between d declaration needed fixed tried more graph trial old by.homes by.vertices few
              more_long more_needed by.are_homes by.are_vertices by.holds;
        },
      ))

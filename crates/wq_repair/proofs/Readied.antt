-- From what is ready, settled and placed: the changes are needed, and numbers fall along all waits.
use Rattle.std.proofs.Common.{◌≡◌, ℕ, zero, suc, ◌<◌, ◌≤◌, ◌⊎◌, inl, inr, Bool, List, length, refl, sym, ap, subst, ◌∙◌, arith}
use Rattle.std.specs.Prelude.{◌==◌, ◌&&◌, if◌then◌else◌, true, false, slice_index, slice_index_or}
use Rattle.std.proofs.lemmas.Bool.{cases_eq, cases_lt, cases_Bool, false≢true, eqb-true, eq-eqb}
use Rattle.std.proofs.lemmas.List.{get_or_default}
use Rattle.wq_groups.specs.Declaration.{Declaration, IsDeclaration, GroupWaits}
use Rattle.wq_groups.specs.Assignment.{IsAssignment}
use Rattle.wq_graph.specs.declared.arc.WaitArc.{WaitArc}
use Rattle.wq_core.specs.Workqueues.{Workqueues}
use Rattle.wq_core.proofs.LaneCircles.{Circle-map}
use Rattle.wq_repair.specs.Changes.{IsRescued, IsBare, IsNamed, IsNamedLane, HoldsAny, HasMoved, lane_in}
use Rattle.wq_repair.specs.Marks.{IsMarked, Marks}
use Rattle.wq_repair.specs.Joined.{VerticesWait, StaysOrIs, IsTriedInVain}
use Rattle.wq_repair.specs.Together.{ArcBetween}
use Rattle.wq_repair.specs.Steps.{ArePlacedBy, AreLeaving}
use Rattle.wq_repair.specs.Placing.{AreHosted}
use Rattle.wq_repair.specs.Ready.{Scope, IsReady, IsGraphOfNeeded, IsMinimal, IsTried, IsButNot, AreRanksOfGroups}
use Rattle.wq_repair.specs.Settled.{Settled, IsSettled, WasInVain, StaysOr}
use Rattle.wq_repair.proofs.Marks.{IsMarked-below, cases_marked}
use Rattle.wq_repair.proofs.Rescuers.{cases_rescued, waiting-below, awaited-below}
use Rattle.wq_repair.proofs.Judged.{AreRanksOnLanes-by, rescued_awaited-safe}
use Rattle.wq_repair.proofs.Placed.{IsToBeCompared-placed, AreChangesNeeded-placed, FallsAlongWaits-placed}

-- all numbers below n are so, or one isn't
pub all_or_one : (P Q : ℕ → Type 0) → ((k : ℕ) → P k ⊎ Q k) → (n : ℕ) → ((k : ℕ) → k < n → P k) ⊎ ((k : ℕ) × (k < n) × Q k)
all_or_one P Q either zero = inl (λ k lt. absurd (omega (arith, lt)))
all_or_one P Q either (suc n) = elim (all_or_one P Q either n) [
  | inr one ↦ inr (one.0, omega (arith, one.1), one.2)
  | inl all ↦ elim (either n) [
    | inr last ↦ inr (n, omega arith, last)
    | inl last ↦ inl (λ k lt. elim (cases_eq k n) [
      | inl same ↦ subst P (sym same) last
      | inr other ↦ all k (omega (arith, lt, other))
    ])
  ]
]

-- the rank of the first of n groups that is marked and on lane q
abbrev pub rank_on : List Bool → List ℕ → List ℕ → ℕ → ℕ → ℕ
rank_on marks lane_of ranks q zero = 0
rank_on marks lane_of ranks q (suc n) = if slice_index_or marks n false && (slice_index lane_of n == q) then slice_index ranks n else rank_on marks lane_of ranks q n

both_true : (a b : Bool) → (a && b) ≡ true → (a ≡ true) × (b ≡ true)
both_true true b is = (refl, is)
both_true false b is = absurd (false≢true is)

rank_on-same : (marks : List Bool) (lane_of ranks : List ℕ) (g : ℕ) → IsMarked marks g
    → ((h : ℕ) → IsMarked marks h → slice_index lane_of h ≡ slice_index lane_of g → slice_index ranks h ≡ slice_index ranks g)
    → (n : ℕ) → g < n → rank_on marks lane_of ranks (slice_index lane_of g) n ≡ slice_index ranks g
rank_on-same marks lane_of ranks g marked same zero below = absurd (omega (arith, below))
rank_on-same marks lane_of ranks g marked same (suc n) below = elim (cases_Bool (slice_index_or marks n false && (slice_index lane_of n == slice_index lane_of g))) [
  | inl is ↦
      let parts = both_true (slice_index_or marks n false) (slice_index lane_of n == slice_index lane_of g) is in
      ap (λ (b : Bool). if b then slice_index ranks n else rank_on marks lane_of ranks (slice_index lane_of g) n) is
      ∙ same n parts.0 (eqb-true (slice_index lane_of n) (slice_index lane_of g) parts.1)
  | inr not ↦ elim (cases_eq g n) [
    | inl last ↦ absurd (false≢true (sym not ∙ ap (λ (k : ℕ). slice_index_or marks k false && (slice_index lane_of k == slice_index lane_of g)) (sym last)
        ∙ ap (λ (b : Bool). b && (slice_index lane_of g == slice_index lane_of g)) marked ∙ eq-eqb (slice_index lane_of g) (slice_index lane_of g) refl))
    | inr before ↦
        ap (λ (b : Bool). if b then slice_index ranks n else rank_on marks lane_of ranks (slice_index lane_of g) n) not
        ∙ rank_on-same marks lane_of ranks g marked same n (omega (arith, below, before))
  ]
]

module _ (d : Declaration) (old : Workqueues) (names : List ℕ) (s : Scope) (start : Workqueues) (declaration : IsDeclaration d) (ready : IsReady d old names s start) where
  long : length s.movable ≡ d.groups
  long = ready.scope.are_movable.one_each

  below : (g : ℕ) → g < d.groups → g < length s.movable
  below g is = omega (arith, is, long)

  pub IsAssignment-start : IsAssignment d.groups start.assignment
  IsAssignment-start = record {
    one_each = ready.by.one_each ∙ long;
    within = λ k e lt. subst (λ (l : ℕ). l < start.assignment.lanes) (get_or_default start.assignment.lane_of_group k 0 e lt) (ready.by.within k (omega (arith, lt, ready.by.one_each)));
  }

  lane_below : (g : ℕ) → g < d.groups → lane_in old g < old.assignment.lanes
  lane_below g is = ready.scope.assignment.within g 0 (omega (arith, is, ready.scope.assignment.one_each))

  pub movable_needed : (g : ℕ) → g < d.groups → IsMarked s.movable g → IsMarked s.needed g
  movable_needed g is marked = ((ready.scope.are_movable.exactly g is).0 marked).1

  movable_named : (g : ℕ) → g < d.groups → IsMarked s.movable g → IsNamed d names g
  movable_named g is marked =
      (ready.scope.are_named.groups.exactly g is).0 ((ready.scope.are_movable.exactly g is).0 marked).0

  given_needed : (g : ℕ) → g < d.groups → IsMarked s.given (lane_in old g) → IsMarked s.needed g
  given_needed g is marked =
      ((ready.scope.are_given.exactly (lane_in old g) (lane_below g is)).0 marked).all g
      (omega (arith, is, ready.scope.one_each)) refl

  -- nobody else is on a lane with a rescuer in the start
  pub start_needed : (g : ℕ) → g < d.groups → IsRescued start (lane_in start g) → IsMarked s.needed g
  start_needed g is rescued = elim (cases_marked s.movable g) [
    | inl marked ↦ movable_needed g is marked
    | inr not ↦ elim (ready.by.only g (below g is) not (subst (IsRescued start) (ready.by.stay g (below g is) not) rescued)) [
      | inl had ↦ ready.scope.first g is had
      | inr marked ↦ given_needed g is marked
    ]
  ]

  pub needed_next : (g h : ℕ) → GroupWaits d g h → IsMarked s.needed g → IsMarked s.needed h
  needed_next g h waits needs =
      let rescued = ready.rescued g (waiting-below d declaration g h waits) needs in
      start_needed h (awaited-below d declaration g h waits) (rescued_awaited-safe d start declaration IsAssignment-start ready.safe g h waits rescued)

  marked_below : (marks : List Bool) (g : ℕ) → length marks ≡ d.groups → IsMarked marks g → g < d.groups
  marked_below marks g is marked = omega (arith, IsMarked-below marks g marked, is)

  module _ (graph : List (List WaitArc)) (of : IsGraphOfNeeded d s.needed graph) where
    VerticesWait-between : (at : List ℕ) (v w : ℕ) → ArcBetween graph at v w → VerticesWait d s.needed at v w
    VerticesWait-between at v w between =
        let parts = (of.arcs between.from between.to).0 between.arc in
        record { group = between.from; awaited = between.to; waits = parts.2; needs = parts.0; also = parts.1; from = between.leaves; to = between.leads }

    -- before any group is tried, those that can't move stay, and the ranks of the start fall along all arcs
    module _ (few : start.assignment.lanes ≤ 4096) (ranks : List ℕ) (of_groups : AreRanksOfGroups d start ranks)
        (fixed tried : List Bool) (are_fixed : Marks (IsButNot s.needed s.movable) d.groups fixed) where
      lane-fixed : (g : ℕ) → IsMarked fixed g → (g < d.groups) × (lane_in start g ≡ lane_in old g)
      lane-fixed g marked =
          let is = marked_below fixed g are_fixed.one_each marked in
          (is, ready.by.stay g (below g is) ((are_fixed.exactly g is).0 marked).1)

      pub IsSettled-start : IsSettled graph old.assignment fixed tried 0 (record { stays = fixed; ranks = ranks })
      IsSettled-start = record {
        one_each = are_fixed.one_each ∙ sym of.long;
        within = record { kept = λ g marked. marked; only = λ g marked. inl marked };
        ranks = AreRanksOnLanes-by d start declaration IsAssignment-start few s.needed graph of ready.rescued ranks
            of_groups old.assignment fixed (λ g h g_stays h_stays lane.
            let g_at = lane-fixed g g_stays in
            let h_at = lane-fixed h h_stays in
            (g_at.0, h_at.0, g_at.1 ∙ lane ∙ sym h_at.1));
        each = λ g lt. absurd (omega (arith, lt));
      }

    -- ---- all groups are settled

    module _ (fixed tried leaves : List Bool) (settled : Settled)
        (are_fixed : Marks (IsButNot s.needed s.movable) d.groups fixed)
        (are_tried : Marks (IsTried old s) d.groups tried)
        (is : IsSettled graph old.assignment fixed tried (length graph) settled)
        (are_leaving : Marks (IsButNot s.movable settled.stays) d.groups leaves) where
      stays_long : length settled.stays ≡ d.groups
      stays_long = is.one_each ∙ of.long

      in_graph : (g : ℕ) → g < d.groups → g < length graph
      in_graph g lt = omega (arith, lt, of.long)

      leaves_parts : (g : ℕ) → g < d.groups → IsMarked leaves g → IsMarked s.movable g × (¬ IsMarked settled.stays g)
      leaves_parts g lt marked = (are_leaving.exactly g lt).0 marked

      pub apart-staying : (g : ℕ) → IsMarked settled.stays g → ¬ IsMarked leaves g
      apart-staying g stay leaving = (leaves_parts g (marked_below leaves g are_leaving.one_each leaving) leaving).1
          stay

      unmovable-stays : (g : ℕ) → g < d.groups → IsMarked s.needed g → (¬ IsMarked s.movable g)
          → IsMarked settled.stays g
      unmovable-stays g lt needs unmovable = is.within.kept g ((are_fixed.exactly g lt).1 (needs, unmovable))

      -- a group that needs a rescuer stays, or leaves
      stays_or_leaves : (g : ℕ) → g < d.groups → IsMarked s.needed g → IsMarked settled.stays g ⊎ IsMarked leaves g
      stays_or_leaves g lt needs = elim (cases_marked settled.stays g) [
        | inl stay ↦ inl stay
        | inr out ↦ elim (cases_marked s.movable g) [
          | inl movable ↦ inr ((are_leaving.exactly g lt).1 (movable, out))
          | inr unmovable ↦ absurd (out (unmovable-stays g lt needs unmovable))
        ]
      ]

      -- the lane of a group that stays has a rescuer, or is given one
      fixed-fine : (g : ℕ) → g < d.groups → IsMarked s.needed g → (¬ IsMarked s.movable g)
          → IsRescued old (lane_in old g) ⊎ IsMarked s.given (lane_in old g)
      fixed-fine g lt needs unmovable = ready.by.only g (below g lt) unmovable
          (subst (IsRescued start) (ready.by.stay g (below g lt) unmovable) (ready.rescued g lt needs))

      pub fine-staying : (g : ℕ) → IsMarked settled.stays g
          → IsRescued old (lane_in old g) ⊎ IsMarked s.given (lane_in old g)
      fine-staying g stay =
          let lt = marked_below settled.stays g stays_long stay in
          elim (is.within.only g stay) [
            | inl of_fixed ↦ (let parts = (are_fixed.exactly g lt).0 of_fixed in fixed-fine g lt parts.0 parts.1)
            | inr of_tried ↦ elim ((are_tried.exactly g lt).0 of_tried).1
                [ inl given ↦ inr given | inr rescued ↦ inl rescued ]
          ]

      others : (g : ℕ) → g < d.groups → IsMarked s.needed g → (¬ IsMarked leaves g) → IsRescued old (lane_in old g) ⊎ IsMarked s.given (lane_in old g)
      others g lt needs not = elim (stays_or_leaves g lt needs) [
        | inl stay ↦ fine-staying g stay
        | inr leaving ↦ absurd (not leaving)
      ]

      -- ---- no lane is emptied

      on_lane : (q : ℕ) → (k : ℕ) → ((k < d.groups) → lane_in old k ≡ q → IsMarked s.needed k) ⊎ ((k < d.groups) × (lane_in old k ≡ q) × (¬ IsMarked s.needed k))
      on_lane q k = elim (cases_lt k d.groups) [
        | inr past ↦ inl (λ lt. absurd (omega (arith, past, lt)))
        | inl lt ↦ elim (cases_eq (lane_in old k) q) [
          | inr other ↦ inl (λ below same. absurd (other same))
          | inl same ↦ elim (cases_marked s.needed k) [
            | inl needs ↦ inl (λ below on. needs)
            | inr not ↦ inr (lt, same, not)
          ]
        ]
      ]

      tried_or_not : (g : ℕ) → g < d.groups → IsMarked s.movable g
          → IsMarked tried g ⊎ (IsBare old (lane_in old g) × (¬ IsMarked s.given (lane_in old g)))
      tried_or_not g lt movable = elim (cases_marked s.given (lane_in old g)) [
        | inl marked ↦ inl ((are_tried.exactly g lt).1 (movable, inl marked))
        | inr not ↦ elim (cases_rescued old (lane_in old g)) [
          | inl rescued ↦ inl ((are_tried.exactly g lt).1 (movable, inr rescued))
          | inr bare ↦ inr (bare, not)
        ]
      ]

      pub held-leaving : (g : ℕ) → g < d.groups → IsMarked leaves g
          → (h : ℕ) × (h < d.groups) × (lane_in old h ≡ lane_in old g) × (¬ IsMarked leaves h)
      held-leaving g lt leaving = elim (tried_or_not g lt (leaves_parts g lt leaving).0) [
        | inl of_tried ↦ (
            let found = (is.each g (in_graph g lt) of_tried).0 in (
              found.group,
              marked_below settled.stays found.group stays_long found.marked,
              found.beside,
              apart-staying found.group found.marked,
            )
            )
        | inr not ↦ elim (all_or_one (λ (k : ℕ). (k < d.groups) → lane_in old k ≡ lane_in old g → IsMarked s.needed k)
            (λ (k : ℕ). (k < d.groups) × (lane_in old k ≡ lane_in old g) × (¬ IsMarked s.needed k)) (on_lane (lane_in old g)) d.groups) [
              | inr one_out ↦ (
                  let k : ℕ = one_out.0 in (
                    k,
                    one_out.1,
                    one_out.2.1,
                    λ k_leaves.
                        one_out.2.2 (movable_needed k one_out.1 (leaves_parts k one_out.1 k_leaves).0),
                  )
                  )
              | inl all ↦ absurd (not.1 ((ready.scope.are_given.exactly (lane_in old g) (lane_below g lt)).1 (record {
                bare = not.0;
                named = (ready.scope.are_named.lanes.exactly (lane_in old g) (lane_below g lt)).1
                    (record {
                      group = g;
                      is_group = lt;
                      named = movable_named g lt (leaves_parts g lt leaving).0;
                      on =
                          refl;
                    });
                all = λ k k_lt on. (let k_is : k < d.groups =
                    omega (arith, k_lt, ready.scope.one_each) in all k k_is k_is on);
              })))
            ]
      ]

      -- ---- what is placed

      module _ (new : Workqueues) (placed : ArePlacedBy old s.given settled.stays leaves settled.ranks new) where
        new_stays : (g : ℕ) → g < d.groups → (¬ IsMarked leaves g) → lane_in new g ≡ lane_in old g
        new_stays g lt not = placed.stay g (omega (arith, lt, are_leaving.one_each)) not

        stays_or_is : (g h : ℕ) → h < d.groups → StaysOr settled.stays g h → StaysOrIs old new g h
        stays_or_is g h lt (inl same) = inl same
        stays_or_is g h lt (inr stay) = inr (new_stays h lt (apart-staying h stay))

        in_vain : (g : ℕ) → WasInVain graph old.assignment settled.stays g → IsTriedInVain d old new s.needed g
        in_vain g vain = record {
          at = vain.at;
          together = λ h k h_is k_is h_needs k_needs same.
              elim (vain.together h k (in_graph h h_is) (in_graph k k_is) same) [
                | inl one_group ↦ inl one_group
                | inr two ↦ inr (stays_or_is g h h_is two.0, stays_or_is g k k_is two.1, two.2)
              ];
          circle = Circle-map (ArcBetween graph vain.at) (VerticesWait d s.needed vain.at) (λ v. v)
              (VerticesWait-between vain.at) vain.circle;
        }

        why : (g : ℕ) → g < d.groups → IsMarked leaves g → (IsBare old (lane_in old g) × (¬ IsMarked s.given (lane_in old g))) ⊎ IsTriedInVain d old new s.needed g
        why g lt leaving =
            let parts = leaves_parts g lt leaving in
            elim (tried_or_not g lt parts.0) [
              | inl of_tried ↦ inr (in_vain g ((is.each g (in_graph g lt) of_tried).1 parts.1))
              | inr not ↦ inl not
            ]

        leaving-placed : AreLeaving d old names s.needed s.given leaves settled.ranks new
        leaving-placed = record {
          one_each = are_leaving.one_each;
          first = ready.scope.first;
          next = needed_next;
          movable = λ g lt marked. let movable =
              (leaves_parts g lt marked).0 in (movable_named g lt movable, movable_needed g lt movable);
          why = why;
          others = others;
          fall = λ g h waits needs. is.ranks.fall g h ((of.arcs g h).1 (needs, needed_next g h waits needs, waits));
        }

        ranked : (g : ℕ) → g < d.groups → IsMarked s.needed g
            → rank_on s.needed new.assignment.lane_of_group settled.ranks
            (lane_in new g) d.groups ≡ slice_index settled.ranks g
        ranked g lt needs = rank_on-same s.needed new.assignment.lane_of_group settled.ranks g needs same d.groups lt
          where
            same : (h : ℕ) → IsMarked s.needed h
                → slice_index new.assignment.lane_of_group h ≡ slice_index new.assignment.lane_of_group g
                → slice_index settled.ranks h ≡ slice_index settled.ranks g
            same h h_needs lane =
                let h_is = marked_below s.needed h ready.scope.one_each h_needs in
                placed.ranked h g (omega (arith, h_is, are_leaving.one_each))
                (omega (arith, lt, are_leaving.one_each)) (stays_or_leaves h h_is h_needs)
                (stays_or_leaves g lt needs) lane

        -- a group that moved leaves, and comes to a lane that held nobody, or a group that may move
        hosted : AreHosted old s.movable leaves new → (g : ℕ) → g < d.groups → HasMoved old new g
            → HoldsAny old (lane_in new g) → IsNamedLane d old names (lane_in new g)
        hosted are g lt moved holds =
            let marked : IsMarked leaves g = elim (cases_marked leaves g) [
              | inl marked ↦ marked
              | inr not ↦ absurd (moved (new_stays g lt not))
            ] in
            let host = are g (omega (arith, lt, are_leaving.one_each)) marked holds in
            let host_is : host.group < d.groups = omega (arith, host.is_group, long) in
            let named = movable_named host.group host_is host.marked in
            record { group = host.group; is_group = host_is; named = named; on = host.on }

        pub IsMinimal-placed : AreHosted old s.movable leaves new → IsMinimal d old names s.needed new
        IsMinimal-placed are_hosted = record {
          compared = IsToBeCompared-placed d old new names ready.scope.named.lanes s.needed s.given settled.stays leaves
              settled.ranks ready.scope.assignment ready.scope.are_named.lanes ready.scope.one_each
              ready.scope.are_given leaving-placed placed;
          changes = AreChangesNeeded-placed d old new names ready.scope.named.lanes s.needed s.given settled.stays
              leaves settled.ranks ready.scope.assignment ready.scope.are_named.lanes ready.scope.one_each
              ready.scope.are_given leaving-placed placed;
          number = λ (q : ℕ). rank_on s.needed new.assignment.lane_of_group settled.ranks q d.groups;
          falls = FallsAlongWaits-placed d old new names ready.scope.named.lanes s.needed s.given settled.stays leaves
              settled.ranks ready.scope.assignment ready.scope.are_named.lanes ready.scope.one_each
              ready.scope.are_given leaving-placed placed declaration
              (λ (q : ℕ). rank_on s.needed new.assignment.lane_of_group settled.ranks q d.groups) ranked;
          few = omega (arith, placed.few, are_leaving.one_each);
          bare = placed.bare;
          used = placed.used;
          only = placed.only_used;
          hosted = hosted are_hosted;
        }

-- Where the start deadlocks, whatever may be compared does.
use Rattle.std.proofs.Common.{◌≡◌, ℕ, ◌<◌, ◌==◌, ◌⊎◌, inl, inr, Bool, List, refl, sym, ap, subst, ◌∙◌, arith}
use Rattle.std.specs.Prelude.{slice_index}
use Rattle.std.specs.List.{list_any}
use Rattle.std.proofs.lemmas.Bool.{cases_Bool, false≢true, eqb-true, eq-eqb}
use Rattle.std.proofs.lemmas.List.Folds.{Any-from_list_any, list_any-from_Any}
use Rattle.wq_groups.specs.Declaration.{Declaration, IsDeclaration, GroupWaits}
use Rattle.wq_groups.specs.Assignment.{IsAssignment}
use Rattle.wq_core.specs.Workqueues.{Workqueues, wiring_of}
use Rattle.wq_core.specs.Deadlock.{Deadlocks}
use Rattle.wq_repair.specs.Changes.{IsRescued, IsBare, IsNamed, IsGiven, IsToBeCompared, lane_in}
use Rattle.wq_repair.specs.Needed.{BringsAlong, NeedsRescuerOf}
use Rattle.wq_repair.specs.Joined.{HangsRound, IsStart}
use Rattle.wq_repair.proofs.Rescuers.{cases_rescued, stays-unnamed, rescued-needed, IsLedTo-next, waiting-below, awaited-below, Deadlocks-as_other}

-- a group may move, or it may not
pub cases_named : (d : Declaration) (names : List ℕ) (g : ℕ) → IsNamed d names g ⊎ (¬ IsNamed d names g)
cases_named d names g =
    let is : ℕ → Bool = λ i. slice_index d.group_of i == g in
    elim (cases_Bool (list_any is names)) [
      | inl some ↦ inl (let any = Any-from_list_any is names some in (any.0, any.1, any.2, any.3, eqb-true (slice_index d.group_of any.1) g any.4))
      | inr none ↦ inr (λ any. false≢true (sym none ∙ list_any-from_Any is names (any.0, any.1, any.2, any.3, eq-eqb (slice_index d.group_of any.1) g any.4)))
    ]

module _ (d : Declaration) (old start new : Workqueues) (names : List ℕ) (declaration : IsDeclaration d) (before : IsAssignment d.groups old.assignment)
    (is : IsStart d old names start) (compared : IsToBeCompared d old names new) where
  abbrev D : Type 0
  D = Deadlocks (wiring_of d new)

  -- a group that needs a rescuer, can't move, and is on a lane without one in the start
  stuck_on_bare : (h : ℕ) → h < d.groups → (¬ IsNamed d names h) → NeedsRescuerOf d old names h → IsBare start (lane_in start h) → IsRescued new (lane_in new h) → ⊥
  stuck_on_bare h below unnamed needed bare rescued =
      let stays : lane_in new h ≡ lane_in old h = stays-unnamed d old new names declaration before compared h below unnamed in
      let stayed : lane_in start h ≡ lane_in old h = stays-unnamed d old start names declaration before is.compared h below unnamed in
      let bare_now : IsBare start (lane_in old h) = subst (IsBare start) stayed bare in
      let own : IsRescued new (lane_in old h) = subst (IsRescued new) stays rescued in
      elim (cases_rescued old (lane_in old h)) [
        | inl had ↦
            let within = before.within h 0 (omega (arith, below, before.one_each)) in
            false≢true (sym (is.compared.kept (lane_in old h) within had) ∙ bare_now)
        | inr had_none ↦
            let given : IsGiven d old new (lane_in old h) = record { bare = had_none; rescued = own; group = h; is_group = below; was = refl; stays = stays } in
            false≢true (sym (is.given h below unnamed needed (compared.given_named (lane_in old h) given)) ∙ bare_now)
      ]

  pub Deadlocks-start_bare : (g h : ℕ) → GroupWaits d g h → IsRescued start (lane_in start g) → (¬ IsRescued start (lane_in start h)) → D
  Deadlocks-start_bare g h waits rescued none =
      let below : h < d.groups = awaited-below d declaration g h waits in
      let needed_g : NeedsRescuerOf d old names g = is.needed g (waiting-below d declaration g h waits) rescued in
      let needed_h : NeedsRescuerOf d old names h = IsLedTo-next d old (BringsAlong d old names) g h needed_g (inl waits) in
      elim (rescued-needed d old new names declaration before compared h needed_h) [
        | inr dead ↦ dead
        | inl has ↦ absurd (elim (cases_named d names h) [
          | inl named ↦ none (is.rescued h below named needed_h)
          | inr unnamed ↦ elim (cases_rescued start (lane_in start h)) [
            | inl one ↦ none one
            | inr bare ↦ stuck_on_bare h below unnamed needed_h bare has
          ]
        ])
      ]

  together : (g h : ℕ) → g < d.groups → h < d.groups → IsRescued start (lane_in start g) → lane_in start g ≡ lane_in start h → lane_in new g ≡ lane_in new h
  together g h g_below h_below rescued same = elim (cases_named d names g) [
    | inl named ↦ ap (lane_in new) (is.alone g h g_below h_below named (is.needed g g_below rescued) same)
    | inr unnamed ↦ elim (cases_named d names h) [
      | inl named ↦ ap (lane_in new) (sym (is.alone h g h_below g_below named (is.needed h h_below (subst (IsRescued start) same rescued)) (sym same)))
      | inr also ↦
          stays-unnamed d old new names declaration before compared g g_below unnamed
          ∙ sym (stays-unnamed d old start names declaration before is.compared g g_below unnamed)
          ∙ same
          ∙ stays-unnamed d old start names declaration before is.compared h h_below also
          ∙ sym (stays-unnamed d old new names declaration before compared h h_below also)
    ]
  ]

  pub Deadlocks-start_circle : HangsRound d start → D
  Deadlocks-start_circle circle = Deadlocks-as_other d old new names declaration before compared start is.needed together circle

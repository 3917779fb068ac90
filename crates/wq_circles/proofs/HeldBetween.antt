-- What can hold items up can be printed: there are few components, and all flushes are between items.
use Rattle.std.proofs.Common.{◌≡◌, ℕ, ◌<◌, ◌≤◌, ◌==◌, Bool, true, false, not, List, [], ◌∷◌, length, refl, sym, ap}
use Rattle.std.proofs.Common.{subst, eqb-true, arith}
use Rattle.std.specs.Prelude.{filter}
use Rattle.std.specs.List.{All, list_any}
use Rattle.std.proofs.lemmas.List.Elements.{All-filter}
use Rattle.std.proofs.lemmas.List.Sums.{length-filter, count_by-le-length}
use Rattle.wq_groups.specs.Declaration.{Declaration, IsDeclaration}
use Rattle.wq_groups.specs.DeclaredGroups.{declared_waits, Declared}
use Rattle.wq_graph.specs.declared.arc.WaitArc.{WaitArc}
use Rattle.wq_graph.specs.Graph.{arcs_by_place}
use Rattle.wq_graph.proofs.Arcs.{ByPlace-arcs_by_place}
use Rattle.wq_core.specs.Assigned.{Assigned, IsAssigned}
use Rattle.wq_core.specs.Workqueues.{Workqueues}
use Rattle.wq_deadlock.specs.Judging.{bare_waits, is_on_bare}
use Rattle.wq_deadlock.proofs.BareLanes.{IsDeclaration-assigned, items_of_arcs}
use Rattle.wq_circles.specs.ComponentsText.{AreBetween}
use Rattle.wq_circles.specs.Held.{AreHeldCircles, begins_marked, is_marked_component, is_way}
use Rattle.wq_circles.specs.HeldText.{is_free}
use Rattle.wq_circles.proofs.OfAssigned.{between_items, few_components, waits_between_items}

AreBetween-filter : (items : ℕ) (p : WaitArc → Bool) (arcs : List WaitArc) → AreBetween items arcs
    → AreBetween items (filter p arcs)
AreBetween-filter items p arcs between = (
  omega (arith, between.0, length-filter p arcs, count_by-le-length p arcs),
  All-filter p (λ (a : WaitArc). (a.src < items) × (a.dst < items)) arcs between.1,
)

module _ (a : Assigned) (is : IsAssigned a) (named : List ℕ) (components : List (List WaitArc))
    (waits ways : List WaitArc)
    (circles : AreHeldCircles (declared_waits a.declared) a.workqueues named components waits ways) where
  abbrev d : Declaration
  d = declared_waits a.declared

  abbrev items : ℕ
  items = length a.declared.table.names

  declaration : IsDeclaration d
  declaration = IsDeclaration-assigned a is

  pub few_held : length components ≤ 4096
  few_held =
      let p : List WaitArc → Bool = is_marked_component d a.workqueues circles.led in
      omega (
        arith,
        few_components a is circles.all circles.are,
        ap (λ (l : List (List WaitArc)). length l) circles.some_components,
        length-filter p circles.all,
        count_by-le-length p circles.all,
      )

  pub between_held : All (AreBetween items) components
  between_held =
      subst (All (AreBetween items)) (sym circles.some_components)
      (All-filter (is_marked_component d a.workqueues circles.led) (AreBetween items) circles.all
      (between_items a is circles.all circles.are))

  pub waits_held : AreBetween items waits
  waits_held =
      subst (AreBetween items) (sym circles.some_waits)
      (AreBetween-filter items (begins_marked d a.workqueues circles.led) (bare_waits d a.workqueues)
      (waits_between_items a is))

  all_between : AreBetween (length d.group_of) (arcs_by_place d.waits d.group_of)
  all_between =
      let both = items_of_arcs d declaration in (
        omega (
          arith,
          (ByPlace-arcs_by_place d.waits d.group_of declaration.places_are_numbered).long,
          declaration.few_flushes,
        ),
        λ k e within. (both.0 k e within, both.1 k e within),
      )

  pub ways_held : AreBetween items ways
  ways_held =
      subst (AreBetween items) (sym circles.are_ways)
      (AreBetween-filter items (is_way d a.workqueues circles.led circles.held circles.all)
      (arcs_by_place d.waits d.group_of)
      (subst (λ (n : ℕ). AreBetween n (arcs_by_place d.waits d.group_of)) is.declared.one_group_each all_between))

-- ---- whether anything is printed

module _ (s : Declared) (ws : Workqueues) (named : List ℕ) where
  pub is_free-none : (cs : List (List WaitArc)) (bs : List WaitArc) → (length cs == 0) ≡ true
      → (length bs == 0) ≡ true
      → is_free s ws named cs bs ≡ not (list_any (is_on_bare ws s.partition.group_of) named)
  is_free-none [] [] none nothing = refl
  is_free-none [] (b ∷ bs) none nothing = absurd (omega (arith, eqb-true (length (b ∷ bs)) 0 nothing))
  is_free-none (c ∷ cs) bs none nothing = absurd (omega (arith, eqb-true (length (c ∷ cs)) 0 none))

  pub is_free-components : (cs : List (List WaitArc)) (bs : List WaitArc) → (length cs == 0) ≡ false
      → is_free s ws named cs bs ≡ false
  is_free-components [] bs some = absurd cc
  is_free-components (c ∷ cs) bs some = refl

  pub is_free-waits : (cs : List (List WaitArc)) (bs : List WaitArc) → (length bs == 0) ≡ false
      → is_free s ws named cs bs ≡ false
  is_free-waits cs [] some = absurd cc
  is_free-waits [] (b ∷ bs) some = refl
  is_free-waits (c ∷ cs) (b ∷ bs) some = refl

-- The lists along which a search goes: one for each workqueue, and what they hold are workqueues.
use Rattle.std.proofs.Common.{◌≡◌, ℕ, ◌<◌, List, length, map, get_or, refl, sym, ap, subst, ◌∙◌, arith}
use Rattle.std.specs.Prelude.{Vec}
use Rattle.std.specs.List.{All}
use Rattle.std.proofs.lemmas.List.{length-map, get_or-map}
use Rattle.wq_groups.specs.DeclaredGroups.{declared_waits}
use Rattle.wq_graph.specs.declared.arc.WaitArc.{WaitArc}
use Rattle.wq_core.specs.Assigned.{Assigned, IsAssigned}
use Rattle.wq_graph.specs.Graph.{arcs_by_place}
use Rattle.wq_graph.proofs.Arcs.{ByPlace-arc, ByPlace-arcs_by_place}
use Rattle.wq_deadlock.proofs.BareLanes.{IsDeclaration-assigned, items_of_arcs}
use Rattle.wq_circles.specs.Components.{AreComponents, kept_graph}
use Rattle.wq_circles.specs.ComponentsText.{AreBetween}
use Rattle.wq_circles.specs.Lists.{AreTurned, head_lists, listed_at}
use Rattle.wq_circles.proofs.KeptLanes.{IsGraph-kept_graph, length-kept}
use Rattle.wq_circles.proofs.OfAssigned.{between_items}
use Rattle.wq_circles.proofs.Turned.{head_lists-below, lists-below, tails-below}

module _ (a : Assigned) (is : IsAssigned a) where
  abbrev graph : List (List WaitArc)
  graph = kept_graph (declared_waits a.declared) a.workqueues.assignment a.workqueues.bare

  abbrev lanes : ℕ
  lanes = a.workqueues.assignment.lanes

  count : length graph ≡ lanes
  count =
      length-kept (declared_waits a.declared) a.workqueues.assignment a.workqueues.bare (IsDeclaration-assigned a is)
      is.assignment.assignment

  count_heads : length (head_lists graph) ≡ lanes
  count_heads = length-map graph (map (λ (b : WaitArc). b.head)) ∙ count

  module _ {A : Type 0} (lists : List (Vec ℕ A)) where
    abbrev shown : List (List ℕ)
    shown = map (λ (l : Vec ℕ A). l.items) lists

    pub heads-count : shown ≡ head_lists graph → length lists ≡ lanes
    heads-count heads =
        sym (length-map lists (λ (l : Vec ℕ A). l.items)) ∙ ap (λ (l : List (List ℕ)). length l) heads ∙ count_heads

    pub heads-within : shown ≡ head_lists graph
        → All (λ (l : Vec ℕ A). All (λ v. v < length lists) l.items) lists
    heads-within heads =
        let long : length graph ≡ length lists = count ∙ sym (heads-count heads) in
        lists-below lists (head_lists graph) (length lists) heads
        (λ v. subst (λ (n : ℕ). All (λ x. x < n) (listed_at (head_lists graph) v)) long
        (head_lists-below graph (IsGraph-kept_graph (declared_waits a.declared) a.workqueues.assignment
        a.workqueues.bare (IsDeclaration-assigned a is) is.assignment.assignment is.assignment.few) v))

    pub tails-count : AreTurned (head_lists graph) shown → length lists ≡ lanes
    tails-count turned = sym (length-map lists (λ (l : Vec ℕ A). l.items)) ∙ turned.one_each ∙ count_heads

    pub tails-within : AreTurned (head_lists graph) shown
        → All (λ (l : Vec ℕ A). All (λ v. v < length lists) l.items) lists
    tails-within turned =
        lists-below lists shown (length lists) refl
        (λ v. subst (λ (n : ℕ). All (λ x. x < n) (listed_at shown v)) (length-map lists (λ (l : Vec ℕ A). l.items))
        (tails-below graph shown turned v))

  -- ---- where flushes begin

  begins_below : (arcs : List WaitArc) → AreBetween (length a.declared.table.names) arcs
      → All (λ (b : WaitArc). b.src < length a.declared.partition.group_of) arcs
  begins_below arcs between = λ k e within.
      omega (arith, (between.1 k e within).0, is.declared.one_group_each)

  pub waits-begin : (arcs : List WaitArc)
      → AreBetween (length a.declared.table.names) arcs
      → All (λ (b : WaitArc). b.src < length a.declared.partition.group_of) arcs
  waits-begin = begins_below

  pub component-begins : {A : Type 0} (components : List (Vec WaitArc A))
      → AreComponents (declared_waits a.declared) a.workqueues (map (λ (l : Vec WaitArc A). l.items) components)
      → (k : ℕ) (l : Vec WaitArc A) → k < length components → l ≡ get_or components k l
      → All (λ (b : WaitArc). b.src < length a.declared.partition.group_of) l.items
  component-begins {A} components are k l within here =
      let items : Vec WaitArc A → List WaitArc = λ (x : Vec WaitArc A). x.items in
      let at = get_or-map items components k l l.items within ∙ ap items (sym here) in
      begins_below l.items
      (subst (AreBetween (length a.declared.table.names)) at
      (between_items a is (map items components) are k l.items (omega (arith, within, length-map components items))))

  -- ---- all flushes, in order of place

  -- what a flush at index k is
  pub record IsAt (n k : ℕ) (b : WaitArc) : Type 0 where
    pub src : b.src < length a.declared.partition.group_of
    pub dst : b.dst < length a.declared.partition.group_of
    pub place : b.place < n

  pub IsAt-arcs : (arcs : List WaitArc)
      → arcs ≡ arcs_by_place a.declared.table.waits a.declared.partition.group_of → (k : ℕ) (b : WaitArc)
      → k < length arcs → b ≡ get_or arcs k b → IsAt (length arcs) k b
  IsAt-arcs arcs all k b within here =
      let d = declared_waits a.declared in
      let declaration = IsDeclaration-assigned a is in
      let every : List WaitArc = arcs_by_place d.waits d.group_of in
      let both = items_of_arcs d declaration in
      let at : get_or every k b ≡ b = ap (λ (l : List WaitArc). get_or l k b) (sym all) ∙ sym here in
      let inside : k < length every = omega (arith, within, ap (λ (l : List WaitArc). length l) all) in
      let n = length d.group_of in
      let placed = ByPlace-arc d.waits d.group_of declaration.places_are_numbered every
      (ByPlace-arcs_by_place d.waits d.group_of declaration.places_are_numbered) k b inside in
      record {
        src = subst (λ (x : WaitArc). x.src < n) at (both.0 k b inside);
        dst = subst (λ (x : WaitArc). x.dst < n) at (both.1 k b inside);
        place = omega (arith, within, placed.1, ap (λ (x : WaitArc). x.place) at);
      }

use Rattle.std.proofs.Common.{◌≡◌, ◌<◌, ℕ, List, All, length, map, sym, subst, ap, ◌∙◌, arith}
use Rattle.std.proofs.lemmas.List.{length-map}
use Rattle.std.proofs.lemmas.Result.{IfOk-weaker}
use Rattle.wq_graph.specs.Graph.{HasArc}
use Rattle.wq_circles.specs.Leading.{AreLowest}
use Rattle.wq_circles.specs.Lists.{Next, NextBack, head_lists, listed_at, AreTurned}
use Rattle.wq_circles.specs.Finishing.{IsFinishing}
use Rattle.wq_circles.proofs.Turned.{HasArc-heads, HasArc-tails, Next-heads, Next-tails, head_lists-below, tails-below, lists-below}
use Rattle.wq_circles.proofs.Completed.{IsFinishing-arcs, AreLowest-arcs}
use Rattle.wq_circles.proofs.together.lowest.Goals as goal

pub finishing_order-requires-clause-within : goal.finishing_order-requires-clause-within
finishing_order-requires-clause-within g c =
    let graph = c.args.graph.now in
    let lists = c.deref.result.now in
    let shown : map (λ list. list.items) lists ≡ head_lists graph = ap (map (λ list. list.items)) c.deref.ensures.value ∙ c.in_ok-heads.ensures in
    let long : length graph ≡ length lists = omega (arith, ap length shown, length-map lists (λ list. list.items), length-map graph (map (λ a. a.head))) in
    lists-below lists (head_lists graph) (length lists) shown
    (λ v. subst (λ (n : ℕ). All (λ w. w < n) (listed_at (head_lists graph) v)) long (head_lists-below graph c.vertices-vertices.ensures.graph v))

pub tails-requires-clause-within : goal.tails-requires-clause-within
tails-requires-clause-within g c =
    let graph = c.args.graph.now in
    let shown = ap (map (λ list. list.items)) c.deref-2.ensures.value ∙ c.in_ok-heads.ensures in
    lists-below c.deref-2.result.now (head_lists graph) c.vertices-vertices.result shown
    (λ v. subst (λ (n : ℕ). All (λ w. w < n) (listed_at (head_lists graph) v)) (sym c.vertices-vertices.ensures.vertices) (head_lists-below graph c.vertices-vertices.ensures.graph v))

pub lowest_of_components-requires-clause-finished : goal.lowest_of_components-requires-clause-finished
lowest_of_components-requires-clause-finished g c =
    let graph = c.args.graph.now in
    let heads : List (List ℕ) = head_lists graph in
    let tails : List (List ℕ) = map (λ list. list.items) c.deref-3.result.now in
    let heads_shown : map (λ list. list.items) c.deref.result.now ≡ heads = ap (map (λ list. list.items)) c.deref.ensures.value ∙ c.in_ok-heads.ensures in
    let heads_shown_2 : map (λ list. list.items) c.deref-2.result.now ≡ heads = ap (map (λ list. list.items)) c.deref-2.ensures.value ∙ c.in_ok-heads.ensures in
    let turned : AreTurned heads tails =
    subst (AreTurned heads) (sym (ap (map (λ list. list.items)) c.deref-3.ensures.value))
    (subst (λ (h : List (List ℕ)). AreTurned h (map (λ list. list.items) c.in_ok-tails.tails.items)) heads_shown_2 c.in_ok-tails.ensures) in
    let same = turned.one_each in
    let long : c.vertices-vertices.result ≡ length c.deref-3.result.now =
    omega (arith, same, length-map c.deref-3.result.now (λ list. list.items), length-map graph (map (λ a. a.head)), c.vertices-vertices.ensures.vertices) in
    let order : List ℕ = c.deref-4.result.now in
    let ordered : IsFinishing (Next heads) c.vertices-vertices.result order =
    subst (IsFinishing (Next heads) c.vertices-vertices.result) (sym c.deref-4.ensures.value)
    (subst (λ (h : List (List ℕ)). IsFinishing (Next h) c.vertices-vertices.result c.in_ok-finished.finished.items) heads_shown c.in_ok-finished.ensures) in
    subst (λ (n : ℕ). IsFinishing (NextBack tails) n order) long
    (IsFinishing-arcs (Next heads) (NextBack tails)
    (λ x y arc. Next-tails graph tails c.vertices-vertices.ensures.graph turned x y (HasArc-heads graph x y arc))
    (λ x y arc. Next-heads graph x y (HasArc-tails graph tails turned y x arc))
    c.vertices-vertices.result order ordered)

pub lowest_of_components-requires-clause-within : goal.lowest_of_components-requires-clause-within
lowest_of_components-requires-clause-within g c =
    let graph = c.args.graph.now in
    let heads : List (List ℕ) = head_lists graph in
    let lists = c.deref-3.result.now in
    let tails : List (List ℕ) = map (λ list. list.items) c.in_ok-tails.tails.items in
    let shown : map (λ list. list.items) lists ≡ tails = ap (map (λ list. list.items)) c.deref-3.ensures.value in
    let heads_shown : map (λ list. list.items) c.deref-2.result.now ≡ heads = ap (map (λ list. list.items)) c.deref-2.ensures.value ∙ c.in_ok-heads.ensures in
    let turned : AreTurned heads tails = subst (λ (h : List (List ℕ)). AreTurned h tails) heads_shown c.in_ok-tails.ensures in
    let long : length tails ≡ length lists = omega (arith, ap length shown, length-map lists (λ list. list.items)) in
    lists-below lists tails (length lists) shown
    (λ v. subst (λ (n : ℕ). All (λ w. w < n) (listed_at tails v)) long (tails-below graph tails turned v))

pub returns-clause-lowest : goal.returns-clause-lowest
returns-clause-lowest g c =
    let graph = c.args.graph.now in
    let heads : List (List ℕ) = head_lists graph in
    let lists = c.deref-3.result.now in
    let tails : List (List ℕ) = map (λ list. list.items) lists in
    let heads_shown : map (λ list. list.items) c.deref-2.result.now ≡ heads = ap (map (λ list. list.items)) c.deref-2.ensures.value ∙ c.in_ok-heads.ensures in
    let turned : AreTurned heads tails =
    subst (AreTurned heads) (sym (ap (map (λ list. list.items)) c.deref-3.ensures.value))
    (subst (λ (h : List (List ℕ)). AreTurned h (map (λ list. list.items) c.in_ok-tails.tails.items)) heads_shown c.in_ok-tails.ensures) in
    let same = turned.one_each in
    let long : length lists ≡ length graph = omega (arith, same, length-map lists (λ list. list.items), length-map graph (map (λ a. a.head))) in
    IfOk-weaker c.lowest_of_components.result (λ l. AreLowest (NextBack tails) (length lists) l.items) (λ l. AreLowest (HasArc graph) (length graph) l.items)
    (λ l are. AreLowest-arcs (NextBack tails) (HasArc graph)
    (λ x y arc. HasArc-tails graph tails turned y x arc) (λ x y arc. Next-tails graph tails c.vertices-vertices.ensures.graph turned x y arc)
    (length graph) l.items (subst (λ (n : ℕ). AreLowest (NextBack tails) n l.items) long are)) c.lowest_of_components.ensures

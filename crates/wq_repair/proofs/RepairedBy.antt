-- All steps of a repair together, where lists are known by other names.
use Rattle.std.proofs.Common.{◌≡◌, ℕ, ◌<◌, Bool, List, length, not, sym, ap, subst, ◌∙◌, arith}
use Rattle.std.specs.Prelude.{map}
use Rattle.wq_groups.specs.Declaration.{Declaration, IsDeclaration}
use Rattle.wq_graph.specs.declared.arc.WaitArc.{WaitArc}
use Rattle.wq_graph.specs.Graph.{group_graph, without}
use Rattle.wq_core.specs.Workqueues.{Workqueues}
use Rattle.wq_repair.specs.Marks.{Marks}
use Rattle.wq_repair.specs.Steps.{ArePlacedBy}
use Rattle.wq_repair.specs.Placing.{AreHosted, CanBePlaced}
use Rattle.wq_repair.specs.Settled.{Settled}
use Rattle.wq_repair.specs.Ready.{Scope, IsReady, IsGraphOfNeeded, IsMinimal, IsTried, IsButNot, IsSettledIn, IsTrial}
use Rattle.wq_repair.proofs.Answered.{IsGraphOfNeeded-without}
use Rattle.wq_repair.proofs.Marks.{IsMarked-below}
use Rattle.wq_repair.proofs.Readied.{fine-staying, apart-staying, held-leaving, IsMinimal-placed, movable_needed}

-- the groups of one list that aren't in another, where both lists are known by other names
pub Marks-but_not : (one other first second both : List Bool) (n : ℕ) → first ≡ one → second ≡ other → length one ≡ n →
    Marks (IsButNot first second) (length first) both → Marks (IsButNot one other) n both
Marks-but_not one other first second both n same also long is = rw (same, also, long) at is

-- the graph of those that need a rescuer, where the list of them is known by another name
pub graph-by : {d : Declaration} {s inside : Scope} {slice : List Bool} {graph : List (List WaitArc)} → IsDeclaration d
    → length s.needed ≡ d.groups → inside ≡ s
    → slice ≡ inside.needed → graph ≡ without (map not slice) (group_graph d) → IsGraphOfNeeded d s.needed graph
graph-by {d = d} {s = s} {graph = graph} declaration long view same is =
    subst (IsGraphOfNeeded d s.needed) (sym (is ∙ ap (λ (xs : List Bool). without (map not xs) (group_graph d))
    (same ∙ ap (λ (x : Scope). x.needed) view)))
    (IsGraphOfNeeded-without d declaration s.needed long)

-- the same of lists that are known by other names
pub IsTried-as : (old : Workqueues) (s : Scope) {xs ys : List Bool} {n m : ℕ} → xs ≡ ys → m ≡ n
    → Marks (IsTried old s) m ys → Marks (IsTried old s) n xs
IsTried-as old s same long is = rw same (rw long at is)

pub can-as : {old : Workqueues} {given stays leaves xs ys zs : List Bool} {ranks rs : List ℕ} {most : ℕ} → xs ≡ given
    → ys ≡ stays → zs ≡ leaves → rs ≡ ranks
    → CanBePlaced old given stays leaves ranks most → CanBePlaced old xs ys zs rs most
can-as one two three four can = rw (one, two, three, four) can

pub placed-as : {old new : Workqueues} {given stays leaves xs ys zs : List Bool} {ranks rs : List ℕ} → xs ≡ given
    → ys ≡ stays → zs ≡ leaves → rs ≡ ranks
    → ArePlacedBy old xs ys zs rs new → ArePlacedBy old given stays leaves ranks new
placed-as one two three four placed = rw (one, two, three, four) at placed

pub hosted-as : (old new : Workqueues) {movable leaves xs zs : List Bool} → xs ≡ movable → zs ≡ leaves
    → AreHosted old xs zs new → AreHosted old movable leaves new
hosted-as old new one two hosted = rw (one, two) at hosted

-- of what is settled
module _ {d : Declaration} {old : Workqueues} {s : Scope} {tried : List Bool} {settled : Settled}
    (is : IsSettledIn d old s tried settled) where
  pub stays_long-by : length settled.stays ≡ d.groups
  stays_long-by = is.is.one_each ∙ is.of.long

  pub ranks_long-by : length settled.ranks ≡ d.groups
  ranks_long-by = is.is.ranks.one_each ∙ is.of.long

module _ {d : Declaration} {old : Workqueues} {names : List ℕ} {s : Scope} {start : Workqueues} {tried : List Bool}
    (declaration : IsDeclaration d) (ready : IsReady d old names s start)
    (are_tried : Marks (IsTried old s) d.groups tried) where
  -- what is tried
  pub IsTrial-ready : {fixed : List Bool} {graph : List (List WaitArc)} → IsGraphOfNeeded d s.needed graph
      → Marks (IsButNot s.needed s.movable) d.groups fixed → IsTrial d s.needed fixed tried graph
  IsTrial-ready {fixed = fixed} of are_fixed = record {
    long = ready.scope.one_each;
    of = of;
    fixed_needed = λ g marked. ((are_fixed.exactly g
        (omega (arith, IsMarked-below fixed g marked, are_fixed.one_each))).0 marked).0;
    tried_needed = λ g marked.
        let lt : g < d.groups = omega (arith, IsMarked-below tried g marked, are_tried.one_each) in
        movable_needed d old names s start declaration ready g lt ((are_tried.exactly g lt).0 marked).0;
  }

  module _ {settled : Settled} {leaves : List Bool} (is : IsSettledIn d old s tried settled)
      (are_leaving : Marks (IsButNot s.movable settled.stays) d.groups leaves) where
    pub CanBePlaced-by : (most : ℕ) → most ≡ 4096 → CanBePlaced old s.given settled.stays leaves settled.ranks most
    CanBePlaced-by most is_most = record {
      below = λ g lt. omega (arith, is.is.ranks.low g (omega (arith, lt, is.is.ranks.one_each)), is_most);
      apart = apart-staying d old names s start declaration ready is.graph is.of is.fixed tried leaves settled
          is.are_fixed are_tried is.is are_leaving;
      same = is.is.ranks.same;
      held = λ g lt leaving.
          let long = are_leaving.one_each in
          let held = held-leaving d old names s start declaration ready is.graph is.of is.fixed tried leaves settled
          is.are_fixed are_tried is.is are_leaving g (omega (arith, lt, long)) leaving in
          (held.0, omega (arith, held.1, long), held.2, held.3);
      fine = fine-staying d old names s start declaration ready is.graph is.of is.fixed tried leaves settled
          is.are_fixed are_tried is.is are_leaving;
    }

    pub IsMinimal-by : (new : Workqueues) → ArePlacedBy old s.given settled.stays leaves settled.ranks new
        → AreHosted old s.movable leaves new → IsMinimal d old names s.needed new
    IsMinimal-by = IsMinimal-placed d old names s start declaration ready is.graph is.of is.fixed tried leaves settled
        is.are_fixed are_tried is.is are_leaving

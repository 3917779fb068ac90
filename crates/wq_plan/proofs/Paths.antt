-- Paths: arcs of a wait graph, each of which leaves the vertex that the one before it led to.
use Rattle.std.proofs.Common.{◌≡◌, ℕ, zero, suc, ◌+◌, List, [], ◌∷◌, length, slice_index, slice_get, IfSome, sym, subst, arith}
use Rattle.std.specs.Prelude.{Contains}
use Rattle.std.specs.List.{AllAdjacentBelow}
use Rattle.std.proofs.lemmas.List.Elements.{All-contains}
use Rattle.wq_groups.specs.Declaration.{Declaration, IsDeclaration}
use Rattle.wq_graph.specs.declared.arc.WaitArc.{WaitArc}
use Rattle.wq_graph.specs.Graph.{IsArc, arcs_at, group_graph}
use Rattle.wq_graph.proofs.Graphs.{AreArcsFrom-group_graph}
use Rattle.wq_plan.specs.CircleOfGroups.{tail_of}

-- the first arc leaves v
abbrev pub IsPath : List (List WaitArc) → ℕ → List WaitArc → Type 0
IsPath graph v [] = Unit {0}
IsPath graph v (a ∷ arcs) = Contains (arcs_at graph v) a × IsPath graph a.head arcs

-- the first arc leaves group g, and each other one leaves the group that the one before it led to
abbrev pub Follows : Declaration → ℕ → List WaitArc → Type 0
Follows d g [] = Unit {0}
Follows d g (a ∷ arcs) = (tail_of d a ≡ g) × Follows d (slice_index d.group_of a.dst) arcs

module _ (d : Declaration) where
  pub Follows-joined : (g : ℕ) (arcs : List WaitArc) → Follows d g arcs → AllAdjacentBelow (λ (x y : WaitArc). slice_index d.group_of x.dst ≡ tail_of d y) arcs (length arcs)
  Follows-joined g [] follows k e fits = absurd (omega arith)
  Follows-joined g (a ∷ []) follows k e fits = absurd (omega arith)
  Follows-joined g (a ∷ b ∷ arcs) follows zero e fits = sym follows.1.0
  Follows-joined g (a ∷ b ∷ arcs) follows (suc k) e fits = let at : suc k + 1 ≡ suc (k + 1) = omega arith in rw at (Follows-joined (slice_index d.group_of a.dst) (b ∷ arcs) follows.1 k e (omega arith))

  pub Follows-from_joined : (g : ℕ) (arcs : List WaitArc) → IfSome (slice_get arcs 0) (λ (arc : WaitArc). tail_of d arc ≡ g) → AllAdjacentBelow (λ (x y : WaitArc). slice_index d.group_of x.dst ≡ tail_of d y) arcs (length arcs) → Follows d g arcs
  Follows-from_joined g [] begins joined = tt
  Follows-from_joined g (x ∷ []) begins joined = (begins, tt)
  Follows-from_joined g (x ∷ y ∷ arcs) begins joined = (
    begins,
    Follows-from_joined (slice_index d.group_of x.dst) (y ∷ arcs) (sym (joined 0 x (omega arith))) (λ k e fits.
        let at : suc k + 1 ≡ suc (k + 1) = omega arith in
        rw at at (joined (suc k) e (omega arith))),
  )

  pub Follows-begins : (P : ℕ → Type 0) (g : ℕ) (arcs : List WaitArc) → Follows d g arcs → P g → IfSome (slice_get arcs 0) (λ (arc : WaitArc). P (tail_of d arc))
  Follows-begins P g [] follows holds = tt
  Follows-begins P g (a ∷ arcs) follows holds = subst P (sym follows.0) holds

  module _ (is : IsDeclaration d) where
    -- what leaves a group is a flush that an item of it declares
    pub leaving-declared : (g : ℕ) (a : WaitArc) → Contains (arcs_at (group_graph d) g) a → IsArc d.waits d.group_of a × (tail_of d a ≡ g)
    leaving-declared g a leaves = All-contains (λ (b : WaitArc). IsArc d.waits d.group_of b × (tail_of d b ≡ g)) (arcs_at (group_graph d) g) a (AreArcsFrom-group_graph d is g).declared leaves

    pub Follows-path : (g : ℕ) (arcs : List WaitArc) → IsPath (group_graph d) g arcs → Follows d g arcs
    Follows-path g [] path = tt
    Follows-path g (a ∷ arcs) path =
        let here = leaving-declared g a path.0 in
        (here.1, subst (λ h. Follows d h arcs) here.0.head (Follows-path a.head arcs path.1))

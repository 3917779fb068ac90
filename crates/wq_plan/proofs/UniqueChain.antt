-- There is one longest chain with the fewest unsure flushes that comes first.
use Rattle.std.proofs.Common.{◌≡◌, ℕ, ◌<◌, ◌⊎◌, inl, inr, List, [], ◌∷◌, length, refl, sym, ap}
use Rattle.std.proofs.Common.{◌∙◌, arith}
use Rattle.std.specs.List.{AllByRecursion}
use Rattle.std.proofs.lemmas.List.Elements.{recursion_from_All}
use Rattle.wq_groups.specs.Declaration.{Declaration, IsDeclaration}
use Rattle.wq_groups.specs.Assignment.{Assignment}
use Rattle.wq_graph.specs.declared.arc.WaitArc.{WaitArc}
use Rattle.wq_graph.specs.Graph.{arcs_at, group_graph}
use Rattle.wq_plan.specs.LongestChain.{IsStepDown, IsLongestChain, ComesFirst, unsure_arcs}
use Rattle.wq_plan.specs.CircleOfGroups.{tail_of}
use Rattle.wq_levels.proofs.Graphs.{arcs_at-rise}
use Rattle.wq_levels.proofs.WaysOn.{same_place}
use Rattle.wq_graph.proofs.Graphs.{IsGraph-group_graph, AreArcsFrom-group_graph}

-- what comes first by two numbers, and then by what is left
abbrev Comes : ℕ → ℕ → ℕ → ℕ → Type 0 → Type 0
Comes m n p q Rest = (m < n) ⊎ ((m ≡ n) × ((p < q) ⊎ ((p ≡ q) × Rest)))

-- if each of two comes first, they are the same so far
both_come : (m n p q : ℕ) (A B : Type 0) → Comes m n p q A → Comes n m q p B → (m ≡ n) × (p ≡ q) × A × B
both_come m n p q A B (inl less) (inl more) = absurd (omega arith)
both_come m n p q A B (inl less) (inr other) = absurd (omega (arith, other.0))
both_come m n p q A B (inr one) (inl more) = absurd (omega (arith, one.0))
both_come m n p q A B (inr one) (inr other) = elim one.1 [
  | inl less ↦ elim other.1 [
    | inl more ↦ absurd (omega arith)
    | inr rest ↦ absurd (omega (arith, rest.0))
  ]
  | inr rest ↦ elim other.1 [
    | inl more ↦ absurd (omega (arith, rest.0))
    | inr others ↦ (one.0, rest.0, rest.1, others.1)
  ]
]

module _ (d : Declaration) (a : Assignment) (is : IsDeclaration d) where
  -- one arc of a group has a place
  same_arc : (x y : WaitArc) → IsStepDown d a x → IsStepDown d a y → tail_of d x ≡ tail_of d y → x.place ≡ y.place → x
      ≡ y
  same_arc x y one other same place =
      let g : ℕ = tail_of d x in
      let from = AreArcsFrom-group_graph d is g in
      same_place (arcs_at (group_graph d) g) x y (arcs_at-rise (group_graph d) (IsGraph-group_graph d is) g)
      (from.all x one.declared refl) (from.all y other.declared (sym same)) place

  chains-same : (xs ys : List WaitArc) → length xs ≡ length ys → AllByRecursion (IsStepDown d a) xs
      → AllByRecursion (IsStepDown d a) ys → ComesFirst d xs ys → ComesFirst d ys xs → xs ≡ ys
  chains-same [] [] size steps others before after = refl
  chains-same [] (y ∷ ys) size steps others before after = absurd (omega arith)
  chains-same (x ∷ xs) [] size steps others before after = absurd (omega arith)
  chains-same (x ∷ xs) (y ∷ ys) size steps others before after =
      let same = both_come (tail_of d x) (tail_of d y) x.place y.place (ComesFirst d xs ys) (ComesFirst d ys xs) before
      after in
      let first : x ≡ y = same_arc x y steps.0 others.0 same.0 same.1 in
      let rest : xs ≡ ys = chains-same xs ys (omega arith) steps.1 others.1 same.2 same.3 in
      ap (λ (z : WaitArc). z ∷ xs) first ∙ ap (λ (zs : List WaitArc). y ∷ zs) rest

  pub IsLongestChain-unique : (one other : List WaitArc) → IsLongestChain d a one → IsLongestChain d a other → one
      ≡ other
  IsLongestChain-unique one other first second =
      let few : length (unsure_arcs d one) ≡ length (unsure_arcs d other) =
      omega (arith, first.fewest other second.down, second.fewest one first.down) in
      chains-same one other (first.down.count ∙ sym second.down.count)
      (recursion_from_All (IsStepDown d a) one first.down.arcs)
      (recursion_from_All (IsStepDown d a) other second.down.arcs)
      (first.first other second.down (sym few)) (second.first one first.down few)

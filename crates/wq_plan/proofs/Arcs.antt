-- Laws of the arcs from a vertex downwards.
use Rattle.std.proofs.Common.{◌≡◌, ℕ, suc, ◌+◌, ◌<◌, ◌==◌, List, [], ◌∷◌, ◌++◌, length, slice_index, find, Option, Some}
use Rattle.std.proofs.Common.{None, ap, sym, ◌∙◌, append_assoc, append-nil, Bool, true, cond, inl, inr}
use Rattle.std.proofs.Common.{subst, eqb-true}
use Rattle.std.specs.List.{AllByRecursion}
use Rattle.std.specs.Option.{option_map_or}
use Rattle.std.proofs.lemmas.Bool.{cases_Bool, and_parts}
use Rattle.std.proofs.lemmas.List.Elements.{recursion_from_All}
use Rattle.std.proofs.lemmas.Option.{same_Some}
use Rattle.wq_graph.specs.declared.arc.WaitArc.{WaitArc}
use Rattle.wq_graph.specs.Graph.{IsGraph, arcs_at}
use Rattle.wq_levels.proofs.Graphs.{arcs_at-below}
use Rattle.wq_plan.specs.Plan.{chain_from, least_doubts, leads_best}

-- what is found is one of the elements
pub find-All : {X : Type 0} (P : X → Type 0) (test : X → Bool) (xs : List X) (x : X) → AllByRecursion P xs
    → find test xs ≡ Some x → P x
find-All P test [] x each found = cc
find-All P test (y ∷ ys) x each found = elim (cases_Bool (test y)) [
  | inl passes ↦ let here = rw passes at found in subst P (let same : y ≡ x = cc in same) each.0
  | inr fails ↦ find-All P test ys x each.1 (rw fails at found)
]

-- and it passes
pub find-passes : {X : Type 0} (test : X → Bool) (xs : List X) (x : X) → find test xs ≡ Some x → test x ≡ true
find-passes test [] x found = cc
find-passes test (y ∷ ys) x found = elim (cases_Bool (test y)) [
  | inl passes ↦ let here = rw passes at found in ap test (sym (same_Some y x here)) ∙ passes
  | inr fails ↦ find-passes test ys x (rw fails at found)
]

module _ (unsure : ℕ → Bool) (graph : List (List WaitArc)) (lane : List ℕ) (below v : ℕ) where
  -- the first arc to the lane `below` that leads on best
  abbrev pub next_arc : Option WaitArc
  next_arc = find (leads_best unsure graph lane below v) (arcs_at graph v)

  pub next_arc-below : (arc : WaitArc) → IsGraph graph → next_arc ≡ Some arc → arc.head < length graph
  next_arc-below arc is found =
      find-All (λ (a : WaitArc). a.head < length graph) (leads_best unsure graph lane below v) (arcs_at graph v) arc
      (recursion_from_All (λ (a : WaitArc). a.head < length graph) (arcs_at graph v) (arcs_at-below graph is v)) found

  pub next_arc-on : (arc : WaitArc) → next_arc ≡ Some arc → slice_index lane arc.head ≡ below
  next_arc-on arc found =
      eqb-true (slice_index lane arc.head) below
      (and_parts (slice_index lane arc.head == below)
      (least_doubts unsure graph lane below arc.head + cond (unsure arc.place) 1 0 ==
      least_doubts unsure graph lane (suc below) v)
      (find-passes (leads_best unsure graph lane below v) (arcs_at graph v) arc found)).0

  pub chain_from-some : (on : ℕ) (arc : WaitArc) → on ≡ suc below → next_arc ≡ Some arc
      → chain_from unsure graph lane on v ≡ arc ∷ chain_from unsure graph lane below arc.head
  chain_from-some on arc same found =
      rw same (ap (λ (o : Option WaitArc). option_map_or
      (λ (a : WaitArc). a ∷ chain_from unsure graph lane below a.head) o []) found)

  pub chain_from-none : (on : ℕ) → on ≡ suc below → next_arc ≡ None → chain_from unsure graph lane on v ≡ []
  chain_from-none on same none = rw same (ap (λ (o : Option WaitArc). option_map_or
      (λ (a : WaitArc). a ∷ chain_from unsure graph lane below a.head) o []) none)

  -- one arc of those that are left joins those that were found
  pub follow_more : (arcs total : List WaitArc) (on : ℕ) (arc : WaitArc) → on ≡ suc below → next_arc ≡ Some arc
      → arcs ++ chain_from unsure graph lane on v ≡ total → (arcs ++ arc ∷ []) ++ chain_from unsure graph lane below
      arc.head ≡ total
  follow_more arcs total on arc same found so_far =
      append_assoc arcs (arc ∷ []) (chain_from unsure graph lane below arc.head)
      ∙ ap (λ (rest : List WaitArc). arcs ++ rest) (sym (chain_from-some on arc same found)) ∙ so_far

  -- no arc is left if none leads to the lane
  pub follow_none : (arcs total : List WaitArc) (on : ℕ) → on ≡ suc below → next_arc ≡ None
      → arcs ++ chain_from unsure graph lane on v ≡ total → arcs ≡ total
  follow_none arcs total on same none so_far = sym (append-nil arcs) ∙ ap (λ (rest : List WaitArc). arcs ++ rest)
      (sym (chain_from-none on same none)) ∙ so_far

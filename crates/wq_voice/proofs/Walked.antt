-- The waits of walks are waits of items, for items.
use Rattle.std.proofs.Common.{ℕ, ◌<◌, inl, inr, List, [], ◌∷◌, length, sym, subst}
use Rattle.std.specs.List.{All}
use Rattle.std.proofs.lemmas.List.Elements.{All-cons, All-nil}
use Rattle.wq_groups.specs.Assignment.{IsAssignment}
use Rattle.wq_groups.specs.Declaration.{Declaration, IsDeclaration}
use Rattle.wq_core.specs.declared.step.Step.{Step}
use Rattle.wq_core.specs.Wiring.{Wiring, IsWiring, wiring, items}
use Rattle.wq_core.specs.Workqueues.{Workqueues, wiring_of}
use Rattle.wq_core.proofs.Wirings.{IsWiring-wiring, IsWiring-with_bare}
use Rattle.wq_hang.specs.declared.hop.Hop.{Hop}
use Rattle.wq_hang.specs.Answer.{IsHangOf}
use Rattle.wq_hang.specs.Walk.{IsPath, IsRound, IsWalk}
use Rattle.wq_hang.specs.AnswerFor.{IsHeldBy}
use Rattle.wq_hang.proofs.Declared.{declared-item, declared-target}
use Rattle.wq_hang.proofs.FewestFor.{walk_for_items, walk_for_targets}

abbrev AreItems : ℕ → List Hop → Type 0
AreItems n hops = All (λ (h : Hop). h.item < n) hops

abbrev AreTargets : ℕ → List Hop → Type 0
AreTargets n hops = All (λ (h : Hop). h.flush.item < n) hops

module _ (w : Wiring) (sound : IsWiring w) where
  path_items : (i j : ℕ) (hops : List Hop) → IsPath w i hops j → AreItems (items w) hops
  path_items i j [] path = All-nil (λ (h : Hop). h.item < items w)
  path_items i j (h ∷ hops) path = All-cons (λ (h : Hop). h.item < items w) h hops (declared-item w h.item h.flush path.1.declared) (path_items h.next j hops path.3)

  path_targets : (i j : ℕ) (hops : List Hop) → IsPath w i hops j → AreTargets (items w) hops
  path_targets i j [] path = All-nil (λ (h : Hop). h.flush.item < items w)
  path_targets i j (h ∷ hops) path = All-cons (λ (h : Hop). h.flush.item < items w) h hops (declared-target w h.item h.flush sound path.1.declared) (path_targets h.next j hops path.3)

  walk_items : (hops : List Hop) (beside : List ℕ) → IsWalk w hops beside → AreItems (items w) hops
  walk_items hops beside (inl (round, queued)) = path_items round.first round.first hops round.path
  walk_items hops beside (inr (h, hop, bare, one, queued)) =
      subst (AreItems (items w)) (sym one) (All-cons (λ (h : Hop). h.item < items w) h [] (declared-item w h.item h.flush hop.declared) (All-nil (λ (h : Hop). h.item < items w)))

  walk_targets : (hops : List Hop) (beside : List ℕ) → IsWalk w hops beside → AreTargets (items w) hops
  walk_targets hops beside (inl (round, queued)) = path_targets round.first round.first hops round.path
  walk_targets hops beside (inr (h, hop, bare, one, queued)) =
      subst (AreTargets (items w)) (sym one) (All-cons (λ (h : Hop). h.flush.item < items w) h [] (declared-target w h.item h.flush sound hop.declared) (All-nil (λ (h : Hop). h.flush.item < items w)))

module _ (d : Declaration) (ws : Workqueues) (declaration : IsDeclaration d) where
  IsWiring-of : IsAssignment d.groups ws.assignment → IsWiring (wiring_of d ws)
  IsWiring-of assignment = IsWiring-with_bare (wiring d ws.assignment) ws.bare (IsWiring-wiring d ws.assignment declaration assignment)

  pub round_items : IsAssignment d.groups ws.assignment → (hops : List Hop) → IsRound (wiring_of d ws) hops → AreItems (length d.group_of) hops
  round_items assignment hops round =
      subst (λ n. AreItems n hops) declaration.one_list_each (path_items (wiring_of d ws) (IsWiring-of assignment) round.first round.first hops round.path)

  pub round_targets : IsAssignment d.groups ws.assignment → (hops : List Hop) → IsRound (wiring_of d ws) hops → AreTargets (length d.group_of) hops
  round_targets assignment hops round =
      subst (λ n. AreTargets n hops) declaration.one_list_each (path_targets (wiring_of d ws) (IsWiring-of assignment) round.first round.first hops round.path)

  pub hang_items : (hops : List Hop) (steps : List Step) → IsHangOf d ws hops steps → AreItems (length d.group_of) hops
  hang_items hops steps hang = subst (λ n. AreItems n hops) declaration.one_list_each (walk_items (wiring_of d ws) (IsWiring-of hang.assignment) hops hang.beside hang.walk)

  pub hang_targets : (hops : List Hop) (steps : List Step) → IsHangOf d ws hops steps → AreTargets (length d.group_of) hops
  hang_targets hops steps hang = subst (λ n. AreTargets n hops) declaration.one_list_each (walk_targets (wiring_of d ws) (IsWiring-of hang.assignment) hops hang.beside hang.walk)

  -- the same of a walk that holds up item x, which is an item
  module _ (named : List ℕ) (x : ℕ) (hops : List Hop) (steps : List Step)
      (held : IsHeldBy d ws named x hops steps) where
    pub held_item : x < length d.group_of
    held_item = subst (λ n. x < n) declaration.one_list_each held.walk.item

    pub held_items : AreItems (length d.group_of) hops
    held_items = subst (λ n. AreItems n hops) declaration.one_list_each
        (walk_for_items (wiring_of d ws) x hops held.walk.holds_up)

    pub held_targets : AreTargets (length d.group_of) hops
    held_targets = subst (λ n. AreTargets n hops) declaration.one_list_each
        (walk_for_targets (wiring_of d ws) x hops (IsWiring-of held.assignment) held.walk.holds_up)

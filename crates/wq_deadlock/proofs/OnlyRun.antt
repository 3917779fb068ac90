-- From a state exactly one run is played.
use Rattle.std.proofs.Common.{◌≡◌, ℕ, ◌<◌, inl, inr, List, [], ◌∷◌, ◌++◌, refl, sym, ap, subst, ◌∙◌}
use Rattle.std.proofs.lemmas.Bool.{cases_order}
use Rattle.wq_graph.specs.declared.arc.WaitArc.{WaitArc}
use Rattle.wq_core.specs.declared.step.Step.{Step}
use Rattle.wq_core.specs.Wiring.{Wiring}
use Rattle.wq_core.specs.State.{State}
use Rattle.wq_core.specs.Rules.{effect}
use Rattle.wq_core.specs.Runs.{end_of}
use Rattle.wq_core.specs.Played.{IsDeclaredStep, HasNoDeclaredStep, IsPlayedFrom, queue_order}
use Rattle.wq_core.proofs.DeclaredSteps.{declared_steps_equal}
use Rattle.wq_deadlock.specs.CircleRun.{flushing_items, IsRunOf, IsCircleRun}

-- the lowest lane that can move has one step
same_lowest : (w : Wiring) (s : State) (p q : ℕ) (a b : Step) → IsDeclaredStep w s p a → ((r : ℕ) → r < p → HasNoDeclaredStep w s r) → IsDeclaredStep w s q b → ((r : ℕ) → r < q → HasNoDeclaredStep w s r) → a ≡ b
same_lowest w s p q a b one lowest other lowest_too = elim (cases_order p q) [
  | inl same ↦ declared_steps_equal w s q a b (subst (λ (k : ℕ). IsDeclaredStep w s k a) same one) other
  | inr apart ↦ elim apart [
    | inl lower ↦ absurd (lowest_too p lower a one)
    | inr higher ↦ absurd (lowest q higher b other)
  ]
]

pub same_played : (w : Wiring) (s : State) (one other : List Step) → IsPlayedFrom w s one → IsPlayedFrom w s other → one ≡ other
same_played w s [] [] played played_too = refl
same_played w s [] (b ∷ others) played played_too = absurd (played played_too.0.0 b played_too.0.1)
same_played w s (a ∷ more) [] played played_too = absurd (played_too played.0.0 a played.0.1)
same_played w s (a ∷ more) (b ∷ others) played played_too =
    let step : a ≡ b = same_lowest w s played.0.0 played_too.0.0 a b played.0.1 played.0.2 played_too.0.1 played_too.0.2 in
    let rest : more ≡ others = same_played w (effect w s a) more others played.1 (subst (λ (x : Step). IsPlayedFrom w (effect w s x) others) (sym step) played_too.1) in
    ap (λ (x : Step). x ∷ more) step ∙ ap (λ (xs : List Step). b ∷ xs) rest

pub same_run_of : (w : Wiring) (first : List ℕ) (one other : List Step) → IsRunOf w first one → IsRunOf w first other → one ≡ other
same_run_of w first one other run run_too =
    run.all
    ∙ ap (λ (xs : List Step). queue_order w first ++ xs) (same_played w (end_of w (queue_order w first)) run.played run_too.played run.is_played run_too.is_played)
    ∙ sym run_too.all

pub same_circle_run : (w : Wiring) (circle : List WaitArc) (one other : List Step) → IsCircleRun w circle one → IsCircleRun w circle other → one ≡ other
same_circle_run w circle one other run run_too =
    run.all
    ∙ ap (λ (xs : List Step). queue_order w (flushing_items circle) ++ xs) (same_played w (end_of w (queue_order w (flushing_items circle))) run.played run_too.played run.is_played run_too.is_played)
    ∙ sym run_too.all

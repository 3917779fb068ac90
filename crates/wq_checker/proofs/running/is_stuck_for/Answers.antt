use Rattle.std.proofs.Common.{◌≡◌, ℕ, ◌<◌, Option, None, Some, true, false, sym, ◌∙◌}
use Rattle.std.specs.Prelude.{is_some, IfNone, IfSome}
use Rattle.wq_core.specs.Played.{CanMove}
use Rattle.wq_checker.proofs.StuckStates.{IsStuckFor-can_move, IsStuckFor-cannot_move}
use Rattle.wq_checker.proofs.running.is_stuck_for.Goals as goal

-- what holds where there is nothing
from_none : (o : Option ℕ) (P : Type 0) → is_some o ≡ false → IfNone o P → P
from_none None P none p = p
from_none (Some x) P none p = absurd cc

pub returns-then-is_none : goal.returns-then-is_none
returns-then-is_none g c =
    let m = c.args.core.now in
    IsStuckFor-cannot_move m.wiring m.state c.args.named.now
    (from_none c.enabled.result ((q : ℕ) → ¬ CanMove m.wiring m.state q) c.if-is_none.ensures
    c.enabled.ensures.none) c.has_one_left.result c.has_one_left.ensures

-- what holds where there is something
from_some : (o : Option ℕ) (P : ℕ → Type 0) → is_some o ≡ true → IfSome o P → (q : ℕ) × P q
from_some None P some p = absurd cc
from_some (Some q) P some p = (q, p)

pub returns-else-is_none : goal.returns-else-is_none
returns-else-is_none g c =
    let m = c.args.core.now in
    let moves = from_some c.enabled.result (λ q. CanMove m.wiring m.state q
    × ((p : ℕ) → p < q → ¬ CanMove m.wiring m.state p)) c.if-is_none.ensures c.enabled.ensures.some in (
      (λ e. absurd (let never : false ≡ true = sym c.if-is_none.false ∙ e in cc)),
      (λ stuck. absurd (IsStuckFor-can_move m.wiring m.state c.args.named.now moves.0 moves.1.0 stuck)),
    )

-- The first flush that leads to a bare lane, while it is looked for.
use Rattle.std.specs.Prelude.{ℕ, ◌<◌, Option, Some, None, IfSome}
use Rattle.wq_core.specs.Wiring.{Wiring, HasRescuer, lane_of}
use Rattle.wq_hang.specs.declared.hop.Hop.{Hop}
use Rattle.wq_hang.specs.Walk.{ComesNoLater, IsHop, IsToBare}

-- what was found doesn't come after the flush of this hop
abbrev pub IsNotAfter : Option Hop → Hop → Type 0
IsNotAfter None g = ⊥
IsNotAfter (Some h) g = ComesNoLater h.flush g.flush

-- of the hops of items below n that lead to a bare lane the one whose flush comes first, if there is one
pub record IsFirstBelow (w : Wiring) (n : ℕ) (found : Option Hop) : Type 0 where
  pub some : IfSome found (IsToBare w)
  pub first : (g : Hop) → IsHop w g → (¬ HasRescuer w (lane_of w g.flush.item)) → g.item < n → IsNotAfter found g

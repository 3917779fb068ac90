-- Searching: what is found in parts of a declaration, of a circle or of a run.
use Rattle.std.specs.Prelude.{◌≡◌, ◌↔◌, ℕ, ◌<◌, nat_lt, if◌then◌else◌, Bool, IsTrue, List, Option, Some, None}
use Rattle.std.specs.Prelude.{Contains}
use Rattle.wq_items.specs.declared.target.Target.{Target}
use Rattle.wq_groups.specs.Declaration.{Declaration}
use Rattle.wq_core.specs.declared.step.Step.{Step}
use Rattle.wq_core.specs.Wiring.{Wiring}
use Rattle.wq_core.specs.State.{State, HasUnfinishedOf, empty_state}
use Rattle.wq_core.specs.Runs.{IsRun, end_of, AsDeclaredFrom}
use Rattle.wq_core.specs.Held.{Machine}
use Rattle.wq_checker.specs.declared.falling.DeclaredFlush.{DeclaredFlush}
use Rattle.wq_checker.specs.Falling.{Declares}

-- of the flushes that `Of` has and that don't fall, this is the first by place. `Fall i j` says that one of item j by
-- item i falls
pub record IsFirstOf (Fall : ℕ → ℕ → Type 0) (Of : ℕ → Target → Type 0) (flush : DeclaredFlush) : Type 0 where
  pub there : Of flush.item flush.target
  pub stays : ¬ Fall flush.item flush.target.item
  pub first : (k : ℕ) (other : Target) → Of k other → other.place < flush.target.place → Fall k other.item

-- the first flush that doesn't fall is found, if there is one; otherwise each falls
abbrev pub FindsFirst : (ℕ → ℕ → Type 0) → (ℕ → Target → Type 0) → Option DeclaredFlush → Type 0
FindsFirst Fall Of None = (k : ℕ) (target : Target) → Of k target → Fall k target.item
FindsFirst Fall Of (Some flush) = IsFirstOf Fall Of flush

-- the flushes of item i
abbrev pub OfItem : Declaration → ℕ → ℕ → Target → Type 0
OfItem d i k target = (k ≡ i) × Declares d k target

-- the flushes of the items below n
abbrev pub OfItemsBelow : Declaration → ℕ → ℕ → Target → Type 0
OfItemsBelow d n k target = (k < n) × Declares d k target

-- the flush at the lower place, if there are two
abbrev pub earlier : Option DeclaredFlush → Option DeclaredFlush → Option DeclaredFlush
earlier None other = other
earlier (Some one) None = Some one
earlier (Some one) (Some other) = if nat_lt other.target.place one.target.place then Some other else Some one

-- the steps are a run, which ends in this machine; `in_order` says whether what ran flushed as declared
pub record IsPlayed (w : Wiring) (steps : List Step) (in_order : Bool) (m : Machine) : Type 0 where
  pub run : IsRun w steps
  pub wiring : m.wiring ≡ w
  pub state : m.state ≡ end_of w steps
  pub declared : IsTrue in_order ↔ AsDeclaredFrom w (empty_state w) steps

-- an entry of one of these items is unfinished
abbrev pub HasOneLeft : State → List ℕ → Type 0
HasOneLeft s named = (i : ℕ) × Contains named i × HasUnfinishedOf s i

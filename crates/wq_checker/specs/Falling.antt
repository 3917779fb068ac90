-- Flushes that fall: from an item to a target on a workqueue with a lower number.
use Rattle.std.specs.Prelude.{◌≡◌, ℕ, ◌<◌, Contains}
use Rattle.wq_items.specs.declared.target.Target.{Target}
use Rattle.wq_items.specs.Table.{ItemWaits, targets_of}
use Rattle.wq_groups.specs.Declaration.{Declaration}
use Rattle.wq_groups.specs.Assignment.{Assignment, item_lane}

-- the workqueue of item i has a higher number than that of item j
abbrev pub Falls : Declaration → Assignment → ℕ → ℕ → Type 0
Falls d a i j = item_lane a d.group_of j < item_lane a d.group_of i

-- each declared flush falls
abbrev pub AllFall : Declaration → Assignment → Type 0
AllFall d a = (i j : ℕ) → ItemWaits d.waits i j → Falls d a i j

-- item i declares this flush
abbrev pub Declares : Declaration → ℕ → Target → Type 0
Declares d i target = Contains (targets_of d.waits i) target

-- of the declared flushes that don't fall, the one at the lowest place is by item i, and its target is item j
pub record IsFirstNotFalling (d : Declaration) (a : Assignment) (i j : ℕ) : Type 0 where
  pub target : Target
  pub declares : Declares d i target
  pub of_target : target.item ≡ j
  pub stays : ¬ Falls d a i j
  pub first : (k : ℕ) (other : Target) → Declares d k other → other.place < target.place → Falls d a k other.item

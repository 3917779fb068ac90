-- What an answer about workqueues promises, in terms of what the two texts say. The answer is `safe`, or a run by which
-- they hang. With unsure flushes it is a promise about all readings.
use Rattle.std.specs.Prelude.{◌≡◌, ℕ, ◌<◌, ◌≤◌, List, [], length, Option, Some, Result, Ok, unwrap_or}
use Rattle.wq_groups.specs.Declaration.{Declaration}
use Rattle.wq_groups.specs.Partition.{Partition}
use Rattle.wq_core.specs.declared.step.Step.{Step}
use Rattle.wq_core.specs.Deadlock.{DeadlocksBy, IsSafe}
use Rattle.wq_core.specs.MustGoOn.{IsSafeFor}
use Rattle.wq_core.specs.Readings.{IsSafeAnyway, reading}
use Rattle.wq_core.specs.Wiring.{Wiring}
use Rattle.wq_core.specs.Workqueues.{Workqueues, wiring_of}
use Rattle.wq_hang.specs.Shortest.{IsFewest}
use Rattle.wq_hang.specs.ShortestFor.{IsFewestFor}
use Rattle.wq_cert.specs.Part.{made_of}
use Rattle.wq_cert.specs.Texts.{workqueues_of_text}
use Rattle.wq_commands.specs.declared.end.End.{End}
use Rattle.wq_commands.specs.declared.end.End.TheVariants.{Bad, Good}
use Rattle.wq_commands.specs.DeclaredIn.{Named, declared_in}
use Rattle.wq_commands.specs.Named.{items_with_names}

-- the groups of what is declared
abbrev pub groups_in : Declaration → Partition
groups_in d = record { group_of = d.group_of; groups = d.groups }

-- what the two texts say: what is declared, and on which workqueues it is
pub record SayBoth (declared lanes : List ℕ) (s : Named) (ws : Workqueues) : Type 0 where
  pub declares : declared_in declared ≡ Some s
  pub assigns : workqueues_of_text s.names (groups_in s.declared) lanes ≡ Ok ws

-- no run ends stuck, whatever the unsure flushes turn out to be
abbrev pub AreSafeAnyway : List ℕ → List ℕ → Type 0
AreSafeAnyway declared lanes =
    (s : Named) × (ws : Workqueues) × SayBoth declared lanes s ws × IsSafeAnyway (wiring_of s.declared ws)

-- the text has these steps, and says that these unsure flushes are kept; none, if the text has no unsure part
abbrev pub IsRunText : Named → List ℕ → List ℕ → List Step → Type 0
IsRunText s out kept steps =
    (part : Option (List ℕ)) × (made_of s.names s.declared.waits out ≡ Ok (part, steps)) × (kept ≡ unwrap_or part [])

-- `Holds` of the run in the text, in the reading that keeps the unsure flushes in the text; and no reading that keeps
-- fewer of them hangs
pub record PrintsFewest (Holds : Wiring → List ℕ → List Step → Type 0) (declared lanes out : List ℕ) : Type 0 where
  pub s : Named
  pub ws : Workqueues
  pub says : SayBoth declared lanes s ws
  pub kept : List ℕ
  pub steps : List Step
  pub text : IsRunText s out kept steps
  pub holds : Holds (wiring_of s.declared ws) kept steps
  pub fewest : (others : List ℕ) → length others < length kept → IsSafe (reading (wiring_of s.declared ws) others)

-- what `hang` promises: `safe` is printed if they are safe anyway; else a shortest run that ends stuck
pub record KeepsHang (declared lanes : List ℕ) (end : End) (out : List ℕ) : Type 0 where
  pub safe : end ≡ Good → AreSafeAnyway declared lanes
  pub hang : end ≡ Bad → PrintsFewest IsFewest declared lanes out

-- each of these names is that of an item, and these are the items
abbrev pub AreNamed : Named → List (List ℕ) → List ℕ → Type 0
AreNamed s names named = items_with_names s.names names ≡ Some named

-- no run ends stuck for the items with these names, whatever the unsure flushes turn out to be
abbrev pub GoOnAnyway : List (List ℕ) → List ℕ → List ℕ → Type 0
GoOnAnyway names declared lanes =
    (s : Named) × (ws : Workqueues) × (named : List ℕ) × SayBoth declared lanes s ws × AreNamed s names named
    × ((kept : List ℕ) → IsSafeFor (reading (wiring_of s.declared ws) kept) named)

-- the text has a shortest run that ends stuck for the items with these names, of the reading that keeps the unsure
-- flushes that it says
pub record PrintsFewestFor (names : List (List ℕ)) (declared lanes out : List ℕ) : Type 0 where
  pub s : Named
  pub ws : Workqueues
  pub says : SayBoth declared lanes s ws
  pub named : List ℕ
  pub are : AreNamed s names named
  pub kept : List ℕ
  pub steps : List Step
  pub text : IsRunText s out kept steps
  pub fewest : IsFewestFor (wiring_of s.declared ws) named kept steps

-- what `hang` promises where the items with these names must go on: `safe` is printed if none of them can be held up;
-- else a shortest run by which one is
pub record KeepsHold (names : List (List ℕ)) (declared lanes : List ℕ) (end : End) (out : List ℕ) : Type 0 where
  pub safe : end ≡ Good → GoOnAnyway names declared lanes
  pub held : end ≡ Bad → PrintsFewestFor names declared lanes out

-- what `deadlock` promises: `safe` is printed if they are safe anyway; else a run that deadlocks
pub record KeepsVerdict (declared lanes : List ℕ) (end : End) (out : List ℕ) : Type 0 where
  pub safe : end ≡ Good → AreSafeAnyway declared lanes
  pub deadlocks : end ≡ Bad
      → PrintsFewest (λ w kept steps. DeadlocksBy (reading w kept) steps) declared lanes out

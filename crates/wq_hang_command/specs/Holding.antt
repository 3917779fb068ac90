-- The answer to a declaration, an assignment and the names of items that must go on: that none of them can be held up,
-- or else a shortest run by which one is; and what is found for it.
use Rattle.std.specs.Prelude.{◌≡◌, ℕ, List, MatchResult, Option, Some}
use Rattle.wq_groups.specs.Assignment.{IsAssignment}
use Rattle.wq_core.specs.declared.step.Step.{Step}
use Rattle.wq_core.specs.Workqueues.{Workqueues, wiring_of}
use Rattle.wq_core.specs.MustGoOn.{IsSafeFor}
use Rattle.wq_hang.specs.declared.answer.Held.{Held}
use Rattle.wq_hang.specs.declared.answer.Held.TheVariants as held
use Rattle.wq_hang.specs.declared.hop.Hop.{Hop}
use Rattle.wq_hang.specs.AnswerFor.{IsAnswerFor, IsHeldBy}
use Rattle.wq_hang.specs.Walk.{needs}
use Rattle.wq_cert.specs.Part.{reading_text}
use Rattle.wq_cert.specs.Texts.{workqueues_of_text, cert_refusal}
use Rattle.wq_commands.specs.declared.end.End.{End}
use Rattle.wq_commands.specs.declared.end.End.TheVariants.{Good, Bad, Refused}
use Rattle.wq_commands.specs.declared.found.Found.{Found}
use Rattle.wq_commands.specs.declared.found.Found.TheVariants.{Read}
use Rattle.wq_commands.specs.declared.found.Which.TheVariants.{Certificate as SecondText}
use Rattle.wq_groups.specs.DeclaredGroups.{declared_waits, Declared}
use Rattle.wq_commands.specs.Answer.{PrintsRefusal}
use Rattle.wq_commands.specs.Deadlocking.{safe_text}
use Rattle.wq_commands.specs.Declaration.{declaration}
use Rattle.wq_commands.specs.Found.{AnswersIn}
use Rattle.wq_commands.specs.Named.{items_with_names, FindsNamed, IfNamed}
use Rattle.wq_hang_command.specs.declared.holding.Holding.{Holding}

-- the steps are printed of a shortest run of these workqueues that ends stuck for these items: of the reading that
-- keeps the fewest unsure flushes, which are printed, too, if the declaration has any. It is the run of a walk that
-- holds one of them up
pub record PrintsHold (s : Declared) (ws : Workqueues) (named : List ℕ) (out : List ℕ) : Type 0 where
  pub item : ℕ
  pub steps : List Step
  pub hops : List Hop
  pub held : IsHeldBy (declared_waits s) ws named item hops steps
  pub text : out ≡ reading_text s.table.names s.table.waits (needs hops) steps

-- the answer to workqueues of a declaration's groups where these items must go on: `safe` if no run ends stuck for
-- them, whatever the unsure flushes turn out to be, else a shortest run that does
abbrev pub HoldsAssigned : Declared → Workqueues → List ℕ → End → List ℕ → Type 0
HoldsAssigned s ws named Good out =
    IsAssignment s.partition.groups ws.assignment × IsSafeFor (wiring_of (declared_waits s) ws) named
    × (out ≡ safe_text)
HoldsAssigned s ws named Bad out = PrintsHold s ws named out
HoldsAssigned s ws named Refused out = ⊥

-- the answer to the text of an assignment of a declaration, or its refusal, where the items with these names must go on
abbrev pub HoldsDeclared : Declared → List (List ℕ) → List ℕ → End → List ℕ → Type 0
HoldsDeclared s names text end out =
    MatchResult (workqueues_of_text s.table.names s.partition text)
    (λ ws. IfNamed (items_with_names s.table.names names) (HoldsAssigned s ws) end out)
    (λ fault. PrintsRefusal (cert_refusal fault) end out)

-- the answer to the texts of a declaration and an assignment: a refusal of the declaration comes first
abbrev pub Holds : List (List ℕ) → List ℕ → List ℕ → End → List ℕ → Type 0
Holds names declared text end out =
    MatchResult (declaration declared) (λ s. HoldsDeclared s names text end out) (λ r. PrintsRefusal r end out)

-- ---- what is found, and printed

-- what is printed of this answer: `safe`, or the unsure flushes that it needs, if a flush is unsure, and the steps of
-- its run
abbrev pub PrintsHeld : {A : Type 0} → Declared → Held A → End → List ℕ → Type 0
PrintsHeld s held.Safe end out = (end ≡ Good) × (out ≡ safe_text)
PrintsHeld s (held.HeldUp item hops steps) end out =
    (end ≡ Bad) × (out ≡ reading_text s.table.names s.table.waits (needs hops.items) steps.items)

-- these workqueues are found, and how one of these items is held up soonest: the waits of a walk, and its run; and this
-- run is printed
pub record FindsHold {A : Type 0} (s : Declared) (ws : Workqueues) (named : List ℕ) (found : Found (Option (Holding A)))
    (end : End) (out : List ℕ) : Type 0 where
  pub holding : Holding A
  pub is : found ≡ Read (Some holding)
  pub workqueues : holding.workqueues ≡ ws
  pub named_items : holding.named.items ≡ named
  pub answer : IsAnswerFor (declared_waits s) ws named holding.answer
  pub printed : PrintsHeld s holding.answer end out

-- `hang` with names: how the items with these names are held up soonest on the workqueues with this text
abbrev pub HoldsText : {A : Type 0} → Declared → List (List ℕ) → List ℕ → Found (Option (Holding A)) → End → List ℕ
    → Type 0
HoldsText s names text = AnswersIn SecondText (workqueues_of_text s.table.names s.partition text)
    (λ ws. FindsNamed (items_with_names s.table.names names) (FindsHold s ws))

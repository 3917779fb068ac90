-- The answer to a declaration and an assignment: the flushes that are on a circle.
use Rattle.std.specs.Prelude.{◌≡◌, ◌≢◌, ◌⊎◌, Bool, false, true, ℕ, List, [], map, MatchResult}
use Rattle.wq_items.specs.Table.{Table}
use Rattle.wq_graph.specs.declared.arc.WaitArc.{WaitArc}
use Rattle.wq_core.specs.Wiring.{own_lanes}
use Rattle.wq_core.specs.Workqueues.{Workqueues, all_rescued}
use Rattle.wq_deadlock.specs.Judging.{bare_waits}
use Rattle.wq_cert.specs.Texts.{workqueues_of_text, cert_refusal}
use Rattle.wq_meter.specs.Shell.{Given}
use Rattle.wq_commands.specs.declared.end.End.{End}
use Rattle.wq_commands.specs.declared.end.End.TheVariants.{Good, Bad, Refused}
use Rattle.wq_commands.specs.declared.found.Found.{Found}
use Rattle.wq_commands.specs.declared.found.Found.TheVariants.{Read}
use Rattle.wq_commands.specs.declared.found.Which.TheVariants.{Certificate as SecondText}
use Rattle.wq_groups.specs.DeclaredGroups.{declared_waits, Declared}
use Rattle.wq_commands.specs.Answer.{PrintsRefusal}
use Rattle.wq_commands.specs.Deadlocking.{safe_text}
use Rattle.wq_commands.specs.Declaration.{declaration}
use Rattle.wq_commands.specs.Found.{AnswersIn}
use Rattle.wq_circles.specs.declared.circling.Circling.{Circling}
use Rattle.wq_circles.specs.Components.{AreComponents}
use Rattle.wq_circles.specs.ComponentsText.{circles_text}

-- these are the components of these workqueues; there is a component, or some flush leads from a workqueue that has a
-- rescuer to one that has none; and the components and all such flushes are printed
pub record PrintsComponents (s : Declared) (ws : Workqueues) (out : List ℕ) : Type 0 where
  pub components : List (List WaitArc)
  pub some : (components ≢ []) ⊎ (bare_waits (declared_waits s) ws ≢ [])
  pub are : AreComponents (declared_waits s) ws components
  pub text : out ≡ circles_text s.table.names s.table.waits components (bare_waits (declared_waits s) ws)

-- the components of workqueues of a declaration's groups are printed, and the flushes that lead from one that has a
-- rescuer to one that has none; or `safe` if there are none of either
abbrev pub CirclesAssigned : Declared → Workqueues → End → List ℕ → Type 0
CirclesAssigned s ws Good out =
    AreComponents (declared_waits s) ws [] × (bare_waits (declared_waits s) ws ≡ []) × (out ≡ safe_text)
CirclesAssigned s ws Bad out = PrintsComponents s ws out
CirclesAssigned s ws Refused out = ⊥

-- the answer to the text of an assignment of a declaration, or its refusal
abbrev pub CirclesDeclared : Declared → List ℕ → End → List ℕ → Type 0
CirclesDeclared s text end out =
    MatchResult (workqueues_of_text s.table.names s.partition text)
    (λ ws. CirclesAssigned s ws end out)
    (λ fault. PrintsRefusal (cert_refusal fault) end out)

-- the answer to the texts of a declaration and an assignment: a refusal of the declaration comes first
abbrev pub Circles : List ℕ → List ℕ → End → List ℕ → Type 0
Circles declared text end out =
    MatchResult (declaration declared) (λ s. CirclesDeclared s text end out) (λ r. PrintsRefusal r end out)

-- the answer to the text of a declaration alone: each group has its own workqueue, with the group's number
abbrev pub OwnCircles : List ℕ → End → List ℕ → Type 0
OwnCircles declared end out =
    MatchResult (declaration declared)
    (λ s. CirclesAssigned s (all_rescued (own_lanes s.partition.groups)) end out)
    (λ r. PrintsRefusal r end out)

-- ---- what is found, and printed

-- what is printed for these components and these flushes to workqueues without a rescuer: `safe` if there is neither a
-- component nor such a flush
abbrev pub PrintsCircling : Table → List (List WaitArc) → List WaitArc → End → List ℕ → Type 0
PrintsCircling t components waits Good out = (components ≡ []) × (waits ≡ []) × (out ≡ safe_text)
PrintsCircling t components waits Bad out =
    ((components ≢ []) ⊎ (waits ≢ [])) × (out ≡ circles_text t.names t.waits components waits)
PrintsCircling t components waits Refused out = ⊥

-- these workqueues are found, with their components and the flushes that lead from one that has a rescuer to one that
-- has none; and the answer is printed from these
pub record FindsCircles {A : Type 0} (s : Declared) (ws : Workqueues) (found : Found (Circling A)) (end : End)
    (out : List ℕ) : Type 0 where
  pub circling : Circling A
  pub is : found ≡ Read circling
  pub workqueues : circling.workqueues ≡ ws
  pub components : AreComponents (declared_waits s) ws (map (λ l. l.items) circling.components.items)
  pub waits : circling.waits.items ≡ bare_waits (declared_waits s) ws
  pub printed : PrintsCircling s.table (map (λ l. l.items) circling.components.items) circling.waits.items end out

-- the workqueues with this text
abbrev pub CirclesText : {A : Type 0} → Declared → List ℕ → Found (Circling A) → End → List ℕ → Type 0
CirclesText s text =
    AnswersIn SecondText (workqueues_of_text s.table.names s.partition text) (λ ws. FindsCircles s ws)

-- ---- the command, with an assignment or without one

-- what the command finds in what is declared and in the texts, and its answer: without an assignment, each group has
-- its own workqueue, with the group's number
abbrev pub CirclesTexts : {A : Type 0} → Bool → Declared → Given → Found (Circling A) → End → List ℕ → Type 0
CirclesTexts true s texts = CirclesText s texts.second
CirclesTexts false s texts = FindsCircles s (all_rescued (own_lanes s.partition.groups))

-- the answer of the command to the texts
abbrev pub AnswersCircles : Bool → Given → End → List ℕ → Type 0
AnswersCircles true texts end out = Circles texts.first texts.second end out
AnswersCircles false texts end out = OwnCircles texts.first end out

-- The answer to a declaration and workqueues that stay as they are.
use Rattle.std.specs.Prelude.{◌≡◌, ◌⊎◌, ◌<◌, ℕ, List, Some, map, MatchResult}
use Rattle.wq_groups.specs.Assignment.{item_lanes}
use Rattle.wq_groups.specs.DeclaredGroups.{declared_waits, Declared}
use Rattle.wq_graph.specs.declared.arc.WaitArc.{WaitArc}
use Rattle.wq_core.specs.declared.step.Step.{Step}
use Rattle.wq_core.specs.Workqueues.{Workqueues}
use Rattle.wq_deadlock.specs.Judging.{IsHang}
use Rattle.wq_fixed.specs.Fixed.{Fixed, IsFixed, fixed_lanes, start}
use Rattle.wq_cert.specs.AroundText.{around_text, norescuer_text}
use Rattle.wq_cert.specs.CircleText.{circle_text}
use Rattle.wq_cert.specs.FixedReading.{fixed_of_text}
use Rattle.wq_cert.specs.Texts.{cert_refusal}
use Rattle.wq_around.specs.declared.answer.Around.{Around}
use Rattle.wq_around.specs.declared.answer.Around.TheVariants as around
use Rattle.wq_around.specs.Around.{IsCircledAround, IsHeldByNone, IsPlannedAround, PlansAround}
use Rattle.wq_commands.specs.declared.end.End.{End}
use Rattle.wq_commands.specs.declared.end.End.TheVariants.{Good, Bad, Refused}
use Rattle.wq_commands.specs.declared.found.Found.{Found}
use Rattle.wq_commands.specs.declared.found.Found.TheVariants.{Read}
use Rattle.wq_commands.specs.declared.found.Which.TheVariants.{Certificate as SecondText}
use Rattle.wq_commands.specs.Answer.{AnswersDeclared, PrintsRefusal, ends_of}
use Rattle.wq_commands.specs.Declaration.{declaration}
use Rattle.wq_commands.specs.Found.{AnswersIn}
use Rattle.wq_around_command.specs.declared.planning.Planned.{Planned}
use Rattle.wq_around_command.specs.declared.planning.Planned.TheVariants as planned

-- what is printed of this answer: the text of the plan; or of the circle or the flush to no rescuer, with the
-- deadlocking run of the start
abbrev pub PrintsAround : {A : Type 0} → Declared → Fixed → Around A → End → List ℕ → Type 0
PrintsAround s f (around.Plan ws order chain) end out =
    (end ≡ Good)
    × (out ≡ around_text s.table.names (fixed_lanes f) ws.assignment.lanes
    (item_lanes ws.assignment s.partition.group_of) order.items (map ends_of chain.items))
PrintsAround s f (around.Circle arcs) end out =
    (end ≡ Bad)
    × (steps : List Step) × IsHang (declared_waits s) (start f) steps
    × (out ≡ circle_text s.table.names (map ends_of arcs.items) (Some steps))
PrintsAround s f (around.NoRescuer arc) end out =
    (end ≡ Bad)
    × (steps : List Step) × IsHang (declared_waits s) (start f) steps
    × (out ≡ norescuer_text s.table.names (ends_of arc) steps)

-- the start of these fixed workqueues is found, and the plan around them, or what is in the way of each; and this is
-- printed
pub record FindsAround {A : Type 0} (s : Declared) (f : Fixed) (found : Found (Planned A)) (end : End) (out : List ℕ)
    : Type 0 where
  pub answer : Around A
  pub is : found ≡ Read (planned.Around (start f) answer)
  pub fixed : IsFixed s.partition.groups f
  pub plans : PlansAround (declared_waits s) f answer
  pub printed : PrintsAround s f answer end out

-- the same, or where there is no fixed workqueue the plan
abbrev pub FindsPlanned : {A : Type 0} → Declared → Fixed → Found (Planned A) → End → List ℕ → Type 0
FindsPlanned {A} s f found end out =
    ((fixed_lanes f ≡ 0) × (found ≡ Read (planned.Plain end)) × AnswersDeclared s end out)
    ⊎ ((0 < fixed_lanes f) × FindsAround {A = A} s f found end out)

-- `plan` around the fixed workqueues with this text
abbrev pub PlansText : {A : Type 0} → Declared → List ℕ → Found (Planned A) → End → List ℕ → Type 0
PlansText s text = AnswersIn SecondText (fixed_of_text s.table.names s.partition text) (λ f. FindsPlanned s f)

-- ---- the answer alone

-- the text of a plan around these workqueues is printed
pub record PrintsPlanAround (s : Declared) (f : Fixed) (out : List ℕ) : Type 0 where
  pub workqueues : Workqueues
  pub order : List ℕ
  pub chain : List WaitArc
  pub planned : IsPlannedAround (declared_waits s) f workqueues order chain
  pub text : out
      ≡ around_text s.table.names (fixed_lanes f) workqueues.assignment.lanes
      (item_lanes workqueues.assignment s.partition.group_of) order (map ends_of chain)

-- the text of the circle in which workqueues of the start wait is printed, with the deadlocking run of the start
pub record PrintsCircleAround (s : Declared) (f : Fixed) (out : List ℕ) : Type 0 where
  pub circle : List WaitArc
  pub circled : IsCircledAround (declared_waits s) f circle
  pub steps : List Step
  pub hang : IsHang (declared_waits s) (start f) steps
  pub text : out ≡ circle_text s.table.names (map ends_of circle) (Some steps)

-- the text of the first flush of the start to no rescuer is printed, with the deadlocking run of the start
pub record PrintsNoRescuer (s : Declared) (f : Fixed) (out : List ℕ) : Type 0 where
  pub arc : WaitArc
  pub held : IsHeldByNone (declared_waits s) f arc
  pub steps : List Step
  pub hang : IsHang (declared_waits s) (start f) steps
  pub text : out ≡ norescuer_text s.table.names (ends_of arc) steps

-- the answer to fixed workqueues, of which there is one at least: a plan around them, or what is in the way of each
abbrev pub PrintsFixed : Declared → Fixed → End → List ℕ → Type 0
PrintsFixed s f Good out = PrintsPlanAround s f out
PrintsFixed s f Bad out = PrintsCircleAround s f out ⊎ PrintsNoRescuer s f out
PrintsFixed s f Refused out = ⊥

-- the answer to fixed workqueues; where there is none, the answer to what is declared
abbrev pub AnswersFixed : Declared → Fixed → End → List ℕ → Type 0
AnswersFixed s f end out =
    ((fixed_lanes f ≡ 0) × AnswersDeclared s end out) ⊎ ((0 < fixed_lanes f) × PrintsFixed s f end out)

-- the answer to the text of fixed workqueues of a declaration, or its refusal
abbrev pub PlansDeclared : Declared → List ℕ → End → List ℕ → Type 0
PlansDeclared s text end out =
    MatchResult (fixed_of_text s.table.names s.partition text)
    (λ f. AnswersFixed s f end out)
    (λ fault. PrintsRefusal (cert_refusal fault) end out)

-- the answer to the texts of a declaration and of fixed workqueues: a refusal of the declaration comes first
abbrev pub Plans : List ℕ → List ℕ → End → List ℕ → Type 0
Plans declared text end out =
    MatchResult (declaration declared) (λ s. PlansDeclared s text end out) (λ r. PrintsRefusal r end out)

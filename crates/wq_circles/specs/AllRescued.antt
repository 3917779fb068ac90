-- The answer of `circles` if each workqueue has a rescuer: it speaks of an assignment alone.
use Rattle.std.specs.Prelude.{◌≡◌, ◌≢◌, ℕ, List, [], MatchResult}
use Rattle.wq_groups.specs.Assignment.{Assignment}
use Rattle.wq_graph.specs.declared.arc.WaitArc.{WaitArc}
use Rattle.wq_core.specs.Workqueues.{all_rescued}
use Rattle.wq_cert.specs.Texts.{assignment_of_text, cert_refusal}
use Rattle.wq_commands.specs.declared.end.End.{End}
use Rattle.wq_commands.specs.declared.end.End.TheVariants.{Good, Bad, Refused}
use Rattle.wq_groups.specs.DeclaredGroups.{declared_waits, Declared}
use Rattle.wq_commands.specs.Answer.{PrintsRefusal}
use Rattle.wq_commands.specs.Deadlocking.{safe_text}
use Rattle.wq_commands.specs.Declaration.{declaration}
use Rattle.wq_circles.specs.Components.{AreComponents}
use Rattle.wq_circles.specs.ComponentsText.{components_text}

-- these are the components of an assignment of a declaration's groups. There is one, and they are printed
pub record PrintsCircles (s : Declared) (a : Assignment) (out : List ℕ) : Type 0 where
  pub components : List (List WaitArc)
  pub some : components ≢ []
  pub are : AreComponents (declared_waits s) (all_rescued a) components
  pub text : out ≡ components_text s.table.names s.table.waits components

-- the components of an assignment of a declaration's groups are printed, or `safe` if there is none
abbrev pub CirclesAssignment : Declared → Assignment → End → List ℕ → Type 0
CirclesAssignment s a Good out = AreComponents (declared_waits s) (all_rescued a) [] × (out ≡ safe_text)
CirclesAssignment s a Bad out = PrintsCircles s a out
CirclesAssignment s a Refused out = ⊥

-- the answer to the texts of a declaration and an assignment, or the refusal of the first one that is refused
abbrev pub CirclesAllRescued : List ℕ → List ℕ → End → List ℕ → Type 0
CirclesAllRescued declared text end out =
    MatchResult (declaration declared)
    (λ s. MatchResult (assignment_of_text s.table.names s.partition text)
    (λ a. CirclesAssignment s a end out)
    (λ fault. PrintsRefusal (cert_refusal fault) end out))
    (λ r. PrintsRefusal r end out)

-- What the printed bytes show besides what is promised of them: they are spelled as a certificate is, the flushes of a
-- plan fall, and the run after a circle deadlocks.
use Rattle.std.specs.Prelude.{◌≡◌, ℕ, List, Some, MatchResult}
use Rattle.wq_core.specs.declared.step.Step.{Step}
use Rattle.wq_core.specs.Wiring.{wiring, own_lanes}
use Rattle.wq_core.specs.Deadlock.{DeadlocksBy}
use Rattle.wq_cert.specs.Certificate.{PlanCertificate, CircleCertificate}
use Rattle.wq_cert.specs.CircleText.{circle_text}
use Rattle.wq_cert.specs.Spelled.{SpellsPlan, SpellsCircle, KeepsLimits, words_of_text}
use Rattle.wq_checker.specs.Chains.{IsChainAlong, IsCircleAlong}
use Rattle.wq_checker.specs.Falling.{AllFall}
use Rattle.wq_commands.specs.declared.end.End.{End}
use Rattle.wq_commands.specs.declared.end.End.TheVariants.{Good, Bad, Refused}
use Rattle.wq_groups.specs.DeclaredGroups.{declared_waits, Declared}
use Rattle.wq_commands.specs.Declaration.{declaration}
use Rattle.wq_commands.specs.Promise.{KeepsPlan, KeepsCircle}

-- the bytes keep what is promised of a plan. They spell its assignment, its arcs, and as many groups as it has
-- workqueues, within the limits of a certificate; each flush falls to a workqueue with a lower number; and each group
-- of the chain waits for the next
pub record ShowsPlan (s : Declared) (out : List ℕ) : Type 0 where
  pub kept : KeepsPlan s.table.names (declared_waits s) out
  pub plan : PlanCertificate
  pub is_plan : plan ≡ record { assignment = kept.assignment; length = kept.assignment.lanes; arcs = kept.arcs }
  pub limits : KeepsLimits out
  pub spelled : SpellsPlan s.table.names s.partition (words_of_text out) plan
  pub falls : AllFall (declared_waits s) plan.assignment
  pub is_chain : IsChainAlong (declared_waits s) plan.arcs kept.groups

-- the bytes keep what is promised of a circle. They are the text of its arcs with a run after them, and spell both,
-- within the limits of a certificate; the groups along the arcs wait for each other in a circle; and the run deadlocks
-- if each group has its own workqueue
pub record ShowsCircle (s : Declared) (out : List ℕ) : Type 0 where
  pub kept : KeepsCircle s.table.names (declared_waits s) out
  pub steps : List Step
  pub text : out ≡ circle_text s.table.names kept.arcs (Some steps)
  pub circle : CircleCertificate
  pub is_circle : circle ≡ record { arcs = kept.arcs; steps = Some steps }
  pub limits : KeepsLimits out
  pub spelled : SpellsCircle s.table.names (words_of_text out) circle
  pub goes_round : IsCircleAlong (declared_waits s) circle.arcs
  pub run_deadlocks : DeadlocksBy (wiring (declared_waits s) (own_lanes s.partition.groups)) steps

-- what the bytes that answer a declaration show, by how the program ends
abbrev pub ShowsDeclared : Declared → End → List ℕ → Type 0
ShowsDeclared s Good out = ShowsPlan s out
ShowsDeclared s Bad out = ShowsCircle s out
ShowsDeclared s Refused out = ⊥

-- what the bytes that answer a text show; if the text is no declaration, that it is refused
abbrev pub ShowsAnswer : List ℕ → End → List ℕ → Type 0
ShowsAnswer text end out = MatchResult (declaration text) (λ s. ShowsDeclared s end out) (λ r. end ≡ Refused)

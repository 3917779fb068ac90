-- Workqueues, of which some may have no rescuer: they are safe or deadlock, and the run that is printed is short.
use Rattle.std.proofs.Common.{◌≡◌, ℕ, ◌≤◌, ◌⊎◌, ◌↔◌, inl, inr, List, [], ◌∷◌, length, Result, Ok, Err, refl, sym, subst, arith}
use Rattle.std.specs.Prelude.{MatchResult}
use Rattle.wq_text.specs.Refusal.{Refusal}
use Rattle.wq_groups.specs.Declaration.{Declaration, IsDeclaration}
use Rattle.wq_groups.specs.Assignment.{IsAssignment}
use Rattle.wq_graph.specs.declared.arc.WaitArc.{WaitArc}
use Rattle.wq_graph.specs.Graph.{lane_graph}
use Rattle.wq_graph.proofs.Graphs.{IsGraph-lane_graph}
use Rattle.wq_graph.proofs.LeavingOut.{IsGraph-without}
use Rattle.wq_levels.proofs.Existence.{AreRanks-or_walk}
use Rattle.wq_core.specs.declared.step.Step.{Step}
use Rattle.wq_core.specs.Workqueues.{Workqueues, wiring_of}
use Rattle.wq_core.specs.Deadlock.{IsSafe, DeadlocksBy, Deadlocks}
use Rattle.wq_core.proofs.KnotRuns.{Deadlocks-knot}
use Rattle.wq_deadlock.specs.CircleRun.{flushing_items}
use Rattle.wq_deadlock.specs.Judging.{bare_waits, rescued_graph, AreFirst}
use Rattle.wq_deadlock.proofs.BareLanes.{IsWiring-workqueues, IsKnot-first, AreSafe-ranks}
use Rattle.wq_deadlock.proofs.Renumbered.{not_safe-deadlocks}
use Rattle.wq_deadlock.proofs.RunLengths.{length-once}
use Rattle.wq_cert.specs.declared.fault.CertError.{CertError}
use Rattle.wq_cert.specs.Ranges.{AreWorkqueuesOf}
use Rattle.wq_cert.specs.Spelled.{KeepsLimits}
use Rattle.wq_cert.specs.Texts.{workqueues_of_text, cert_refusal}
use Rattle.wq_cert.proofs.LanesRead.{AreWorkqueuesOf-workqueues_of_text}
use Rattle.wq_commands.specs.declared.end.End.TheVariants.{Bad, Refused}
use Rattle.wq_groups.specs.DeclaredGroups.{Declared}
use Rattle.wq_commands.specs.Answer.{PrintsRefusal}
use Rattle.wq_commands.specs.Deadlocking.{JudgesAssigned, JudgesDeclared, Judges}
use Rattle.wq_commands.specs.Declaration.{declaration}
use Rattle.wq_commands.proofs.AnswerLemmas.{IsSound, IsSound-declaration}
use Rattle.wq_commands.proofs.JudgeLemmas.{KeepsLimits-judged}

-- ---- safe or deadlocking

module _ (d : Declaration) (ws : Workqueues) (declaration : IsDeclaration d) (assignment : IsAssignment d.groups ws.assignment) where
  Deadlocks-first : (waits : List WaitArc) → waits ≡ bare_waits d ws → (first : List ℕ) → AreFirst d ws waits first → Deadlocks (wiring_of d ws)
  Deadlocks-first waits is first are = Deadlocks-knot (wiring_of d ws) first (IsWiring-workqueues d ws declaration assignment) (IsKnot-first d ws declaration assignment waits is first are)

  module _ (few : ws.assignment.lanes ≤ 4096) where
    pub AreSafe-or_deadlock : IsSafe (wiring_of d ws) ⊎ Deadlocks (wiring_of d ws)
    AreSafe-or_deadlock = by_waits (bare_waits d ws) refl
      where
        by_waits : (waits : List WaitArc) → waits ≡ bare_waits d ws → IsSafe (wiring_of d ws) ⊎ Deadlocks (wiring_of d ws)
        by_waits (x ∷ more) is = inr (Deadlocks-first (x ∷ more) is (x.src ∷ []) refl)
        by_waits [] is = elim (AreRanks-or_walk (rescued_graph d ws) (IsGraph-without ws.bare (lane_graph d ws.assignment) (IsGraph-lane_graph d ws.assignment declaration assignment few))) [
          | inl ranks ↦ inl (AreSafe-ranks d ws declaration assignment few (sym is) ranks.0 ranks.1).safe
          | inr walk ↦ inr (Deadlocks-first [] is (flushing_items walk.0) (walk.0, walk.1, refl))
        ]

    pub same-unsafe : (¬ IsSafe (wiring_of d ws)) ↔ Deadlocks (wiring_of d ws)
    same-unsafe = (to, not_safe-deadlocks (wiring_of d ws))
      where
        to : (¬ IsSafe (wiring_of d ws)) → Deadlocks (wiring_of d ws)
        to unsafe = elim AreSafe-or_deadlock [
          | inl safe ↦ absurd (unsafe safe)
          | inr deadlocks ↦ deadlocks
        ]

-- ---- the text of a run

KeepsLimits-declared : (s : Declared) → IsSound s → (text out : List ℕ) → JudgesDeclared s text Bad out
    → KeepsLimits out
KeepsLimits-declared s sound text out judges =
    chosen (workqueues_of_text s.table.names s.partition text)
    (λ ws is. AreWorkqueuesOf-workqueues_of_text s.table.names s.partition sound.partition
    (sym sound.one_group_each) text ws is) judges
  where
    chosen : (r : Result Workqueues CertError) → ((ws : Workqueues) → r ≡ Ok ws → AreWorkqueuesOf s.partition.groups ws)
        → MatchResult r (λ ws. JudgesAssigned s ws Bad out) (λ fault. PrintsRefusal (cert_refusal fault) Bad out)
        → KeepsLimits out
    chosen (Ok ws) known judged = KeepsLimits-judged s sound ws (known ws refl).assignment out judged
    chosen (Err fault) known refused = absurd (let never : Bad ≡ Refused = refused.0 in cc)

-- what is printed of a run keeps the limits
pub KeepsLimits-judges : (declared text out : List ℕ) → Judges declared text Bad out → KeepsLimits out
KeepsLimits-judges declared text out = chosen (declaration declared) (IsSound-declaration declared)
  where
    chosen : (r : Result Declared Refusal) → ((s : Declared) → r ≡ Ok s → IsSound s)
        → MatchResult r (λ s. JudgesDeclared s text Bad out) (λ refusal. PrintsRefusal refusal Bad out)
        → KeepsLimits out
    chosen (Ok s) sound judges = KeepsLimits-declared s (sound s refl) text out judges
    chosen (Err refusal) sound refused = absurd (let never : Bad ≡ Refused = refused.0 in cc)

-- ---- how many steps

pub length-deadlocking : (d : Declaration) (ws : Workqueues) (steps : List Step) → IsDeclaration d → DeadlocksBy (wiring_of d ws) steps → length steps ≤ 45056
length-deadlocking d ws steps declaration by =
    omega (arith, length-once (wiring_of d ws) steps by.run by.once, declaration.one_list_each, declaration.partition.few_items, declaration.few_flushes)

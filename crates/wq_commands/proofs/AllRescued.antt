-- Workqueues each of which has a rescuer: what is said of them is what is said of their assignment.
use Rattle.std.proofs.Common.{◌≡◌, ℕ, ◌≤◌, ◌↔◌, Bool, true, false, cond, not, ◌&&◌, List, [], ◌∷◌, Option, Some, None}
use Rattle.std.proofs.Common.{Result, Ok, Err, refl, sym, subst, ◌∙◌}
use Rattle.std.specs.Prelude.{MatchResult, filter}
use Rattle.std.specs.List.{list_any}
use Rattle.std.proofs.lemmas.Result.{MatchResult-weaker}
use Rattle.wq_text.specs.Refusal.{Refusal}
use Rattle.wq_text.specs.Lines.{lines_of}
use Rattle.wq_items.specs.Building.{and_then}
use Rattle.wq_groups.specs.Declaration.{Declaration, IsDeclaration}
use Rattle.wq_groups.specs.Assignment.{Assignment, item_lane}
use Rattle.wq_graph.specs.declared.arc.WaitArc.{WaitArc}
use Rattle.wq_graph.specs.Graph.{arcs_by_place, lane_graph}
use Rattle.wq_graph.proofs.LeavingOut.{without-none}
use Rattle.wq_levels.specs.Walks.{IsWalkedCircle}
use Rattle.wq_core.specs.declared.step.Step.{Step}
use Rattle.wq_core.specs.Wiring.{HasRescuer, wiring}
use Rattle.wq_core.specs.Workqueues.{Workqueues, wiring_of}
use Rattle.wq_core.specs.Deadlock.{IsSafe, DeadlocksBy}
use Rattle.wq_core.specs.Readings.{reading}
use Rattle.wq_deadlock.specs.CircleRun.{flushing_items, IsRunOf, IsCircleRun}
use Rattle.wq_deadlock.specs.Judging.{is_on_bare, leads_to_bare, bare_waits, rescued_graph, AreFirst, IsHang}
use Rattle.wq_deadlock.specs.Verdict.{IsDeadlock}
use Rattle.wq_deadlock.proofs.Verdicts.{IsDeadlock-walked}
use Rattle.wq_cert.specs.declared.fault.CertError.{CertError}
use Rattle.wq_cert.specs.Lines.{cert_lines}
use Rattle.wq_cert.specs.Reading.{is_bare_line}
use Rattle.wq_cert.specs.Ranges.{AreWorkqueuesOf}
use Rattle.wq_cert.specs.Part.{has_unsure, made_of}
use Rattle.wq_cert.specs.Texts.{workqueues_of_text, assignment_of_text, cert_refusal}
use Rattle.wq_cert.proofs.AllRescued.{assignment-without-bare, rescuers-without-bare}
use Rattle.wq_cert.proofs.LanesRead.{AreWorkqueuesOf-workqueues_of_text}
use Rattle.wq_checker.specs.declared.run.RunEnd.{RunEnd}
use Rattle.wq_checker.specs.RunEnds.{EndsAs}
use Rattle.wq_commands.specs.declared.end.End.{End}
use Rattle.wq_commands.specs.declared.end.End.TheVariants.{Good, Bad, Refused}
use Rattle.wq_groups.specs.DeclaredGroups.{declared_waits, Declared}
use Rattle.wq_commands.specs.Answer.{PrintsRefusal}
use Rattle.wq_commands.specs.Deadlocking.{PrintsRun, JudgesAssigned, JudgesDeclared, Judges}
use Rattle.wq_commands.specs.Declaration.{DeclaresNoUnsure, declaration}
use Rattle.wq_commands.specs.Replaying.{wiring_read, AnswersReplay, ReplaysAssigned, ReplaysDeclared, ReplaysRun}
use Rattle.wq_commands.specs.AllRescued.{wiring_made, JudgesAssignment, JudgesAllRescued, ReplaysSteps}
use Rattle.wq_commands.specs.AllRescued.{ReplaysAssignment, ReplaysAllRescued}
use Rattle.wq_commands.proofs.AnswerLemmas.{IsSound, IsSound-declaration, IsDeclaration-sound}
use Rattle.wq_commands.proofs.SameRescuers.{Rescues, same-deadlock, same-run_of, same-end_as, same-safe}

module _ (d : Declaration) (ws : Workqueues) (all : (q : ℕ) → HasRescuer (wiring_of d ws) q) where
  abbrev a : Assignment
  a = ws.assignment

  to : Rescues ws.bare []
  to q rescued = refl

  from : Rescues [] ws.bare
  from q rescued = all q

  pub safe-rescued : IsSafe (wiring_of d ws) ↔ IsSafe (wiring d a)
  safe-rescued = (same-safe (wiring d a) ws.bare [] to from, same-safe (wiring d a) [] ws.bare from to)

  pub deadlock-rescued : (steps : List Step) → DeadlocksBy (wiring_of d ws) steps ↔ DeadlocksBy (wiring d a) steps
  deadlock-rescued steps = (same-deadlock (wiring d a) ws.bare [] to from steps, same-deadlock (wiring d a) [] ws.bare from to steps)

  pub end-rescued : (steps : List Step) (e : RunEnd) → EndsAs (wiring_of d ws) steps e ↔ EndsAs (wiring d a) steps e
  end-rescued steps e = (same-end_as (wiring d a) ws.bare [] to from steps e, same-end_as (wiring d a) [] ws.bare from to steps e)

  -- in a reading, too
  pub end-rescued-reading : (kept : List ℕ) (steps : List Step) (e : RunEnd)
      → EndsAs (reading (wiring_of d ws) kept) steps e ↔ EndsAs (reading (wiring d a) kept) steps e
  end-rescued-reading kept steps e = (
    same-end_as (reading (wiring d a) kept) ws.bare [] to from steps e,
    same-end_as (reading (wiring d a) kept) []
        ws.bare from to steps e,
  )

  -- ---- no flush leads to a workqueue without a rescuer, and the wait graph is that of all workqueues

  leads_not : (src dst : Bool) → dst ≡ false → (not src && dst) ≡ false
  leads_not true dst e = refl
  leads_not false dst e = e

  left_out : (b : Bool) (one other : List WaitArc) → b ≡ false → cond b one other ≡ other
  left_out true one other e = absurd cc
  left_out false one other e = refl

  none_leads : (arcs : List WaitArc) → filter (leads_to_bare ws d.group_of) arcs ≡ []
  none_leads [] = refl
  none_leads (x ∷ arcs) =
      let kept : List WaitArc = filter (leads_to_bare ws d.group_of) arcs in
      left_out (leads_to_bare ws d.group_of x) (x ∷ kept) kept (leads_not (is_on_bare ws d.group_of x.src) (is_on_bare ws d.group_of x.dst) (all (item_lane a d.group_of x.dst)))
      ∙ none_leads arcs

  pub waits-rescued : bare_waits d ws ≡ []
  waits-rescued = none_leads (arcs_by_place d.waits d.group_of)

  pub graph-rescued : rescued_graph d ws ≡ lane_graph d a
  graph-rescued = without-none ws.bare (lane_graph d a) all

  -- ---- the run that is printed

  pub IsHang-deadlock : (steps : List Step) → IsDeadlock d a steps → IsHang d ws steps
  IsHang-deadlock steps by = record {
    assignment = by.assignment;
    first = flushing_items by.circle;
    are_first = subst (λ (waits : List WaitArc). AreFirst d ws waits (flushing_items by.circle)) (sym waits-rescued) (
      by.circle,
      subst (λ (graph : List (List WaitArc)). IsWalkedCircle graph by.circle) (sym graph-rescued) by.walked,
      refl,
    );
    is_run = same-run_of (wiring d a) [] ws.bare from to (flushing_items by.circle) steps (record { played = by.is_run.played; is_played = by.is_run.is_played; all = by.is_run.all });
    deadlocks = (deadlock-rescued steps).1 by.deadlocks;
  }

  module _ (declaration : IsDeclaration d) (few : a.lanes ≤ 4096) where
    run_of_circle : (circle : List WaitArc) (first : List ℕ) (steps : List Step) → first ≡ flushing_items circle → IsRunOf (wiring_of d ws) first steps → IsCircleRun (wiring d a) circle steps
    run_of_circle circle first steps is run =
        let same = subst (λ (f : List ℕ). IsRunOf (wiring d a) f steps) is (same-run_of (wiring d a) ws.bare [] to from first steps run) in
        record { played = same.played; is_played = same.is_played; all = same.all }

    pub IsDeadlock-hang : (steps : List Step) → IsHang d ws steps → IsDeadlock d a steps
    IsDeadlock-hang steps hang =
        let first = subst (λ (waits : List WaitArc). AreFirst d ws waits hang.first) waits-rescued hang.are_first in
        let walked = subst (λ (graph : List (List WaitArc)). IsWalkedCircle graph first.0) graph-rescued first.1 in
        IsDeadlock-walked d a declaration hang.assignment few first.0 walked steps (run_of_circle first.0 hang.first steps first.2 hang.is_run)

-- ---- answers to workqueues

module _ (s : Declared) (sound : IsSound s) (ws : Workqueues) (are : AreWorkqueuesOf s.partition.groups ws) (all : (q : ℕ) → HasRescuer (wiring_of (declared_waits s) ws) q) where
  end_as-rescued : (kept : Option (List ℕ)) (steps : List Step) (e : RunEnd)
      → EndsAs (wiring_read s ws kept) steps e ↔ EndsAs (wiring_made s ws.assignment kept) steps e
  end_as-rescued None steps e = end-rescued (declared_waits s) ws all steps e
  end_as-rescued (Some kept) steps e = end-rescued-reading (declared_waits s) ws all kept steps e

  module _ (sure : has_unsure s.table.waits ≡ false) where
    judged-rescued : (end : End) (out : List ℕ) → JudgesAssigned s ws end out → JudgesAssignment s ws.assignment end out
    judged-rescued Good out (assignment, safe, is) = (assignment, (safe-rescued (declared_waits s) ws all).0 safe, is)
    judged-rescued Bad out judged =
        let printed : PrintsRun false s ws out = subst (λ (b : Bool). PrintsRun b s ws out) sure judged in (
          printed.0,
          IsDeadlock-hang (declared_waits s) ws all (IsDeclaration-sound s sound) are.assignment.few
              printed.0 printed.1,
          printed.2,
        )
    judged-rescued Refused out never = absurd never

    rescued-judged : (end : End) (out : List ℕ) → JudgesAssignment s ws.assignment end out → JudgesAssigned s ws end out
    rescued-judged Good out (assignment, safe, is) = (assignment, (safe-rescued (declared_waits s) ws all).1 safe, is)
    rescued-judged Bad out (steps, by, is) =
        let printed : PrintsRun false s ws out = (steps, IsHang-deadlock (declared_waits s) ws all steps by, is) in
        subst (λ (b : Bool). PrintsRun b s ws out) (sym sure) printed
    rescued-judged Refused out never = absurd never

  replayed-rescued : (kept : Option (List ℕ)) (steps : List Step) (end : End) (out : List ℕ)
      → AnswersReplay s ws kept steps end out → ReplaysSteps s ws.assignment kept steps end out
  replayed-rescued kept steps end out is =
      record {
        run_end = is.run_end;
        ends = (end_as-rescued kept steps is.run_end).0 is.ends;
        status =
            is.status;
        printed = is.printed;
      }

  rescued-replayed : (kept : Option (List ℕ)) (steps : List Step) (end : End) (out : List ℕ)
      → ReplaysSteps s ws.assignment kept steps end out → AnswersReplay s ws kept steps end out
  rescued-replayed kept steps end out is =
      record {
        run_end = is.run_end;
        ends = (end_as-rescued kept steps is.run_end).1 is.ends;
        status =
            is.status;
        printed = is.printed;
      }

  replays-rescued : (text : List ℕ) (end : End) (out : List ℕ) → ReplaysAssigned s ws text end out ↔ ReplaysAssignment s ws.assignment text end out
  replays-rescued text end out = chosen (made_of s.table.names s.table.waits text)
    where
      chosen : (r : Result (Option (List ℕ) × List Step) CertError)
          → MatchResult r (λ (run : Option (List ℕ) × List Step). AnswersReplay s ws run.0 run.1 end out)
          (λ fault. PrintsRefusal (cert_refusal fault) end out)
          ↔ MatchResult r (λ (run : Option (List ℕ) × List Step). ReplaysSteps s ws.assignment run.0 run.1 end out)
          (λ fault. PrintsRefusal (cert_refusal fault) end out)
      chosen (Ok run) = (replayed-rescued run.0 run.1 end out, rescued-replayed run.0 run.1 end out)
      chosen (Err fault) = (λ h. h, λ h. h)

-- ---- answers to texts

-- what is said of workqueues is said of their assignment, and all texts of them are refused alike
of_assignment : (r : Result Workqueues CertError) (P : Workqueues → Type 0) (Q : Assignment → Type 0) (F : CertError → Type 0) → ((ws : Workqueues) → r ≡ Ok ws → P ws ↔ Q ws.assignment)
    → MatchResult r P F ↔ MatchResult (and_then (λ (ws : Workqueues). Ok ws.assignment) r) Q F
of_assignment (Ok ws) P Q F same = same ws refl
of_assignment (Err fault) P Q F same = (λ h. h, λ h. h)

pub of_declared : (r : Result Declared Refusal) (P Q : Declared → Type 0) (F : Refusal → Type 0) → ((s : Declared) → r ≡ Ok s → P s ↔ Q s) → MatchResult r P F ↔ MatchResult r Q F
of_declared (Ok s) P Q F same = same s refl
of_declared (Err fault) P Q F same = (λ h. h, λ h. h)

module _ (assigned : List ℕ) (none : list_any is_bare_line (cert_lines (lines_of assigned)) ≡ false) where
  pub of_text : (s : Declared) (P : Workqueues → Type 0) (Q : Assignment → Type 0) (F : CertError → Type 0)
      → ((ws : Workqueues) → workqueues_of_text s.table.names s.partition assigned ≡ Ok ws → P ws ↔ Q ws.assignment)
      → MatchResult (workqueues_of_text s.table.names s.partition assigned) P F ↔ MatchResult (assignment_of_text s.table.names s.partition assigned) Q F
  of_text s P Q F same =
      subst (λ (r : Result Assignment CertError). MatchResult (workqueues_of_text s.table.names s.partition assigned) P F ↔ MatchResult r Q F)
      (assignment-without-bare s.table.names s.partition assigned none) (of_assignment (workqueues_of_text s.table.names s.partition assigned) P Q F same)

  pub all_have : (s : Declared) (ws : Workqueues) → workqueues_of_text s.table.names s.partition assigned ≡ Ok ws → (q : ℕ) → HasRescuer (wiring_of (declared_waits s) ws) q
  all_have s ws is q = rescuers-without-bare s.table.names s.partition assigned ws q none is

  known : (s : Declared) → IsSound s → (ws : Workqueues) → workqueues_of_text s.table.names s.partition assigned ≡ Ok ws → AreWorkqueuesOf s.partition.groups ws
  known s sound ws is = AreWorkqueuesOf-workqueues_of_text s.table.names s.partition sound.partition (sym sound.one_group_each) assigned ws is

  pub Judges-rescued : (declared : List ℕ) → DeclaresNoUnsure declared → (end : End) (out : List ℕ)
      → Judges declared assigned end out ↔ JudgesAllRescued declared assigned end out
  Judges-rescued declared sure end out =
      of_declared (declaration declared) (λ s. JudgesDeclared s assigned end out)
      (λ s. MatchResult (assignment_of_text s.table.names s.partition assigned) (λ a. JudgesAssignment s a end out) (λ fault. PrintsRefusal (cert_refusal fault) end out))
      (λ r. PrintsRefusal r end out)
      (λ s is.
      let sound = IsSound-declaration declared s is in
      of_text s (λ ws. JudgesAssigned s ws end out) (λ a. JudgesAssignment s a end out) (λ fault. PrintsRefusal (cert_refusal fault) end out) (λ ws read. (
        judged-rescued s sound ws (known s sound ws read) (all_have s ws read) (sure s is) end out,
        rescued-judged s sound ws (known s sound ws read) (all_have s ws read) (sure s is) end out,
      ))
      )

  -- `safe` is said whether flushes are sure or not
  pub Judges-rescued_good : (declared out : List ℕ) → JudgesAllRescued declared assigned Good out
      → Judges declared assigned Good out
  Judges-rescued_good declared out judged =
      MatchResult-weaker (declaration declared) judged
      (λ s. of_good s (λ ws read. (safe-rescued (declared_waits s) ws (all_have s ws read)).1))
      (λ r refused. refused)
    where
      of_good : (s : Declared)
          → ((ws : Workqueues) → workqueues_of_text s.table.names s.partition assigned ≡ Ok ws
          → IsSafe (wiring (declared_waits s) ws.assignment) → IsSafe (wiring_of (declared_waits s) ws))
          → MatchResult (assignment_of_text s.table.names s.partition assigned) (λ a. JudgesAssignment s a Good out)
          (λ fault. PrintsRefusal (cert_refusal fault) Good out) → JudgesDeclared s assigned Good out
      of_good s safe =
          (of_text s (λ ws. JudgesAssigned s ws Good out) (λ a. JudgesAssignment s a Good out)
          (λ fault. PrintsRefusal (cert_refusal fault) Good out) (λ ws read. (
            (λ is. (is.0, (safe-rescued (declared_waits s) ws (all_have s ws read)).0 is.1, is.2)),
            (λ is. (is.0, safe ws read is.1, is.2)),
          ))).1

  pub ReplaysRun-rescued : (declared steps : List ℕ) (end : End) (out : List ℕ) → ReplaysRun declared assigned steps end out ↔ ReplaysAllRescued declared assigned steps end out
  ReplaysRun-rescued declared steps end out =
      of_declared (declaration declared) (λ s. ReplaysDeclared s assigned steps end out)
      (λ s. MatchResult (assignment_of_text s.table.names s.partition assigned) (λ a. ReplaysAssignment s a steps end out) (λ fault. PrintsRefusal (cert_refusal fault) end out))
      (λ r. PrintsRefusal r end out)
      (λ s is.
      let sound = IsSound-declaration declared s is in
      of_text s (λ ws. ReplaysAssigned s ws steps end out) (λ a. ReplaysAssignment s a steps end out) (λ fault. PrintsRefusal (cert_refusal fault) end out)
      (λ ws read. replays-rescued s sound ws (known s sound ws read) (all_have s ws read) steps end out)
      )

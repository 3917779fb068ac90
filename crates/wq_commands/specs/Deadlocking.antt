-- The answer to a declaration and an assignment: that the assignment is safe, or else its deadlocking run.
use Rattle.std.specs.Prelude.{◌≡◌, ℕ, Bool, true, false, List, [], ◌∷◌, Option, Some, None, codes, MatchResult}
use Rattle.wq_groups.specs.Assignment.{IsAssignment}
use Rattle.wq_core.specs.declared.step.Step.{Step}
use Rattle.wq_core.specs.Workqueues.{Workqueues, wiring_of}
use Rattle.wq_core.specs.Deadlock.{IsSafe}
use Rattle.wq_deadlock.specs.Judging.{IsHang}
use Rattle.wq_hang.specs.declared.hop.Hop.{Hop}
use Rattle.wq_hang.specs.Answer.{IsHangOf}
use Rattle.wq_hang.specs.Walk.{needs}
use Rattle.wq_text.specs.LineText.{line_text}
use Rattle.wq_cert.specs.Part.{has_unsure, reading_text}
use Rattle.wq_cert.specs.RunText.{run_text}
use Rattle.wq_cert.specs.Texts.{workqueues_of_text, cert_refusal}
use Rattle.wq_commands.specs.declared.end.End.{End}
use Rattle.wq_commands.specs.declared.end.End.TheVariants.{Good, Bad, Refused}
use Rattle.wq_groups.specs.DeclaredGroups.{declared_waits, reading_with_names, Declared}
use Rattle.wq_commands.specs.Answer.{PrintsRefusal}
use Rattle.wq_commands.specs.Declaration.{declaration}

-- `safe`
abbrev pub safe_text : List ℕ
safe_text = line_text (codes "safe" ∷ [])

-- the unsure flushes of this walk are printed (`hang` may print it, too), and behind them the run of the reading that
-- keeps these flushes
abbrev pub PrintsReading : Declared → Workqueues → List Hop → List ℕ → Type 0
PrintsReading s ws hops out =
    (soonest : List Step) × IsHangOf (declared_waits s) ws hops soonest
    × (steps : List Step) × IsHang (declared_waits (reading_with_names s (needs hops))) ws steps
    × (out ≡ reading_text s.table.names s.table.waits (needs hops) steps)

-- the run by which these workqueues hang is printed; if some flush is unsure, the fewest unsure flushes that are enough
-- come first, and then the run of the reading that keeps them: they are those of a walk that `hang` may print
abbrev pub PrintsRun : Bool → Declared → Workqueues → List ℕ → Type 0
PrintsRun false s ws out =
    (steps : List Step) × IsHang (declared_waits s) ws steps × (out ≡ run_text s.table.names steps)
PrintsRun true s ws out = (hops : List Hop) × PrintsReading s ws hops out

-- the verdict on workqueues of a declaration's groups is printed: `safe` if no run ends stuck; else the run by which
-- they hang. The run ends stuck, with each item queued once and flushing as declared. If some flush leads from a
-- workqueue that has a rescuer to one that has none, the run begins with the item of the first such flush, even if
-- workqueues wait in a circle, too. Else it begins with the items of the circle in which workqueues with a rescuer wait
abbrev pub JudgesAssigned : Declared → Workqueues → End → List ℕ → Type 0
JudgesAssigned s ws Good out =
    IsAssignment s.partition.groups ws.assignment × IsSafe (wiring_of (declared_waits s) ws) × (out ≡ safe_text)
JudgesAssigned s ws Bad out = PrintsRun (has_unsure s.table.waits) s ws out
JudgesAssigned s ws Refused out = ⊥

-- this verdict is printed, and beside it the walk is found whose unsure flushes are printed; none if the workqueues are
-- safe, or if no flush is unsure
abbrev pub JudgesBy : Declared → Workqueues → Option (List Hop) → End → List ℕ → Type 0
JudgesBy s ws (Some hops) Bad out = (has_unsure s.table.waits ≡ true) × PrintsReading s ws hops out
JudgesBy s ws None Bad out = (has_unsure s.table.waits ≡ false) × PrintsRun false s ws out
JudgesBy s ws None Good out = JudgesAssigned s ws Good out
JudgesBy s ws (Some hops) Good out = ⊥
JudgesBy s ws (Some hops) Refused out = ⊥
JudgesBy s ws None Refused out = ⊥

-- the verdict on the text of an assignment of a declaration, or its refusal
abbrev pub JudgesDeclared : Declared → List ℕ → End → List ℕ → Type 0
JudgesDeclared s text end out =
    MatchResult (workqueues_of_text s.table.names s.partition text)
    (λ ws. JudgesAssigned s ws end out)
    (λ fault. PrintsRefusal (cert_refusal fault) end out)

-- the verdict on the texts of a declaration and an assignment: a refusal of the declaration comes first
abbrev pub Judges : List ℕ → List ℕ → End → List ℕ → Type 0
Judges declared text end out =
    MatchResult (declaration declared) (λ s. JudgesDeclared s text end out) (λ r. PrintsRefusal r end out)

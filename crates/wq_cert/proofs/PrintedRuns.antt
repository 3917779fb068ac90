-- Runs as they are printed, read back.
use Rattle.std.proofs.Common.{◌≡◌, ℕ, ◌<◌, ◌≤◌, ◌^◌, List, [], ◌∷◌, length, map, Ok, refl, sym, subst, arith}
use Rattle.std.specs.Prelude.{codes}
use Rattle.std.specs.Fmt.{decimal}
use Rattle.std.specs.List.{All, AllByRecursion}
use Rattle.std.proofs.lemmas.Bool.{ltb-false}
use Rattle.std.proofs.lemmas.List.{length-map}
use Rattle.std.proofs.lemmas.List.Elements.{All-head, All-tail}
use Rattle.wq_items.specs.Table.{Table, IsTable}
use Rattle.wq_core.specs.declared.step.Step.{Step}
use Rattle.wq_core.specs.declared.step.Step.TheVariants.{Queue, Cancel, Start, Wait, Over, WaitAll, OverAll, Finish, Help}
use Rattle.wq_cert.specs.PlanText.{name_of}
use Rattle.wq_cert.specs.Ranges.{IsStepOf}
use Rattle.wq_cert.specs.RunText.{step_line, run_lines, run_text}
use Rattle.wq_cert.specs.Spelled.{SpellsRun}
use Rattle.wq_cert.specs.Texts.{max_certificate, run_of}
use Rattle.wq_cert.proofs.PrintedLines.{IsPrintable, IsPrintableLine, words_of_text-printed, KeepsLimits-printed, length-lines-le}
use Rattle.wq_cert.proofs.PrintedWords.{IsPrintable-decimal, IsPrintable-keyword, IsPrintable-name_of, IsPrintableLine-count}
use Rattle.wq_cert.proofs.SpelledAnswers.{run_of-spelled}

module _ (t : Table) (table : IsTable t) where
  IsPrintableLine-item : (word : List ℕ) (i : ℕ) → IsPrintable word → i < length t.names → IsPrintableLine (word ∷ name_of t.names i ∷ [])
  IsPrintableLine-item word i keyword within = record { some = λ e. absurd cc; each = (keyword, (IsPrintable-name_of t.names table.named i within, tt)); few = omega arith }

  IsPrintableLine-lane : (word : List ℕ) (q i : ℕ) → IsPrintable word → q ≤ 4095 → i < length t.names → IsPrintableLine (word ∷ decimal q ∷ name_of t.names i ∷ [])
  IsPrintableLine-lane word q i keyword near within =
      record { some = λ e. absurd cc; each = (keyword, (IsPrintable-decimal q (omega arith), (IsPrintable-name_of t.names table.named i within, tt))); few = omega arith }

  IsPrintableLine-step : (step : Step) → IsStepOf (length t.names) step → IsPrintableLine (step_line t.names step)
  IsPrintableLine-step (Queue i) h = IsPrintableLine-item (codes "queue") i (IsPrintable-keyword (codes "queue") refl (omega arith) (omega arith)) h.0
  IsPrintableLine-step (Cancel i) h = IsPrintableLine-item (codes "cancel") i (IsPrintable-keyword (codes "cancel") refl (omega arith) (omega arith)) h.0
  IsPrintableLine-step (Start q i) h = IsPrintableLine-lane (codes "start") q i (IsPrintable-keyword (codes "start") refl (omega arith) (omega arith)) (ltb-false 4095 q h.1) h.0
  IsPrintableLine-step (Wait q b) h = IsPrintableLine-lane (codes "wait") q b (IsPrintable-keyword (codes "wait") refl (omega arith) (omega arith)) (ltb-false 4095 q h.1) h.0
  IsPrintableLine-step (Over q b) h = IsPrintableLine-lane (codes "over") q b (IsPrintable-keyword (codes "over") refl (omega arith) (omega arith)) (ltb-false 4095 q h.1) h.0
  IsPrintableLine-step (WaitAll q b) h = IsPrintableLine-lane (codes "waitwq") q b (IsPrintable-keyword (codes "waitwq") refl (omega arith) (omega arith)) (ltb-false 4095 q h.1) h.0
  IsPrintableLine-step (OverAll q b) h = IsPrintableLine-lane (codes "overwq") q b (IsPrintable-keyword (codes "overwq") refl (omega arith) (omega arith)) (ltb-false 4095 q h.1) h.0
  IsPrintableLine-step (Finish q i) h = IsPrintableLine-lane (codes "finish") q i (IsPrintable-keyword (codes "finish") refl (omega arith) (omega arith)) (ltb-false 4095 q h.1) h.0
  IsPrintableLine-step (Help q helper deed) h = absurd (h.2 tt)

  IsPrintableLine-steps : (steps : List Step) → All (IsStepOf (length t.names)) steps → AllByRecursion IsPrintableLine (map (step_line t.names) steps)
  IsPrintableLine-steps [] h = tt
  IsPrintableLine-steps (step ∷ steps) h =
      (IsPrintableLine-step step (All-head (IsStepOf (length t.names)) step steps h), IsPrintableLine-steps steps (All-tail (IsStepOf (length t.names)) step steps h))

  pub IsPrintableLine-run : (steps : List Step) → All (IsStepOf (length t.names)) steps → length steps < 2 ^ 32 → AllByRecursion IsPrintableLine (run_lines t.names steps)
  IsPrintableLine-run steps h few =
      (IsPrintableLine-count (codes "run") (length steps) (IsPrintable-keyword (codes "run") refl (omega arith) (omega arith)) few, IsPrintableLine-steps steps h)

  -- a text that isn't too long has few steps
  few_steps : (steps : List Step) → length (run_text t.names steps) ≤ max_certificate → length steps < 2 ^ 32
  few_steps steps most = omega (arith, length-lines-le (run_lines t.names steps), length-map steps (step_line t.names))

  pub run_of-printed : (steps : List Step) → All (IsStepOf (length t.names)) steps → length (run_text t.names steps) ≤ max_certificate → run_of t.names (run_text t.names steps) ≡ Ok steps
  run_of-printed steps h most =
      let few = few_steps steps most in
      let lines = run_lines t.names steps in
      let printable = IsPrintableLine-run steps h few in
      run_of-spelled t.names table.distinct (run_text t.names steps) steps (
        KeepsLimits-printed lines printable most,
        subst (λ (ws : List (List (List ℕ))). SpellsRun t.names ws steps) (sym (words_of_text-printed lines printable)) (record { words = refl; few = few; known = h }),
      )

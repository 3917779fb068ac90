-- Circles as they are printed, read back.
use Rattle.std.proofs.Common.{◌≡◌, ℕ, ◌<◌, ◌≤◌, ◌^◌, List, [], length, map, Option, Some, None, Ok, refl, sym, subst, ◌∙◌, arith, length-append, IfSome}
use Rattle.std.specs.Prelude.{codes}
use Rattle.std.specs.List.{All, AllByRecursion}
use Rattle.std.specs.Option.{option_map_or}
use Rattle.std.proofs.lemmas.List.{length-map}
use Rattle.wq_text.specs.Lines.{lines_of}
use Rattle.wq_text.proofs.LimitLaws.{IsShort}
use Rattle.wq_items.specs.Table.{Table, IsTable}
use Rattle.wq_groups.specs.Partition.{Partition}
use Rattle.wq_core.specs.declared.step.Step.{Step}
use Rattle.wq_cert.specs.Certificate.{CircleCertificate, OfCircle}
use Rattle.wq_cert.specs.CircleText.{circle_lines, circle_text}
use Rattle.wq_cert.specs.Lines.{cert_lines}
use Rattle.wq_cert.specs.PlanText.{arc_line}
use Rattle.wq_cert.specs.Ranges.{IsArcOf, IsStepOf}
use Rattle.wq_cert.specs.Reading.{answer_reading}
use Rattle.wq_cert.specs.RunText.{run_lines, step_line}
use Rattle.wq_cert.specs.Spelled.{SpellsCircle, SpellsRunAfter}
use Rattle.wq_cert.specs.Texts.{max_certificate, answer_of}
use Rattle.wq_cert.proofs.ListLemmas.{AllByRecursion-append}
use Rattle.wq_cert.proofs.PrintedArcs.{IsPrintableLine-arcs}
use Rattle.wq_cert.proofs.PrintedLines.{IsPrintableLine, IsShort-printed, words_of_text-printed, KeepsLimits-printed, length-lines-le}
use Rattle.wq_cert.proofs.PrintedRuns.{IsPrintableLine-run}
use Rattle.wq_cert.proofs.PrintedWords.{IsPrintable-keyword, IsPrintableLine-count}
use Rattle.wq_cert.proofs.SpelledAnswers.{text_reading-KeepsLimits, answer_reading-circle}
use Rattle.wq_cert.proofs.TextWords.{words_of_lines-text}

module _ (t : Table) (table : IsTable t) where
  -- the lines of the run, if there is one
  abbrev behind_arcs : Option (List Step) → List (List (List ℕ))
  behind_arcs steps = option_map_or (run_lines t.names) steps []

  SpellsRunAfter-printed : (steps : Option (List Step)) → IfSome steps (All (IsStepOf (length t.names))) → IfSome steps (λ run. length run < 2 ^ 32)
      → SpellsRunAfter t.names (behind_arcs steps) steps
  SpellsRunAfter-printed None known few = refl
  SpellsRunAfter-printed (Some run) known few = record { words = refl; few = few; known = known }

  IsPrintableLine-behind : (steps : Option (List Step)) → IfSome steps (All (IsStepOf (length t.names))) → IfSome steps (λ run. length run < 2 ^ 32) → AllByRecursion IsPrintableLine (behind_arcs steps)
  IsPrintableLine-behind None named few = tt
  IsPrintableLine-behind (Some run) named few = IsPrintableLine-run t table run named few

  IsPrintableLine-circle : (arcs : List (ℕ × ℕ)) (steps : Option (List Step)) → length arcs ≤ 4096 → All (IsArcOf (length t.names)) arcs
      → IfSome steps (All (IsStepOf (length t.names))) → IfSome steps (λ run. length run < 2 ^ 32) → AllByRecursion IsPrintableLine (circle_lines t.names arcs steps)
  IsPrintableLine-circle arcs steps few named steps_named few_steps = (
    IsPrintableLine-count (codes "circle") (length arcs) (IsPrintable-keyword (codes "circle") refl (omega arith) (omega arith)) (omega arith),
    AllByRecursion-append IsPrintableLine (map (arc_line t.names) arcs) (behind_arcs steps) (IsPrintableLine-arcs t table arcs named) (IsPrintableLine-behind steps steps_named few_steps),
  )

  -- a text that isn't too long has few steps
  few_steps-text : (arcs : List (ℕ × ℕ)) (steps : Option (List Step)) → length (circle_text t.names arcs steps) ≤ max_certificate → IfSome steps (λ run. length run < 2 ^ 32)
  few_steps-text arcs None most = tt
  few_steps-text arcs (Some run) most =
      omega (arith, length-lines-le (circle_lines t.names arcs (Some run)), length-append (map (arc_line t.names) arcs) (run_lines t.names run), length-map run (step_line t.names))

  -- the lines of a text that isn't too long are short enough
  pub IsShort-circle : (arcs : List (ℕ × ℕ)) (steps : Option (List Step)) → length arcs ≤ 4096 → All (IsArcOf (length t.names)) arcs
      → IfSome steps (All (IsStepOf (length t.names))) → length (circle_text t.names arcs steps) ≤ max_certificate → All (IsShort 524288) (lines_of (circle_text t.names arcs steps))
  IsShort-circle arcs steps few named steps_named most =
      IsShort-printed (circle_lines t.names arcs steps) (IsPrintableLine-circle arcs steps few named steps_named (few_steps-text arcs steps most))

  pub answer_of-circle : (p : Partition) (arcs : List (ℕ × ℕ)) (steps : Option (List Step)) → 0 < length arcs → length arcs ≤ 4096 → All (IsArcOf (length t.names)) arcs
      → IfSome steps (All (IsStepOf (length t.names))) → length (circle_text t.names arcs steps) ≤ max_certificate
      → answer_of t.names p (circle_text t.names arcs steps) ≡ Ok (OfCircle (record { arcs = arcs; steps = steps }))
  answer_of-circle p arcs steps some few named steps_named most =
      let few_steps = few_steps-text arcs steps most in
      let lines = circle_lines t.names arcs steps in
      let printable = IsPrintableLine-circle arcs steps few named steps_named few_steps in
      let text = circle_text t.names arcs steps in
      let circle : CircleCertificate = record { arcs = arcs; steps = steps } in
      let spells : SpellsCircle t.names lines circle = record {
        behind = behind_arcs steps;
        words = refl;
        some = some;
        few = few;
        known = named;
        run = SpellsRunAfter-printed steps steps_named few_steps;
      } in
      text_reading-KeepsLimits (answer_reading t.names p) text (OfCircle circle) (KeepsLimits-printed lines printable most)
      (answer_reading-circle t.names p table.distinct (cert_lines (lines_of text)) circle (subst (λ (ws : List (List (List ℕ))). SpellsCircle t.names ws circle) (sym (words_of_lines-text text ∙ words_of_text-printed lines printable)) spells))

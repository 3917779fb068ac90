-- From what is found to what is answered, and from the bytes that are kept to the texts.
use Rattle.std.proofs.Common.{◌≡◌, ℕ, ◌+◌, List, Result, Ok, ap, subst, sym, ◌∙◌}
use Rattle.std.specs.Prelude.{take}
use Rattle.wq_text.specs.Refusal.{Refusal}
use Rattle.wq_core.specs.Workqueues.{Workqueues}
use Rattle.wq_hang.specs.declared.answer.Answer.{Answer}
use Rattle.wq_hang.specs.declared.answer.Answer.TheVariants as answer
use Rattle.wq_hang.specs.Answer.{IsAnswer}
use Rattle.wq_cert.specs.Texts.{max_certificate, workqueues_of_text}
use Rattle.wq_meter.specs.Shell.{Given, kept}
use Rattle.wq_commands.specs.declared.end.End.{End}
use Rattle.wq_commands.specs.declared.found.Found.{Found}
use Rattle.wq_commands.specs.declared.found.Found.TheVariants.{Read}
use Rattle.wq_commands.specs.declared.found.Which.TheVariants.{Certificate as SecondText}
use Rattle.wq_groups.specs.DeclaredGroups.{declared_waits, Declared}
use Rattle.wq_commands.specs.Commands.{two_texts}
use Rattle.wq_commands.specs.Shell.{AnswersTexts}
use Rattle.wq_commands.proofs.FoundLemmas.{AnswersIn-match, AnswersTexts-match}
use Rattle.wq_commands.proofs.InputLemmas.{assigned-kept}
use Rattle.wq_circles.proofs.Found.{AnswersIn-read}
use Rattle.wq_hang_command.specs.declared.hanging.Hanging.{Hanging}
use Rattle.wq_hang_command.specs.Hanging.{FindsHang, HangsAssigned, HangsDeclared, Hangs, HangsText, PrintsAnswer}

-- ---- what is declared

module _ {A : Type 0} (s : Declared) where
  -- what is printed of an answer is the answer to the workqueues
  answered : (ws : Workqueues) (answer : Answer A) (end : End) (out : List ℕ) → IsAnswer (declared_waits s) ws answer
      → PrintsAnswer s answer end out → HangsAssigned s ws end out
  answered ws answer.Safe end out is (good, text) =
      subst (λ (e : End). HangsAssigned s ws e out) (sym good) (is.0, is.1, text)
  answered ws (answer.Hang hops steps) end out is (bad, text) =
      subst (λ (e : End). HangsAssigned s ws e out) (sym bad)
      (record { steps = steps.items; hops = hops.items; hang = is; text = text })

  pub HangsText-declared : (text : List ℕ) (found : Found (Hanging A)) (end : End) (out : List ℕ)
      → HangsText s text found end out → HangsDeclared s text end out
  HangsText-declared text found end out =
      AnswersIn-match SecondText (workqueues_of_text s.table.names s.partition text) (λ ws. FindsHang s ws)
      (λ ws. HangsAssigned s ws) found end out (λ ws h. answered ws h.hanging.answer end out h.answer h.printed)

-- ---- the texts

-- what is past a limit changes no answer
pub hang-kept : {A : Type 0} (texts : Given) (found : Result (Found (Hanging A)) Refusal) (end : End) (out : List ℕ)
    → AnswersTexts (λ s t (f : Found (Hanging A)) e o. HangsText s t.second f e o) (kept two_texts texts) found end out
    → Hangs texts.first texts.second end out
hang-kept {A} texts found end out h =
    let text = take (max_certificate + 1) texts.second in
    assigned-kept end out (λ _ _ s ws. HangsAssigned s ws end out) texts.first texts.second
    (AnswersTexts-match (λ s t (f : Found (Hanging A)) e o. HangsText s t.second f e o) (λ s. HangsDeclared s text)
    (kept two_texts texts) found end out (λ s f. HangsText-declared s text f end out) h)

-- ---- what is said of what was found

-- the workqueues that were found are those of the text, and the answer is the one to them
pub HangsText-read : {A : Type 0} (s : Declared) (text : List ℕ) (h : Hanging A) (end : End) (out : List ℕ)
    → HangsText s text (Read h) end out
    → (workqueues_of_text s.table.names s.partition text ≡ Ok h.workqueues)
    × IsAnswer (declared_waits s) h.workqueues h.answer
HangsText-read {A} s text h end out found =
    let (ws, read, finds) = AnswersIn-read SecondText (workqueues_of_text s.table.names s.partition text)
    (λ ws. FindsHang s ws) h end out found in
    let same : finds.hanging ≡ h = (let is = finds.is in cc) in
    let workqueues : h.workqueues ≡ ws = ap (λ (x : Hanging A). x.workqueues) (sym same) ∙ finds.workqueues in (
      read ∙ ap (λ (w : Workqueues). Ok w) (sym workqueues),
      subst (λ (w : Workqueues). IsAnswer (declared_waits s) w h.answer) (sym workqueues)
          (subst (λ (x : Hanging A). IsAnswer (declared_waits s) ws x.answer) same finds.answer),
    )

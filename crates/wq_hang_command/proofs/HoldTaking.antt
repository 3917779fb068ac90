-- From what is found to what is answered where items must go on, and from the bytes that are kept to the texts.
use Rattle.std.proofs.Common.{◌≡◌, ◌<◌, ℕ, ◌+◌, List, length, Option, Some, None, Result, Ok, ap, subst, sym, ◌∙◌}
use Rattle.std.specs.Prelude.{take}
use Rattle.std.specs.List.{All}
use Rattle.wq_text.specs.Refusal.{Refusal}
use Rattle.wq_core.specs.Workqueues.{Workqueues}
use Rattle.wq_hang.specs.declared.answer.Held.{Held}
use Rattle.wq_hang.specs.declared.answer.Held.TheVariants as held
use Rattle.wq_hang.specs.AnswerFor.{IsAnswerFor}
use Rattle.wq_cert.specs.Texts.{max_certificate, workqueues_of_text}
use Rattle.wq_meter.specs.Shell.{Given, kept}
use Rattle.wq_commands.specs.declared.end.End.{End}
use Rattle.wq_commands.specs.declared.found.Found.{Found}
use Rattle.wq_commands.specs.declared.found.Found.TheVariants.{Read}
use Rattle.wq_commands.specs.declared.found.Which.TheVariants.{Certificate as SecondText}
use Rattle.wq_groups.specs.DeclaredGroups.{declared_waits, Declared}
use Rattle.wq_commands.specs.Commands.{two_texts}
use Rattle.wq_commands.specs.Named.{items_with_names, FindsNamed, IfNamed}
use Rattle.wq_commands.specs.Shell.{AnswersTexts}
use Rattle.wq_commands.proofs.NamedLemmas.{items_with_names-below}
use Rattle.wq_commands.proofs.FoundLemmas.{AnswersIn-match, AnswersTexts-match}
use Rattle.wq_commands.proofs.InputLemmas.{assigned-kept}
use Rattle.wq_circles.proofs.Found.{AnswersIn-read}
use Rattle.wq_voice.proofs.NamedRead.{FindsNamed-some}
use Rattle.wq_hang_command.specs.declared.holding.Holding.{Holding}
use Rattle.wq_hang_command.specs.Holding.{FindsHold, Holds, HoldsAssigned, HoldsDeclared, HoldsText, PrintsHeld}

-- ---- what is declared

module _ {A : Type 0} (s : Declared) where
  -- what is printed of an answer is the answer to the workqueues
  answered : (ws : Workqueues) (named : List ℕ) (answer : Held A) (end : End) (out : List ℕ)
      → IsAnswerFor (declared_waits s) ws named answer → PrintsHeld s answer end out
      → HoldsAssigned s ws named end out
  answered ws named held.Safe end out is (good, text) =
      subst (λ (e : End). HoldsAssigned s ws named e out) (sym good) (is.0, is.1, text)
  answered ws named (held.HeldUp item hops steps) end out is (bad, text) =
      subst (λ (e : End). HoldsAssigned s ws named e out) (sym bad)
      (record { item = item; steps = steps.items; hops = hops.items; held = is; text = text })

  by_names : (ws : Workqueues) (named : Option (List ℕ)) (found : Found (Option (Holding A))) (end : End)
      (out : List ℕ) → FindsNamed named (FindsHold s ws) found end out → IfNamed named (HoldsAssigned s ws) end out
  by_names ws None found end out h = h.1
  by_names ws (Some named) found end out h = answered ws named h.holding.answer end out h.answer h.printed

  pub HoldsText-declared : (names : List (List ℕ)) (text : List ℕ) (found : Found (Option (Holding A))) (end : End)
      (out : List ℕ) → HoldsText s names text found end out → HoldsDeclared s names text end out
  HoldsText-declared names text found end out =
      AnswersIn-match SecondText (workqueues_of_text s.table.names s.partition text)
      (λ ws. FindsNamed (items_with_names s.table.names names) (FindsHold s ws))
      (λ ws. IfNamed (items_with_names s.table.names names) (HoldsAssigned s ws)) found end out
      (λ ws. by_names ws (items_with_names s.table.names names) found end out)

-- ---- the texts

-- what is past a limit changes no answer
pub hold-kept : {A : Type 0} (names : List (List ℕ)) (texts : Given)
    (found : Result (Found (Option (Holding A))) Refusal) (end : End) (out : List ℕ)
    → AnswersTexts (λ s t (f : Found (Option (Holding A))) e o. HoldsText s names t.second f e o) (kept two_texts texts)
    found end out
    → Holds names texts.first texts.second end out
hold-kept {A} names texts found end out h =
    let text = take (max_certificate + 1) texts.second in
    assigned-kept end out (λ _ _ s ws. IfNamed (items_with_names s.table.names names) (HoldsAssigned s ws) end out)
    texts.first
    texts.second
    (AnswersTexts-match (λ s t (f : Found (Option (Holding A))) e o. HoldsText s names t.second f e o)
    (λ s. HoldsDeclared s names text) (kept two_texts texts) found end out
    (λ s f. HoldsText-declared s names text f end out) h)

-- ---- what is said of what was found

-- the workqueues that were found are those of the text, and the answer is the one to them and to the named items
pub record IsHeldOn {A : Type 0} (s : Declared) (text : List ℕ) (h : Holding A) : Type 0 where
  pub read : workqueues_of_text s.table.names s.partition text ≡ Ok h.workqueues
  pub within : All (λ i. i < length s.table.names) h.named.items
  pub answer : IsAnswerFor (declared_waits s) h.workqueues h.named.items h.answer

pub HoldsText-read : {A : Type 0} (s : Declared) (names : List (List ℕ)) (text : List ℕ) (h : Holding A) (end : End)
    (out : List ℕ) → HoldsText s names text (Read (Some h)) end out → IsHeldOn s text h
HoldsText-read {A} s names text h end out found =
    let (ws, read, of_names) = AnswersIn-read SecondText (workqueues_of_text s.table.names s.partition text)
    (λ ws. FindsNamed (items_with_names s.table.names names) (FindsHold s ws)) (Some h) end out found in
    let (named, are, finds) = FindsNamed-some (items_with_names s.table.names names) (FindsHold s ws) h end out
    of_names in
    let same : finds.holding ≡ h = (let is = finds.is in cc) in
    let workqueues : h.workqueues ≡ ws = ap (λ (x : Holding A). x.workqueues) (sym same) ∙ finds.workqueues in
    let items : h.named.items ≡ named = ap (λ (x : Holding A). x.named.items) (sym same) ∙ finds.named_items in
    record {
      read = read ∙ ap (λ (w : Workqueues). Ok w) (sym workqueues);
      within = subst (All (λ i. i < length s.table.names)) (sym items)
          (items_with_names-below s.table.names names named are);
      answer = subst (λ (w : Workqueues). IsAnswerFor (declared_waits s) w h.named.items h.answer) (sym workqueues)
          (subst (λ (l : List ℕ). IsAnswerFor (declared_waits s) ws l h.answer) (sym items)
          (subst (λ (x : Holding A). IsAnswerFor (declared_waits s) ws named x.answer) same finds.answer));
    }

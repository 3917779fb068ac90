-- What is found in the text of an assignment and answered is an answer to both texts.
use Rattle.std.proofs.Common.{◌≡◌, ℕ, List, Option, Some, None, Result, Ok, Err, inl, inr, refl, sym, ap, subst, ◌∙◌}
use Rattle.std.specs.Prelude.{MatchResult}
use Rattle.wq_text.specs.Refusal.{Refusal}
use Rattle.wq_core.specs.Workqueues.{Workqueues}
use Rattle.wq_cert.specs.declared.fault.CertError.{CertError}
use Rattle.wq_cert.specs.Texts.{cert_refusal, workqueues_of_text}
use Rattle.wq_names.specs.Names.{names_of}
use Rattle.wq_meter.specs.Shell.{Given}
use Rattle.wq_repair.specs.declared.answer.Answer.{Answer}
use Rattle.wq_repair.specs.declared.answer.Answer.TheVariants as answer
use Rattle.wq_repair.specs.Repair.{IsAnswer}
use Rattle.wq_commands.specs.declared.end.End.{End}
use Rattle.wq_commands.specs.declared.end.End.TheVariants.{Good, Bad}
use Rattle.wq_commands.specs.declared.found.Found.{Found}
use Rattle.wq_commands.specs.declared.found.Found.TheVariants.{Read}
use Rattle.wq_commands.specs.declared.found.Which.TheVariants.{Certificate}
use Rattle.wq_groups.specs.DeclaredGroups.{declared_waits, Declared}
use Rattle.wq_commands.specs.Answer.{PrintsRefusal}
use Rattle.wq_commands.specs.Found.{AnswersIn, refused_for}
use Rattle.wq_commands.specs.Shell.{AnswersTexts}
use Rattle.wq_repair_command.specs.declared.repairing.Repairing.{Repairing}
use Rattle.wq_repair_command.specs.Movers.{movers}
use Rattle.wq_repair_command.specs.Repairing.{FindsIfNamed, PrintsAnswer, RepairsAssigned, RepairsDeclared}
use Rattle.wq_repair_command.specs.Repairing.{RepairsIf, RepairsMoving, RepairsText, Repairs}

-- an answer, of which this is printed
module _ (s : Declared) (old : Workqueues) (called : List (List ℕ)) (moving : List ℕ) (end : End) (out : List ℕ) where
  with_end : (kind : End) → end ≡ kind → RepairsMoving s old called moving kind out
      → RepairsMoving s old called moving end out
  with_end kind is = subst (λ (e : End). RepairsMoving s old called moving e out) (sym is)

  printed : {A : Type 0} (found : Answer A) → IsAnswer (declared_waits s) old moving found
      → PrintsAnswer s old called found end out
      → RepairsMoving s old called moving end out
  printed answer.Safe is prints = with_end Good prints.0 (record { new = old; are = inl (is, refl); text = prints.1 })
  printed (answer.Repaired new) is prints = with_end Good prints.0 (record { new = new; are = inr is; text = prints.1 })
  printed (answer.TooFewNames start steps) is prints =
      with_end Bad prints.0 (inr (record { start = start; steps = steps.items; few = is; text = prints.1 }))
  printed (answer.Circle arcs) is prints =
      let (steps, is_run, deadlocks, text) = prints.1 in
      with_end Bad prints.0 (inl (record {
        circle = arcs.items;
        needed = is;
        steps = steps;
        is_run = is_run;
        deadlocks = deadlocks;
        text = text;
      }))

module _ {A : Type 0} (names : List (List ℕ)) (s : Declared) (text : List ℕ) (found : Found (Option (Repairing A)))
    (end : End) (out : List ℕ) where
  named : (old : Workqueues) (moving : Option (List ℕ)) → FindsIfNamed s old (names_of text) moving found end out
      → RepairsIf s old (names_of text) moving end out
  named old None finds = finds.1
  named old (Some moving) finds = printed s old (names_of text) moving end out finds.answer finds.answers finds.prints

  read : (r : Result Workqueues CertError)
      → AnswersIn Certificate r (λ old. FindsIfNamed s old (names_of text) (movers s.table.names names)) found end out
      → MatchResult r (λ old. RepairsAssigned s old (names_of text) names end out)
      (λ fault. PrintsRefusal (cert_refusal fault) end out)
  read (Ok old) finds = named old (movers s.table.names names) finds
  read (Err fault) refused = refused.1

  pub RepairsText-declared : RepairsText names s text found end out → RepairsDeclared s names text end out
  RepairsText-declared = read (workqueues_of_text s.table.names s.partition text)

-- what is found in both texts
pub Repairs-found : {A : Type 0} (names : List (List ℕ)) (texts : Given)
    (found : Result (Found (Option (Repairing A))) Refusal) (end : End) (out : List ℕ)
    → AnswersTexts (λ s t f e o. RepairsText names s t.second f e o) texts found end out
    → Repairs names texts.first texts.second end out
Repairs-found names texts (Ok found) end out (s, is, finds) =
    subst (λ (r : Result Declared Refusal). MatchResult r (λ d. RepairsDeclared d names texts.second end out)
    (λ refusal. PrintsRefusal refusal end out))
    (sym is) (RepairsText-declared names s texts.second found end out finds)
Repairs-found names texts (Err refusal) end out (is, prints) =
    subst (λ (r : Result Declared Refusal). MatchResult r (λ d. RepairsDeclared d names texts.second end out)
    (λ refusal. PrintsRefusal refusal end out))
    (sym is) prints

-- ---- what is found, of which more is said

-- the workqueues that are found are those of the text, and there is one answer to them
pub record IsFound {A : Type 0} (names : List (List ℕ)) (s : Declared) (text : List ℕ) (r : Repairing A) : Type 0 where
  pub read : workqueues_of_text s.table.names s.partition text ≡ Ok r.workqueues
  pub moving : List ℕ
  pub answers : IsAnswer (declared_waits s) r.workqueues moving r.answer

module _ {A : Type 0} (names : List (List ℕ)) (s : Declared) (text : List ℕ) (r : Repairing A) (end : End)
    (out : List ℕ) where
  abbrev this : Found (Option (Repairing A))
  this = Read (Some r)

  found_named : (old : Workqueues) → workqueues_of_text s.table.names s.partition text ≡ Ok old
      → (moving : Option (List ℕ))
      → FindsIfNamed s old (names_of text) moving this end out → IsFound names s text r
  found_named old is None finds = absurd (let never : this ≡ Read None = finds.0 in cc)
  found_named old is (Some moving) finds =
      let same : r ≡ record { workqueues = old; answer = finds.answer } = only r _ finds.is in
      record {
        read = is ∙ ap (λ (x : Repairing A). Ok x.workqueues) (sym same);
        moving = moving;
        answers = subst (λ (x : Repairing A). IsAnswer (declared_waits s) x.workqueues moving x.answer)
            (sym same) finds.answers;
      }
    where
      only : (x y : Repairing A) → Read (Some x) ≡ Read (Some y) → x ≡ y
      only x y e = cc

  found_read : (read : Result Workqueues CertError) → workqueues_of_text s.table.names s.partition text ≡ read
      → AnswersIn Certificate read (λ old. FindsIfNamed s old (names_of text) (movers s.table.names names)) this end out
      → IsFound names s text r
  found_read (Ok old) is finds = found_named old is (movers s.table.names names) finds
  found_read (Err fault) is refused =
      absurd (let never : this ≡ refused_for Certificate (cert_refusal fault) = refused.0 in cc)

  pub IsFound-text : RepairsText names s text this end out → IsFound names s text r
  IsFound-text = found_read (workqueues_of_text s.table.names s.partition text) refl

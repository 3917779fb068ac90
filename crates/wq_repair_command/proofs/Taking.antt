-- The text that was read, and the text that there was: the answer to the prefix that was read is that to the text.
use Rattle.std.proofs.Common.{ℕ, List, Option, Result}
use Rattle.wq_text.specs.Refusal.{Refusal}
use Rattle.wq_names.specs.Names.{names_of}
use Rattle.wq_meter.specs.Shell.{Given, kept}
use Rattle.wq_commands.specs.declared.end.End.{End}
use Rattle.wq_commands.specs.declared.found.Found.{Found}
use Rattle.wq_commands.specs.Commands.{two_texts}
use Rattle.wq_commands.specs.Shell.{AnswersTexts}
use Rattle.wq_commands.proofs.InputLemmas.{assigned-kept}
use Rattle.wq_repair_command.specs.declared.repairing.Repairing.{Repairing}
use Rattle.wq_repair_command.specs.Repairing.{Repairs, RepairsAssigned, RepairsText}
use Rattle.wq_repair_command.proofs.FoundRepairs.{Repairs-found}

pub Repairs-kept : {A : Type 0} (names : List (List ℕ)) (texts : Given)
    (found : Result (Found (Option (Repairing A))) Refusal) (end : End) (out : List ℕ)
    → AnswersTexts (λ s t f e o. RepairsText names s t.second f e o) (kept two_texts texts) found end out
    → Repairs names texts.first texts.second end out
Repairs-kept names texts found end out h =
    assigned-kept end out (λ _ text s ws. RepairsAssigned s ws (names_of text) names end out) texts.first texts.second
    (Repairs-found names (kept two_texts texts) found end out h)

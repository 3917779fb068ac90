-- The text of a plan, as `deadlock` reads it: no line of it begins with `norescuer`, and its answer is `safe`.
use Rattle.std.proofs.Common.{◌≡◌, ℕ, Bool, false, ◌||◌, List, [], ◌∷◌, ◌++◌, map, Result, Ok, Err, codes, refl, ap, ◌∙◌}
use Rattle.std.specs.Prelude.{MatchResult}
use Rattle.std.specs.List.{list_any, enumerate_from}
use Rattle.wq_text.specs.Refusal.{Refusal}
use Rattle.wq_text.specs.Lines.{lines_of}
use Rattle.wq_cert.specs.Certificate.{PlanCertificate}
use Rattle.wq_cert.specs.Forms.{begins_with}
use Rattle.wq_cert.specs.Lines.{CertLine, cert_lines}
use Rattle.wq_cert.specs.PlanText.{workqueue_line, arc_line}
use Rattle.wq_cert.specs.Reading.{is_bare_line}
use Rattle.wq_cert.specs.Spelled.{words_of_lines, words_of_text, count_line, SpellsPlan}
use Rattle.wq_cert.specs.Texts.{assignment_of_text, cert_refusal}
use Rattle.wq_cert.proofs.TextWords.{words_of_lines-text}
use Rattle.wq_groups.specs.Partition.{Partition}
use Rattle.wq_commands.specs.declared.end.End.TheVariants.{Good, Refused}
use Rattle.wq_commands.specs.Answer.{PrintsRefusal, Answers}
use Rattle.wq_commands.specs.AllRescued.{JudgesAssignment}
use Rattle.wq_commands.specs.Deadlocking.{safe_text, Judges}
use Rattle.wq_groups.specs.DeclaredGroups.{Declared}
use Rattle.wq_commands.specs.Declaration.{declaration}
use Rattle.wq_commands.specs.Shown.{ShowsPlan, ShowsDeclared}
use Rattle.wq_commands.proofs.AllRescued.{Judges-rescued_good}
use Rattle.wq_commands.proofs.AnswerLemmas.{IsSound-declaration}
use Rattle.wq_commands.proofs.CheckLemmas.{MatchResult-ok}
use Rattle.wq_commands.proofs.PromiseLemmas.{ShowsAnswer-answers, IsReadAsGoodPlan-shown}

-- the first word is `norescuer`
abbrev is_bare : List (List ℕ) → Bool
is_bare words = begins_with (codes "norescuer") words

bare_words : (lines : List CertLine) → list_any is_bare_line lines ≡ list_any is_bare (words_of_lines lines)
bare_words [] = refl
bare_words (line ∷ lines) = ap (λ (b : Bool). is_bare line.words || b) (bare_words lines)

-- lines that begin with none of these words
none_of : {X : Type 0} (f : X → List (List ℕ)) (xs : List X) (rest : List (List (List ℕ))) → ((x : X) → is_bare (f x) ≡ false) → list_any is_bare (map f xs ++ rest) ≡ list_any is_bare rest
none_of {X} f [] rest none = refl
none_of {X} f (x ∷ xs) rest none = ap (λ (b : Bool). b || list_any is_bare (map f xs ++ rest)) (none x) ∙ none_of f xs rest none

none_all : {X : Type 0} (f : X → List (List ℕ)) (xs : List X) → ((x : X) → is_bare (f x) ≡ false) → list_any is_bare (map f xs) ≡ false
none_all {X} f [] none = refl
none_all {X} f (x ∷ xs) none = ap (λ (b : Bool). b || list_any is_bare (map f xs)) (none x) ∙ none_all f xs none

none_in_plan : (names : List (List ℕ)) (p : Partition) (lines : List (List (List ℕ))) (plan : PlanCertificate) → SpellsPlan names p lines plan → list_any is_bare lines ≡ false
none_in_plan names p lines plan spelled =
    ap (list_any is_bare) spelled.words
    ∙ none_of (workqueue_line names) (enumerate_from 0 spelled.workqueues) (count_line plan.length ∷ map (arc_line names) plan.arcs) (λ x. refl)
    ∙ none_all (arc_line names) plan.arcs (λ x. refl)

none-plan : (s : Declared) (out : List ℕ) → ShowsPlan s out → list_any is_bare_line (cert_lines (lines_of out)) ≡ false
none-plan s out shown =
    bare_words (cert_lines (lines_of out)) ∙ ap (list_any is_bare) (words_of_lines-text out) ∙ none_in_plan s.table.names s.partition (words_of_text out) shown.plan shown.spelled

pub Judges-plan : (text out : List ℕ) → Answers text Good out → Judges text out Good safe_text
Judges-plan text out answers = chosen (declaration text) refl (ShowsAnswer-answers text Good out answers)
  where
    read : (s : Declared) → declaration text ≡ Ok s → (shown : ShowsPlan s out) → assignment_of_text s.table.names s.partition out ≡ Ok shown.kept.assignment
    read s is shown =
        (IsReadAsGoodPlan-shown s (IsSound-declaration text s is) out shown).assignment ∙ ap (λ (plan : PlanCertificate). Ok plan.assignment) shown.is_plan

    chosen : (r : Result Declared Refusal) → declaration text ≡ r → MatchResult r (λ s. ShowsDeclared s Good out) (λ refusal. Good ≡ Refused) → Judges text out Good safe_text
    chosen (Err refusal) is never = absurd (let bad : Good ≡ Refused = never in cc)
    chosen (Ok s) is shown =
        Judges-rescued_good out (none-plan s out shown) text safe_text (
        MatchResult-ok (declaration text) s
        (λ z. MatchResult (assignment_of_text z.table.names z.partition out) (λ a. JudgesAssignment z a Good safe_text) (λ fault. PrintsRefusal (cert_refusal fault) Good safe_text))
        (λ refusal. PrintsRefusal refusal Good safe_text) is (
        MatchResult-ok (assignment_of_text s.table.names s.partition out) shown.kept.assignment
        (λ a. JudgesAssignment s a Good safe_text) (λ fault. PrintsRefusal (cert_refusal fault) Good safe_text) (read s is shown)
        (shown.kept.least.assignment, shown.kept.least.safe, refl)
        )
        )

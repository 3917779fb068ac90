-- From what is found where items must go on to what is answered, and from the bytes that are kept to the texts.
use Rattle.std.proofs.Common.{ℕ, List, map, Option, Some, None, Result}
use Rattle.wq_text.specs.Refusal.{Refusal}
use Rattle.wq_core.specs.Workqueues.{Workqueues}
use Rattle.wq_cert.specs.Texts.{workqueues_of_text}
use Rattle.wq_meter.specs.Shell.{Given, kept}
use Rattle.wq_commands.specs.declared.end.End.{End}
use Rattle.wq_commands.specs.declared.found.Found.{Found}
use Rattle.wq_commands.specs.declared.found.Which.TheVariants.{Certificate as SecondText}
use Rattle.wq_groups.specs.DeclaredGroups.{Declared}
use Rattle.wq_commands.specs.Commands.{two_texts}
use Rattle.wq_commands.specs.Named.{items_with_names, FindsNamed, IfNamed}
use Rattle.wq_commands.specs.Shell.{AnswersTexts}
use Rattle.wq_commands.proofs.FoundLemmas.{AnswersIn-match, AnswersTexts-match}
use Rattle.wq_commands.proofs.InputLemmas.{assigned-kept}
use Rattle.wq_circles.specs.declared.circling_for.CirclingFor.{CirclingFor}
use Rattle.wq_circles.specs.HeldText.{CirclesDeclaredFor, CirclesFor, CirclesNamed, CirclesTextFor, FindsCirclesFor}

-- what can hold the items up is found, and answered
pub FindsCirclesFor-answer : {A : Type 0} (s : Declared) (ws : Workqueues) (named : List ℕ)
    (found : Found (Option (CirclingFor A))) (end : End) (out : List ℕ)
    → FindsCirclesFor s ws named found end out → CirclesFor s ws named end out
FindsCirclesFor-answer s ws named found end out h = record {
  components = map (λ l. l.items) h.circling.held.components.items;
  waits = h.circling.held.waits.items;
  ways = h.circling.held.ways.items;
  are = h.are;
  printed = h.printed;
}

-- what is found of named items is answered of them
pub FindsNamed-answer : {T : Type 0} (named : Option (List ℕ))
    (Finds : List ℕ → Found (Option T) → End → List ℕ → Type 0) (Answers : List ℕ → End → List ℕ → Type 0)
    (found : Found (Option T)) (end : End) (out : List ℕ)
    → ((items : List ℕ) → Finds items found end out → Answers items end out)
    → FindsNamed named Finds found end out → IfNamed named Answers end out
FindsNamed-answer None Finds Answers found end out f h = h.1
FindsNamed-answer (Some items) Finds Answers found end out f h = f items h

pub CirclesTextFor-declared : {A : Type 0} (s : Declared) (names : List (List ℕ)) (text : List ℕ)
    (found : Found (Option (CirclingFor A))) (end : End) (out : List ℕ)
    → CirclesTextFor s names text found end out → CirclesDeclaredFor s names text end out
CirclesTextFor-declared {A} s names text found end out =
    AnswersIn-match SecondText (workqueues_of_text s.table.names s.partition text)
    (λ ws (f : Found (Option (CirclingFor A))). FindsNamed (items_with_names s.table.names names) (FindsCirclesFor s ws)
    f)
    (λ ws. IfNamed (items_with_names s.table.names names) (CirclesFor s ws)) found end out
    (λ ws. FindsNamed-answer (items_with_names s.table.names names) (FindsCirclesFor s ws) (CirclesFor s ws) found end
    out
    (λ items. FindsCirclesFor-answer s ws items found end out))

-- what is past a limit changes no answer
pub circles_for-kept : {A : Type 0} (names : List (List ℕ)) (texts : Given)
    (found : Result (Found (Option (CirclingFor A))) Refusal) (end : End) (out : List ℕ)
    → AnswersTexts (λ s t (f : Found (Option (CirclingFor A))) e o. CirclesTextFor s names t.second f e o)
    (kept two_texts texts) found end out
    → CirclesNamed names texts.first texts.second end out
circles_for-kept {A} names texts found end out h =
    assigned-kept end out (λ _ _ s ws. IfNamed (items_with_names s.table.names names) (CirclesFor s ws) end out)
    texts.first
    texts.second
    (AnswersTexts-match (λ s t (f : Found (Option (CirclingFor A))) e o. CirclesTextFor s names t.second f e o)
    (λ s. CirclesDeclaredFor s names (kept two_texts texts).second) (kept two_texts texts) found end out
    (λ s f. CirclesTextFor-declared s names (kept two_texts texts).second f end out) h)

-- From what is found to what is answered, and from the bytes that are kept to the texts.
use Rattle.std.proofs.Common.{◌≡◌, ◌⊎◌, Bool, false, true, ℕ, ◌+◌, List, [], map, Result, Ok, Err, refl, sym, ap}
use Rattle.std.proofs.Common.{subst, ◌∙◌}
use Rattle.std.specs.Prelude.{◌≢◌, take}
use Rattle.wq_text.specs.Refusal.{Refusal}
use Rattle.wq_graph.specs.declared.arc.WaitArc.{WaitArc}
use Rattle.wq_core.specs.Wiring.{own_lanes}
use Rattle.wq_core.specs.Workqueues.{Workqueues, all_rescued}
use Rattle.wq_deadlock.specs.Judging.{bare_waits}
use Rattle.wq_cert.specs.declared.fault.CertError.{CertError}
use Rattle.wq_cert.specs.Texts.{max_certificate, workqueues_of_text}
use Rattle.wq_meter.specs.Shell.{Given, kept}
use Rattle.wq_commands.specs.declared.end.End.{End}
use Rattle.wq_commands.specs.declared.end.End.TheVariants.{Good, Bad, Refused}
use Rattle.wq_commands.specs.declared.found.Found.{Found}
use Rattle.wq_commands.specs.declared.found.Found.TheVariants.{Read}
use Rattle.wq_commands.specs.declared.found.Which.{Which}
use Rattle.wq_commands.specs.declared.found.Which.TheVariants.{Certificate as SecondText}
use Rattle.wq_groups.specs.DeclaredGroups.{declared_waits, Declared}
use Rattle.wq_commands.specs.Commands.{one_or_two_texts, one_text, two_texts}
use Rattle.wq_commands.specs.Found.{AnswersIn}
use Rattle.wq_commands.specs.Shell.{AnswersTexts, HasOneAnswer}
use Rattle.wq_commands.proofs.FoundLemmas.{AnswersIn-match, AnswersTexts-match}
use Rattle.wq_commands.proofs.InputLemmas.{assigned-kept, declared-kept}
use Rattle.wq_circles.specs.declared.circling.Circling.{Circling}
use Rattle.wq_circles.specs.Components.{AreComponents}
use Rattle.wq_circles.specs.ComponentsText.{circles_text}
use Rattle.wq_circles.specs.Circling.{AnswersCircles, CirclesAssigned, CirclesDeclared, CirclesText, CirclesTexts}
use Rattle.wq_circles.specs.Circling.{FindsCircles}
use Rattle.wq_circles.proofs.Answered.{CirclesAssigned-unique, CirclesDeclared-unique}

-- ---- what is declared

-- the components that are found are the answer
pub FindsCircles-assigned : {A : Type 0} (s : Declared) (ws : Workqueues) (found : Found (Circling A)) (end : End)
    (out : List ℕ) → FindsCircles s ws found end out → CirclesAssigned s ws end out
FindsCircles-assigned s ws found Good out h =
    let (none, no_waits, is) = h.printed in
    (subst (AreComponents (declared_waits s) ws) none h.components, sym h.waits ∙ no_waits, is)
FindsCircles-assigned s ws found Bad out h =
    let components : List (List WaitArc) = map (λ l. l.items) h.circling.components.items in
    record {
      components = components;
      some = subst (λ (l : List WaitArc). (components ≢ []) ⊎ (l ≢ [])) h.waits h.printed.0;
      are = h.components;
      text = h.printed.1 ∙ ap (circles_text s.table.names s.table.waits components) h.waits;
    }
FindsCircles-assigned s ws found Refused out h = absurd h.printed

pub CirclesText-declared : {A : Type 0} (s : Declared) (text : List ℕ) (found : Found (Circling A)) (end : End)
    (out : List ℕ) → CirclesText s text found end out → CirclesDeclared s text end out
CirclesText-declared s text found end out =
    AnswersIn-match SecondText (workqueues_of_text s.table.names s.partition text) (λ ws. FindsCircles s ws)
    (λ ws. CirclesAssigned s ws) found end out (λ ws. FindsCircles-assigned s ws found end out)

-- ---- the texts

-- what is past a limit changes no answer
pub circles-kept : {A : Type 0} (assigned : Bool) (texts : Given) (found : Result (Found (Circling A)) Refusal)
    (end : End) (out : List ℕ)
    → AnswersTexts (CirclesTexts assigned) (kept (one_or_two_texts assigned) texts) found end out
    → AnswersCircles assigned texts end out
circles-kept {A} true texts found end out h =
    let text = take (max_certificate + 1) texts.second in
    assigned-kept end out (λ _ _ s ws. CirclesAssigned s ws end out) texts.first texts.second
    (AnswersTexts-match (λ s t (f : Found (Circling A)) e o. CirclesText s t.second f e o)
    (λ s. CirclesDeclared s text) (kept two_texts texts) found end out
    (λ s f. CirclesText-declared s text f end out) h)
circles-kept {A} false texts found end out h =
    declared-kept end out (λ _ s. CirclesAssigned s (all_rescued (own_lanes s.partition.groups)) end out) texts.first
    (AnswersTexts-match
    (λ s t (f : Found (Circling A)) e o. FindsCircles s (all_rescued (own_lanes s.partition.groups)) f e o)
    (λ s. CirclesAssigned s (all_rescued (own_lanes s.partition.groups))) (kept one_text texts) found end out
    (λ s f. FindsCircles-assigned s (all_rescued (own_lanes s.partition.groups)) f end out) h)

-- there is one answer
pub circles-unique : {A : Type 0} (assigned : Bool)
    → HasOneAnswer (λ s texts (found : Found (Circling A)) end out. CirclesTexts assigned s texts found end out)
circles-unique true s texts found again end other out printed is one two =
    CirclesDeclared-unique s texts.second end other out printed (CirclesText-declared s texts.second found end out one)
    (CirclesText-declared s texts.second again other printed two)
circles-unique false s texts found again end other out printed is one two =
    let ws = all_rescued (own_lanes s.partition.groups) in
    CirclesAssigned-unique s ws end other out printed (FindsCircles-assigned s ws found end out one)
    (FindsCircles-assigned s ws again other printed two)

-- ---- what was found is told of

-- what was found in a text that was read
pub AnswersIn-read : {V T : Type 0} (which : Which) (read : Result V CertError)
    (Finds : V → Found T → End → List ℕ → Type 0) (found : T) (end : End) (out : List ℕ)
    → AnswersIn which read Finds (Read found) end out → (v : V) × (read ≡ Ok v) × Finds v (Read found) end out
AnswersIn-read which (Ok v) Finds found end out h = (v, refl, h)
AnswersIn-read which (Err fault) Finds found end out h = absurd (let never = h.0 in cc)

-- these are the workqueues, their components and the flushes to no rescuer
pub FindsCircles-read : {A : Type 0} (s : Declared) (ws : Workqueues) (circling : Circling A) (end : End)
    (out : List ℕ) → FindsCircles s ws (Read circling) end out
    → (circling.workqueues ≡ ws) × AreComponents (declared_waits s) ws (map (λ l. l.items) circling.components.items)
    × (circling.waits.items ≡ bare_waits (declared_waits s) ws)
FindsCircles-read {A} s ws circling end out h =
    let same : h.circling ≡ circling = (let is = h.is in cc) in
    subst (λ (c : Circling A). (c.workqueues ≡ ws)
    × AreComponents (declared_waits s) ws (map (λ l. l.items) c.components.items)
    × (c.waits.items ≡ bare_waits (declared_waits s) ws)) same (h.workqueues, h.components, h.waits)

pub CirclesText-read : {A : Type 0} (s : Declared) (text : List ℕ) (circling : Circling A) (end : End)
    (out : List ℕ) → CirclesText s text (Read circling) end out
    → (ws : Workqueues) × (workqueues_of_text s.table.names s.partition text ≡ Ok ws)
    × FindsCircles s ws (Read circling) end out
CirclesText-read s text circling end out =
    AnswersIn-read SecondText (workqueues_of_text s.table.names s.partition text) (λ ws. FindsCircles s ws) circling end
    out

-- From what is found to what is answered, and from the bytes that are kept to the texts.
use Rattle.std.proofs.Common.{Bool, false, true, ℕ, ◌+◌, List, [], Result, Ok, Err, refl, sym, subst, ◌∙◌}
use Rattle.std.specs.Prelude.{MatchResult, take}
use Rattle.wq_text.specs.Refusal.{Refusal}
use Rattle.wq_hang.specs.declared.hop.Hop.{Hop}
use Rattle.wq_cert.specs.Texts.{max_certificate, workqueues_of_text}
use Rattle.wq_names.specs.Names.{names_of}
use Rattle.wq_meter.specs.Shell.{Given, kept}
use Rattle.wq_commands.specs.declared.end.End.{End}
use Rattle.wq_commands.specs.declared.found.Found.{Found}
use Rattle.wq_commands.specs.declared.found.Found.TheVariants.{Read, Refused}
use Rattle.wq_commands.specs.declared.found.Which.TheVariants.{Certificate as SecondText}
use Rattle.wq_commands.specs.Answer.{PrintsRefusal}
use Rattle.wq_commands.specs.Commands.{one_or_two_texts}
use Rattle.wq_groups.specs.DeclaredGroups.{Declared}
use Rattle.wq_commands.specs.Declaration.{declaration, max_declaration}
use Rattle.wq_commands.specs.Shell.{AnswersTexts, HasOneAnswer}
use Rattle.wq_commands.proofs.FoundLemmas.{AnswersIn-match, of_declared, of_refused}
use Rattle.wq_commands.proofs.InputLemmas.{assigned-kept, declared-kept}
use Rattle.wq_dot.specs.declared.dotting.Drawn.{Drawn}
use Rattle.wq_dot.specs.Tooltips.{comments_of}
use Rattle.wq_dot.specs.Dotting.{AnswersDot, DrawsAssigned, DrawsBy, DrawsDeclared, DrawsOwn, DrawsText, DrawsTexts}
use Rattle.wq_dot.specs.Dotting.{DrawsTextsBy, FindsDrawing, IsFor, OwnDrawsBy}
use Rattle.wq_dot.proofs.OneDrawing.{DrawsDeclared-one, DrawsGroups-unique}

-- ---- the waits whose flushes are bold red

abbrev waits_of : {A : Type 0} → Found (Drawn A) → List Hop
waits_of (Read drawn) = drawn.waits.items
waits_of (Refused which code line) = []

is_for : {A : Type 0} (found : Found (Drawn A)) → IsFor (waits_of found) found
is_for (Read drawn) = refl
is_for (Refused which code line) = tt

-- ---- what is declared

module _ {A : Type 0} (hops : List Hop) (found : Found (Drawn A)) (is : IsFor hops found) (end : End) (out : List ℕ)
  where
    -- what is found is drawn for them
    pub FindsDrawing-for : (Draws : List Hop → End → List ℕ → Type 0) → FindsDrawing Draws found end out
        → Draws hops end out
    FindsDrawing-for Draws (drawn, found_is, draws) =
        subst (λ (waits : List Hop). Draws waits end out) (subst (IsFor hops) found_is is) draws

    pub DrawsText-for : (s : Declared) (comments : List (List ℕ)) (text : List ℕ)
        → DrawsText s comments text found end out → DrawsDeclared s comments text hops end out
    DrawsText-for s comments text =
        AnswersIn-match SecondText (workqueues_of_text s.table.names s.partition text)
        (λ ws. FindsDrawing (λ waits. DrawsAssigned s comments ws (names_of text) waits))
        (λ ws. DrawsAssigned s comments ws (names_of text) hops) found end out
        (λ ws. FindsDrawing-for (λ waits. DrawsAssigned s comments ws (names_of text) waits))

-- ---- the texts

-- what is past a limit changes no answer
module _ (texts : Given) (end : End) (out : List ℕ) where
  abbrev first : List ℕ
  first = take (max_declaration + 1) texts.first

  abbrev second : List ℕ
  second = take (max_certificate + 1) texts.second

  abbrev refuses : Refusal → Type 0
  refuses r = PrintsRefusal r end out

  abbrev drawn_for : List Hop → Declared → Type 0
  drawn_for hops s = DrawsDeclared s (comments_of first) second hops end out

  abbrev own_drawn_for : List Hop → Declared → Type 0
  own_drawn_for hops s = DrawsOwn s (comments_of first) hops end out

  -- what is drawn of the bytes that are kept is drawn of the texts
  of_assigned : (hops : List Hop) → MatchResult (declaration first) (drawn_for hops) refuses
      → DrawsBy hops texts.first texts.second end out
  of_assigned hops =
      assigned-kept end out
      (λ declared text s ws. DrawsAssigned s (comments_of declared) ws (names_of text) hops end out) texts.first
      texts.second

  of_own : (hops : List Hop) → MatchResult (declaration first) (own_drawn_for hops) refuses
      → OwnDrawsBy hops texts.first end out
  of_own hops = declared-kept end out (λ text s. DrawsOwn s (comments_of text) hops end out) texts.first

  pub dot-kept : {A : Type 0} (assigned : Bool) (found : Result (Found (Drawn A)) Refusal)
      → AnswersTexts (DrawsTexts assigned) (kept (one_or_two_texts assigned) texts) found end out
      → AnswersDot assigned texts end out
  dot-kept true (Ok found) (s, is, draws) =
      let hops = waits_of found in
      let drawn = DrawsText-for hops found (is_for found) end out s (comments_of first) second (draws is) in
      (hops, of_assigned hops (of_declared (drawn_for hops) refuses (declaration first) s is drawn))
  dot-kept true (Err r) (is, refused) =
      ([], of_assigned [] (of_refused (drawn_for []) refuses (declaration first) r is refused))
  dot-kept false (Ok found) (s, is, draws) =
      let hops = waits_of found in
      let drawn = FindsDrawing-for hops found (is_for found) end out (λ waits. DrawsOwn s (comments_of first) waits)
      (draws is) in
      (hops, of_own hops (of_declared (own_drawn_for hops) refuses (declaration first) s is drawn))
  dot-kept false (Err r) (is, refused) =
      ([], of_own [] (of_refused (own_drawn_for []) refuses (declaration first) r is refused))

-- there is one answer for the same waits
pub dot-unique : {A : Type 0} (hops : List Hop) (assigned : Bool)
    → HasOneAnswer (λ s texts (found : Found (Drawn A)) end out. DrawsTextsBy hops assigned s texts found end out)
dot-unique hops true s texts found again end other out printed is one two =
    let comments = comments_of texts.first in
    let text = texts.second in
    let same = DrawsDeclared-one hops hops end other out printed s comments text
    (DrawsText-for hops found one.0 end out s comments text (one.1 is))
    (DrawsText-for hops again two.0 other printed s comments text (two.1 is)) in
    (same.0, same.1 refl)
dot-unique hops false s texts found again end other out printed is one two =
    let comments = comments_of texts.first in
    let draws : List Hop → End → List ℕ → Type 0 = λ waits. DrawsOwn s comments waits in
    let first = FindsDrawing-for hops found one.0 end out draws (one.1 is) in
    let second = FindsDrawing-for hops again two.0 other printed draws (two.1 is) in
    (first.0 ∙ sym second.0, DrawsGroups-unique s comments hops out printed first.1 second.1)

-- What was found where the items with some names must go on: these items, and what was found of them.
use Rattle.std.proofs.Common.{◌≡◌, ◌<◌, ℕ, List, length, map, Option, Some, None, Result, Ok, refl, sym, ap, subst, ◌∙◌}
use Rattle.std.specs.Prelude.{option_map}
use Rattle.std.specs.List.{All}
use Rattle.wq_cert.specs.Part.{made_of}
use Rattle.wq_cert.specs.Texts.{workqueues_of_text}
use Rattle.wq_core.specs.Workqueues.{Workqueues}
use Rattle.wq_circles.specs.declared.circling_for.CirclingFor.{CirclingFor}
use Rattle.wq_circles.specs.HeldText.{CirclesTextFor, FindsCirclesFor}
use Rattle.wq_circles.proofs.Found.{AnswersIn-read}
use Rattle.wq_commands.specs.declared.end.End.{End}
use Rattle.wq_commands.specs.declared.found.Found.{Found}
use Rattle.wq_commands.specs.declared.found.Found.TheVariants.{Read}
use Rattle.wq_commands.specs.declared.found.Which.TheVariants.{Certificate as SecondText, Run}
use Rattle.wq_commands.specs.declared.replaying_for.ReplayedFor.{ReplayedFor}
use Rattle.wq_commands.specs.Named.{items_with_names, FindsNamed}
use Rattle.wq_commands.specs.ReplayingFor.{FindsEndFor, ReplaysOnFor, ReplaysTextsFor}
use Rattle.wq_commands.proofs.NamedLemmas.{items_with_names-below}
use Rattle.wq_groups.specs.DeclaredGroups.{Declared}

-- two values that were read
ok_pair : {X Y E : Type 0} (read : Result (X × Y) E) (run : X × Y) (one : X) (other : Y) → read ≡ Ok run → one ≡ run.0
    → other ≡ run.1 → read ≡ Ok (one, other)
ok_pair {X} {Y} read (x, y) one other is first second =
    is ∙ ap (λ (a : X). Ok (a, y)) (sym first) ∙ ap (λ (b : Y). Ok (one, b)) (sym second)

-- these are the items, and that was found of them
pub FindsNamed-some : {T : Type 0} (read : Option (List ℕ)) (Finds : List ℕ → Found (Option T) → End → List ℕ → Type 0)
    (found : T) (end : End) (out : List ℕ) → FindsNamed read Finds (Read (Some found)) end out
    → (named : List ℕ) × (read ≡ Some named) × Finds named (Read (Some found)) end out
FindsNamed-some None Finds found end out h = absurd (let never = h.0 in cc)
FindsNamed-some (Some named) Finds found end out h = (named, refl, h)

-- the workqueues that were read, the items that must go on, and the steps that were made
pub record IsReplayedFor {A : Type 0} (s : Declared) (lanes text : List ℕ) (r : ReplayedFor A) : Type 0 where
  pub read : workqueues_of_text s.table.names s.partition lanes ≡ Ok r.replayed.workqueues
  pub within : All (λ i. i < length s.table.names) r.named.items
  pub made : made_of s.table.names s.table.waits text
      ≡ Ok (option_map (λ places. places.items) r.replayed.kept, r.replayed.steps.items)

pub ReplaysTextsFor-read : {A : Type 0} (s : Declared) (names : List (List ℕ)) (lanes text : List ℕ) (r : ReplayedFor A)
    (end : End) (out : List ℕ) → ReplaysTextsFor s names lanes text (Read (Some r)) end out
    → IsReplayedFor s lanes text r
ReplaysTextsFor-read {A} s names lanes text r end out replayed =
    let (ws, read, on) = AnswersIn-read SecondText (workqueues_of_text s.table.names s.partition lanes)
    (λ ws. ReplaysOnFor s ws names text) (Some r) end out replayed in
    let (run, made_from, of_names) = AnswersIn-read Run (made_of s.table.names s.table.waits text)
    (λ run. FindsNamed (items_with_names s.table.names names) (FindsEndFor s ws run.0 run.1)) (Some r) end out on in
    let (named, are, finds) = FindsNamed-some (items_with_names s.table.names names) (FindsEndFor s ws run.0 run.1) r
    end out
    of_names in
    let same : finds.replayed ≡ r = (let is = finds.is in cc) in
    let workqueues : r.replayed.workqueues ≡ ws =
    ap (λ (x : ReplayedFor A). x.replayed.workqueues) (sym same) ∙ finds.workqueues in
    let items : r.named.items ≡ named = ap (λ (x : ReplayedFor A). x.named.items) (sym same) ∙ finds.named_items in
    let kept : option_map (λ places. places.items) r.replayed.kept ≡ run.0 =
    ap (λ (x : ReplayedFor A). option_map (λ places. places.items) x.replayed.kept) (sym same) ∙ finds.keeps in
    let made : r.replayed.steps.items ≡ run.1 =
    ap (λ (x : ReplayedFor A). x.replayed.steps.items) (sym same) ∙ finds.made in
    record {
      read = read ∙ ap (λ (w : Workqueues). Ok w) (sym workqueues);
      within = subst (All (λ i. i < length s.table.names)) (sym items)
          (items_with_names-below s.table.names names named are);
      made = ok_pair (made_of s.table.names s.table.waits text) run
          (option_map (λ places. places.items) r.replayed.kept) r.replayed.steps.items made_from kept made;
    }

-- the workqueues that were read, and the items that must go on
pub record IsCircledFor {A : Type 0} (s : Declared) (text : List ℕ) (c : CirclingFor A) : Type 0 where
  pub read : workqueues_of_text s.table.names s.partition text ≡ Ok c.workqueues
  pub within : All (λ i. i < length s.table.names) c.named.items

pub CirclesTextFor-read : {A : Type 0} (s : Declared) (names : List (List ℕ)) (text : List ℕ) (c : CirclingFor A)
    (end : End) (out : List ℕ) → CirclesTextFor s names text (Read (Some c)) end out → IsCircledFor s text c
CirclesTextFor-read {A} s names text c end out found =
    let (ws, read, of_names) = AnswersIn-read SecondText (workqueues_of_text s.table.names s.partition text)
    (λ ws. FindsNamed (items_with_names s.table.names names) (FindsCirclesFor s ws)) (Some c) end out found in
    let (named, are, finds) = FindsNamed-some (items_with_names s.table.names names) (FindsCirclesFor s ws) c end out
    of_names in
    let same : finds.circling ≡ c = (let is = finds.is in cc) in
    let workqueues : c.workqueues ≡ ws =
    ap (λ (x : CirclingFor A). x.workqueues) (sym same) ∙ finds.workqueues in
    let items : c.named.items ≡ named = ap (λ (x : CirclingFor A). x.named.items) (sym same) ∙ finds.named_items in
    record {
      read = read ∙ ap (λ (w : Workqueues). Ok w) (sym workqueues);
      within = subst (All (λ i. i < length s.table.names)) (sym items)
          (items_with_names-below s.table.names names named are);
    }

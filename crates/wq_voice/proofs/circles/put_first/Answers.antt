use Rattle.std.proofs.Common.{◌≡◌, ◌<◌, ◌∷◌, [], ℕ, List, length, map, sym, ap, subst, ◌∙◌}
use Rattle.std.specs.List.{All}
use Rattle.std.proofs.lemmas.List.Elements.{All-cons, All-nil}
use Rattle.std.proofs.lemmas.Result.{on_ok_weaker}
use Rattle.wq_graph.specs.declared.arc.WaitArc.{WaitArc}
use Rattle.wq_hang.specs.declared.hop.Hop.{Hop}
use Rattle.wq_groups.specs.DeclaredGroups.{Declared}
use Rattle.wq_voice.specs.Components.{first_told}
use Rattle.wq_voice.specs.Reasons.{can_hang_lead, told, AddsSaid, Lead}
use Rattle.wq_voice.specs.Waits.{words_of}
use Rattle.wq_voice.proofs.Blocks.{AddsSaid-none}
use Rattle.wq_voice.proofs.Rounded.{first_of-All, first_told-none, first_told-some}
use Rattle.wq_voice.proofs.circles.put_first.Goals as goal

pub hop_of-hop-requires : goal.hop_of-hop-requires
hop_of-hop-requires g c =
    let s : Declared = c.args.subject.now.assigned.now.declared in
    let n = length s.partition.group_of in
    let P : WaitArc → Type 0 = λ a. (a.src < n) × (a.dst < n) in
    let within : P c.in-Some.first =
    first_of-All P s c.args.waits.now c.in-Some.first c.requires.between.1 c.in-Some.ensures in
    within.0

pub put_walk-requires-clause-items : goal.put_walk-requires-clause-items
put_walk-requires-clause-items g c =
    let s : Declared = c.args.subject.now.assigned.now.declared in
    let n = length s.partition.group_of in
    let P : WaitArc → Type 0 = λ a. (a.src < n) × (a.dst < n) in
    let within : P c.in-Some.first =
    first_of-All P s c.args.waits.now c.in-Some.first c.requires.between.1 c.in-Some.ensures in
    let hop : Hop = c.hop_of-hop.result in
    let here : hop.item < n = subst (λ (h : Hop). h.item < n) (sym c.hop_of-hop.ensures) within.0 in
    All-cons (λ (h : Hop). h.item < n) hop [] here (All-nil (λ (h : Hop). h.item < n))

pub put_walk-requires-clause-targets : goal.put_walk-requires-clause-targets
put_walk-requires-clause-targets g c =
    let s : Declared = c.args.subject.now.assigned.now.declared in
    let n = length s.partition.group_of in
    let P : WaitArc → Type 0 = λ a. (a.src < n) × (a.dst < n) in
    let within : P c.in-Some.first =
    first_of-All P s c.args.waits.now c.in-Some.first c.requires.between.1 c.in-Some.ensures in
    let hop : Hop = c.hop_of-hop.result in
    let here : hop.flush.item < n = subst (λ (h : Hop). h.flush.item < n) (sym c.hop_of-hop.ensures) within.1 in
    All-cons (λ (h : Hop). h.flush.item < n) hop [] here (All-nil (λ (h : Hop). h.flush.item < n))

pub returns-in-None : goal.returns-in-None
returns-in-None g c =
    let subject = c.args.subject.now in
    let s : Declared = subject.assigned.now.declared in
    let file = subject.declaration.file.now in
    let words = λ (h : Hop). words_of subject.wording s subject.assigned.now.workqueues
    (map (λ n. n.now) subject.names.now) h in
    let out = c.args.out.now.items in
    subst (λ (whats : List (List ℕ)). AddsSaid file whats out out)
    (first_told-none words s c.args.waits.now c.in-None.ensures) (AddsSaid-none file out)

pub returns-in-Some : goal.returns-in-Some
returns-in-Some g c =
    let subject = c.args.subject.now in
    let s : Declared = subject.assigned.now.declared in
    let file = subject.declaration.file.now in
    let words = λ (h : Hop). words_of subject.wording s subject.assigned.now.workqueues
    (map (λ n. n.now) subject.names.now) h in
    let waits = c.args.waits.now in
    let hop : Hop = c.hop_of-hop.result in
    let out = c.args.out.now.items in
    let new = c.put_walk.new.out.items in
    on_ok_weaker c.put_walk.result (λ said.
    subst (λ (whats : List (List ℕ)). AddsSaid file whats out new)
    (first_told-some words s waits c.in-Some.first c.in-Some.ensures)
    (subst (λ (h : Hop). AddsSaid file (told can_hang_lead words (h ∷ [])) out new) c.hop_of-hop.ensures
    (subst (λ (lead : Lead). AddsSaid file (told lead words (hop ∷ [])) out new) c.can_hang.ensures said)))
    c.put_walk.ensures

use Rattle.std.proofs.Common.{◌≡◌, ◌++◌, ◌∷◌, ◌-◌, [], ℕ, List, length, map, take, drop, subst, ◌∙◌, arith}
use Rattle.wq_groups.specs.DeclaredGroups.{Declared}
use Rattle.wq_hang.specs.declared.hop.Hop.{Hop}
use Rattle.wq_voice.specs.Held.{held_words}
use Rattle.wq_voice.specs.Reasons.{AddsSaid, and_lead, lead_for}
use Rattle.wq_voice.specs.Waits.{words_of}
use Rattle.wq_voice.specs.declared.waits.Wording.{Wording}
use Rattle.wq_voice.proofs.HeldNotes.{TellsWalk-some}
use Rattle.wq_voice.proofs.held.of_walk.Goals as goal

pub returns-in_ok-put_further-in-len1-up : goal.returns-in_ok-put_further-in-len1-up
returns-in_ok-put_further-in-len1-up g c =
    let subject = c.args.subject.now in
    let s : Declared = subject.assigned.now.declared in
    let ws = subject.assigned.now.workqueues in
    let file = subject.declaration.file.now in
    let names : List (List ℕ) = map (λ n. n.now) subject.names.now in
    let hops : List Hop = c.args.hops.now in
    let h : Hop = c.first-item.result in
    let middle : List ℕ = c.put_first.new.out.items in
    let text : List ℕ = c.put_further.new.out.items in
    let what : c.deref.result.now ≡ held_words s ws names c.args.item h =
    c.deref.ensures.value ∙ c.in_ok-what-in-len1-up.ensures in
    let begun : AddsSaid file (c.deref.result.now ∷ []) [] middle =
    subst (λ (out : List ℕ). AddsSaid file (c.deref.result.now ∷ []) out middle) c.new-said.ensures.items
    c.in_ok-put_first-in-len1-up.ensures in
    TellsWalk-some file subject.assignment.file.now s ws names c.args.item hops h middle text
    (omega (arith, c.in-len1-up.len_at_least)) c.first-item.is
    (subst (λ (w : List ℕ). AddsSaid file (w ∷ []) [] middle) what begun)
    (subst (λ (k : Wording). AddsSaid file
    (map (λ (g : Hop). lead_for and_lead g ++ words_of k s ws names g) (take (length hops - 1) (drop 1 hops))) middle
    text) c.requires.wording c.in_ok-put_further-in-len1-up.ensures)

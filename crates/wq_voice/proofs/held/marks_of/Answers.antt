use Rattle.std.proofs.Common.{◌≡◌, ◌+◌, ◌<◌, ℕ, Bool, true, List, take, set, sym, subst, ◌∙◌}
use Rattle.std.proofs.lemmas.List.{take_all}
use Rattle.wq_items.proofs.ReadingLists.{AreMarked, AreMarked-all}
use Rattle.wq_voice.proofs.HeldNotes.{marked-item}
use Rattle.wq_voice.proofs.held.marks_of.Goals as goal

pub loop-item-preserved : goal.loop-item-preserved
loop-item-preserved g c =
    let count : ℕ = c.args.count in
    let items : List ℕ = c.args.items.now in
    let k : ℕ = c.loop-item.item-index in
    let i : ℕ = c.item-item.result in
    let marks : List Bool = c.loop-item.marks.items in
    let at : c.from-in-loop-item.result ≡ i = c.from-in-loop-item.ensures ∙ c.get.ensures in
    let fits : i < count =
    subst (λ (j : ℕ). j < count) (sym c.item-item.is) (c.requires k i c.loop-item-test.true) in
    subst (λ (j : ℕ). AreMarked count (take (k + 1) items) (set marks j true)) (sym at)
    (marked-item count items k i marks c.loop-item-test.true c.item-item.is fits c.loop-item.invariant)

pub returns : goal.returns
returns g c =
    let count : ℕ = c.args.count in
    let items : List ℕ = c.args.items.now in
    let marks : List Bool = c.loop-item.marks.items in
    AreMarked-all count items marks
    (subst (λ (l : List ℕ). AreMarked count l marks) (take_all c.loop-item.item-index items c.loop-item-test.false)
    c.loop-item.invariant)

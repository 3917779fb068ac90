use Rattle.std.proofs.Common.{◌≡◌, ◌<◌, [], ℕ, List, length, map, slice_index_or, sym, subst, ap, ◌∙◌, arith}
use Rattle.std.proofs.lemmas.List.{length-map, get_or-map}
use Rattle.wq_circles.specs.Lists.{HasTails, listed_at}
use Rattle.wq_circles.proofs.Turned.{AreTailsUpTo, AreTailsUpTo-more, AreTurned-all}
use Rattle.wq_circles.proofs.lists.tails.Goals as goal

pub loop-v-preserved : goal.loop-v-preserved
loop-v-preserved g c =
    let heads : List (List ℕ) = map (λ list. list.items) c.args.heads.now in
    let old : List (List ℕ) = map (λ list. list.items) c.loop-v.lists.items in
    let new : List (List ℕ) = map (λ list. list.items) c.add_tail.new.lists.items in
    let within : c.loop-v.v < length c.args.heads.now = omega (arith, c.loop-v-test.true, c.requires.one_each) in
    let listed : c.deref.result.now ≡ listed_at heads c.loop-v.v =
    c.deref.ensures.value
    ∙ ap (λ list. list.items) (c.index-heads-from.is ∙ ap (λ (n : ℕ). slice_index_or c.args.heads.now n c.index-heads-from.result) c.from.ensures)
    ∙ sym (get_or-map (λ list. list.items) c.args.heads.now c.loop-v.v c.index-heads-from.result [] within) in
    AreTailsUpTo-more heads old new c.loop-v.v c.loop-v.invariant (subst (HasTails old new c.loop-v.v) listed c.in_ok-add_tail.ensures)

pub returns : goal.returns
returns g c =
    let heads : List (List ℕ) = map (λ list. list.items) c.args.heads.now in
    let tails : List (List ℕ) = map (λ list. list.items) c.loop-v.lists.items in
    let all : c.loop-v.v ≡ length heads = omega (arith, c.loop-v-test.false, c.loop-v.auto.v-end, c.requires.one_each, length-map c.args.heads.now (λ list. list.items)) in
    AreTurned-all heads tails (subst (AreTailsUpTo heads tails) all c.loop-v.invariant)

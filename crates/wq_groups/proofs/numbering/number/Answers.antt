use Rattle.std.proofs.Common.{◌≡◌, ◌≢◌, ◌+◌, ◌++◌, ◌∷◌, [], ℕ, List, Vec, length, sym, ap, subst₂, ◌∙◌, arith}
use Rattle.std.specs.Prelude.{slice_index}
use Rattle.std.proofs.lemmas.List.{get_or_default}
use Rattle.wq_groups.proofs.Heads.{heads_below-few}
use Rattle.wq_groups.proofs.NumberLemmas.{Numbered, Numbered-head, Numbered-join, head-within, read_index}
use Rattle.wq_groups.proofs.numbering.number.Goals as goal
use Rattle.wq_groups.proofs.numbering.number.Goals.{then-head-i+in_ok-push, else-head-i+in_ok-push-2}

pub overflow_add-groups : goal.overflow_add-groups
overflow_add-groups g c = omega (arith, c.loop-i.invariant.count, heads_below-few (slice_index c.args.first.now) c.loop-i.i, c.loop-i-test.true, c.requires.few)

pub index-group-requires : goal.index-group-requires
index-group-requires g c =
    let first = c.args.first.now in
    let i = c.loop-i.i in
    let head : c.from-head.result ≡ slice_index first i = read_index first i c.index-first-i.result c.get.result c.from-head.result c.loop-i-test.true c.index-first-i.is c.get.ensures c.from-head.ensures in
    let other : slice_index first i ≢ i = λ same. c.if-head-i.false (head ∙ same) in
    omega (arith, head, head-within (length first) (slice_index first) c.requires.heads i c.loop-i.group_of.items c.loop-i.groups c.loop-i.invariant c.loop-i-test.true other)

pub loop-i-preserved : goal.loop-i-preserved
loop-i-preserved g c =
    let first = c.args.first.now in
    let F = slice_index first in
    let i = c.loop-i.i in
    let numbers = c.loop-i.group_of.items in
    let groups = c.loop-i.groups in
    let head : c.from-head.result ≡ F i = read_index first i c.index-first-i.result c.get.result c.from-head.result c.loop-i-test.true c.index-first-i.is c.get.ensures c.from-head.ensures in
    elim c.if-head-i.branch [
      | then-head-i+in_ok-push w ↦
          let grown : c.if-head-i.group_of.items ≡ numbers ++ (groups ∷ []) = ap (λ (v : Vec ℕ _). v.items) w.group_of-is ∙ w.in_ok-push.ensures.items in
          subst₂ (λ (gs : List ℕ) (n : ℕ). Numbered F (i + 1) gs n) (sym grown) (sym w.groups-is)
          (Numbered-head (length first) F c.requires.heads i numbers groups c.loop-i.invariant (sym head ∙ w.if-head-i.true))
      | else-head-i+in_ok-push-2 w ↦
          let group = w.index-group.result.now in
          let other : F i ≢ i = λ same. w.if-head-i.false (head ∙ same) in
          let there = head-within (length first) F c.requires.heads i numbers groups c.loop-i.invariant c.loop-i-test.true other in
          let is : group ≡ slice_index numbers (F i) = w.index-group.ensures ∙ get_or_default numbers c.from-head.result group 0 (omega (arith, head, there)) ∙ ap (slice_index numbers) head in
          let grown : c.if-head-i.group_of.items ≡ numbers ++ (group ∷ []) = ap (λ (v : Vec ℕ _). v.items) w.group_of-is ∙ w.in_ok-push-2.ensures.items in
          subst₂ (λ (gs : List ℕ) (n : ℕ). Numbered F (i + 1) gs n) (sym grown) (sym w.groups-is)
          (Numbered-join (length first) F c.requires.heads i numbers groups c.loop-i.invariant c.loop-i-test.true other group is)
    ]

use Rattle.std.proofs.Common.{ℕ, Bool, get_or, take, sym, ap, ◌∙◌, arith}
use Rattle.std.specs.List.{list_any}
use Rattle.std.proofs.lemmas.Bool.{or_from}
use Rattle.std.proofs.lemmas.List.{take_all}
use Rattle.std.proofs.lemmas.List.Folds.{list_any_at, list_any_more}
use Rattle.wq_deadlock.specs.Judging.{is_on_bare}
use Rattle.wq_circles.proofs.circling_for.is_one_on_bare.Goals as goal

pub is_on_bare-requires : goal.is_on_bare-requires
is_on_bare-requires g c =
    let k : ℕ = c.loop-item.item-index in
    let i : ℕ = c.item-item.result in
    omega (
      arith,
      c.requires.named k i c.loop-item-test.true,
      c.item-item.is,
      c.table-table.ensures.assigned.declared.one_group_each,
    )

pub returns-then-is_on_bare : goal.returns-then-is_on_bare
returns-then-is_on_bare g c =
    let a = c.args.assigned.now in
    let p : ℕ → Bool = λ (j : ℕ). is_on_bare a.workqueues a.declared.partition.group_of j in
    let i : ℕ = c.item-item.result in
    sym (list_any_at p c.args.named.now c.loop-item.item-index i c.loop-item-test.true
    (ap p (sym c.item-item.is) ∙ sym c.is_on_bare.ensures ∙ c.if-is_on_bare.true))

pub loop-item-preserved : goal.loop-item-preserved
loop-item-preserved g c =
    let a = c.args.assigned.now in
    let p : ℕ → Bool = λ (j : ℕ). is_on_bare a.workqueues a.declared.partition.group_of j in
    let named = c.args.named.now in
    let k : ℕ = c.loop-item.item-index in
    let i : ℕ = c.item-item.result in
    list_any_more p named k i c.loop-item-test.true
    ∙ or_from (list_any p (take k named)) (p (get_or named k i)) c.loop-item.invariant
    (ap p (sym c.item-item.is) ∙ sym c.is_on_bare.ensures ∙ c.if-is_on_bare.false)

pub returns : goal.returns
returns g c =
    let a = c.args.assigned.now in
    let p : ℕ → Bool = λ (j : ℕ). is_on_bare a.workqueues a.declared.partition.group_of j in
    let named = c.args.named.now in
    sym (ap (list_any p) (sym (take_all c.loop-item.item-index named (omega (arith, c.loop-item-test.false))))
    ∙ c.loop-item.invariant)

use Rattle.std.proofs.Common.{rules, ◌≡◌, ℕ, Bool, false, List, length, get_or, take, sym, ap, ap₂, ◌∙◌, arith}
use Rattle.std.specs.Prelude.{filter, replicate}
use Rattle.std.specs.List.{range_with_len}
use Rattle.wq_cert.specs.Noted.{marks}
use Rattle.wq_cert.specs.Reading.{stands_in}
use Rattle.wq_cert.proofs.StoodLemmas.{length-marks, get_or-marks}
use Rattle.wq_commands.proofs.NamedLemmas.{
  each_once-kept,
  each_once-push,
  item_within,
  marks-all,
  marks-more,
  marks-none,
}
use Rattle.wq_commands.proofs.named.each_once.Goals as goal
use Rattle.wq_commands.proofs.named.each_once.Goals.{then-index+in_ok-push, else-index}

pub loop-item-init : goal.loop-item-init
loop-item-init g c = marks-none c.args.count c.in_ok-are_there.are_there.items
    (c.in_ok-are_there.ensures.items_if_clones_equal (λ y e. search rules) ∙ ap (λ n. replicate n false) c.from.ensures)

pub index_mut-requires : goal.index_mut-requires
index_mut-requires g c =
    let item : c.from-in-loop-item.result ≡ c.item-item.result = c.from-in-loop-item.ensures ∙ c.get.ensures in
    let low = item_within c.args.items.now c.loop-item.item-index c.item-item.result c.args.count c.requires
    c.loop-item-test.true c.item-item.is in
    omega (
      arith,
      item,
      low,
      ap (λ (l : List Bool). length l) c.loop-item.invariant,
      length-marks c.args.count (take c.loop-item.item-index c.args.items.now),
    )

pub loop-item-preserved : goal.loop-item-preserved
loop-item-preserved g c =
    let item : c.from-in-loop-item.result ≡ c.item-item.result = c.from-in-loop-item.ensures ∙ c.get.ensures in
    let low = item_within c.args.items.now c.loop-item.item-index c.item-item.result c.args.count c.requires
    c.loop-item-test.true c.item-item.is in
    rw item
    (marks-more c.args.count c.args.items.now c.loop-item.item-index c.item-item.result c.loop-item.are_there.items
    c.loop-item.invariant
    c.loop-item-test.true c.item-item.is low)

pub index-requires : goal.index-requires
index-requires g c =
    omega (
      arith,
      c.from-in-loop-i.ensures,
      c.loop-i-test.true,
      ap (λ (l : List Bool). length l) c.loop-item.invariant,
      length-marks c.args.count (take c.loop-item.item-index c.args.items.now),
    )

pub loop-i-preserved : goal.loop-i-preserved
loop-i-preserved g c =
    let items = c.args.items.now in
    let i : ℕ = c.loop-i.i in
    let marked = marks-all c.args.count items c.loop-item.item-index c.loop-item.are_there.items c.loop-item.invariant
    c.loop-item-test.false in
    let stands : c.index.result.now ≡ stands_in items i =
    c.index.ensures ∙ ap₂ (λ (l : List Bool) (k : ℕ). get_or l k c.index.result.now) marked c.from-in-loop-i.ensures
    ∙ get_or-marks c.args.count items i c.index.result.now c.loop-i-test.true in
    elim c.if-index.branch [
      | then-index+in_ok-push w ↦
          rw w.list-is
          (each_once-push items c.loop-i.list.items w.push.new.self.items i w.new.result c.loop-i.invariant
          (sym stands ∙ w.if-index.true)
          w.in_ok-push.ensures.items w.new.ensures)
      | else-index w ↦ rw w.list-is (each_once-kept items c.loop-i.list.items i c.loop-i.invariant
          (sym stands ∙ w.if-index.false))
    ]

pub returns : goal.returns
returns g c =
    let same : c.loop-i.i ≡ c.args.count = omega (arith, c.loop-i.auto.i-end, c.loop-i-test.false) in
    c.loop-i.invariant ∙ ap (λ n. filter (stands_in c.args.items.now) (range_with_len 0 n)) same

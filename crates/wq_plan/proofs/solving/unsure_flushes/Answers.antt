use Rattle.std.proofs.Common.{◌≡◌, List, take, ap, subst, refl}
use Rattle.std.proofs.Common.{arith}
use Rattle.std.proofs.lemmas.List.{take_all}
use Rattle.wq_items.specs.declared.target.Target.{Target}
use Rattle.wq_items.specs.Table.{flush_count}
use Rattle.wq_items.specs.Readings.{unsure_places}
use Rattle.wq_items.proofs.ReadingLists.{AreMarked, AreMarked-all}
use Rattle.wq_graph.proofs.Arcs.{targets_fit}
use Rattle.wq_plan.proofs.solving.unsure_flushes.Goals as goal

pub index_mut-requires : goal.index_mut-requires
index_mut-requires g c =
    let table = c.len-items.ensures.table in
    let waits = c.args.table.now.waits in
    let ts = c.waits-target-items.result.now in
    let k = c.loop-target.target-index in
    let below =
    targets_fit waits c.new.result (flush_count waits) ts
    (omega (arith, c.new.ensures, c.loop-number-test.true, c.len-items.ensures.len, table.one_list_each))
    table.places_are_numbered c.waits-target-items.ensures refl k c.target-item.result
    c.loop-target-test.true in
    let is = ap (λ (t : Target). t.place) c.target-item.is in
    omega (arith, below, is, c.loop-target.invariant.len, c.loop-target.marks.ok)

pub returns-clause-unsure : goal.returns-clause-unsure
returns-clause-unsure g c =
    let waits = c.args.table.now.waits in
    let n = c.loop-number.number in
    let all : take n waits ≡ waits = take_all n waits
    (omega (arith, c.loop-number-test.false, c.len-items.ensures.len, c.len-items.ensures.table.one_list_each)) in
    AreMarked-all (flush_count waits) (unsure_places waits) c.loop-number.marks.items
    (subst (λ (ws : List (List Target)). AreMarked (flush_count waits) (unsure_places ws)
    c.loop-number.marks.items) all c.loop-number.invariant)

use Rattle.std.proofs.Common.{◌≡◌, ◌+◌, ◌<◌, ◌≤◌, ℕ, Bool, List, length, map, take, drop, take_at, sym, ap, subst, ◌∙◌}
use Rattle.std.proofs.Common.{arith}
use Rattle.std.specs.Prelude.{filter}
use Rattle.std.proofs.lemmas.List.{take_all}
use Rattle.wq_items.specs.declared.target.Target.{Target}
use Rattle.wq_items.specs.Readings.{unsure_places}
use Rattle.wq_items.specs.Table.{flush_count, targets_of}
use Rattle.wq_items.proofs.ReadingLists.{AreMarked, AreMarked-all}
use Rattle.wq_graph.proofs.Arcs.{targets_fit}
use Rattle.wq_voice.proofs.UnsureNotes.{unsure_places-next, AreMade, AreMarked-made}
use Rattle.wq_voice.proofs.unsure.unsure_marks.Goals as goal

pub mark_unsure-requires : goal.mark_unsure-requires
mark_unsure-requires g c =
    let waits = c.args.table.now.waits in
    let table = c.len-number-end.ensures.table in
    targets_fit waits c.new.result (length c.as_mut_slice.result.now) c.waits.result.now
    (omega (arith, c.new.ensures, c.loop-number-test.true, c.len-number-end.ensures.len, table.one_list_each))
    table.places_are_numbered c.waits.ensures (ap length c.as_mut_slice.ensures.value ∙ c.loop-number.invariant.len)

pub loop-number-preserved : goal.loop-number-preserved
loop-number-preserved g c =
    let waits = c.args.table.now.waits in
    let table = c.len-number-end.ensures.table in
    let count : ℕ = flush_count waits in
    let n : ℕ = c.loop-number.number in
    let old : List Bool = c.loop-number.marks.items in
    let new : List Bool = c.mark_unsure.new.marks in
    let ts : List Target = c.waits.result.now in
    let more : List ℕ = map (λ (t : Target). t.place) (filter (λ (t : Target). t.unsure) ts) in
    let within : n < length waits =
    omega (arith, c.loop-number-test.true, c.len-number-end.ensures.len, table.one_list_each) in
    let next = unsure_places-next waits n ts within (c.waits.ensures ∙ ap (targets_of waits) c.new.ensures) in
    let made : AreMade old more new =
    subst (λ (l : List Bool). AreMade l more new) c.as_mut_slice.ensures.value c.mark_unsure.ensures.marks in
    let marked : AreMarked count (unsure_places (take (n + 1) waits)) new =
    subst (λ (l : List ℕ). AreMarked count l new) (sym next)
    (AreMarked-made count (unsure_places (take n waits)) more old new c.loop-number.invariant
    (c.mark_unsure.ensures.len ∙ ap length c.as_mut_slice.ensures.value) made) in
    subst (AreMarked count (unsure_places (take (n + 1) waits)))
    (sym (take_at new (drop (length new) old) c.loop-number.marks.len
    (c.mark_unsure.ensures.len ∙ c.as_mut_slice.ensures.len))) marked

pub returns : goal.returns
returns g c =
    let waits = c.args.table.now.waits in
    let table = c.len-number-end.ensures.table in
    let n : ℕ = c.loop-number.number in
    let past : length waits ≤ n =
    omega (
      arith,
      c.loop-number-test.false,
      c.loop-number.auto.number-end,
      c.len-number-end.ensures.len,
      table.one_list_each,
    ) in
    AreMarked-all (flush_count waits) (unsure_places waits) c.loop-number.marks.items
    (subst (λ l. AreMarked (flush_count waits) (unsure_places l) c.loop-number.marks.items) (take_all n waits past)
    c.loop-number.invariant)

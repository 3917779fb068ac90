use Rattle.std.proofs.Common.{◌≡◌, ◌+◌, ◌<◌, ℕ, List, length, map, take, ap, ◌∙◌, arith}
use Rattle.std.specs.Prelude.{filter}
use Rattle.std.proofs.lemmas.List.{length-append, length-map}
use Rattle.wq_items.specs.declared.target.Target.{Target}
use Rattle.wq_items.specs.Readings.{unsure_places}
use Rattle.wq_items.specs.Table.{targets_of}
use Rattle.wq_voice.proofs.UnsureNotes.{unsure_places-few, unsure_places-next}
use Rattle.wq_voice.proofs.unsure.unsure_count.Goals as goal

pub overflow_add-count : goal.overflow_add-count
overflow_add-count g c =
    let waits = c.args.table.now.waits in
    let table = c.len-number-end.ensures.table in
    let n : ℕ = c.loop-number.number in
    let ts : List Target = c.waits.result.now in
    let unsure : List Target = filter (λ (t : Target). t.unsure) ts in
    let within : n < length waits =
    omega (arith, c.loop-number-test.true, c.len-number-end.ensures.len, table.one_list_each) in
    let next = unsure_places-next waits n ts within (c.waits.ensures ∙ ap (targets_of waits) c.new.ensures) in
    omega (
      arith,
      c.loop-number.invariant,
      c.unsure_among-count.ensures,
      ap length next,
      length-append (unsure_places (take n waits)) (map (λ (t : Target). t.place) unsure),
      length-map unsure (λ (t : Target). t.place),
      unsure_places-few (n + 1) waits,
      table.few_flushes,
    )

pub overflow_cast-result : goal.overflow_cast-result
overflow_cast-result g c =
    let waits = c.args.table.now.waits in
    omega (
      arith,
      c.loop-number.invariant,
      unsure_places-few c.loop-number.number waits,
      c.len-number-end.ensures.table.few_flushes,
    )

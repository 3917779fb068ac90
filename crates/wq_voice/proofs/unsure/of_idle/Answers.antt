use Rattle.std.proofs.Common.{◌≡◌, [], ℕ, List, map, sym, ap, ◌∙◌}
use Rattle.wq_items.specs.Table.{Table}
use Rattle.wq_graph.specs.declared.arc.WaitArc.{WaitArc}
use Rattle.wq_voice.specs.Unsure.{unsure_count}
use Rattle.wq_voice.proofs.UnsureNotes.{idle_places-none}
use Rattle.wq_voice.proofs.unsure.of_idle.Goals as goal

pub returns-then-count-eq0 : goal.returns-then-count-eq0
returns-then-count-eq0 g c =
    let waits = c.args.subject.now.assigned.now.declared.table.waits in
    let components : List (List WaitArc) = map (λ v. v.items) c.args.components.now in
    let none : ◌≡◌ {A = ℕ} (unsure_count waits) 0 =
    sym (c.unsure_count-count.ensures ∙ ap (λ (t : Table). unsure_count t.waits) c.table-table.ensures.is)
    ∙ c.if-count-eq0.true in
    ([], sym (idle_places-none waits components c.args.waits.now none), c.new.ensures.items)

use Rattle.std.proofs.Common.{◌==◌, ◌⊎◌, inl, inr, ℕ, List, [], map, sym, ap, ◌∙◌, arith}
use Rattle.std.specs.Prelude.{◌≢◌}
use Rattle.std.proofs.lemmas.List.{length-map}
use Rattle.wq_items.specs.Table.{Table}
use Rattle.wq_graph.specs.declared.arc.WaitArc.{WaitArc}
use Rattle.wq_circles.specs.ComponentsText.{circles_text}
use Rattle.wq_circles.proofs.OfAssigned.{few_components, between_items, not_empty, waits_between_items}
use Rattle.wq_circles.proofs.circling.print_components.Goals as goal
use Rattle.wq_circles.proofs.circling.print_components.Goals.{else-is_empty-via-then-is_empty+else-is_empty-2}
use Rattle.wq_circles.proofs.circling.print_components.Goals.{else-is_empty-via-else-is_empty}

pub circles_text-requires-clause-few : goal.circles_text-requires-clause-few
circles_text-requires-clause-few g c =
    omega (
      arith,
      few_components c.args.assigned.now c.table.ensures.assigned _ c.requires.found,
      length-map c.args.components.now (λ v. v.items),
    )

pub circles_text-requires-clause-between : goal.circles_text-requires-clause-between
circles_text-requires-clause-between g c =
    rw c.table.ensures.is (between_items c.args.assigned.now c.table.ensures.assigned _ c.requires.found)

pub circles_text-requires-clause-waits : goal.circles_text-requires-clause-waits
circles_text-requires-clause-waits g c =
    rw (c.table.ensures.is, c.requires.waits) (waits_between_items c.args.assigned.now c.table.ensures.assigned)

pub returns : goal.returns
returns g c =
    let s = c.args.assigned.now.declared in
    let components : List (List WaitArc) = map (λ v. v.items) c.args.components.now in
    let waits = c.args.waits.now in
    let some : (components ≢ []) ⊎ (waits ≢ []) = elim c.else-is_empty.branch [
      | else-is_empty-via-then-is_empty+else-is_empty-2 w ↦
          inr (not_empty waits (sym w.if-is_empty-2.false ∙ w.is_empty-then-is_empty.ensures))
      | else-is_empty-via-else-is_empty w ↦
          inl
          (not_empty components
          (sym w.if-is_empty.false ∙ c.is_empty.ensures
          ∙ ap (λ (n : ℕ). n == 0) (sym (length-map c.args.components.now (λ v. v.items)))))
    ] in (
      some,
      c.in_ok-text-2.ensures
          ∙ ap (λ (t : Table). circles_text t.names t.waits components waits) c.table.ensures.is,
    )

use Rattle.std.proofs.Common.{◌≡◌, ◌++◌, Bool, ℕ, List, length, flat_map, map, refl, sym, ap, subst, ◌∙◌, arith}
use Rattle.std.proofs.lemmas.List.{length-map}
use Rattle.wq_text.specs.LineText.{line_text}
use Rattle.wq_items.specs.Table.{Table}
use Rattle.wq_graph.specs.declared.arc.WaitArc.{WaitArc}
use Rattle.wq_commands.specs.declared.end.End.TheVariants.{Bad, Good}
use Rattle.wq_circles.specs.ComponentsText.{circles_text}
use Rattle.wq_circles.specs.HeldText.{PrintsHeld, held_text, way_lines}
use Rattle.wq_circles.proofs.HeldBetween.{between_held, few_held, waits_held, ways_held}
use Rattle.wq_circles.proofs.circling_for.print_held.Goals as goal

pub returns-then-is_free : goal.returns-then-is_free
returns-then-is_free g c =
    let s = c.args.assigned.now.declared in
    let components : List (List WaitArc) = map (λ v. v.items) c.args.held.now.components.items in
    let waits = c.args.held.now.waits.items in
    let ways = c.args.held.now.ways.items in
    subst (λ (b : Bool). PrintsHeld b s components waits ways Good c.in_ok-text.text.items)
    (sym (sym c.is_free.ensures ∙ c.if-is_free.true)) (refl, c.in_ok-text.ensures)

pub circles_text-requires-clause-few : goal.circles_text-requires-clause-few
circles_text-requires-clause-few g c =
    let lists : List (List WaitArc) = map (λ v. v.items) c.args.held.now.components.items in
    omega (
      arith,
      few_held c.args.assigned.now c.table-table.ensures.assigned c.args.named.now lists c.args.held.now.waits.items
          c.args.held.now.ways.items c.requires.held,
      length-map c.args.held.now.components.items (λ v. v.items),
      ap (λ l. length l) c.deref.ensures.value,
    )

pub circles_text-requires-clause-between : goal.circles_text-requires-clause-between
circles_text-requires-clause-between g c =
    let lists : List (List WaitArc) = map (λ v. v.items) c.args.held.now.components.items in
    rw (c.table-table.ensures.is, c.deref.ensures.value)
    (between_held c.args.assigned.now c.table-table.ensures.assigned c.args.named.now lists
    c.args.held.now.waits.items c.args.held.now.ways.items c.requires.held)

pub circles_text-requires-clause-waits : goal.circles_text-requires-clause-waits
circles_text-requires-clause-waits g c =
    let lists : List (List WaitArc) = map (λ v. v.items) c.args.held.now.components.items in
    rw (c.table-table.ensures.is, c.deref-2.ensures.value)
    (waits_held c.args.assigned.now c.table-table.ensures.assigned c.args.named.now lists
    c.args.held.now.waits.items c.args.held.now.ways.items c.requires.held)

pub put_ways-requires : goal.put_ways-requires
put_ways-requires g c =
    let lists : List (List WaitArc) = map (λ v. v.items) c.args.held.now.components.items in
    rw (c.table-table.ensures.is, c.deref-3.ensures.value)
    (ways_held c.args.assigned.now c.table-table.ensures.assigned c.args.named.now lists
    c.args.held.now.waits.items c.args.held.now.ways.items c.requires.held)

pub returns : goal.returns
returns g c =
    let s = c.args.assigned.now.declared in
    let components : List (List WaitArc) = map (λ v. v.items) c.args.held.now.components.items in
    let waits = c.args.held.now.waits.items in
    let ways = c.args.held.now.ways.items in
    let given : List (List WaitArc) = map (λ v. v.items) c.deref.result.now in
    let lines : Table → List WaitArc → List ℕ = λ (t : Table) (l : List WaitArc).
    flat_map line_text (way_lines t.names t.waits l) in
    let text : c.put_ways.new.out.items ≡ held_text s.table.names s.table.waits components waits ways =
    c.in_ok-put_ways.ensures
    ∙ ap (λ (o : List ℕ). o ++ lines c.table-table.result.now c.deref-3.result.now) c.in_ok-text-2.ensures
    ∙ ap (λ (t : Table). circles_text t.names t.waits given c.deref-2.result.now ++ lines t c.deref-3.result.now)
    c.table-table.ensures.is
    ∙ ap (λ l. circles_text s.table.names s.table.waits (map (λ v. v.items) l) c.deref-2.result.now
    ++ lines s.table c.deref-3.result.now) c.deref.ensures.value
    ∙ ap (λ (l : List WaitArc). circles_text s.table.names s.table.waits components l
    ++ lines s.table c.deref-3.result.now) c.deref-2.ensures.value
    ∙ ap (λ (l : List WaitArc). circles_text s.table.names s.table.waits components waits ++ lines s.table l)
    c.deref-3.ensures.value in
    subst (λ (b : Bool). PrintsHeld b s components waits ways Bad c.put_ways.new.out.items)
    (sym (sym c.is_free.ensures ∙ c.if-is_free.false)) (refl, text)

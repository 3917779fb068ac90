use Rattle.std.proofs.Common.{◌∷◌, [], List, length, map, sym, ap, subst, ◌∙◌, arith}
use Rattle.std.proofs.lemmas.List.{get_or-map, length-map, take_all}
use Rattle.wq_graph.specs.declared.arc.WaitArc.{WaitArc}
use Rattle.wq_hang.specs.declared.hop.Hop.{Hop}
use Rattle.wq_circles.specs.ComponentsText.{AreBetween}
use Rattle.wq_groups.specs.DeclaredGroups.{Declared}
use Rattle.wq_voice.specs.Components.{AddsRounds}
use Rattle.wq_voice.specs.Waits.{words_of}
use Rattle.wq_voice.proofs.Rounded.{AddsRounds-next, AddsRounds-none}
use Rattle.wq_voice.proofs.rounds.put_rounds.Goals as goal

pub loop-arcs-init : goal.loop-arcs-init
loop-arcs-init g c =
    let subject = c.args.subject.now in
    let s : Declared = subject.assigned.now.declared in
    let words = λ (h : Hop). words_of subject.wording s subject.assigned.now.workqueues
    (map (λ n. n.now) subject.names.now) h in
    let ws = subject.assigned.now.workqueues in
    (c.requires.rounds, AddsRounds-none s ws subject.declaration.file.now words c.args.out.now.items)

pub put_round-requires-clause-between : goal.put_round-requires-clause-between
put_round-requires-clause-between g c =
    let item = c.arcs-item.result in
    let components = c.args.components.now in
    let at = get_or-map (λ v. v.items) components c.loop-arcs.arcs-index item item.items c.loop-arcs-test.true ∙ ap (λ v. v.items) (sym c.arcs-item.is) ∙ sym c.deref.ensures.value in
    subst (AreBetween (length c.args.subject.now.assigned.now.declared.partition.group_of)) at
    (c.requires.between c.loop-arcs.arcs-index item.items (omega (arith, c.loop-arcs-test.true, length-map components (λ v. v.items))))

pub loop-arcs-preserved : goal.loop-arcs-preserved
loop-arcs-preserved g c =
    let subject = c.args.subject.now in
    let s : Declared = subject.assigned.now.declared in
    let ws = subject.assigned.now.workqueues in
    let file = subject.declaration.file.now in
    let words = λ (h : Hop). words_of subject.wording s ws (map (λ n. n.now) subject.names.now) h in
    let middle = c.loop-arcs.out.items in
    let new = c.put_round.new.out.items in
    let one : AddsRounds file words s ws (c.arcs-item.result.items ∷ []) middle new =
    subst (λ (arcs : List WaitArc). AddsRounds file words s ws (arcs ∷ []) middle new) c.deref.ensures.value c.in_ok-put_round.ensures.added in (
      c.put_round.ensures.rounds ∙ c.loop-arcs.invariant.0,
      AddsRounds-next s ws file words (λ v. v.items) c.args.components.now c.loop-arcs.arcs-index c.arcs-item.result c.args.out.now.items middle new
          c.loop-arcs-test.true c.arcs-item.is c.loop-arcs.invariant.1 one,
    )

pub returns : goal.returns
returns g c =
    let subject = c.args.subject.now in
    let s : Declared = subject.assigned.now.declared in
    let words = λ (h : Hop). words_of subject.wording s subject.assigned.now.workqueues
    (map (λ n. n.now) subject.names.now) h in
    subst (λ components. AddsRounds subject.declaration.file.now words s subject.assigned.now.workqueues
    (map (λ v. v.items) components) c.args.out.now.items c.loop-arcs.out.items)
    (take_all c.loop-arcs.arcs-index c.args.components.now c.loop-arcs-test.false) c.loop-arcs.invariant.1

use Rattle.std.proofs.Common.{◌++◌, ℕ, List, [], length, map, sym, ap, subst, ◌∙◌}
use Rattle.std.specs.Prelude.{flat_map}
use Rattle.wq_groups.specs.Declaration.{IsDeclaration, declaration_of}
use Rattle.wq_groups.proofs.Declarations.{IsDeclaration-of}
use Rattle.wq_graph.specs.declared.arc.WaitArc.{WaitArc}
use Rattle.wq_hang.specs.declared.hop.Hop.{Hop}
use Rattle.wq_circles.specs.ComponentsText.{AreBetween}
use Rattle.wq_circles.proofs.ForBare.{AreBetween-waits}
use Rattle.wq_circles.proofs.Loops.{AreBetween-components}
use Rattle.wq_groups.specs.DeclaredGroups.{Declared}
use Rattle.wq_voice.specs.Components.{first_told, AddsRounds, GivesReasons}
use Rattle.wq_voice.specs.Reasons.{can_hang_lead, told, AddsSaid}
use Rattle.wq_voice.specs.Unsure.{IsNoDifference}
use Rattle.wq_voice.specs.Waits.{words_of}
use Rattle.wq_voice.proofs.Blocks.{AddsSaid-then, AreSaid-added}
use Rattle.wq_voice.proofs.circles.of_components.Goals as goal

pub put_rounds-requires-clause-between : goal.put_rounds-requires-clause-between
put_rounds-requires-clause-between g c =
    let t = c.args.subject.now.assigned.now.declared.table in
    let p = c.args.subject.now.assigned.now.declared.partition in
    let ws = c.args.subject.now.assigned.now.workqueues in
    let d = declaration_of t p in
    let held = c.table-table.ensures.assigned in
    let declaration : IsDeclaration d = IsDeclaration-of t p held.declared.table held.declared.partition
    held.declared.one_group_each in
    AreBetween-components d ws.assignment ws.bare declaration held.assignment.assignment _ c.requires.are

pub put_first-requires : goal.put_first-requires
put_first-requires g c =
    let t = c.args.subject.now.assigned.now.declared.table in
    let p = c.args.subject.now.assigned.now.declared.partition in
    let ws = c.args.subject.now.assigned.now.workqueues in
    let d = declaration_of t p in
    let held = c.table-table.ensures.assigned in
    let declaration : IsDeclaration d = IsDeclaration-of t p held.declared.table held.declared.partition
    held.declared.one_group_each in
    record {
      between =
          subst (λ (l : List WaitArc). AreBetween (length p.group_of) l) (sym c.requires.waits)
          (AreBetween-waits d ws declaration held.assignment.assignment);
    }

pub returns : goal.returns
returns g c =
    let subject = c.args.subject.now in
    let s : Declared = subject.assigned.now.declared in
    let ws = subject.assigned.now.workqueues in
    let file = subject.declaration.file.now in
    let words = λ (h : Hop). words_of subject.wording s ws (map (λ n. n.now) subject.names.now) h in
    let middle = c.put_rounds.new.out.items in
    let new = c.put_first.new.out.items in
    let note = c.in_ok-note.note.items in
    let components : List (List WaitArc) = map (λ v. v.items) c.args.components.now in
    let first : AddsRounds file words s ws components c.new-said.result.items middle = c.in_ok-put_rounds.ensures in
    let begun : AddsRounds file words s ws components [] middle =
    subst (λ (out : List ℕ). AddsRounds file words s ws components out middle) c.new-said.ensures.items first in
    let waits = c.args.waits.now in
    let then : AddsSaid file (first_told words s waits) middle new = c.in_ok-put_first.ensures in
    let gives : GivesReasons file words s ws components waits new =
    record {
      rounds = begun.0;
      least = begun.1;
      said = AreSaid-added file (flat_map (told can_hang_lead words) begun.0 ++ first_told words s waits) new
          (AddsSaid-then file (flat_map (told can_hang_lead words) begun.0) (first_told words s waits) [] middle new
          begun.2 then);
    } in (
      new,
      note,
      c.in_ok-put.ensures.added ∙ ap (λ (l : List ℕ). new ++ l) c.deref.ensures.value,
      gives,
      subst (λ (place : List ℕ). IsNoDifference file place s components waits note) c.idle_place-place.ensures
          c.in_ok-note.ensures,
    )

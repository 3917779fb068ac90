use Rattle.std.proofs.Common.{◌≡◌, ℕ, List, map, ap, subst, ◌∙◌}
use Rattle.std.specs.Prelude.{IfOk}
use Rattle.wq_groups.specs.DeclaredGroups.{Declared}
use Rattle.wq_groups.specs.Declaration.{IsDeclaration, declaration_of}
use Rattle.wq_groups.proofs.Declarations.{IsDeclaration-of}
use Rattle.wq_voice.proofs.Walked.{held_item, held_items, held_targets}
use Rattle.wq_names.specs.Names.{names_of}
use Rattle.wq_voice.specs.Held.{TellsWalk}
use Rattle.wq_diagnosis.proofs.ReadTexts.{limits-read}
use Rattle.wq_voice.proofs.held.say_waits.Goals as goal

pub of_walk-requires-clause-item : goal.of_walk-requires-clause-item
of_walk-requires-clause-item g c =
    let t = c.args.assigned.now.declared.table in
    let p = c.args.assigned.now.declared.partition in
    let ws = c.args.assigned.now.workqueues in
    let sound = c.table-table.ensures.assigned.declared in
    let declaration : IsDeclaration (declaration_of t p) = IsDeclaration-of t p sound.table sound.partition
    sound.one_group_each in
    held_item (declaration_of t p) ws declaration c.requires.held.0 c.args.item c.args.hops.now
    c.requires.held.1 c.requires.held.2

pub of_walk-requires-clause-items : goal.of_walk-requires-clause-items
of_walk-requires-clause-items g c =
    let t = c.args.assigned.now.declared.table in
    let p = c.args.assigned.now.declared.partition in
    let ws = c.args.assigned.now.workqueues in
    let sound = c.table-table.ensures.assigned.declared in
    let declaration : IsDeclaration (declaration_of t p) = IsDeclaration-of t p sound.table sound.partition
    sound.one_group_each in
    held_items (declaration_of t p) ws declaration c.requires.held.0 c.args.item c.args.hops.now
    c.requires.held.1 c.requires.held.2

pub of_walk-requires-clause-targets : goal.of_walk-requires-clause-targets
of_walk-requires-clause-targets g c =
    let t = c.args.assigned.now.declared.table in
    let p = c.args.assigned.now.declared.partition in
    let ws = c.args.assigned.now.workqueues in
    let sound = c.table-table.ensures.assigned.declared in
    let declaration : IsDeclaration (declaration_of t p) = IsDeclaration-of t p sound.table sound.partition
    sound.one_group_each in
    held_targets (declaration_of t p) ws declaration c.requires.held.0 c.args.item c.args.hops.now
    c.requires.held.1 c.requires.held.2

pub returns : goal.returns
returns g c =
    let s : Declared = c.args.assigned.now.declared in
    let ws = c.args.assigned.now.workqueues in
    let text = c.args.assignment.text.now in
    let names : map (λ n. n.now) c.deref.result.now ≡ names_of text =
    ap (λ ns. map (λ n. n.now) ns) c.deref.ensures.value
    ∙ c.in_ok-names.ensures (limits-read s.table.names s.partition text ws c.requires.read) in
    subst (λ (ns : List (List ℕ)). IfOk c.of_walk.result (λ said. TellsWalk c.args.declaration.file.now
    c.args.assignment.file.now s ws ns c.args.item c.args.hops.now said.items)) names c.of_walk.ensures

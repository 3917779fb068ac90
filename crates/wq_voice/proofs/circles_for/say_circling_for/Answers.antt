use Rattle.std.proofs.Common.{◌≡◌, ◌++◌, ℕ, List, Some, ap, ◌∙◌}
use Rattle.wq_groups.specs.DeclaredGroups.{Declared}
use Rattle.wq_voice.specs.Held.{GivesHeld}
use Rattle.wq_voice.proofs.circles_for.say_circling_for.Goals as goal

pub returns-in_ok-put-in-Some : goal.returns-in_ok-put-in-Some
returns-in_ok-put-in-Some g c =
    let s : Declared = c.args.assigned.now.declared in
    let names = c.args.names.now in
    let circling = c.args.circling.now in
    let reason : List ℕ = c.in-Some.said.items in
    let gives : GivesHeld names.declaration.now names.second.now c.args.texts.now.second s circling.workqueues
    circling.named.items (Some reason) =
    rw (c.in-Some.is, c.second.ensures, c.as_slice-named.ensures.value, c.requires.same) at c.in_ok-said.ensures in (
      Some reason,
      gives,
      (
        c.in_ok-idle-in-Some.idle.items,
        ap (λ (l : List ℕ). Some l)
            (c.in_ok-put-in-Some.ensures.added ∙ ap (λ (l : List ℕ). reason ++ l) c.deref.ensures.value),
        c.in_ok-idle-in-Some.ensures,
      ),
    )

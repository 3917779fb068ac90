use Rattle.std.proofs.Common.{◌≡◌, ◌++◌, ℕ, List, Option, ap, ◌∙◌}
use Rattle.std.proofs.lemmas.Result.{IfOk-weaker}
use Rattle.wq_groups.specs.DeclaredGroups.{Declared}
use Rattle.wq_voice.specs.Held.{below, no_flush_note, without_flushes}
use Rattle.wq_voice.specs.Unsure.{above, safe_note}
use Rattle.wq_voice.proofs.held.say_not_held.Goals as goal

pub returns : goal.returns
returns g c =
    let s : Declared = c.args.assigned.now.declared in
    let ws = c.args.assigned.now.workqueues in
    let file = c.args.file.now in
    let safe = c.in_ok-said.ensures in
    let others = c.in_ok-others.others.items in
    let none : c.in_ok-notes.notes.items ≡ no_flush_note file s (without_flushes s ws c.args.named.now) =
    c.in_ok-notes.ensures ∙ ap (no_flush_note file s) (c.as_slice.ensures.value ∙ c.in_ok-items.ensures) in
    let notes : c.put.new.out.items ≡ no_flush_note file s (without_flushes s ws c.args.named.now) ++ others =
    c.in_ok-put.ensures.added ∙ ap (λ (l : List ℕ). l ++ c.deref.result.now) none
    ∙ ap (λ (l : List ℕ). no_flush_note file s (without_flushes s ws c.args.named.now) ++ l) c.deref.ensures.value in
    IfOk-weaker c.below.result _ _ (λ both is. (
      safe.0,
      others,
      safe.1,
      c.in_ok-others.ensures,
      is ∙ ap (λ (o : Option (List ℕ)). below o c.put.new.out.items) safe.2
          ∙ ap (λ (l : List ℕ). below (above (safe_note file s) safe.0) l) notes,
    )) c.below.ensures

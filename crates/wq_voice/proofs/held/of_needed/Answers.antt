use Rattle.std.proofs.Common.{◌++◌, ℕ, List, length, sym, ap, ◌∙◌}
use Rattle.wq_groups.specs.DeclaredGroups.{Declared}
use Rattle.wq_voice.specs.Unsure.{undecided_note}
use Rattle.wq_voice.proofs.HeldNotes.{AreNotesFor-some}
use Rattle.wq_voice.proofs.UnsureNotes.{some-length}
use Rattle.wq_voice.proofs.held.of_needed.Goals as goal

pub returns : goal.returns
returns g c =
    let subject = c.args.subject.now in
    let s : Declared = subject.assigned.now.declared in
    let file = subject.declaration.file.now in
    let kept = c.args.kept.now in
    let idle = c.in_ok-idle.idle.items in
    AreNotesFor-some file s subject.assigned.now.workqueues c.args.named.now kept idle c.put.new.out.items
    (some-length kept (sym c.is_empty.ensures ∙ c.if-is_empty.false)) c.in_ok-idle.ensures
    (c.in_ok-put.ensures.added ∙ ap (λ (l : List ℕ). l ++ c.deref.result.now) c.in_ok-notes.ensures
    ∙ ap (λ (l : List ℕ). undecided_note file (length kept) ++ l) c.deref.ensures.value)

use Rattle.std.proofs.Common.{◌≡◌, ℕ, Bool, true, List, sym, ap, subst, ◌∙◌}
use Rattle.std.proofs.lemmas.Result.{IfOk-weaker}
use Rattle.wq_items.specs.Table.{Table}
use Rattle.wq_cert.specs.Part.{has_unsure}
use Rattle.wq_groups.specs.DeclaredGroups.{Declared}
use Rattle.wq_voice.specs.Held.{AreHeldNotes, AreNotesFor}
use Rattle.wq_voice.proofs.held.notes_of.Goals as goal

pub returns : goal.returns
returns g c =
    let subject = c.args.subject.now in
    let s : Declared = subject.assigned.now.declared in
    let ws = subject.assigned.now.workqueues in
    let file = subject.declaration.file.now in
    let named = c.args.named.now in
    let some : has_unsure s.table.waits ≡ true =
    sym (c.has_unsure.ensures ∙ ap (λ (t : Table). has_unsure t.waits) c.table.ensures.is)
    ∙ c.if-not-has_unsure.false in
    IfOk-weaker c.of_needed.result _ _ (λ notes are.
    subst (λ (b : Bool). AreHeldNotes b file s ws named c.args.hops.now notes.items) (sym some)
    (subst (λ (kept : List ℕ). AreNotesFor file s ws named kept notes.items)
    (c.as_slice.ensures.value ∙ c.in_ok-kept.ensures) are)) c.of_needed.ensures

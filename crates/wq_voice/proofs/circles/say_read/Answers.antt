use Rattle.std.proofs.Common.{◌≡◌, Bool, true, false, List, Some, map, refl, sym, subst, ◌∙◌}
use Rattle.std.specs.Prelude.{IfOk, option_map}
use Rattle.wq_graph.specs.declared.arc.WaitArc.{WaitArc}
use Rattle.wq_names.specs.Names.{names_of}
use Rattle.wq_voice.specs.Components.{are_some}
use Rattle.wq_names.specs.Messages.{on_these}
use Rattle.wq_voice.specs.Unsure.{NotesSafe, TellsComponents}
use Rattle.wq_voice.specs.Voice.{SaysIfSome}
use Rattle.wq_voice.specs.Waits.{words_of}
use Rattle.wq_voice.specs.declared.waits.Wording.TheVariants.{OnWorkqueues}
use Rattle.wq_voice.proofs.circles.say_read.Goals as goal

pub returns-then-not-are_some : goal.returns-then-not-are_some
returns-then-not-are_some g c =
    let first = c.args.names.now.declaration.now in
    let second = c.args.names.now.second.now in
    let lanes = c.args.texts.now.second in
    let s = c.args.assigned.now.declared in
    let circling = c.args.circling.now in
    let ws = c.args.assigned.now.workqueues in
    let components : List (List WaitArc) = map (λ l. l.items) circling.components.items in
    let waits = circling.waits.items in
    let none : are_some components waits ≡ false =
    sym (rw (c.deref.ensures.value, c.deref-2.ensures.value) at c.are_some.ensures) ∙ c.if-not-are_some.true in
    subst (λ (b : Bool). IfOk c.say_safe.result (λ said. SaysIfSome b
    (TellsComponents first on_these (λ h. words_of OnWorkqueues s ws (names_of lanes) h) s ws components waits)
    (NotesSafe first second lanes s ws) (option_map (λ v. v.items) said)))
    (sym none) (rw c.second.ensures at c.say_safe.ensures)

pub returns : goal.returns
returns g c =
    let first = c.args.names.now.declaration.now in
    let second = c.args.names.now.second.now in
    let lanes = c.args.texts.now.second in
    let s = c.args.assigned.now.declared in
    let circling = c.args.circling.now in
    let ws = c.args.assigned.now.workqueues in
    let components : List (List WaitArc) = map (λ l. l.items) circling.components.items in
    let waits = circling.waits.items in
    let text = c.in_ok-said.said.items in
    let some : are_some components waits ≡ true =
    sym (rw (c.deref.ensures.value, c.deref-2.ensures.value) at c.are_some.ensures) ∙ c.if-not-are_some.false in
    let gives
    : TellsComponents first on_these (λ h. words_of OnWorkqueues s ws (names_of lanes) h) s ws components waits text =
    rw c.second.ensures at c.in_ok-said.ensures in
    subst (λ (b : Bool). SaysIfSome b
    (TellsComponents first on_these (λ h. words_of OnWorkqueues s ws (names_of lanes) h) s ws components waits)
    (NotesSafe first second lanes s ws) (Some text))
    (sym some) (text, refl, gives)
